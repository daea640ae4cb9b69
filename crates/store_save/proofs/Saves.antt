-- Saving by its ways out: refused for what the check says, refused for a short buffer, or written. The definition's cases compute once each test
-- has its answer.
use Prim.Native.Nat.{ℕ, ◌≤◌, ◌<◌}
use mathlib.Core.Path.{◌≡◌, ◌∙◌}
use mathlib.Core.List.{List}
use native.Mathlib.Omega.{arith}
use borrow.Author.Tests.{lt-ltb, le-ltb}
use lib.ListN.{length}
use lib.Seq.{sets}
use Rattle.ldc.specs.Lists.{is_empty}
use Rattle.ldc.specs.Lent.{Lent, sizes_good, store_of, broken}
use Rattle.ldc.specs.Run.{accepted, short_answer, check}
use Rattle.ldc.proofs.Basics.Cases.{cases}
use Rattle.ldc.proofs.Basics.ListLaws.{empty-list}
use Rattle.saved_book.specs.Saved.{saved_bytes}
use Rattle.saved_book.specs.Calls.{saving, save_book}
use Rattle.read.specs.Shown.{Kept}

module _ (m : Lent) (number : ℕ) (e : number ≡ check m) where
  -- What the check refuses is not saved.
  pub save-refused : (buffer : List ℕ) → (number ≡ accepted → ⊥) → saving number 0 buffer ≡ save_book m buffer
  unfolding save_book check
  save-refused buffer n =
      cases (sizes_good m)
      (λ z. cases (is_empty (broken m)) (λ b. absurd (n (e ∙ rw (z, b)))) (λ b. rw (e, z, b)))
      (λ z. rw (e, z))

  -- A store that it accepts keeps every rule.
  pub save-kept : number ≡ accepted → Kept m
  unfolding check
  save-kept n =
      cases (sizes_good m)
      (λ z. cases (is_empty (broken m)) (λ b. record { sizes = z; unbroken = empty-list (broken m) b })
      (λ b. let e' = rw (z, b) at e in absurd (omega arith)))
      (λ z. let e' = rw z at e in absurd (omega arith))

module _ (m : Lent) (k : Kept m) (buffer : List ℕ) where
  pub save-short : length buffer < length (saved_bytes (store_of m)) → saving short_answer 0 buffer ≡ save_book m buffer
  unfolding save_book
  save-short h = rw (k.sizes, k.unbroken, lt-ltb _ _ h)

  pub save-written : length (saved_bytes (store_of m)) ≤ length buffer → (written : ℕ) → written ≡ length (saved_bytes (store_of m)) → (left : List ℕ)
      → left ≡ sets buffer 0 (saved_bytes (store_of m)) → saving accepted written left ≡ save_book m buffer
  unfolding save_book
  save-written h written w left l = rw (k.sizes, k.unbroken, le-ltb _ _ h, w, l)

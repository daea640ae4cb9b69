-- What number 0 of saving and of opening says; and that no saving writes beyond the buffer. By the cases of the definition.
use Prim.Native.Nat.{ℕ, ◌≤◌}
use mathlib.Core.Path.{◌≡◌}
use mathlib.Core.List.{List}
use native.Mathlib.Omega.{arith}
use borrow.Author.Tests.{ltb-false}
use lib.Dec.{ltb}
use lib.ListN.{length}
use Rattle.ldc.specs.Lists.{is_empty}
use Rattle.ldc.specs.Lent.{Lent, sizes_good, store_of, broken}
use Rattle.ldc.specs.Run.{accepted}
use Rattle.ldc.proofs.Basics.Cases.{cases}
use Rattle.saved_book.specs.Saved.{saved_bytes}
use Rattle.saved_book.specs.Opened.{opened_over}
use Rattle.saved_book.proofs.Opens.{accepts}
use Rattle.saved_book.specs.Calls.{accepted_save, save_book, opening, open_book}

module _ (m : Lent) (buffer : List ℕ) where
  pub save-done : (save_book m buffer).number ≡ accepted → save_book m buffer ≡ accepted_save (saved_bytes (store_of m)) buffer
  unfolding save_book
  save-done h =
      cases (sizes_good m)
      (λ z. cases (is_empty (broken m))
      (λ b. cases (ltb (length buffer) (length (saved_bytes (store_of m))))
      (λ l. let h' = rw (z, b, l) at h in absurd (omega arith))
      (λ l. rw (z, b, l)))
      (λ b. let h' = rw (z, b) at h in absurd (omega arith)))
      (λ z. let h' = rw z at h in absurd (omega arith))

  pub save-within : (save_book m buffer).written ≤ length buffer
  unfolding save_book
  save-within =
      cases (sizes_good m)
      (λ z. cases (is_empty (broken m))
      (λ b. cases (ltb (length buffer) (length (saved_bytes (store_of m)))) (λ l. rw (z, b, l) (omega arith)) (λ l. rw (z, b, l) (ltb-false _ _ l)))
      (λ b. rw (z, b) (omega arith)))
      (λ z. rw z (omega arith))

pub open_done : (m : Lent) (bytes : List ℕ) → (open_book m bytes).number ≡ accepted → open_book m bytes ≡ opening accepted (opened_over m.area bytes)
open_done m bytes h i = record { number = h i; lent = (accepts m bytes h).lent i }

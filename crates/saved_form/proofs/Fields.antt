-- One field of saved bytes: the tests of the code, which counts the bytes left, are those of the definition; and a field that stands there
-- ends within the bytes. By cases on the tests.
use Prim.Native.Nat.{ℕ, ◌+◌, ◌*◌, ◌-◌, ◌≤◌, ◌<◌}
use mathlib.Core.Path.{◌≡◌, refl, ◌∙◌, ap}
use mathlib.Core.Bool.{Bool, true, false, cond, ◌&&◌, false≢true}
use mathlib.Core.List.{List}
use mathlib.Core.Option.{Option, some, none, get_or}
use native.Mathlib.Omega.{arith}
use borrow.Author.Tests.{leb-true, leb-false, le-leb, lt-leb}
use lib.Dec.{leb}
use lib.ListN.{length}
use Rattle.coding.specs.Number.{number_at}
use Rattle.table.specs.Limits.{entry_head}
use Rattle.table.specs.Entry.{length_at, kind_at, entry_form}
use Rattle.ldc.specs.Lists.{is_some}
use Rattle.ldc.specs.Layout.{link_limit, frozen_state}
use Rattle.ldc.proofs.Basics.Cases.{cases, both_right}
use Rattle.saved_book.specs.Form.{places_saved, card_head, link_width, count_saved, card_end, card_to, list_end, list_to, entry_to}

-- ---- the end of a field of `len` bytes that is in its form, or not

abbrev pub ending : (m at len : ℕ) (formed : Bool) → Option ℕ
ending m at len formed = cond (formed && leb (at + len) m) (some (at + len)) none

module _ (m at len : ℕ) (formed : Bool) (h : at ≤ m) where
  -- Counting the bytes left is the same test.
  left-same : leb len (m - at) ≡ leb (at + len) m
  left-same =
      cases (leb len (m - at))
      (λ q. rw (q, le-leb (at + len) m (omega (arith, leb-true len (m - at) q))))
      (λ q. rw (q, lt-leb (at + len) m (omega (arith, leb-false len (m - at) q))))

  pub stands : (formed && leb len (m - at)) ≡ true → some (at + len) ≡ ending m at len formed
  stands t = let u = rw left-same at t in rw u

  pub broken : (formed && leb len (m - at)) ≡ false → none ≡ ending m at len formed
  broken t = let u = rw left-same at t in rw u

  -- Where it stands it fits.
  pub reach : (formed && leb len (m - at)) ≡ true → at + len ≤ m
  reach t = omega (arith, leb-true len (m - at) (both_right formed _ t))

-- Two tests before a third, grouped in the other way.
grouped : (a b c : Bool) → ((a && b) && c) ≡ (a && (b && c))
grouped true b c = refl
grouped false b c = refl

-- What is there only if a test holds.
told : (b : Bool) (x e : ℕ) → cond b (some x) none ≡ some e → (b ≡ true) × (x ≡ e)
told true x e h = (refl, ap (λ (o : Option ℕ). get_or o 0) h)
told false x e h = absurd (false≢true (ap is_some h))

-- The last of a field's tests is that it ends within the bytes.
module _ (m x : ℕ) where
  last2 : (a b : Bool) (e : ℕ) → cond (a && (b && leb x m)) (some x) none ≡ some e → e ≤ m
  last2 a b e h =
      let t = told (a && (b && leb x m)) x e h in
      omega (arith, leb-true x m (both_right b _ (both_right a _ t.0)), t.1)

  last3 : (a b c : Bool) (e : ℕ) → cond (a && (b && (c && leb x m))) (some x) none ≡ some e → e ≤ m
  last3 a b c e h =
      let t = told (a && (b && (c && leb x m))) x e h in
      omega (arith, leb-true x m (both_right c _ (both_right b _ (both_right a _ t.0))), t.1)

module _ (s : List ℕ) (at : ℕ) where
  -- ---- cards

  pub card-short : length s - at < card_head → none ≡ card_to s at
  unfolding card_to
  card-short h = rw (lt-leb (at + card_head) (length s) (omega arith))

  pub card-test : (state count : ℕ) (r : Option ℕ) → at ≤ length s → card_head ≤ length s - at → state ≡ number_at 2 s at → count ≡ count_saved s at
      → r ≡ ending (length s) at (card_head + link_width * count) (leb state frozen_state && leb count link_limit) → r ≡ card_to s at
  unfolding card_to
  card-test state count r h l p q e =
      e ∙ rw (
        ← p,
        ← q,
        le-leb (at + card_head) (length s) (omega arith),
        grouped (leb state frozen_state) (leb count link_limit) (leb (at + (card_head + link_width * count)) (length s)),
      )

  pub card-within : (e : ℕ) → card_to s at ≡ some e → e ≤ length s
  unfolding card_to
  card-within e h =
      last3 (length s) (card_end s at) (leb (at + card_head) (length s)) (leb (number_at 2 s at) frozen_state) (leb (count_saved s at) link_limit) e h

  -- ---- lists

  pub list-short : length s - at < 2 → none ≡ list_to s at
  unfolding list_to
  list-short h = rw (lt-leb (at + 2) (length s) (omega arith))

  pub list-test : (places count : ℕ) (r : Option ℕ) → at ≤ length s → 2 ≤ length s - at → places ≡ places_saved s → count ≡ number_at 2 s at
      → r ≡ ending (length s) at (2 + 2 * count) (leb count places) → r ≡ list_to s at
  unfolding list_to
  list-test places count r h l p q e = e ∙ rw (← p, ← q, le-leb (at + 2) (length s) (omega arith))

  pub list-within : (e : ℕ) → list_to s at ≡ some e → e ≤ length s
  unfolding list_to
  list-within e h = last2 (length s) (list_end s at) (leb (at + 2) (length s)) (leb (number_at 2 s at) (places_saved s)) e h

  -- ---- entries

  pub entry-short : length s - at < entry_head → none ≡ entry_to s at
  unfolding entry_to
  entry-short h = rw (lt-leb (at + entry_head) (length s) (omega arith))

  pub entry-test : (len kind : ℕ) (formed : Bool) (r : Option ℕ) → at ≤ length s → entry_head ≤ length s - at
      → len ≡ length_at s at → kind ≡ kind_at s at
      → formed ≡ entry_form kind len → r ≡ ending (length s) at len formed → r ≡ entry_to s at
  unfolding entry_to
  entry-test len kind formed r h l p q f e = e ∙ rw (f, ← p, ← q, le-leb (at + entry_head) (length s) (omega arith))

  pub entry-within : (e : ℕ) → entry_to s at ≡ some e → e ≤ length s
  unfolding entry_to
  entry-within e h =
      last2 (length s) (at + length_at s at) (leb (at + entry_head) (length s)) (entry_form (kind_at s at) (length_at s at)) e h

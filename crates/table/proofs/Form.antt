-- What `entry_form` says: its kind is one of two and its length within bounds. By the parts of the test.
-- An entry made of such a kind and bytes keeps both.
use Prim.Native.Nat.{ℕ, ◌+◌, ◌≤◌}
use mathlib.Core.Path.{◌≡◌, refl, sym, ap}
use mathlib.Core.Bool.{true, ◌&&◌}
use mathlib.Core.List.{List, [], ◌∷◌, ◌++◌}
use mathlib.Core.Logic.{◌⊎◌, inl, inr, ⊎_elim}
use native.Mathlib.Omega.{arith}
use borrow.Author.Tests.{leb-true, eqb-true}
use lib.Dec.{leb, eqb}
use lib.ListN.{length}
use Rattle.coding.specs.Number.{bytes_of}
use Rattle.table.specs.Limits.{entry_head, entry_limit}
use Rattle.table.specs.Entry.{kind_of, value_bytes, entry_length, entry_bytes, entry_of, entry_form}
use Rattle.table.proofs.Tests.{and_parts, or_parts}

-- A kind and a length that an entry may have.
pub record Formed (kind len : ℕ) : Type 0 where
  pub low : entry_head ≤ len
  pub high : len ≤ entry_limit
  pub either : (kind ≡ 1) ⊎ ((kind ≡ 2) × (len ≡ entry_head))

pub formed : (kind len : ℕ) → entry_form kind len ≡ true → Formed kind len
unfolding entry_form
formed kind len h =
    ⊎_elim
    (λ v. let a = and_parts (eqb kind 1) _ v in
    let b = and_parts (leb entry_head len) (leb len entry_limit) a.1 in
    record { low = leb-true _ _ b.0; high = leb-true _ _ b.1; either = inl (eqb-true _ _ a.0) })
    (λ d. let a = and_parts (eqb kind 2) (eqb len entry_head) d in
    let e : len ≡ entry_head = eqb-true len entry_head a.1 in
    record { low = omega arith; high = omega arith; either = inr (eqb-true _ _ a.0, e) })
    (or_parts (eqb kind 1 && (leb entry_head len && leb len entry_limit)) (eqb kind 2 && eqb len entry_head) h)

empty : (v : List ℕ) → length v ≡ 0 → v ≡ []
empty [] h = refl
empty (b ∷ v) h = absurd (omega arith)

module _ (kind key : ℕ) (v : List ℕ) (h : entry_form kind (entry_head + length v) ≡ true) where
  -- An entry made of a kind and bytes that fit each other has that kind and those bytes.
  pub kind-kept : kind_of (entry_of kind key v).value ≡ kind
  unfolding entry_of
  kind-kept = ⊎_elim (λ e. rw e) (λ e. rw e.0) (formed kind (entry_head + length v) h).either

  pub bytes-kept : value_bytes (entry_of kind key v).value ≡ v
  unfolding entry_of
  bytes-kept =
      ⊎_elim (λ e. rw e)
      (λ e. let none : length v ≡ 0 = omega arith in rw e.0 (sym (empty v none)))
      (formed kind (entry_head + length v) h).either

  pub length-kept : entry_length (entry_of kind key v) ≡ entry_head + length v
  unfolding entry_length
  length-kept = ap (λ x. entry_head + length x) bytes-kept

  key-kept : (entry_of kind key v).key ≡ key
  unfolding entry_of
  key-kept = refl

  -- Its bytes.
  pub entry-made : entry_bytes (entry_of kind key v) ≡ bytes_of 2 (entry_head + length v) ++ bytes_of 2 kind ++ bytes_of 8 key ++ v
  unfolding entry_bytes
  entry-made = rw (length-kept, kind-kept, key-kept, bytes-kept)

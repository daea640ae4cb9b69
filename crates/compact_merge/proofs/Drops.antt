-- Whether a merge drops a delete mark, level by level: what no span of one level holds is asked of the next, and beyond the last none does.
-- And whether an entry comes out, by its kind.
use Prim.Native.Nat.{ℕ, suc, ◌≤◌, ◌<◌}
use mathlib.Core.Path.{◌≡◌, refl, ◌∙◌, ap}
use mathlib.Core.List.{List, [], ◌∷◌}
use mathlib.Core.Bool.{Bool, true, false, not, ◌||◌}
use native.Mathlib.Omega.{arith}
use lib.ListN.{length, drop, drop_of_length-le}
use lib.Seq.{drop-cons}
use Rattle.table.specs.Entry.{Entry, entry_at, entry_of, key_at, kind_at}
use Rattle.ldc.specs.Lists.{any, flat}
use Rattle.ldc.specs.Store.{Store, card, links, bytes_at, table, level, span_start, span_end, span_holds}
use Rattle.ldc.specs.Layout.{level_count, items_in}
use Rattle.ldc.specs.Lent.{places_in, store_of}
use Rattle.ldc.specs.Tidy.{lower_tables, drops_mark, comes_out}
use Rattle.ldc.proofs.Basics.ListLaws.{any_append}
use Rattle.book.specs.Pieces.{lent}
use Rattle.book.specs.Rows.{shown_by}
use Rattle.read.specs.Shown.{Legible}
use Rattle.read.proofs.Pieces.{level-part}
use Rattle.read.proofs.Walks.{mark-value, some-value}
use Rattle.compact_merge.specs.Merge.{store_in}

module _ (area : List ℕ) (cards : List (List ℕ)) (lists head : List ℕ) (k : ℕ) where
  -- Does a span of a level from this one on hold the key?
  abbrev pub held_from : (level : ℕ) → Bool
  held_from n = any (λ p. span_holds (store_in area cards lists head) p k) (flat (drop n (store_in area cards lists head).levels))

  pub drops-by : (n : ℕ) (mark : Entry) → mark.key ≡ k → drops_mark (store_in area cards lists head) n mark ≡ not (held_from (suc n))
  unfolding drops_mark lower_tables
  drops-by n mark e = rw e

  pub held-end : (n : ℕ) → level_count ≤ n → held_from n ≡ false
  unfolding store_of
  held-end n h =
      let none : drop n (store_in area cards lists head).levels ≡ [] = drop_of_length-le (store_in area cards lists head).levels {i = n} h in rw none

  -- Spans are those that area and cards show, lists those of the lent pieces.
  same-spans : (ps : List ℕ) → any (λ p. span_holds (store_in area cards lists head) p k) ps ≡ any (λ p. span_holds (shown_by area cards) p k) ps
  unfolding span_holds span_start span_end table links card bytes_at store_of
  same-spans ps = refl

  module _ (g : Legible area cards) where
    as_many : places_in area ≡ length cards
    unfolding places_in
    as_many = omega (arith, g.sized)

    pub held-turn : (n : ℕ) → n < level_count
        → held_from n ≡ (any (λ p. span_holds (shown_by area cards) p k) (items_in (length cards) lists head n) || held_from (suc n))
    unfolding store_of
    held-turn n h =
        let s = store_in area cards lists head in
        let items : level s n ≡ items_in (length cards) lists head n = level-part (lent area cards lists head []) n h ∙ rw as_many in
        let next : drop n s.levels ≡ level s n ∷ drop (suc n) s.levels = (unfold level in drop-cons s.levels n [] h) in
        ap (λ (ls : List (List ℕ)). any (λ p. span_holds s p k) (flat ls)) next
        ∙ any_append (λ p. span_holds s p k) (level s n) (flat (drop (suc n) s.levels))
        ∙ ap (λ b. b || held_from (suc n)) (ap (any (λ p. span_holds s p k)) items ∙ same-spans (items_in (length cards) lists head n))

-- ---- an entry by its kind

module _ (s : Store) (n : ℕ) (bytes : List ℕ) (at : ℕ) where
  -- A value comes out, and a delete mark exactly if it is not dropped.
  pub value_out : (kind_at bytes at ≡ 2 → ⊥) → comes_out s n (entry_at bytes at) ≡ true
  unfolding comes_out
  value_out h = rw (some-value bytes at h)

  pub mark-out : kind_at bytes at ≡ 2 → comes_out s n (entry_at bytes at) ≡ not (drops_mark s n (entry_at bytes at))
  unfolding comes_out
  mark-out h = rw (mark-value bytes at h)

  pub entry_key : (entry_at bytes at).key ≡ key_at bytes at
  unfolding entry_at entry_of
  entry_key = refl

-- What `saved_form` says of bytes: the bounds of the head, and of each card, list and entry, one behind the other. By the parts of the tests.
-- A loop over fields that stand in turn takes one off the front by `card-turn`, `list-turn` or `entry-turn`.
use Prim.Native.Nat.{ℕ, suc, ◌+◌, ◌≤◌}
use mathlib.Core.Path.{◌≡◌, refl, ap}
use mathlib.Core.List.{List}
use mathlib.Core.Bool.{Bool, true, false, cond}
use mathlib.Core.Option.{Option, some, none, get_or}
use native.Mathlib.Omega.{arith}
use borrow.Author.Tests.{leb-true, eqb-true}
use lib.Dec.{leb, eqb}
use lib.ListN.{length}
use Rattle.coding.specs.Number.{number_at}
use Rattle.table.specs.Limits.{entry_head, table_limit}
use Rattle.table.specs.Entry.{length_at, kind_at, entry_form}
use Rattle.table.proofs.Tests.{and_parts}
use Rattle.ldc.specs.Layout.{fewest_places, most_places, level_count, link_limit, frozen_state, mark_good}
use Rattle.saved_book.specs.Saved.{saved_kind}
use Rattle.saved_book.specs.Form.{whole_in, kind_in, places_saved, flag_saved1, key_saved1, flag_saved2, key_saved2, cards_start, head_form}
use Rattle.saved_book.specs.Form.{card_head, count_saved, card_end, card_to, list_end, list_to, entry_to, then, in_turn, memory_to}
use Rattle.saved_book.specs.Form.{cards_to, lists_to, ends_at, saved_form, lists_start, memory_start}

-- ---- fields in turn

-- A test that gives an end came out true, and that is the end.
end-parts : (b : Bool) (x y : ℕ) → cond b (some x) none ≡ some y → (b ≡ true) × (x ≡ y)
end-parts true x y h = (refl, cc)
end-parts false x y h = absurd (let z : ◌≡◌ {A = ℕ} 0 1 = cc in omega arith)

after-parts : (b : Bool) (o : Option ℕ) (y : ℕ) → cond b o none ≡ some y → (b ≡ true) × (o ≡ some y)
after-parts true o y h = (refl, h)
after-parts false o y h = absurd (let z : ◌≡◌ {A = ℕ} 0 1 = cc in omega arith)

-- What follows an end.
pub then-parts : (o : Option ℕ) (f : ℕ → Option ℕ) (end : ℕ) → then o f ≡ some end → (at : ℕ) × ((o ≡ some at) × (f at ≡ some end))
then-parts none f end h = absurd (let z : ◌≡◌ {A = ℕ} 0 1 = cc in omega arith)
then-parts (some at) f end h = (at, (refl, h))

-- One field off the front of several.
pub turn-parts : (f : ℕ → Option ℕ) (n at end : ℕ) → in_turn (suc n) f at ≡ some end → (next : ℕ) × ((f at ≡ some next) × (in_turn n f next ≡ some end))
turn-parts f n at end h = then-parts (f at) (in_turn n f) end h

module _ (s : List ℕ) where
  -- ---- a card

  pub record CardAt (at : ℕ) : Type 0 where
    pub begun : at + card_head ≤ length s
    pub state : number_at 2 s at ≤ frozen_state
    pub few : count_saved s at ≤ link_limit
    pub room : card_end s at ≤ length s

  pub card-parts : (at end : ℕ) → card_to s at ≡ some end → CardAt at × (card_end s at ≡ end)
  unfolding card_to
  card-parts at end h =
      let p = end-parts _ (card_end s at) end h in
      let a = and_parts (leb (at + card_head) (length s)) _ p.0 in
      let b = and_parts (leb (number_at 2 s at) frozen_state) _ a.1 in
      let c = and_parts (leb (count_saved s at) link_limit) _ b.1 in
      (record { begun = leb-true _ _ a.0; state = leb-true _ _ b.0; few = leb-true _ _ c.0; room = leb-true _ _ c.1 }, p.1)

  pub card-turn : (n at end : ℕ) → in_turn (suc n) (card_to s) at ≡ some end → CardAt at × (in_turn n (card_to s) (card_end s at) ≡ some end)
  card-turn n at end h =
      let t = turn-parts (card_to s) n at end h in
      let c = card-parts at t.0 t.1.0 in
      (c.0, rw c.1 t.1.1)

  -- ---- a list

  pub record ListAt (at : ℕ) : Type 0 where
    pub begun : at + 2 ≤ length s
    pub few : number_at 2 s at ≤ places_saved s
    pub room : list_end s at ≤ length s

  pub list-parts : (at end : ℕ) → list_to s at ≡ some end → ListAt at × (list_end s at ≡ end)
  unfolding list_to
  list-parts at end h =
      let p = end-parts _ (list_end s at) end h in
      let a = and_parts (leb (at + 2) (length s)) _ p.0 in
      let b = and_parts (leb (number_at 2 s at) (places_saved s)) _ a.1 in
      (record { begun = leb-true _ _ a.0; few = leb-true _ _ b.0; room = leb-true _ _ b.1 }, p.1)

  pub list-turn : (n at end : ℕ) → in_turn (suc n) (list_to s) at ≡ some end → ListAt at × (in_turn n (list_to s) (list_end s at) ≡ some end)
  list-turn n at end h =
      let t = turn-parts (list_to s) n at end h in
      let l = list-parts at t.0 t.1.0 in
      (l.0, rw l.1 t.1.1)

  -- ---- an entry

  pub record EntryIn (at : ℕ) : Type 0 where
    pub begun : at + entry_head ≤ length s
    pub form : entry_form (kind_at s at) (length_at s at) ≡ true
    pub room : at + length_at s at ≤ length s

  pub entry-parts : (at end : ℕ) → entry_to s at ≡ some end → EntryIn at × (at + length_at s at ≡ end)
  unfolding entry_to
  entry-parts at end h =
      let p = end-parts _ (at + length_at s at) end h in
      let a = and_parts (leb (at + entry_head) (length s)) _ p.0 in
      let b = and_parts (entry_form (kind_at s at) (length_at s at)) _ a.1 in
      (record { begun = leb-true _ _ a.0; form = b.0; room = leb-true _ _ b.1 }, p.1)

  pub entry-turn : (n at end : ℕ) → in_turn (suc n) (entry_to s) at ≡ some end
      → EntryIn at × (in_turn n (entry_to s) (at + length_at s at) ≡ some end)
  entry-turn n at end h =
      let t = turn-parts (entry_to s) n at end h in
      let e = entry-parts at t.0 t.1.0 in
      (e.0, rw e.1 t.1.1)

  -- ---- the whole

  pub record HeadIn : Type 0 where
    pub long : cards_start ≤ length s
    pub whole : whole_in s ≡ length s
    pub kind : kind_in s ≡ saved_kind
    pub fewest : fewest_places ≤ places_saved s
    pub most : places_saved s ≤ most_places
    pub mark1 : mark_good (flag_saved1 s) (key_saved1 s) ≡ true
    pub mark2 : mark_good (flag_saved2 s) (key_saved2 s) ≡ true

  pub head-parts : head_form s ≡ true → HeadIn
  unfolding head_form
  head-parts h =
      let a = and_parts (leb cards_start (length s)) _ h in
      let b = and_parts (eqb (whole_in s) (length s)) _ a.1 in
      let c = and_parts (eqb (kind_in s) saved_kind) _ b.1 in
      let d = and_parts (leb fewest_places (places_saved s)) _ c.1 in
      let e = and_parts (leb (places_saved s) most_places) _ d.1 in
      let f = and_parts (mark_good (flag_saved1 s) (key_saved1 s)) _ e.1 in
      record { long = leb-true _ _ a.0; whole = eqb-true _ _ b.0; kind = eqb-true _ _ c.0; fewest = leb-true _ _ d.0; most = leb-true _ _ e.0; mark1 = f.0; mark2 = f.1 }

  -- Bytes of the form of a saved book: the head, then cards, lists and memory entries, which end where the bytes end.
  pub record FormIn : Type 0 where
    pub head : HeadIn
    pub cards : in_turn (places_saved s) (card_to s) cards_start ≡ some (lists_start s)
    pub lists : in_turn level_count (list_to s) (lists_start s) ≡ some (memory_start s)
    pub begun : memory_start s + 2 ≤ length s
    pub few : number_at 2 s (memory_start s) ≤ table_limit
    pub entries : in_turn (number_at 2 s (memory_start s)) (entry_to s) (memory_start s + 2) ≡ some (length s)

  ends-parts : (o : Option ℕ) (end : ℕ) → ends_at o end ≡ true → o ≡ some end
  ends-parts none end h = absurd (let z : ◌≡◌ {A = ℕ} 0 1 = cc in omega arith)
  ends-parts (some at) end h = ap (λ (i : ℕ). some i) (eqb-true at end h)

  -- Where the parts behind the head begin.
  starts : (lists memory : ℕ) → cards_to s ≡ some lists → lists_to s lists ≡ some memory → (lists_start s ≡ lists) × (memory_start s ≡ memory)
  unfolding lists_start memory_start
  starts lists memory c l =
      let first : lists_start s ≡ lists = ap (λ (o : Option ℕ). get_or o 0) c in
      (first, rw first (ap (λ (o : Option ℕ). get_or o 0) l))

  pub form-parts : saved_form s ≡ true → FormIn
  unfolding saved_form cards_to lists_to memory_to
  form-parts h =
      let a = and_parts (head_form s) _ h in
      let whole = ends-parts _ (length s) a.1 in
      let m = then-parts (then (cards_to s) (lists_to s)) (memory_to s) (length s) whole in
      let l = then-parts (cards_to s) (lists_to s) m.0 m.1.0 in
      let at = starts l.0 m.0 l.1.0 l.1.1 in
      let t = after-parts _ (in_turn (number_at 2 s m.0) (entry_to s) (m.0 + 2)) (length s) m.1.1 in
      let b = and_parts (leb (m.0 + 2) (length s)) _ t.0 in
      record {
        head = head-parts a.0;
        cards = rw at.0 l.1.0;
        lists = rw (at.0, at.1) l.1.1;
        begun = rw at.1 (leb-true _ _ b.0);
        few = rw at.1 (leb-true _ _ b.1);
        entries = rw at.1 t.1;
      }

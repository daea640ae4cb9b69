-- What writing tables to places leaves: the places taken were free and are live without links, each with its table; all else is as it was.
-- By induction on the tables; that the places differ is a count, since a card is live at most once.
use Prim.Native.Nat.{ℕ, suc, ◌+◌, ◌≤◌, ◌<◌}
use mathlib.Core.Path.{◌≡◌, refl, sym, ◌∙◌, ap, ap₂, subst}
use mathlib.Core.List.{List, [], ◌∷◌, map, Memᴰ}
use mathlib.Core.Logic.{⊎_elim}
use mathlib.Core.Bool.{true, false}
use native.Mathlib.Omega.{arith}
use borrow.Author.Tests.{eqb-true, eqb-false, ltb-true, ltb-false}
use lib.Dec.{eqb, ltb}
use lib.ListN.{length, length-set}
use Rattle.table.specs.Entry.{Entry}
use Rattle.table.specs.Table.{table_bytes}
use Rattle.ldc.specs.Lists.{how_many}
use Rattle.ldc.specs.Store.{Store, free, live, is_free, is_live, is_frozen, size, card, links, bytes_at}
use Rattle.ldc.specs.Place.{place_taken, written, written_all, places_taken, free_places}
use Rattle.ldc.proofs.Basics.Cases.{cases, clash}
use Rattle.ldc.proofs.Stores.Changes.{card-same, card-other, bytes_same, bytes-other}
use Rattle.ldc.proofs.Basics.Counts.{one, how_many-set, counted-member}
use Rattle.ldc.proofs.Stores.CardFacts.{free-not-live, free-not-frozen, no-links}
use Rattle.ldc.proofs.Stores.Places.{next-below, taken_free, taken-below}

module _ {A B : Type 0} (f : A → B) where
  pub map-member : (x : A) (xs : List A) → Memᴰ x xs → Memᴰ (f x) (map f xs)
  map-member x [] m = absurd (elim m [ ])
  map-member x (y ∷ ys) m = ⊎_elim (λ e. mathlib.Core.List.Memᴰ.head (ap f e)) (λ t. mathlib.Core.List.Memᴰ.tail (map-member x ys t)) (mathlib.Core.List.Memᴰ.cases_cons m)

  pub member-map : (b : B) (xs : List A) → Memᴰ b (map f xs) → (x : A) × (Memᴰ x xs × (b ≡ f x))
  member-map b [] m = absurd (elim m [ ])
  member-map b (x ∷ xs) m =
      ⊎_elim (λ e. (x, (mathlib.Core.List.Memᴰ.head refl, e)))
      (λ t. let r = member-map b xs t in (r.0, (mathlib.Core.List.Memᴰ.tail r.1.0, r.1.1)))
      (mathlib.Core.List.Memᴰ.cases_cons m)

-- ---- one table

module _ (es : List Entry) (s : Store) where
  pub size-written : size (written es s) ≡ size s
  unfolding written size
  size-written = length-set s.cards (place_taken s) (live [])

  pub placed-written : length s.places ≡ size s → length (written es s).places ≡ size (written es s)
  unfolding written size
  placed-written h = simp length-set h

  pub card-written-other : (q : ℕ) → (q ≡ place_taken s → ⊥) → card (written es s) q ≡ card s q
  unfolding written card
  card-written-other q d = card-other s (place_taken s) (live []) q d

  pub bytes-written-other : (q : ℕ) → (q ≡ place_taken s → ⊥) → bytes_at (written es s) q ≡ bytes_at s q
  unfolding written bytes_at
  bytes-written-other q d = bytes-other s (place_taken s) (table_bytes es) q d

  module _ (in_range : s.cursor < size s) (some-free : 1 ≤ free_places s) where
    pub card-written-same : card (written es s) (place_taken s) ≡ live []
    unfolding written card
    card-written-same = card-same s (place_taken s) (live []) (taken-below s in_range some-free)

    pub bytes-written-same : length s.places ≡ size s → bytes_at (written es s) (place_taken s) ≡ table_bytes es
    unfolding written bytes_at
    bytes-written-same h = bytes_same s (place_taken s) (table_bytes es) (rw h (taken-below s in_range some-free))

    pub cursor-written : (written es s).cursor < size (written es s)
    unfolding written size
    cursor-written = simp length-set (next-below (size s) (place_taken s) (taken-below s in_range some-free))

    pub free-written : free_places (written es s) + 1 ≡ free_places s
    unfolding written free_places card size
    free-written =
        let l : place_taken s < length s.cards = taken-below s in_range some-free in
        let f = taken_free s in_range some-free in
        let r = how_many-set is_free s.cards (place_taken s) (live []) free l in
        let o : one (is_free (card s (place_taken s))) ≡ 1 = rw f in
        omega arith

-- ---- several tables

-- `s'` is `s` with these tables written to these places.
pub record Wrote (s s' : Store) (places : List ℕ) (tables : List (List Entry)) : Type 0 where
  pub counted : (q : ℕ) → one (is_live (card s' q)) ≡ one (is_live (card s q)) + how_many (eqb q) places
  pub kept : (q : ℕ) → how_many (eqb q) places ≡ 0 → (card s' q ≡ card s q) × (bytes_at s' q ≡ bytes_at s q)
  pub new : (q : ℕ) → 1 ≤ how_many (eqb q) places → (is_free (card s q) ≡ true) × (card s' q ≡ live [])
  pub stored : map (bytes_at s') places ≡ map table_bytes tables
  pub same_size : size s' ≡ size s
  pub same-placed : length s'.places ≡ size s'
  pub in-range : s'.cursor < size s'
  pub same-levels : s'.levels ≡ s.levels
  pub same-marks : s'.marks ≡ s.marks
  pub same-threshold : s'.threshold ≡ s.threshold
  pub same_memory : s'.memory ≡ s.memory

-- one table, and then the others
module _ (t : List Entry) (ts : List (List Entry)) (s s' : Store) (places : List ℕ)
    (in_range : s.cursor < size s) (some-free : 1 ≤ free_places s) (placed : length s.places ≡ size s)
    (w : Wrote (written t s) s' places ts) where
  here : one (is_live (card (written t s) (place_taken s))) ≡ 1
  here = rw (card-written-same t s in_range some-free)

  before : one (is_live (card s (place_taken s))) ≡ 0
  before = rw (free-not-live (card s (place_taken s)) (taken_free s in_range some-free))

  -- the place taken is not taken again
  once : how_many (eqb (place_taken s)) places ≡ 0
  once =
      let c = w.counted (place_taken s) in
      let h = here in
      cases (is_live (card s' (place_taken s)))
      (λ q. let o : one (is_live (card s' (place_taken s))) ≡ 1 = rw q in omega arith)
      (λ q. let o : one (is_live (card s' (place_taken s))) ≡ 0 = rw q in omega arith)

  wrote-counted : (q : ℕ) → one (is_live (card s' q)) ≡ one (is_live (card s q)) + how_many (eqb q) (place_taken s ∷ places)
  wrote-counted q =
      cases (eqb q (place_taken s))
      (λ e. let same : q ≡ place_taken s = eqb-true q (place_taken s) e in
      let self : eqb (place_taken s) (place_taken s) ≡ true = rw same at e in
      subst (λ x. one (is_live (card s' x)) ≡ one (is_live (card s x)) + how_many (eqb x) (place_taken s ∷ places)) (sym same)
      (rw self (let c = w.counted (place_taken s) in let h = here in let b = before in omega arith)))
      (λ e. rw e (w.counted q ∙ ap (λ c. one (is_live c) + how_many (eqb q) places) (card-written-other t s q (eqb-false q (place_taken s) e))))

  wrote_kept : (q : ℕ) → how_many (eqb q) (place_taken s ∷ places) ≡ 0 → (card s' q ≡ card s q) × (bytes_at s' q ≡ bytes_at s q)
  wrote_kept q h =
      cases (eqb q (place_taken s))
      (λ e. let h' : suc (how_many (eqb q) places) ≡ 0 = rw e at h in absurd (omega arith))
      (λ e. let k = w.kept q (rw e at h) in
      let d : q ≡ place_taken s → ⊥ = eqb-false q (place_taken s) e in
      (k.0 ∙ card-written-other t s q d, k.1 ∙ bytes-written-other t s q d))

  wrote-new : (q : ℕ) → 1 ≤ how_many (eqb q) (place_taken s ∷ places) → (is_free (card s q) ≡ true) × (card s' q ≡ live [])
  wrote-new q h =
      cases (eqb q (place_taken s))
      (λ e. let same : q ≡ place_taken s = eqb-true q (place_taken s) e in
      rw same (taken_free s in_range some-free, (w.kept (place_taken s) once).0 ∙ card-written-same t s in_range some-free))
      (λ e. let n = w.new q (rw e at h) in
      let d : q ≡ place_taken s → ⊥ = eqb-false q (place_taken s) e in
      (rw (card-written-other t s q d) at n.0, n.1))

  wrote-step : Wrote s s' (place_taken s ∷ places) (t ∷ ts)
  unfolding written
  wrote-step = record {
    counted = wrote-counted;
    kept = wrote_kept;
    new = wrote-new;
    stored = ap₂ (λ (b : List ℕ) (bs : List (List ℕ)). b ∷ bs)
        ((w.kept (place_taken s) once).1 ∙ bytes-written-same t s in_range some-free placed) w.stored;
    same_size = w.same_size ∙ size-written t s;
    same-placed = w.same-placed;
    in-range = w.in-range;
    same-levels = w.same-levels;
    same-marks = w.same-marks;
    same-threshold = w.same-threshold;
    same_memory = w.same_memory;
  }

pub wrote : (tables : List (List Entry)) (s : Store) → s.cursor < size s → length tables ≤ free_places s → length s.places ≡ size s
    → Wrote s (written_all tables s) (places_taken tables s) tables
wrote [] s in_range enough placed = record {
  counted = λ q. omega arith;
  kept = λ q h. (refl, refl);
  new = λ q h. absurd (omega arith);
  stored = refl;
  same_size = refl;
  same-placed = placed;
  in-range = in_range;
  same-levels = refl;
  same-marks = refl;
  same-threshold = refl;
  same_memory = refl;
}
wrote (t ∷ ts) s in_range enough placed =
    let f : 1 ≤ free_places s = omega arith in
    wrote-step t ts s (written_all ts (written t s)) (places_taken ts (written t s)) in_range f placed
    (wrote ts (written t s) (cursor-written t s in_range f) (omega (arith, free-written t s in_range f)) (placed-written t s placed))

-- ---- what was not free is as it was

module _ (s s' : Store) (places : List ℕ) (tables : List (List Entry)) (w : Wrote s s' places tables) where
  pub wrote-occupied : (q : ℕ) → is_free (card s q) ≡ false → how_many (eqb q) places ≡ 0
  wrote-occupied q h =
      cases (ltb 0 (how_many (eqb q) places))
      (λ l. clash (w.new q (ltb-true 0 (how_many (eqb q) places) l)).0 h)
      (λ l. omega (arith, ltb-false 0 (how_many (eqb q) places) l))

  pub wrote-card : (q : ℕ) → is_free (card s q) ≡ false → card s' q ≡ card s q
  wrote-card q h = (w.kept q (wrote-occupied q h)).0

  pub wrote-bytes : (q : ℕ) → is_free (card s q) ≡ false → bytes_at s' q ≡ bytes_at s q
  wrote-bytes q h = (w.kept q (wrote-occupied q h)).1

  -- by whether the place was taken
  pub taken-or-kept : {P : Type 0} (q : ℕ) → (1 ≤ how_many (eqb q) places → P) → (how_many (eqb q) places ≡ 0 → P) → P
  taken-or-kept q yes' no' =
      cases (ltb 0 (how_many (eqb q) places))
      (λ l. yes' (ltb-true 0 (how_many (eqb q) places) l))
      (λ l. no' (omega (arith, ltb-false 0 (how_many (eqb q) places) l)))

  pub wrote-links : (q : ℕ) → links s' q ≡ links s q
  unfolding links
  wrote-links q =
      taken-or-kept q
      (λ t. let n = w.new q t in rw n.1 (sym (no-links (card s q) (free-not-live (card s q) n.0))))
      (λ k. rw (w.kept q k).0)

  pub wrote-frozen : (q : ℕ) → is_frozen (card s' q) ≡ is_frozen (card s q)
  wrote-frozen q =
      taken-or-kept q
      (λ t. let n = w.new q t in rw n.1 (sym (free-not-frozen (card s q) n.0)))
      (λ k. rw (w.kept q k).0)

  -- a place that was taken has one of the tables
  pub wrote-stored : (q : ℕ) → 1 ≤ how_many (eqb q) places → (t : List Entry) × (Memᴰ t tables × (bytes_at s' q ≡ table_bytes t))
  wrote-stored q h =
      let m : Memᴰ (bytes_at s' q) (map table_bytes tables) =
      rw w.stored at (map-member (bytes_at s') q places (counted-member q places h)) in
      member-map table_bytes (bytes_at s' q) tables m

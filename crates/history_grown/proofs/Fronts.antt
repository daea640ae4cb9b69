-- The front of lent memory and its way back. The front of good sizes has good sizes; put back into the whole, the whole keeps its sizes, and the
-- first places have the front's bytes: so a store saved from the front may be opened over the whole (`Carried`), if the buffer is long enough.
use Prim.Native.Nat.{ℕ, ◌+◌, ◌*◌, ◌%◌, ◌≤◌, ◌<◌}
use mathlib.Core.Path.{◌≡◌, sym, ◌∙◌, ap}
use mathlib.Core.List.{List, ◌++◌}
use mathlib.Core.Bool.{true, false, true≢false}
use native.Mathlib.Omega.{arith}
use borrow.Author.Tests.{eq-eqb, le-leb}
use lib.ListN.{length, take, drop, length-drop}
use lib.Seq.{sets, length-sets, sets-eq, length-take-le, take-append-le, drop-append-le}
use Rattle.table.specs.Limits.{place_size}
use Rattle.ldc.specs.Store.{size, card, is_free, bytes_at}
use Rattle.ldc.specs.Layout.{fewest_places, most_places, level_count}
use Rattle.ldc.specs.Lent.{Lent, places_in, sizes_good, store_of}
use Rattle.ldc.specs.History.{Start}
use Rattle.ldc.proofs.Basics.ListLaws.{get_or-parts}
use Rattle.ldc.proofs.Lent.Round.{chop-parts, places-lent_of, store_of-lent_of}
use Rattle.ldc.proofs.Lent.Shows.{sizes}
use Rattle.ldc.proofs.Stores.SoundRules.{below-size}
use Rattle.ldc.proofs.Demand.Starts.{Starts}
use Rattle.book.specs.Pieces.{lent}
use Rattle.saved_book.specs.Saved.{saved_bytes}
use Rattle.saved_book.specs.Calls.{longest_book}
use Rattle.saved_book.proofs.Longest.{longest-enough}
use Rattle.saved_history.specs.History.{Carried}
use Rattle.history_grown.specs.Grown.{front_of, with_front}
use Rattle.history_grown.proofs.Granted.{Within}

-- ---- sizes

module _ (m : Lent) (n : ℕ) (area : length m.area ≡ n * place_size) where
  pub places_of : places_in m.area ≡ n
  unfolding places_in
  places_of = omega (arith, area)

  sizes-of : fewest_places ≤ n → n ≤ most_places → length m.cards ≡ n → length m.lists ≡ level_count * n → sizes_good m ≡ true
  unfolding sizes_good
  sizes-of few most cards lists =
      let whole : length m.area % place_size ≡ 0 = omega (arith, area) in
      rw (places_of, eq-eqb _ _ whole, le-leb fewest_places n few, le-leb n most_places most, eq-eqb _ _ cards) (eq-eqb _ _ lists)

-- The bytes of a place.
bytes-in : (m : Lent) (p : ℕ) → p < places_in m.area → bytes_at (store_of m) p ≡ take place_size (drop (p * place_size) m.area)
unfolding bytes_at store_of
bytes-in m p h = rw chop-parts (get_or-parts place_size (places_in m.area) m.area p h)

module _ (m : Lent) (first : ℕ) (z : sizes_good m ≡ true) (few : fewest_places ≤ first) (all : first ≤ length m.cards) where
  -- ---- the front

  pub front-area : length (front_of first m).area ≡ first * place_size
  unfolding front_of
  front-area = length-take-le (first * place_size) m.area (omega (arith, (sizes m z).area, (sizes m z).cards))

  front-cards : length (front_of first m).cards ≡ first
  unfolding front_of
  front-cards = length-take-le first m.cards all

  front_lists : length (front_of first m).lists ≡ level_count * first
  unfolding front_of
  front_lists = length-take-le (level_count * first) m.lists (omega (arith, (sizes m z).lists, (sizes m z).cards))

  pub front-places : places_in (front_of first m).area ≡ first
  front-places = places_of (front_of first m) first front-area

  pub front-sizes : sizes_good (front_of first m) ≡ true
  front-sizes = sizes-of (front_of first m) first front-area few (omega (arith, (sizes m z).most, (sizes m z).cards)) front-cards front_lists

  -- ---- put back

  module _ (f : Lent) (area : length f.area ≡ first * place_size) where
    back-area : length (with_front f m).area ≡ places_in m.area * place_size
    unfolding with_front
    back-area = length-sets m.area 0 f.area ∙ (sizes m z).area

    back-places : places_in (with_front f m).area ≡ places_in m.area
    back-places = places_of (with_front f m) (places_in m.area) back-area

    pub back-cards : length (with_front f m).cards ≡ length m.cards
    unfolding with_front
    back-cards = length-sets m.cards 0 f.cards

    back-lists : length (with_front f m).lists ≡ length m.lists
    unfolding with_front
    back-lists = length-sets m.lists 0 f.lists

    back-sizes : sizes_good (with_front f m) ≡ true
    back-sizes =
        sizes-of (with_front f m) (places_in m.area) back-area (sizes m z).fewest (sizes m z).most
        (back-cards ∙ (sizes m z).cards) (back-lists ∙ (sizes m z).lists)

    -- A part within the front.
    back-part : (p : ℕ) → p < first → take place_size (drop (p * place_size) (with_front f m).area) ≡ take place_size (drop (p * place_size) f.area)
    unfolding with_front
    back-part p h =
        let rest : List ℕ = drop (0 + length f.area) m.area in
        let e : sets m.area 0 f.area ≡ f.area ++ rest =
        sets-eq f.area m.area 0 (omega (arith, area, (sizes m z).area, (sizes m z).cards)) in
        rw (e, drop-append-le (p * place_size) f.area rest (omega (arith, area)))
        (take-append-le place_size (drop (p * place_size) f.area) rest (omega (arith, area, length-drop (p * place_size) f.area)))

    back-bytes : (p : ℕ) → p < first → bytes_at (store_of (with_front f m)) p ≡ bytes_at (store_of f) p
    back-bytes p h =
        bytes-in (with_front f m) p (omega (arith, back-places, (sizes m z).cards))
        ∙ back-part p h
        ∙ sym (bytes-in f p (omega (arith, places_of f first area)))

    -- A store that the front shows.
    module _ (x : Start) (k : Starts x f) (buffer : List ℕ) (room : longest_book first ≤ length buffer) where
      same_store : store_of f ≡ k.shown
      same_store = ap store_of k.lent ∙ store_of-lent_of k.shown k.sound k.whole

      as_many : size k.shown ≡ first
      as_many =
          sym (places-lent_of k.shown k.sound k.whole)
          ∙ ap (λ (n : Lent). places_in n.area) (sym k.lent)
          ∙ places_of f first area

      book-short : length (saved_bytes k.shown) ≤ length buffer
      book-short =
          let h : length (saved_bytes k.shown) ≤ longest_book first = rw as_many at (longest-enough k.shown k.sound) in
          omega (arith, h, room)

      below-first : (p : ℕ) → is_free (card (store_of f) p) ≡ false → p < first
      below-first p h =
          let below = below-size k.shown p (λ e. let q : is_free (card k.shown p) ≡ false = rw same_store at h in true≢false (rw e at q)) in
          omega (arith, below, as_many)

      pub carried : Carried f buffer (with_front f m)
      carried = record {
        room = rw same_store book-short;
        sizes = back-sizes;
        more = omega (arith, back-places, places_of f first area, (sizes m z).cards);
        held = λ p h. back-bytes p (below-first p h);
      }

-- ---- the parts come back

part-back : {A : Type 0} (n : ℕ) (xs ys : List A) → n ≤ length xs → length ys ≡ length (take n xs) → ys ++ drop n xs ≡ sets xs 0 ys
part-back n xs ys h e =
    let long : length ys ≡ n = e ∙ length-take-le n xs h in
    let at : 0 + length ys ≡ n = omega (arith, long) in
    sym (sets-eq ys xs 0 (omega (arith, long, h)) ∙ ap (λ (k : ℕ). ys ++ drop k xs) at)

-- Each with what lies behind it.
pub put_back : (first : ℕ) (m f : Lent) → Within m first → first ≤ length m.cards
    → length f.area ≡ length (take (first * place_size) m.area) → length f.cards ≡ length (take first m.cards)
    → length f.lists ≡ length (take (level_count * first) m.lists)
    → lent (f.area ++ drop (first * place_size) m.area) (f.cards ++ drop first m.cards) (f.lists ++ drop (level_count * first) m.lists)
    f.head f.memory
    ≡ with_front f m
unfolding with_front
put_back first m f w all a c l i =
    lent (part-back (first * place_size) m.area f.area w.area a i) (part-back first m.cards f.cards all c i)
    (part-back (level_count * first) m.lists f.lists w.lists l i) f.head f.memory

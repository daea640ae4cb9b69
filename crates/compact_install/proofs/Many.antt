-- Several tables written one after the other: the store so far, and one table more.
use Prim.Native.Nat.{ℕ, suc, ◌+◌, ◌*◌, ◌≤◌, ◌<◌}
use mathlib.Core.Path.{◌≡◌, refl, sym, ◌∙◌, ap}
use mathlib.Core.List.{List, [], ◌∷◌, ◌++◌, map, Memᴰ}
use native.Mathlib.Omega.{arith}
use native.Mathlib.Numerals.{add-one}
use lib.ListN.{length, get_or, set, take, drop, length-map, length-take, length-drop, take-append-drop}
use lib.Seq.{sets, take-suc, take_all, take-append-le, drop-append-le, length-take-le}
use Rattle.coding.proofs.Sets.{sets-append}
use Rattle.table.specs.Limits.{place_size}
use Rattle.table.specs.Entry.{Entry}
use Rattle.table.specs.Table.{table_bytes, place_of, MemoryPlace}
use Rattle.ldc.specs.Lists.{flat}
use Rattle.ldc.specs.Store.{Store}
use Rattle.ldc.specs.Layout.{most_places, cursor_in, table_summary}
use Rattle.ldc.specs.Lent.{lent_of}
use Rattle.ldc.specs.Place.{place_taken, written, written_all, places_taken, free_places}
use Rattle.ldc.proofs.Basics.ListLaws.{Each, get_d_map, mem-get_or, length-flat, parts, get_or-parts, parts-flat}
use Rattle.ldc.proofs.Stores.Places.{taken-below}
use Rattle.ldc.proofs.Stores.Written.{free-written}
use Rattle.book.specs.Place.{free_rows}
use Rattle.book.proofs.Heads.{words-cursor}
use Rattle.book_edit.specs.Shown.{Fits, Shows}
use Rattle.compact_install.specs.Tables.{Tables}
use Rattle.book_edit.specs.Take.{Takes}
use Rattle.book_edit.proofs.Fitting.{length-cards, length-area, free-shown, fits-written, lists-written, shows-written}

-- ---- one table more

pub written-more : (ts : List (List Entry)) (t : List Entry) (s : Store) → written_all (ts ++ t ∷ []) s ≡ written t (written_all ts s)
written-more [] t s = refl
written-more (u ∷ ts) t s = written-more ts t (written u s)

pub taken_more : (ts : List (List Entry)) (t : List Entry) (s : Store)
    → places_taken (ts ++ t ∷ []) s ≡ places_taken ts s ++ place_taken (written_all ts s) ∷ []
taken_more [] t s = refl
taken_more (u ∷ ts) t s = ap (λ (ps : List ℕ). place_taken s ∷ ps) (taken_more ts t (written u s))

pub length_taken : (ts : List (List Entry)) (s : Store) → length (places_taken ts s) ≡ length ts
length_taken [] s = refl
length_taken (t ∷ ts) s = ap suc (length_taken ts (written t s))

-- ---- the tables in the bytes

module _ (out : List ℕ) (k : ℕ) (ts : List (List Entry)) (h : Tables out k ts) where
  each-table : Each place_size (map table_bytes ts)
  each-table i hi =
      let near : i < length ts = omega (arith, length-map ts table_bytes) in
      ap length (get_d_map table_bytes ts i [] [] near) ∙ (h.whole (get_or ts i []) (mem-get_or ts i [] near)).0

  many : length (map table_bytes ts) ≡ k
  many = length-map ts table_bytes ∙ h.many

  length_front : length (take (k * place_size) out) ≡ k * place_size
  length_front = ap length h.bytes ∙ length-flat place_size (map table_bytes ts) each-table ∙ ap (λ (n : ℕ). n * place_size) many

  pub tables-within : k * place_size ≤ length out
  tables-within = omega (arith, length_front, length-take (k * place_size) out)

  -- The i-th place is the i-th table.
  pub table_at : (i : ℕ) → i < k → place_of out i ≡ table_bytes (get_or ts i [])
  table_at i hi =
      let front : List ℕ = take (k * place_size) out in
      let rest : List ℕ = drop (k * place_size) out in
      let all : parts place_size k front ≡ map table_bytes ts =
      ap (parts place_size k) h.bytes ∙ ap (λ (n : ℕ). parts place_size n (flat (map table_bytes ts))) (sym many)
      ∙ parts-flat place_size (map table_bytes ts) each-table in
      ap (λ (x : List ℕ). take place_size (drop (i * place_size) x)) (sym (take-append-drop (k * place_size) out))
      ∙ ap (take place_size) (drop-append-le (i * place_size) front rest (omega (arith, length_front)))
      ∙ take-append-le place_size (drop (i * place_size) front) rest (simp length-drop (omega (arith, length_front)))
      ∙ sym (get_or-parts place_size k front i hi)
      ∙ ap (λ (xss : List (List ℕ)). get_or xss i []) all
      ∙ get_d_map table_bytes ts i [] [] (omega (arith, h.many))

-- ---- the store so far

-- After i of the tables: what the pieces show, the places left, and the places noted.
pub record Sofar (area : List ℕ) (cards : List (List ℕ)) (head noted₀ noted : List ℕ) (k i : ℕ) (s : Store) (ts : List (List Entry)) : Type 0 where
  pub fits : Fits (written_all (take i ts) s)
  pub shows : Shows area cards head (written_all (take i ts) s)
  pub room : k ≤ free_places (written_all (take i ts) s) + i
  pub listed : noted ≡ sets noted₀ 0 (places_taken (take i ts) s)

pub sofar-none : (area : List ℕ) (cards : List (List ℕ)) (head noted : List ℕ) (k : ℕ) (s : Store) (ts : List (List Entry))
    → Fits s → Shows area cards head s → k ≤ free_places s → Sofar area cards head noted noted k 0 s ts
sofar-none area cards head noted k s ts f sh r = record { fits = f; shows = sh; room = omega arith; listed = refl }

-- Two stores that the same rows show have as many free places.
pub same-room : (area : List ℕ) (cards : List (List ℕ)) (head : List ℕ) (s t : Store) → Fits s → Fits t → Shows area cards head s → Shows area cards head t
    → free_places s ≡ free_places t
same-room area cards head s t f g a b = sym (free-shown s f) ∙ ap free_rows (sym a.cards ∙ b.cards) ∙ free-shown t g

module _ (area : List ℕ) (cards : List (List ℕ)) (head noted₀ noted out : List ℕ) (k i : ℕ) (s : Store) (ts : List (List Entry))
    (h : Tables out k ts) (more : i < k) (f : Sofar area cards head noted₀ noted k i s ts) where
  enough : 1 ≤ free_places (written_all (take i ts) s)
  enough = omega (arith, f.room)

  pub sofar-table : MemoryPlace (place_of out i)
  sofar-table = rw (table_at out k ts h i more) (h.whole (get_or ts i []) (mem-get_or ts i [] (omega (arith, h.many))))

  pub sofar-ready : (length area ≡ length cards * place_size) × ((cursor_in head < length cards) × (1 ≤ free_rows cards))
  sofar-ready =
      let g = f.fits in
      let cs = ap length f.shows.cards ∙ length-cards (written_all (take i ts) s) g in
      let as' = ap length f.shows.area ∙ length-area (written_all (take i ts) s) g in
      let cursor = ap (λ (ws : List ℕ). cursor_in ws) f.shows.head ∙ words-cursor (written_all (take i ts) s) in
      let free = ap free_rows f.shows.cards ∙ free-shown (written_all (take i ts) s) g in
      (omega arith, (omega (arith, g.turns), omega (arith, enough)))

  module _ (area' : List ℕ) (cards' : List (List ℕ)) (head' : List ℕ) (p : ℕ) (t : Takes cards head cards' head' p (table_summary (place_of out i)))
      (w : area' ≡ sets area (p * place_size) (place_of out i)) where
    long : length (table_bytes (get_or ts i [])) ≡ place_size
    long = (h.whole (get_or ts i []) (mem-get_or ts i [] (omega (arith, h.many)))).0

    shown : (p ≡ place_taken (written_all (take i ts) s)) × Shows area' cards' head' (written (get_or ts i []) (written_all (take i ts) s))
    shown =
        shows-written (written_all (take i ts) s) f.fits (get_or ts i []) enough long area area' cards cards' head head' p f.shows
        (rw (table_at out k ts h i more) at t)
        (w ∙ ap (sets area (p * place_size)) (table_at out k ts h i more))

    pub sofar-place : p < most_places
    sofar-place = omega (arith, shown.0, taken-below (written_all (take i ts) s) f.fits.turns enough, f.fits.most)

    one_more : take (i + 1) ts ≡ take i ts ++ get_or ts i [] ∷ []
    one_more = ap (λ (n : ℕ). take n ts) (add-one i) ∙ take-suc ts i [] (omega (arith, h.many))

    store-more : written_all (take (i + 1) ts) s ≡ written (get_or ts i []) (written_all (take i ts) s)
    store-more = ap (λ (us : List (List Entry)). written_all us s) one_more ∙ written-more (take i ts) (get_or ts i []) s

    pub sofar-more : Sofar area' cards' head' noted₀ (set noted i p) k (i + 1) s ts
    sofar-more =
        let left = free-written (get_or ts i []) (written_all (take i ts) s) f.fits.turns enough in
        let few : length (places_taken (take i ts) s) ≡ i =
        length_taken (take i ts) s ∙ length-take-le i ts (omega (arith, h.many)) in
        let at : i ≡ 0 + length (places_taken (take i ts) s) = omega arith in
        record {
          fits = rw store-more (fits-written (written_all (take i ts) s) f.fits (get_or ts i []) enough long);
          shows = rw store-more shown.1;
          room = rw store-more (omega (arith, f.room));
          listed =
              ap (λ (xs : List ℕ). set xs i p) f.listed
              ∙ ap (λ (n : ℕ). set (sets noted₀ 0 (places_taken (take i ts) s)) n p) at
              ∙ sym (sets-append noted₀ 0 (places_taken (take i ts) s) (p ∷ []))
              ∙ ap (sets noted₀ 0) (ap (λ (q : ℕ). places_taken (take i ts) s ++ q ∷ []) shown.0
              ∙ sym (ap (λ (us : List (List Entry)). places_taken us s) one_more ∙ taken_more (take i ts) (get_or ts i []) s));
        }

-- All of them.
pub sofar-all : (area : List ℕ) (cards : List (List ℕ)) (head noted₀ noted out : List ℕ) (k i : ℕ) (s : Store) (ts : List (List Entry))
    → Tables out k ts → k ≤ i → Sofar area cards head noted₀ noted k i s ts
    → Fits (written_all ts s) × (Shows area cards head (written_all ts s) × (noted ≡ sets noted₀ 0 (places_taken ts s)))
sofar-all area cards head noted₀ noted out k i s ts h ge f =
    let all : take i ts ≡ ts = take_all i ts (omega (arith, h.many)) in
    (rw all at f.fits, (rw all at f.shows, rw all at f.listed))

-- ---- what writing them leaves alone

pub fits_all : (ts : List (List Entry)) (s : Store) → Fits s → ((t : List Entry) → Memᴰ t ts → length (table_bytes t) ≡ place_size) → length ts ≤ free_places s
    → Fits (written_all ts s)
fits_all [] s f w h = f
fits_all (t ∷ ts) s f w h =
    let one : 1 ≤ free_places s = omega arith in
    let long = w t (Memᴰ.head refl) in
    fits_all ts (written t s) (fits-written s f t one long) (λ u m. w u (Memᴰ.tail m)) (omega (arith, free-written t s f.turns one))

pub lists-all : (ts : List (List Entry)) (s : Store) → Fits s → ((t : List Entry) → Memᴰ t ts → length (table_bytes t) ≡ place_size) → length ts ≤ free_places s
    → (lent_of (written_all ts s)).lists ≡ (lent_of s).lists
lists-all [] s f w h = refl
lists-all (t ∷ ts) s f w h =
    let one : 1 ≤ free_places s = omega arith in
    let long = w t (Memᴰ.head refl) in
    lists-all ts (written t s) (fits-written s f t one long) (λ u m. w u (Memᴰ.tail m)) (omega (arith, free-written t s f.turns one))
    ∙ lists-written s f t one long

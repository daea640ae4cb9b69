-- The tables of a merge are written: their places take the old one's place in the level's list. So for every store that the pieces showed.
use Prim.Native.Nat.{ℕ, suc, ◌+◌, ◌≤◌}
use mathlib.Core.Path.{◌≡◌, sym, ◌∙◌, ap}
use mathlib.Core.List.{List, [], ◌∷◌, ◌++◌, Memᴰ}
use native.Mathlib.Omega.{arith}
use lib.Dec.{eqb}
use lib.ListN.{length, get_or, set, take, length-append}
use lib.Seq.{sets, length-sets}
use Rattle.coding.proofs.Sets.{part_same}
use Rattle.table.specs.Entry.{Entry}
use Rattle.ldc.specs.Lists.{how_many}
use Rattle.ldc.specs.Store.{Store, size, level}
use Rattle.ldc.specs.Layout.{length_word, length_in, items_in}
use Rattle.ldc.specs.Lent.{lent_of}
use Rattle.ldc.specs.Place.{written_all, places_taken, free_places}
use Rattle.ldc.specs.Steps.{replaced}
use Rattle.ldc.proofs.Basics.Counts.{member-counted}
use Rattle.ldc.proofs.Basics.Replaced.{split}
use Rattle.ldc.proofs.Stores.Written.{Wrote, wrote}
use Rattle.book.specs.Pieces.{lent}
use Rattle.book_edit.specs.Level.{Listing, with_items}
use Rattle.book_edit.specs.Shown.{Fits, Shows}
use Rattle.book_edit.proofs.Fitting.{length-cards, listing-at, items_at, length-at, lists_at, head_at}
use Rattle.compact_install.specs.Tables.{placed, Lends, Placing}
use Rattle.compact_install.proofs.Many.{Sofar, sofar-all, length_taken, lists-all}

-- The places noted are the front of what they were noted in.
noted-front : (noted₀ noted qs : List ℕ) (k : ℕ) → noted ≡ sets noted₀ 0 qs → length qs ≡ k → k ≤ length noted₀
    → (length noted ≡ length noted₀) × (take k noted ≡ qs)
noted-front noted₀ noted qs k e h few = (
  ap length e ∙ length-sets noted₀ 0 qs,
  ap (take k) e ∙ ap (λ (j : ℕ). take j (sets noted₀ 0 qs)) (sym h) ∙ part_same noted₀ 0 qs (omega arith),
)

-- A list with one item replaced by several has that many more, less one.
pub length-new : (p : ℕ) (qs ps : List ℕ) → Memᴰ p ps → length (replaced p qs ps) + 1 ≡ length ps + length qs
length-new p qs ps m =
    let r = split p ps m in
    let a = ap length (r.other qs) in
    let b = ap length r.whole in
    omega (arith, length-append r.front (qs ++ r.back), length-append qs r.back, length-append r.front (p ∷ r.back))

module _ (area₀ : List ℕ) (cards₀ : List (List ℕ)) (lists head₀ : List ℕ) (n p : ℕ) (out : List ℕ) (k : ℕ) (s : Store) (ts : List (List Entry))
    (g : Placing (lent area₀ cards₀ lists head₀ []) n p out k s ts)
    (area : List ℕ) (cards : List (List ℕ)) (head noted₀ noted : List ℕ) (i : ℕ)
    (f : Sofar area cards head noted₀ noted k i s ts) (ge : k ≤ i) (few : k ≤ length noted₀) where
  -- the store with the tables written, and their places
  abbrev filled : Store
  filled = written_all ts s

  abbrev qs : List ℕ
  qs = places_taken ts s

  all : Fits filled × (Shows area cards head filled × (noted ≡ sets noted₀ 0 qs))
  all = sofar-all area cards head noted₀ noted out k i s ts g.told ge f

  enough : length ts ≤ free_places s
  enough = omega (arith, g.told.many, g.room)

  wrote-filled : Wrote s filled qs ts
  wrote-filled = wrote ts s g.fits.turns enough g.fits.placed

  level-filled : level filled n ≡ level s n
  unfolding level
  level-filled = ap (λ (ls : List (List ℕ)). get_or ls n []) wrote-filled.same-levels

  counted : length cards ≡ size filled
  counted = ap length all.1.0.cards ∙ length-cards filled all.0

  listed : lists ≡ (lent_of filled).lists
  listed = g.lends.lists ∙ sym (lists-all ts s g.fits (λ t m. (g.told.whole t m).0) enough)

  items : items_in (length cards) lists head n ≡ level s n
  items = items_at filled all.0 n g.four (length cards) lists head counted listed all.1.0.head ∙ level-filled

  many : length qs ≡ k
  many = length_taken ts s ∙ g.told.many

  pub front : (length noted ≡ length noted₀) × (take k noted ≡ places_taken ts s)
  front = noted-front noted₀ noted qs k all.1.1 many few

  -- ---- what changing the list asks for

  pub placed-listing : Listing n (length cards) lists head
  placed-listing = listing-at filled all.0 n g.four (length cards) lists head counted listed all.1.0.head

  pub placed_on : 1 ≤ how_many (eqb p) (items_in (length cards) lists head n)
  placed_on = rw items (member-counted p (level s n) g.on)

  pub placed-room : length_in head n + k ≤ suc (length cards)
  placed-room =
      omega (
        arith,
        length-at filled all.0 n g.four (length cards) lists head counted listed all.1.0.head,
        ap length level-filled,
        g.space,
        counted,
        wrote-filled.same_size,
      )

  -- ---- what it leaves

  short : length (replaced p qs (level s n)) ≤ size filled
  short = omega (arith, length-new p qs (level s n) g.on, many, g.space, wrote-filled.same_size)

  pub placed-done : (lists' head' : List ℕ)
      → lists' ≡ with_items n (length cards) (replaced p (take k noted) (items_in (length cards) lists head n)) lists
      → head' ≡ set head (length_word n) (length (replaced p (take k noted) (items_in (length cards) lists head n)))
      → Lends (lent area cards lists' head' []) (placed n p ts s)
  unfolding lent_of
  placed-done lists' head' el eh =
      let same : replaced p (take k noted) (items_in (length cards) lists head n) ≡ replaced p qs (level s n) =
      ap (λ (xs : List ℕ). replaced p xs (items_in (length cards) lists head n)) front.1 ∙ ap (replaced p qs) items in
      record {
        shows = record {
          area = all.1.0.area;
          cards = all.1.0.cards;
          head =
              eh ∙ ap (λ (xs : List ℕ). set head (length_word n) (length xs)) same
              ∙ head_at filled all.0 n g.four (length cards) lists head counted listed all.1.0.head (replaced p qs (level s n));
        };
        lists =
            el ∙ ap (λ (xs : List ℕ). with_items n (length cards) xs lists) same
            ∙ lists_at filled all.0 n g.four (length cards) lists head counted listed all.1.0.head (replaced p qs (level s n)) short;
      }

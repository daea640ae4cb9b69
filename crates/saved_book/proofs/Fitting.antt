-- The fields of a sound store fit the bytes that they take in a saved book, and the whole fits its length. Places are at most 4,096, a link's
-- number counts entries of a table, a list names each place at most once; keys of marks and links are below 2^64 by `Fits`.
use Prim.Native.Nat.{ℕ, ◌+◌, ◌*◌, ◌^◌, ◌≤◌, ◌<◌}
use mathlib.Core.Path.{◌≡◌, refl, sym, ap}
use mathlib.Core.Bool.{true, not, ◌&&◌, true≢false}
use mathlib.Core.List.{List, [], ◌∷◌, ◌++◌, map, Memᴰ}
use mathlib.Core.Option.{Option, some, none}
use native.Mathlib.Omega.{arith}
use native.Mathlib.Nat.{mul-suc}
use borrow.Author.Tests.{eqb-true}
use lib.Dec.{leb, eqb}
use lib.ListN.{length, length-append}
use Rattle.coding.specs.Number.{bytes_of, Bytes}
use Rattle.coding.proofs.NumberLaws.{length-bytes_of, bytes-bytes_of, bytes-append}
use Rattle.table.specs.Limits.{table_limit}
use Rattle.table.specs.Entry.{Entry}
use Rattle.table.specs.Table.{entries_bytes}
use Rattle.table.specs.Valid.{Values}
use Rattle.table.proofs.Tests.{and_parts}
use Rattle.table.proofs.Decode.{entries-short, bytes-entries}
use Rattle.ldc.specs.Lists.{flat, is_empty}
use Rattle.ldc.specs.Store.{Link, Card, free, Store, size, card, links, links_of, is_live, is_frozen, bytes_at, table, level, within, slice}
use Rattle.ldc.specs.Rules.{link_good}
use Rattle.ldc.specs.Layout.{link_limit, most_places}
use Rattle.ldc.proofs.Basics.ListLaws.{get_or-mem}
use Rattle.ldc.proofs.Entries.Few.{keep-few}
use Rattle.ldc.proofs.Lent.Round.{few-links, level-fits}
use Rattle.ldc.proofs.Stores.CardFacts.{frozen-not-free}
use Rattle.ldc.proofs.Stores.Facts.{listed-live, link-order, link-frozen}
use Rattle.ldc.proofs.Stores.Fits.{Fits}
use Rattle.ldc.proofs.Stores.Sound.{Sound}
use Rattle.ldc.proofs.Stores.SoundRules.{below-size}
use Rattle.ldc.proofs.Stores.TableLaws.{place-valid}
use Rattle.saved_book.specs.Saved.{saved_kind, whole_size, number_bytes, key_bytes, mark_bytes, link_bytes, card_bytes, list_bytes, memory_bytes, field_bytes, saved_bytes}
use Rattle.saved_book.specs.Form.{card_head, link_width}
use Rattle.saved_book.proofs.Shown.{MarkFits, LinkFits, CardFits, ItemsFit, length-links_bytes, length-items_bytes}

module _ (s : Store) (so : Sound s) (fi : Fits s) where
  pub mark-fits : (o : Option ℕ) → Memᴰ o s.marks → MarkFits o
  mark-fits none m = tt
  mark-fits (some k) m = fi.marks k m

  -- ---- links

  module _ (p : ℕ) (l : Link) (m : Memᴰ l (links s p)) where
    -- A link counts entries of a table.
    link-number : l.number ≤ table_limit
    unfolding link_good slice within table
    link-number =
        let frozen = link-frozen s so p l m in
        let v = place-valid (bytes_at s l.place) (so.tables l.place (frozen-not-free (card s l.place) frozen)) in
        let a = and_parts (leb l.low l.high) _ (so.hung p l m) in
        let b = and_parts (is_frozen (card s l.place)) _ a.1 in
        let c = and_parts (not (is_empty (slice s l))) (eqb l.number (length (slice s l))) b.1 in
        let few = keep-few (λ (e : Entry). leb l.low e.key && leb e.key l.high) (table s l.place) in
        omega (arith, eqb-true l.number (length (slice s l)) c.1, v.few)

    link-place : l.place < size s
    link-place = below-size s l.place
        (λ e. let q : is_frozen (card s l.place) ≡ true = link-frozen s so p l m in true≢false (sym (rw e at q)))

    link_fits : LinkFits l
    link_fits = record {
      place = omega (arith, link-place, so.most);
      low = omega (arith, link-order s so p l m, fi.links p l m);
      high = fi.links p l m;
      number = omega (arith, link-number);
    }

  -- ---- cards and lists

  pub card-fits : (c : Card) → Memᴰ c s.cards → CardFits c
  unfolding links card
  card-fits c m =
      let spot = get_or-mem s.cards free m in
      let here : links s spot.0 ≡ links_of c = ap links_of spot.2 in
      record { few = few-links s so c m; links = λ l q. link_fits spot.0 l (rw here q) }

  pub list-fits : (ps : List ℕ) → Memᴰ ps s.levels → (length ps ≤ size s) × ((length ps < 2 ^ 16) × ItemsFit ps)
  unfolding level
  list-fits ps m =
      let spot = get_or-mem s.levels [] m in
      let few : length ps ≤ size s = rw spot.2 at (level-fits s so spot.0) in
      let items : ItemsFit ps =
      λ p q. let here : Memᴰ p (level s spot.0) = rw spot.2 q in
      let lives : is_live (card s p) ≡ true = listed-live s so spot.0 p here in
      omega (arith, so.most, below-size s p (λ e. true≢false (sym (rw e at lives)))) in
      (few, (omega (arith, so.most), items))

-- ---- the length of the whole

pub length-mark_bytes : (o : Option ℕ) → length (mark_bytes o) ≡ 10
unfolding mark_bytes number_bytes key_bytes
length-mark_bytes none = simp (length-append, length-bytes_of)
length-mark_bytes (some k) = simp (length-append, length-bytes_of)

-- Parts each of which is short.
pub flat-short : {A : Type 0} (f : A → List ℕ) (most : ℕ) (xs : List A) → ((x : A) → Memᴰ x xs → length (f x) ≤ most)
    → length (flat (map f xs)) ≤ most * length xs
flat-short f most [] h = omega arith
flat-short f most (x ∷ xs) h =
    let r = flat-short f most xs (λ y m. h y (mathlib.Core.List.Memᴰ.tail m)) in
    rw (length-append, mul-suc) (omega (arith, h x (mathlib.Core.List.Memᴰ.head refl)))

module _ (s : Store) (so : Sound s) where
  pub card-short : (c : Card) → Memᴰ c s.cards → length (card_bytes c) ≤ card_head + link_width * link_limit
  unfolding card_bytes number_bytes
  card-short c m =
      simp (length-append, length-bytes_of) (omega (arith, few-links s so c m, length-links_bytes (links_of c)))

  list-short : (ps : List ℕ) → Memᴰ ps s.levels → length (list_bytes ps) ≤ 2 + 2 * most_places
  unfolding list_bytes number_bytes level
  list-short ps m =
      let spot = get_or-mem s.levels [] m in
      let few : length ps ≤ size s = rw spot.2 at (level-fits s so spot.0) in
      simp (length-append, length-bytes_of) (omega (arith, so.most, length-items_bytes ps))

  -- It fits four bytes by far.
  pub field-short : length (field_bytes s) < 2 ^ 20
  unfolding field_bytes number_bytes memory_bytes size
  field-short =
      let marks = flat-short mark_bytes 10 s.marks (λ o m. omega (arith, length-mark_bytes o)) in
      let cards = flat-short card_bytes 164 s.cards card-short in
      let lists = flat-short list_bytes 8194 s.levels list-short in
      let es = entries-short s.memory so.memory.values in
      simp (length-append, length-bytes_of)
      (omega (arith, so.two, so.four, so.most, so.memory.few))

-- ---- they are bytes

bytes-flat : {A : Type 0} (f : A → List ℕ) (xs : List A) → ((x : A) → Bytes (f x)) → Bytes (flat (map f xs))
bytes-flat f [] h = λ i. omega arith
bytes-flat f (x ∷ xs) h = bytes-append (f x) (flat (map f xs)) (h x) (bytes-flat f xs h)

bytes-number : (n : ℕ) → Bytes (number_bytes n)
unfolding number_bytes
bytes-number n = bytes-bytes_of 2 n

bytes-mark : (o : Option ℕ) → Bytes (mark_bytes o)
unfolding mark_bytes key_bytes
bytes-mark none = bytes-append (number_bytes 0) (bytes_of 8 0) (bytes-number 0) (bytes-bytes_of 8 0)
bytes-mark (some k) = bytes-append (number_bytes 1) (bytes_of 8 k) (bytes-number 1) (bytes-bytes_of 8 k)

bytes_link : (l : Link) → Bytes (link_bytes l)
unfolding link_bytes key_bytes
bytes_link l = search (bytes-append, bytes-bytes_of, bytes-number) depth 8

bytes-card : (c : Card) → Bytes (card_bytes c)
unfolding card_bytes
bytes-card c = search (bytes-append, bytes-number, bytes-flat link_bytes (links_of c) bytes_link) depth 8

bytes-list : (ps : List ℕ) → Bytes (list_bytes ps)
unfolding list_bytes
bytes-list ps = search (bytes-append, bytes-number, bytes-flat number_bytes ps bytes-number) depth 8

bytes-memory : (es : List Entry) → Values es → Bytes (memory_bytes es)
unfolding memory_bytes
bytes-memory es v = bytes-append (number_bytes (length es)) (entries_bytes es) (bytes-number (length es)) (bytes-entries es v)

-- Lists that are bytes, one behind the other.
abbrev AreBytes : Type 0
AreBytes = (s : List ℕ) × Bytes s

join : AreBytes → AreBytes → AreBytes
join a b = (a.0 ++ b.0, bytes-append a.0 b.0 a.1 b.1)

pub bytes-saved_bytes : (s : Store) → Sound s → Bytes (saved_bytes s)
unfolding saved_bytes field_bytes join
bytes-saved_bytes s so =
    let number : ℕ → AreBytes = λ n. (number_bytes n, bytes-number n) in
    let whole : AreBytes = (bytes_of whole_size (whole_size + length (field_bytes s)), bytes-bytes_of whole_size (whole_size + length (field_bytes s))) in
    let head : AreBytes = join (join (join (number saved_kind) (number (size s))) (number s.threshold)) (number s.cursor) in
    let marks : AreBytes = join head (flat (map mark_bytes s.marks), bytes-flat mark_bytes s.marks bytes-mark) in
    let cards : AreBytes = join marks (flat (map card_bytes s.cards), bytes-flat card_bytes s.cards bytes-card) in
    let lists : AreBytes = join cards (flat (map list_bytes s.levels), bytes-flat list_bytes s.levels bytes-list) in
    (join whole (join lists (memory_bytes s.memory, bytes-memory s.memory so.memory.values))).1

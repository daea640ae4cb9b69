-- Where the bytes of a field stand, that field is read and is of its form, and what stands behind it is found where it ends.
-- One field after the other, in the order of the layout: marks, links, cards, lists, memory entries. Several go by induction on them.
use Prim.Native.Nat.{ℕ, suc, ◌+◌, ◌*◌, ◌-◌, ◌^◌, ◌≤◌, ◌<◌}
use mathlib.Core.Path.{◌≡◌, refl, sym, ◌∙◌, ap}
use mathlib.Core.Bool.{true}
use mathlib.Core.List.{List, [], ◌∷◌, ◌++◌, map, append_assoc, Memᴰ}
use mathlib.Core.Option.{Option, some, none}
use native.Mathlib.Omega.{arith}
use borrow.Author.Tests.{le-leb}
use lib.ListN.{length, drop, length-append, length-drop}
use Rattle.coding.specs.Number.{number_at, bytes_of}
use Rattle.coding.proofs.NumberLaws.{number_at-there, length-bytes_of}
use Rattle.table.specs.Limits.{value_limit, entry_head}
use Rattle.table.specs.Entry.{Entry, value_bytes, entry_bytes, entry_length, length_at}
use Rattle.table.specs.Table.{entries_bytes, entries_at}
use Rattle.table.specs.Valid.{Keys, Values}
use Rattle.table.proofs.Bounds.{keys_below}
use Rattle.table.proofs.Decode.{behind, shown-entry}
use Rattle.table.proofs.Writes.{length-entry_bytes}
use Rattle.ldc.specs.Lists.{flat}
use Rattle.ldc.specs.Store.{Link, Card, free, live, frozen, links_of}
use Rattle.ldc.specs.Layout.{frozen_state, link_limit, mark_words, mark_good, state_word, row_with}
use Rattle.saved_book.specs.Saved.{number_bytes, key_bytes, mark_bytes, link_bytes, card_bytes, list_bytes}
use Rattle.saved_book.specs.Form.{places_saved, card_head, link_width, count_saved, card_end, card_to, list_end, list_to, entry_to, in_turn}
use Rattle.saved_book.specs.Opened.{link_saved, links_saved, row_saved, rows_saved, items_saved, lists_saved}
use Rattle.saved_book.proofs.Summed.{bare_row}

-- Bytes that stand somewhere end within the whole.
pub stands : (s : List ℕ) (at : ℕ) (a r : List ℕ) → drop at s ≡ a ++ r → 1 ≤ length a → at + length a ≤ length s
stands s at a r h some' =
    let e : length s - at ≡ length a + length r = sym (length-drop at s) ∙ ap length h ∙ length-append a r in
    omega arith

-- Several fields stand one behind the other; what is behind the last.
pub record Ends (f : ℕ → Option ℕ) (n : ℕ) (s : List ℕ) (at : ℕ) (r : List ℕ) : Type 0 where
  pub end : ℕ
  pub turns : in_turn n f at ≡ some end
  pub room : end ≤ length s
  pub next : drop end s ≡ r

-- ---- marks

pub record MarkShown (s : List ℕ) (at : ℕ) (o : Option ℕ) (r : List ℕ) : Type 0 where
  pub words : number_at 2 s at ∷ number_at 8 s (at + 2) ∷ [] ≡ mark_words o
  pub good : mark_good (number_at 2 s at) (number_at 8 s (at + 2)) ≡ true
  pub next : drop (at + 10) s ≡ r

-- What fits: a key below 2^64.
abbrev pub MarkFits : Option ℕ → Type 0
MarkFits none = Unit {0}
MarkFits (some k) = k < 2 ^ 64

module _ (s : List ℕ) where
  mark-read : (flag key at : ℕ) (r : List ℕ) → flag ≤ 1 → key < 2 ^ 64 → drop at s ≡ (bytes_of 2 flag ++ bytes_of 8 key) ++ r
      → (number_at 2 s at ≡ flag) × ((number_at 8 s (at + 2) ≡ key) × (drop (at + 10) s ≡ r))
  mark-read flag key at r hf hk h =
      let whole : drop at s ≡ bytes_of 2 flag ++ (bytes_of 8 key ++ r) = h ∙ append_assoc (bytes_of 2 flag) (bytes_of 8 key) r in
      let two = behind s at (bytes_of 2 flag) (bytes_of 8 key ++ r) 2 (length-bytes_of 2 flag) whole in
      let e : at + 2 + 8 ≡ at + 10 = omega arith in (
        number_at-there 2 flag s at _ whole (omega arith),
        (number_at-there 8 key s (at + 2) r two (omega arith), rw e at (behind s (at + 2) (bytes_of 8 key) r 8 (length-bytes_of 8 key) two)),
      )

  pub mark-shown : (o : Option ℕ) (at : ℕ) (r : List ℕ) → MarkFits o → drop at s ≡ mark_bytes o ++ r → MarkShown s at o r
  unfolding mark_bytes number_bytes key_bytes mark_good
  mark-shown none at r fits h =
      let m = mark-read 0 0 at r (omega arith) (omega arith) h in
      record { words = rw (m.0, m.1.0); good = rw (m.0, m.1.0); next = m.1.1 }
  mark-shown (some k) at r fits h =
      let m = mark-read 1 k at r (omega arith) fits h in
      record { words = rw (m.0, m.1.0); good = rw m.0; next = m.1.1 }

-- ---- links

pub record LinkFits (l : Link) : Type 0 where
  pub place : l.place < 2 ^ 16
  pub low : l.low < 2 ^ 64
  pub high : l.high < 2 ^ 64
  pub number : l.number < 2 ^ 16

abbrev pub LinksFit : List Link → Type 0
LinksFit ls = (l : Link) → Memᴰ l ls → LinkFits l

pub length-link_bytes : (l : Link) → length (link_bytes l) ≡ link_width
unfolding link_bytes number_bytes key_bytes
length-link_bytes l = simp (length-append, length-bytes_of)

pub length-links_bytes : (ls : List Link) → length (flat (map link_bytes ls)) ≡ link_width * length ls
length-links_bytes [] = refl
length-links_bytes (l ∷ ls) =
    let r = length-links_bytes ls in
    rw length-append (omega (arith, length-link_bytes l))

module _ (s : List ℕ) where
  link-shown : (l : Link) (at : ℕ) (r : List ℕ) → LinkFits l → drop at s ≡ link_bytes l ++ r
      → (link_saved s at ≡ l) × (drop (at + link_width) s ≡ r)
  unfolding link_bytes number_bytes key_bytes
  link-shown l at r fits h =
      let p = bytes_of 2 l.place in
      let lo = bytes_of 8 l.low in
      let hi = bytes_of 8 l.high in
      let n = bytes_of 2 l.number in
      let whole : drop at s ≡ p ++ (lo ++ (hi ++ (n ++ r))) = h ∙ simp append_assoc in
      let two = behind s at p (lo ++ (hi ++ (n ++ r))) 2 (length-bytes_of 2 l.place) whole in
      let e10 : at + 2 + 8 ≡ at + 10 = omega arith in
      let ten = rw e10 at (behind s (at + 2) lo (hi ++ (n ++ r)) 8 (length-bytes_of 8 l.low) two) in
      let e18 : at + 10 + 8 ≡ at + 18 = omega arith in
      let eighteen = rw e18 at (behind s (at + 10) hi (n ++ r) 8 (length-bytes_of 8 l.high) ten) in
      let e20 : at + 18 + 2 ≡ at + 20 = omega arith in
      let place : number_at 2 s at ≡ l.place = number_at-there 2 l.place s at _ whole (omega (arith, fits.place)) in
      let low : number_at 8 s (at + 2) ≡ l.low = number_at-there 8 l.low s (at + 2) _ two (omega (arith, fits.low)) in
      let high : number_at 8 s (at + 10) ≡ l.high = number_at-there 8 l.high s (at + 10) _ ten (omega (arith, fits.high)) in
      let number : number_at 2 s (at + 18) ≡ l.number = number_at-there 2 l.number s (at + 18) r eighteen (omega (arith, fits.number)) in
      (rw (place, low, high, number), rw e20 at (behind s (at + 18) n r 2 (length-bytes_of 2 l.number) eighteen))

  links-shown : (ls : List Link) (at : ℕ) (r : List ℕ) → LinksFit ls → drop at s ≡ flat (map link_bytes ls) ++ r
      → (links_saved (length ls) s at ≡ ls) × (drop (at + link_width * length ls) s ≡ r)
  links-shown [] at r fits h = let e : at + link_width * 0 ≡ at = omega arith in (refl, rw e h)
  links-shown (l ∷ ls) at r fits h =
      let one = link-shown l at (flat (map link_bytes ls) ++ r) (fits l (Memᴰ.head refl))
      (h ∙ append_assoc (link_bytes l) (flat (map link_bytes ls)) r) in
      let rest = links-shown ls (at + link_width) r (λ l' m. fits l' (Memᴰ.tail m)) one.1 in
      let e : at + link_width + link_width * length ls ≡ at + link_width * suc (length ls) = omega arith in
      (rw (one.0, rest.0), rw e at rest.1)

-- ---- cards

pub record CardFits (c : Card) : Type 0 where
  pub few : length (links_of c) ≤ link_limit
  pub links : LinksFit (links_of c)

pub record CardShown (s : List ℕ) (at : ℕ) (c : Card) (r : List ℕ) : Type 0 where
  pub row : row_saved s at ≡ bare_row c
  pub to : card_to s at ≡ some (card_end s at)
  pub room : card_end s at ≤ length s
  pub next : drop (card_end s at) s ≡ r

state-small : (c : Card) → state_word c ≤ frozen_state
state-small free = omega arith
state-small (live ls) = omega arith
state-small frozen = omega arith

module _ (s : List ℕ) where
  pub card-shown : (c : Card) (at : ℕ) (r : List ℕ) → CardFits c → drop at s ≡ card_bytes c ++ r → CardShown s at c r
  unfolding card_bytes number_bytes row_saved row_with card_to
  card-shown c at r fits h =
      let n = length (links_of c) in
      let ls = flat (map link_bytes (links_of c)) in
      let few : n ≤ link_limit = fits.few in
      let small = state-small c in
      let whole : drop at s ≡ bytes_of 2 (state_word c) ++ (bytes_of 2 n ++ (ls ++ r)) = h ∙ simp append_assoc in
      let two = behind s at (bytes_of 2 (state_word c)) (bytes_of 2 n ++ (ls ++ r)) 2 (length-bytes_of 2 (state_word c)) whole in
      let e4 : at + 2 + 2 ≡ at + 4 = omega arith in
      let four = rw e4 at (behind s (at + 2) (bytes_of 2 n) (ls ++ r) 2 (length-bytes_of 2 n) two) in
      let state : number_at 2 s at ≡ state_word c = number_at-there 2 (state_word c) s at _ whole (omega arith) in
      let count : count_saved s at ≡ n = number_at-there 2 n s (at + 2) _ two (omega arith) in
      let links = links-shown s (links_of c) (at + 4) r fits.links four in
      let end : at + 4 + link_width * n ≡ card_end s at = rw count (omega arith) in
      let size : length (card_bytes c) ≡ card_head + link_width * n =
      simp (length-append, length-bytes_of) (omega (arith, length-links_bytes (links_of c))) in
      let long = stands s at (card_bytes c) r h (omega arith) in
      let room : card_end s at ≤ length s = rw count (omega arith) in
      let begun : at + card_head ≤ length s = omega arith in
      record {
        row = rw (state, count, links.0);
        to = rw (
          le-leb (at + card_head) (length s) begun,
          le-leb (number_at 2 s at) frozen_state (rw state small),
          le-leb (count_saved s at) link_limit (rw count few),
          le-leb (card_end s at) (length s) room,
        );
        room = room;
        next = rw end at links.1;
      }

  pub cards-shown : (cs : List Card) (at : ℕ) (r : List ℕ) → ((c : Card) → Memᴰ c cs → CardFits c)
      → at ≤ length s → drop at s ≡ flat (map card_bytes cs) ++ r
      → (rows_saved (length cs) s at ≡ map bare_row cs) × Ends (card_to s) (length cs) s at r
  cards-shown [] at r fits room h = (refl, record { end = at; turns = refl; room = room; next = h })
  cards-shown (c ∷ cs) at r fits room h =
      let one = card-shown c at (flat (map card_bytes cs) ++ r) (fits c (Memᴰ.head refl))
      (h ∙ append_assoc (card_bytes c) (flat (map card_bytes cs)) r) in
      let rest = cards-shown cs (card_end s at) r (λ d m. fits d (Memᴰ.tail m)) one.room one.next in
      let e = rest.1 in
      (rw (one.row, rest.0), record { end = e.end; turns = rw one.to e.turns; room = e.room; next = e.next })

-- ---- lists

abbrev pub ItemsFit : List ℕ → Type 0
ItemsFit ps = (p : ℕ) → Memᴰ p ps → p < 2 ^ 16

pub length-items_bytes : (ps : List ℕ) → length (flat (map number_bytes ps)) ≡ 2 * length ps
unfolding number_bytes
length-items_bytes [] = refl
length-items_bytes (p ∷ ps) =
    let r = length-items_bytes ps in
    rw length-append (omega (arith, length-bytes_of 2 p))

pub record ListShown (s : List ℕ) (at : ℕ) (ps r : List ℕ) : Type 0 where
  pub items : items_saved (number_at 2 s at) s (at + 2) ≡ ps
  pub to : list_to s at ≡ some (list_end s at)
  pub room : list_end s at ≤ length s
  pub next : drop (list_end s at) s ≡ r

module _ (s : List ℕ) where
  items_shown : (ps : List ℕ) (at : ℕ) (r : List ℕ) → ItemsFit ps → drop at s ≡ flat (map number_bytes ps) ++ r
      → (items_saved (length ps) s at ≡ ps) × (drop (at + 2 * length ps) s ≡ r)
  unfolding number_bytes
  items_shown [] at r fits h = let e : at + 2 * 0 ≡ at = omega arith in (refl, rw e h)
  items_shown (p ∷ ps) at r fits h =
      let tail = flat (map number_bytes ps) ++ r in
      let whole : drop at s ≡ bytes_of 2 p ++ tail = h ∙ append_assoc (bytes_of 2 p) (flat (map number_bytes ps)) r in
      let item : number_at 2 s at ≡ p = number_at-there 2 p s at tail whole (omega (arith, fits p (Memᴰ.head refl))) in
      let rest = items_shown ps (at + 2) r (λ q m. fits q (Memᴰ.tail m)) (behind s at (bytes_of 2 p) tail 2 (length-bytes_of 2 p) whole) in
      let e : at + 2 + 2 * length ps ≡ at + 2 * suc (length ps) = omega arith in
      (rw (item, rest.0), rw e at rest.1)

  pub list-shown : (ps : List ℕ) (at : ℕ) (r : List ℕ) → length ps ≤ places_saved s → length ps < 2 ^ 16 → ItemsFit ps
      → drop at s ≡ list_bytes ps ++ r → ListShown s at ps r
  unfolding list_bytes number_bytes list_to
  list-shown ps at r few small fits h =
      let is = flat (map number_bytes ps) in
      let whole : drop at s ≡ bytes_of 2 (length ps) ++ (is ++ r) = h ∙ append_assoc (bytes_of 2 (length ps)) is r in
      let two = behind s at (bytes_of 2 (length ps)) (is ++ r) 2 (length-bytes_of 2 (length ps)) whole in
      let count : number_at 2 s at ≡ length ps = number_at-there 2 (length ps) s at _ whole (omega arith) in
      let items = items_shown ps (at + 2) r fits two in
      let end : at + 2 + 2 * length ps ≡ list_end s at = rw count (omega arith) in
      let size : length (list_bytes ps) ≡ 2 + 2 * length ps = simp (length-append, length-bytes_of) (omega (arith, length-items_bytes ps)) in
      let long = stands s at (list_bytes ps) r h (omega arith) in
      let room : list_end s at ≤ length s = rw count (omega arith) in
      record {
        items = rw count items.0;
        to = rw (
          le-leb (at + 2) (length s) (omega arith),
          le-leb (number_at 2 s at) (places_saved s) (rw count few),
          le-leb (list_end s at) (length s) room,
        );
        room = room;
        next = rw end at items.1;
      }

  pub lists-shown : (pss : List (List ℕ)) (at : ℕ) (r : List ℕ)
      → ((ps : List ℕ) → Memᴰ ps pss → (length ps ≤ places_saved s) × ((length ps < 2 ^ 16) × ItemsFit ps))
      → at ≤ length s → drop at s ≡ flat (map list_bytes pss) ++ r
      → (lists_saved (length pss) s at ≡ pss) × Ends (list_to s) (length pss) s at r
  lists-shown [] at r fits room h = (refl, record { end = at; turns = refl; room = room; next = h })
  lists-shown (ps ∷ pss) at r fits room h =
      let f = fits ps (Memᴰ.head refl) in
      let one = list-shown ps at (flat (map list_bytes pss) ++ r) f.0 f.1.0 f.1.1
      (h ∙ append_assoc (list_bytes ps) (flat (map list_bytes pss)) r) in
      let rest = lists-shown pss (list_end s at) r (λ qs m. fits qs (Memᴰ.tail m)) one.room one.next in
      let e = rest.1 in
      (rw (one.items, rest.0), record { end = e.end; turns = rw one.to e.turns; room = e.room; next = e.next })

-- ---- memory entries

-- Keys below 2^64 and short values; the keys need not rise.
abbrev pub Small : List Entry → Type 0
Small [] = Unit {0}
Small (e ∷ es) = ((length (value_bytes e.value) ≤ value_limit) × (e.key < 2 ^ 64)) × Small es

pub small-valid : (low : ℕ) (es : List Entry) → Keys low (2 ^ 64) es → Values es → Small es
small-valid low [] ks vs = tt
small-valid low (e ∷ es) ks vs =
    let below = keys_below (suc e.key) (2 ^ 64) es ks.1 in
    ((vs.0.0, omega arith), small-valid (suc e.key) es ks.1 vs.1)

pub entries-shown : (s : List ℕ) (es : List Entry) (at : ℕ) (r : List ℕ) → Small es → at ≤ length s → drop at s ≡ entries_bytes es ++ r
    → (entries_at (length es) s at ≡ es) × Ends (entry_to s) (length es) s at r
unfolding entries_bytes entries_at entry_to entry_length
entries-shown s [] at r small room h = (refl, record { end = at; turns = refl; room = room; next = h })
entries-shown s (e ∷ es) at r small room h =
    let here = h ∙ append_assoc (entry_bytes e) (entries_bytes es) r in
    let t = shown-entry s at e (entries_bytes es ++ r) small.0.0 small.0.1 here in
    let size = length-entry_bytes e in
    let long = stands s at (entry_bytes e) (entries_bytes es ++ r) here (omega arith) in
    let len = t.len in
    let room' : at + length_at s at ≤ length s = omega arith in
    let to : entry_to s at ≡ some (at + length_at s at) =
    rw (le-leb (at + entry_head) (length s) (omega arith), t.form, le-leb (at + length_at s at) (length s) room') in
    let rest = entries-shown s es (at + length_at s at) r small.1 room' t.next in
    let x = rest.1 in
    (cc (t.entry, rest.0), record { end = x.end; turns = rw to x.turns; room = x.room; next = x.next })

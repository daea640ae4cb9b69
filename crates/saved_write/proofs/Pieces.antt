-- What the code writes of each piece is what the definition says of it: marks and rows by their words, the memory entries as they stand in the
-- table. And one turn of the loops: what is left begins with the bytes of the next link, card or list.
use Prim.Native.Nat.{ℕ, zero, suc, ◌+◌, ◌*◌, ◌-◌, ◌≤◌, ◌<◌}
use mathlib.Core.Path.{◌≡◌, refl, sym, ◌∙◌, ap}
use mathlib.Core.Bool.{true}
use mathlib.Core.Option.{Option, some, none}
use mathlib.Core.List.{List, [], ◌++◌, map, append-nil, append_assoc}
use native.Mathlib.Omega.{arith}
use Rattle.std.proofs.Common.{Fits, w8}
use native.Mathlib.Numerals.{add-one}
use lib.ListN.{length, get_or, take, drop, length-append, drop_of_length-le}
use lib.Seq.{drop-cons, drop_at, take-append_seam}
use Rattle.coding.specs.Number.{Bytes, bytes_of}
use Rattle.coding.proofs.NumberLaws.{length-bytes_of}
use Rattle.table.specs.Limits.{place_size, table_head}
use Rattle.table.specs.Entry.{Entry, length_at}
use Rattle.table.specs.Table.{zeros, entries_bytes, table_length, table_bytes, entries, count_of, is_memory, MemoryPlace}
use Rattle.table.proofs.Tests.{and_parts}
use Rattle.table.proofs.Entries.{length-entries}
use Rattle.table.proofs.Position.{good-parts, good-end}
use Rattle.table.proofs.Encode.{encode, length_back}
use Rattle.ldc.specs.Lists.{flat}
use Rattle.ldc.specs.Lent.{row_good}
use Rattle.ldc.specs.Layout.{level_count, mark_of, mark_words, mark_good, marks_of, marks_good, state_of, card_of, link_at, items_in}
use Rattle.ldc.proofs.Lent.Parts.{words-of-mark, state-of}
use Rattle.book.specs.Row.{links_in}
use Rattle.book.proofs.Rows.{links-cons}
use Rattle.wire.specs.Reply.{numbers}
use Rattle.saved_book.specs.Saved.{number_bytes, key_bytes, mark_bytes, link_bytes, card_bytes, list_bytes, memory_bytes}
use Rattle.saved_book.specs.Form.{card_head, link_width}
use Rattle.saved_write.specs.Book.{levels_in, cards_bytes}
use Rattle.saved_write.proofs.Widths.{length-card}

-- ---- marks

-- The two words of a mark.
mark-bytes : (m : Option ℕ) → number_bytes (get_or (mark_words m) 0 0) ++ key_bytes (get_or (mark_words m) 1 0) ≡ mark_bytes m
unfolding mark_bytes
mark-bytes none = refl
mark-bytes (some k) = refl

mark-put : (flag key : ℕ) → mark_good flag key ≡ true → number_bytes flag ++ key_bytes key ≡ mark_bytes (mark_of flag key)
mark-put flag key h = rw (words-of-mark flag key h) at (mark-bytes (mark_of flag key))

pub marks-put : (head : List ℕ) → marks_good head ≡ true
    → number_bytes (get_or head 2 0) ++ key_bytes (get_or head 3 0) ++ (number_bytes (get_or head 4 0) ++ key_bytes (get_or head 5 0))
    ≡ flat (map mark_bytes (marks_of head))
marks-put head h =
    let good = and_parts (mark_good (get_or head 2 0) (get_or head 3 0)) (mark_good (get_or head 4 0) (get_or head 5 0)) h in
    rw (mark-put (get_or head 2 0) (get_or head 3 0) good.0, mark-put (get_or head 4 0) (get_or head 5 0) good.1, append-nil)

-- ---- cards

module _ (row : List ℕ) where
  pub card-put : row_good row ≡ true → {state count : ℕ} → state ≡ state_of row → count ≡ length (links_in row)
      → number_bytes state ++ number_bytes count ++ flat (map link_bytes (links_in row)) ≡ card_bytes (card_of row)
  unfolding card_bytes links_in
  card-put good p q = rw (p, q, state-of row good)

  pub card-long : length (card_bytes (card_of row)) ≡ card_head + link_width * length (links_in row)
  unfolding links_in
  card-long = length-card (card_of row)

  pub links-turn : (i : ℕ) → i < length (links_in row)
      → flat (map link_bytes (drop i (links_in row))) ≡ link_bytes (link_at row i) ++ flat (map link_bytes (drop (i + 1) (links_in row)))
  links-turn i h = rw (links-cons row i h)

  pub links-none : (i : ℕ) → length (links_in row) ≤ i → flat (map link_bytes (drop i (links_in row))) ≡ []
  links-none i h = rw (drop_of_length-le (links_in row) {i = i} h)

module _ (cards : List (List ℕ)) where
  pub cards-turn : (i : ℕ) → i < length cards
      → cards_bytes (drop i cards) ≡ card_bytes (card_of (get_or cards i [])) ++ cards_bytes (drop (i + 1) cards)
  cards-turn i h = rw (add-one i, drop-cons cards i [] h)

  pub cards-long : (i : ℕ) → i < length cards
      → length (cards_bytes (drop i cards))
      ≡ card_head + link_width * length (links_in (get_or cards i [])) + length (cards_bytes (drop (i + 1) cards))
  cards-long i h =
      ap length (cards-turn i h)
      ∙ length-append (card_bytes (card_of (get_or cards i []))) (cards_bytes (drop (i + 1) cards))
      ∙ rw (card-long (get_or cards i []))

  pub cards-none : (i : ℕ) → length cards ≤ i → cards_bytes (drop i cards) ≡ []
  cards-none i h = rw (drop_of_length-le cards {i = i} h)

-- ---- lists

module _ (places : ℕ) (lists head : List ℕ) where
  level-at : (n : ℕ) → n < level_count → get_or (levels_in places lists head) n [] ≡ items_in places lists head n
  level-at zero h = refl
  level-at (suc zero) h = refl
  level-at (suc (suc zero)) h = refl
  level-at (suc (suc (suc zero))) h = refl
  level-at (suc (suc (suc (suc n)))) h = absurd (omega arith)

  pub levels-turn : (n : ℕ) → n < level_count
      → flat (map list_bytes (drop n (levels_in places lists head)))
      ≡ list_bytes (items_in places lists head n) ++ flat (map list_bytes (drop (n + 1) (levels_in places lists head)))
  levels-turn n h = rw (add-one n, drop-cons (levels_in places lists head) n [] h, level-at n h)

  pub levels-none : (n : ℕ) → level_count ≤ n → flat (map list_bytes (drop n (levels_in places lists head))) ≡ []
  levels-none n h = rw (drop_of_length-le (levels_in places lists head) {i = n} h)

-- ---- items and memory entries

pub numbers-put : (ps : List ℕ) → numbers ps ≡ flat (map number_bytes ps)
unfolding numbers number_bytes
numbers-put ps = refl

-- In a table's bytes those of the entries stand behind the head.
table-entries : (es : List Entry) → take (length (entries_bytes es)) (drop table_head (table_bytes es)) ≡ entries_bytes es
unfolding table_bytes
table-entries es =
    let head : List ℕ = bytes_of 2 (table_length es) ++ bytes_of 2 32 ++ bytes_of 2 (length es) ++ bytes_of 2 0 in
    let rest : List ℕ = zeros (place_size - table_length es) in
    let eight : length head ≡ table_head = simp (length-append, length-bytes_of) in
    rw (append_assoc head (entries_bytes es) rest, drop_at head (entries_bytes es ++ rest) table_head eight)
    (take-append_seam (entries_bytes es) rest)

module _ (s : List ℕ) (fits : (i : ℕ) → Fits w8 (get_or s i 0)) (place : MemoryPlace s) where
  bytes : Bytes s
  bytes = λ i. omega (arith, fits i)

  -- The bytes of the entries end at the length in use.
  pub entries-long : table_head + length (entries_bytes (entries s)) ≡ length_at s 0
  unfolding table_length is_memory
  entries-long = length_back s bytes place.0 0 place.1

  pub entries-put : take (length_at s 0 - table_head) (drop table_head s) ≡ entries_bytes (entries s)
  unfolding is_memory
  entries-put =
      let long : length_at s 0 - table_head ≡ length (entries_bytes (entries s)) = omega (arith, entries-long) in
      rw long (ap (λ (x : List ℕ). take (length (entries_bytes (entries s))) (drop table_head x)) (sym (encode s bytes place.0 0 place.1))
      ∙ table-entries (entries s))

  -- The entries with their count.
  pub memory-put : {n end : ℕ} → n ≡ count_of s → end ≡ length_at s 0
      → number_bytes n ++ take (end - table_head) (drop table_head s) ≡ memory_bytes (entries s)
  unfolding memory_bytes
  memory-put p q = rw (p, q, entries-put, length-entries s)

  -- A table's length in use is not beyond its place.
  pub in_place : length_at s 0 ≤ place_size
  unfolding is_memory
  in_place =
      let parts = good-parts 0 s place.1 in
      omega (arith, good-end (count_of s) s table_head 0 (length_at s 0) parts.good, parts.few)

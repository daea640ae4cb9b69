-- The layout of the book in lent memory (docs/DECISIONS.md, 1): a card in its row of words, the ten words of the head, a level's list
-- in its part of the lists. Which word means what is said here and nowhere else. Any numbers at all may be lent, so everything is total.
use Rattle.std.specs.Prelude.{ℕ, zero, suc, ◌+◌, ◌*◌, ◌-◌, min, Bool, cond, ◌&&◌, ◌||◌, eqb}
use Rattle.std.specs.Prelude.{List, [], ◌∷◌, ◌++◌, length, get_or, take, drop}
use Rattle.std.proofs.Math.Option.{Option, some, none}
use Rattle.table.specs.Table.{zeros, entries}
use Rattle.summary.specs.Summary.{summary_words, summary_of, keys_of, words_of}
use Rattle.ldc.specs.Store.{Link, Card, free, live, frozen, links_of, is_free}

-- ---- how many

-- An area has at least and at most so many places, and there are so many level lists.
abbrev pub fewest_places : ℕ
fewest_places = 16

abbrev pub most_places : ℕ
most_places = 4096

abbrev pub level_count : ℕ
level_count = 4

-- A row has room for so many links.
abbrev pub link_limit : ℕ
link_limit = 8

-- ---- a row: state, link count, then the words of each link, and those of the summary

-- The words before the links, those of one link, where the summary's words begin, and those of a row.
abbrev pub row_head : ℕ
row_head = 2

abbrev pub link_size : ℕ
link_size = 4

abbrev pub summary_start : ℕ
summary_start = row_head + link_size * link_limit

abbrev pub row_size : ℕ
row_size = summary_start + summary_words

-- The states of a place; any other state word says free, too.
abbrev pub free_state : ℕ
free_state = 0

abbrev pub live_state : ℕ
live_state = 1

abbrev pub frozen_state : ℕ
frozen_state = 2

unfoldable pub state_of : List ℕ → ℕ
state_of row = get_or row 0 0

unfoldable pub link_count : List ℕ → ℕ
link_count row = get_or row 1 0

-- Where the words of the i-th link begin.
abbrev pub link_start : (i : ℕ) → ℕ
link_start i = row_head + link_size * i

-- The link whose words stand at a position, and the i-th of a row.
abbrev pub link_from : List ℕ → (at : ℕ) → Link
link_from row at =
    record { place = get_or row at 0; low = get_or row (at + 1) 0; high = get_or row (at + 2) 0; number = get_or row (at + 3) 0 }

unfoldable pub link_at : List ℕ → (i : ℕ) → Link
link_at row i = link_from row (link_start i)

abbrev pub links_at : (n : ℕ) → List ℕ → (at : ℕ) → List Link
links_at zero row at = []
links_at (suc n) row at = link_from row at ∷ links_at n row (at + link_size)

-- The card that a row says. Of a count above the limit only so many links are there.
unfoldable pub card_of : List ℕ → Card
card_of row =
    cond (eqb (state_of row) live_state)
    (live (links_at (min (link_count row) link_limit) row row_head))
    (cond (eqb (state_of row) frozen_state) frozen free)

abbrev pub state_word : Card → ℕ
state_word free = free_state
state_word (live ls) = live_state
state_word frozen = frozen_state

abbrev pub link_words : List Link → List ℕ
link_words [] = []
link_words (l ∷ ls) = l.place ∷ l.low ∷ l.high ∷ l.number ∷ link_words ls

-- The words of a card's summary in its row.
abbrev pub summary_in : List ℕ → List ℕ
summary_in row = drop summary_start row

-- The summary of the table that a place's bytes show, in words.
unfoldable pub table_summary : (bytes : List ℕ) → List ℕ
table_summary bytes = words_of (summary_of (keys_of (entries bytes)))

-- The summary on the card of a place with these bytes: a free place has none.
abbrev pub summary_on : Card → (bytes : List ℕ) → List ℕ
summary_on free bytes = zeros summary_words
summary_on (live ls) bytes = table_summary bytes
summary_on frozen bytes = table_summary bytes

-- The row of a card with this summary; words not in use are zero.
unfoldable pub row_with : Card → (summary : List ℕ) → List ℕ
row_with c summary =
    state_word c ∷ length (links_of c) ∷ link_words (links_of c)
    ++ (zeros (link_size * link_limit - link_size * length (links_of c)) ++ summary)

-- The row of the card of a place with these bytes, and the rows of all.
unfoldable pub row_of : Card → (bytes : List ℕ) → List ℕ
row_of c bytes = row_with c (summary_on c bytes)

abbrev pub rows_of : List Card → (places : List (List ℕ)) → List (List ℕ)
rows_of [] places = []
rows_of (c ∷ cs) [] = row_of c [] ∷ rows_of cs []
rows_of (c ∷ cs) (bytes ∷ places) = row_of c bytes ∷ rows_of cs places

-- The words of a row that are not in use: those behind its links, and those of the summary where the place is free.
unfoldable pub row_rest : List ℕ → List ℕ
row_rest row = drop (link_start (link_count row)) (take summary_start row) ++ cond (is_free (card_of row)) (summary_in row) []

-- ---- the head: threshold, cursor, flag and key of the marks of levels 1 and 2, the lengths of lists 0 to 3

abbrev pub head_size : ℕ
head_size = 10

abbrev pub threshold_in : (head : List ℕ) → ℕ
threshold_in head = get_or head 0 0

abbrev pub cursor_word : ℕ
cursor_word = 1

abbrev pub cursor_in : (head : List ℕ) → ℕ
cursor_in head = get_or head cursor_word 0

-- Where the length of a level's list stands, and the length.
abbrev pub length_word : (level : ℕ) → ℕ
length_word n = 6 + n

abbrev pub length_in : (head : List ℕ) → (level : ℕ) → ℕ
length_in head n = get_or head (length_word n) 0

-- A flag of 0 means no mark.
unfoldable pub mark_of : (flag key : ℕ) → Option ℕ
mark_of flag key = cond (eqb flag 0) none (some key)

abbrev pub marks_of : (head : List ℕ) → List (Option ℕ)
marks_of head = mark_of (get_or head 2 0) (get_or head 3 0) ∷ mark_of (get_or head 4 0) (get_or head 5 0) ∷ []

abbrev pub mark_words : Option ℕ → List ℕ
mark_words none = 0 ∷ 0 ∷ []
mark_words (some k) = 1 ∷ k ∷ []

-- A flag is 1, or 0 with a key of 0.
unfoldable pub mark_good : (flag key : ℕ) → Bool
mark_good flag key = eqb flag 1 || (eqb flag 0 && eqb key 0)

abbrev pub marks_good : (head : List ℕ) → Bool
marks_good head = mark_good (get_or head 2 0) (get_or head 3 0) && mark_good (get_or head 4 0) (get_or head 5 0)

-- ---- the lists: level n's part starts at item n times the number of places; items in use come first

abbrev pub part_in : (places : ℕ) → (lists : List ℕ) → (level : ℕ) → List ℕ
part_in places lists n = take places (drop (n * places) lists)

abbrev pub items_in : (places : ℕ) → (lists head : List ℕ) → (level : ℕ) → List ℕ
items_in places lists head n = take (length_in head n) (part_in places lists n)

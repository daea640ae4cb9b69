-- Number 21 (document 02, note 4): are these bytes of the form of a saved book? Any bytes at all may be given. Each field is told by the position
-- at which it stands; behind it stands the next.
use Rattle.std.specs.Prelude.{ℕ, zero, suc, ◌+◌, ◌*◌, List, Bool, false, cond, ◌&&◌, leb, eqb, length}
use Rattle.std.proofs.Math.Option.{Option, some, none, get_or}
use Rattle.coding.specs.Number.{number_at}
use Rattle.table.specs.Limits.{entry_head, table_limit}
use Rattle.table.specs.Entry.{length_at, kind_at, entry_form}
use Rattle.ldc.specs.Layout.{fewest_places, most_places, level_count, link_limit, frozen_state, mark_good}
use Rattle.saved_book.specs.Saved.{saved_kind, whole_size}

-- ---- the head: length of the whole, kind, P, T, cursor, flag and key of each mark

abbrev pub whole_in : List ℕ → ℕ
whole_in s = number_at whole_size s 0

abbrev pub kind_in : List ℕ → ℕ
kind_in s = number_at 2 s 4

-- P, the number of places saved.
abbrev pub places_saved : List ℕ → ℕ
places_saved s = number_at 2 s 6

abbrev pub threshold_saved : List ℕ → ℕ
threshold_saved s = number_at 2 s 8

abbrev pub cursor_saved : List ℕ → ℕ
cursor_saved s = number_at 2 s 10

-- Flag and key of the mark of level 1, and of level 2.
abbrev pub flag_saved1 : List ℕ → ℕ
flag_saved1 s = number_at 2 s 12

abbrev pub key_saved1 : List ℕ → ℕ
key_saved1 s = number_at 8 s 14

abbrev pub flag_saved2 : List ℕ → ℕ
flag_saved2 s = number_at 2 s 22

abbrev pub key_saved2 : List ℕ → ℕ
key_saved2 s = number_at 8 s 24

-- Where the cards begin.
abbrev pub cards_start : ℕ
cards_start = 32

unfoldable pub head_form : List ℕ → Bool
head_form s =
    leb cards_start (length s)
    && (eqb (whole_in s) (length s)
    && (eqb (kind_in s) saved_kind
    && (leb fewest_places (places_saved s)
    && (leb (places_saved s) most_places
    && (mark_good (flag_saved1 s) (key_saved1 s) && mark_good (flag_saved2 s) (key_saved2 s))))))

-- ---- the other fields: where the one at a position ends, if it stands there whole and in its form

-- The bytes of a card before its links, and of a link.
abbrev pub card_head : ℕ
card_head = 4

abbrev pub link_width : ℕ
link_width = 20

abbrev pub count_saved : List ℕ → (at : ℕ) → ℕ
count_saved s at = number_at 2 s (at + 2)

abbrev pub card_end : List ℕ → (at : ℕ) → ℕ
card_end s at = at + (card_head + link_width * count_saved s at)

-- A card: a state of 0 to 2, at most 8 links.
unfoldable pub card_to : List ℕ → (at : ℕ) → Option ℕ
card_to s at =
    cond (leb (at + card_head) (length s)
    && (leb (number_at 2 s at) frozen_state
    && (leb (count_saved s at) link_limit && leb (card_end s at) (length s))))
    (some (card_end s at))
    none

abbrev pub list_end : List ℕ → (at : ℕ) → ℕ
list_end s at = at + (2 + 2 * number_at 2 s at)

-- A list: at most P places.
unfoldable pub list_to : List ℕ → (at : ℕ) → Option ℕ
list_to s at =
    cond (leb (at + 2) (length s)
    && (leb (number_at 2 s at) (places_saved s) && leb (list_end s at) (length s)))
    (some (list_end s at))
    none

-- An entry, by its own form.
unfoldable pub entry_to : List ℕ → (at : ℕ) → Option ℕ
entry_to s at =
    cond (leb (at + entry_head) (length s)
    && (entry_form (kind_at s at) (length_at s at) && leb (at + length_at s at) (length s)))
    (some (at + length_at s at))
    none

-- What follows where there is an end.
abbrev pub then : Option ℕ → (ℕ → Option ℕ) → Option ℕ
then none f = none
then (some at) f = f at

-- So many fields, one behind the other.
abbrev pub in_turn : (n : ℕ) → (ℕ → Option ℕ) → (at : ℕ) → Option ℕ
in_turn zero f at = some at
in_turn (suc n) f at = then (f at) (in_turn n f)

-- The memory entries: at most 16.
unfoldable pub memory_to : List ℕ → (at : ℕ) → Option ℕ
memory_to s at =
    cond (leb (at + 2) (length s) && leb (number_at 2 s at) table_limit)
    (in_turn (number_at 2 s at) (entry_to s) (at + 2))
    none

-- ---- the whole

-- Where the cards end, and the lists; the memory entries stand behind these.
unfoldable pub cards_to : List ℕ → Option ℕ
cards_to s = in_turn (places_saved s) (card_to s) cards_start

unfoldable pub lists_to : List ℕ → (at : ℕ) → Option ℕ
lists_to s at = in_turn level_count (list_to s) at

abbrev pub ends_at : Option ℕ → (end : ℕ) → Bool
ends_at none end = false
ends_at (some at) end = eqb at end

-- Bytes of this form: the fields stand one behind the other, and the last ends where the bytes end.
unfoldable pub saved_form : List ℕ → Bool
saved_form s = head_form s && ends_at (then (then (cards_to s) (lists_to s)) (memory_to s)) (length s)

-- Where the lists begin, and the memory entries with their count, in bytes of this form.
unfoldable pub lists_start : List ℕ → ℕ
lists_start s = get_or (cards_to s) 0

unfoldable pub memory_start : List ℕ → ℕ
memory_start s = get_or (lists_to s (lists_start s)) 0

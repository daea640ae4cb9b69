-- Save and open (document 02, note 4), with their refusals.
use Rattle.std.specs.Prelude.{ℕ, ◌+◌, ◌*◌, List, cond, ◌||◌, ltb, eqb, length}
use Rattle.std.proofs.lemmas.List.Edits.{sets}
use Rattle.table.specs.Limits.{table_limit, entry_limit}
use Rattle.ldc.specs.Lists.{is_empty}
use Rattle.ldc.specs.Layout.{level_count, link_limit}
use Rattle.ldc.specs.Lent.{Lent, places_in, sizes_good, store_of, broken}
use Rattle.ldc.specs.Run.{accepted, wrong_sizes, short_answer, unsound, not_a_book, fewer_places}
use Rattle.saved_book.specs.Saved.{saved_bytes}
use Rattle.saved_book.specs.Form.{places_saved, cards_start, card_head, link_width, saved_form}
use Rattle.saved_book.specs.Opened.{opened_over}

-- ---- save

-- What saving returns and leaves: its number, the saved length, and the buffer. (The store is only read.)
pub record Saving : Type 0 where
  pub number : ℕ
  pub written : ℕ
  pub buffer : List ℕ

abbrev pub saving : (number written : ℕ) → (buffer : List ℕ) → Saving
saving number written buffer = record { number = number; written = written; buffer = buffer }

-- A refusal changes nothing; the saved length is then 0.
abbrev pub refused_save : (number : ℕ) → (buffer : List ℕ) → Saving
refused_save number buffer = saving number 0 buffer

-- Bytes of the buffer beyond the saved length are untouched.
abbrev pub accepted_save : (bytes buffer : List ℕ) → Saving
accepted_save bytes buffer = saving accepted (length bytes) (sets buffer 0 bytes)

-- 1 and 5, then 3 for a buffer shorter than the whole.
unfoldable pub save_book : Lent → (buffer : List ℕ) → Saving
save_book m buffer =
    cond (sizes_good m)
    (cond (is_empty (broken m))
    (cond (ltb (length buffer) (length (saved_bytes (store_of m))))
    (refused_save short_answer buffer)
    (accepted_save (saved_bytes (store_of m)) buffer))
    (refused_save unsound buffer))
    (refused_save wrong_sizes buffer)

-- A buffer of so many bytes has room for every saved book of so many places: each card with 8 links, each place in a list, 16 longest entries.
unfoldable pub longest_book : (places : ℕ) → ℕ
longest_book places =
    cards_start + (places * (card_head + link_width * link_limit) + ((level_count * 2 + 2 * places) + (2 + table_limit * entry_limit)))

-- ---- open

-- What opening returns and leaves: its number, and the lent memory.
pub record Opening : Type 0 where
  pub number : ℕ
  pub lent : Lent

abbrev pub opening : (number : ℕ) → Lent → Opening
opening number m = record { number = number; lent = m }

-- 1, 21, 22, then 5 for the store as opened; a refusal changes nothing. Of what is lent the area alone matters, and it is never changed.
unfoldable pub open_book : Lent → (bytes : List ℕ) → Opening
open_book m bytes =
    cond (sizes_good m)
    (cond (saved_form bytes)
    (cond (ltb (places_in m.area) (places_saved bytes))
    (opening fewer_places m)
    (cond (is_empty (broken (opened_over m.area bytes)))
    (opening accepted (opened_over m.area bytes))
    (opening unsound m)))
    (opening not_a_book m))
    (opening wrong_sizes m)

-- ---- working rows beside the book

-- Another number of working rows than cards is refused by 1.
unfoldable pub open_with : (working : List (List ℕ)) → Lent → (bytes : List ℕ) → Opening
open_with working m bytes = cond (eqb (length working) (length m.cards)) (open_book m bytes) (opening wrong_sizes m)

-- What they hold after it: with 0 and 5 the rows of the store as opened, which had to be judged; with 1, 21 and 22 they stay.
unfoldable pub working_after : (number : ℕ) → (working : List (List ℕ)) → (area bytes : List ℕ) → List (List ℕ)
working_after number working area bytes =
    cond (eqb number accepted || eqb number unsound) (opened_over area bytes).cards working

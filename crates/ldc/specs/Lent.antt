-- The lent memory (docs/DECISIONS.md, 1 to 8): the bytes and numbers of a store, the store that they show, and the rules that they break.
-- Any numbers at all may be lent, so everything here is total.
use Rattle.std.specs.Prelude.{ℕ, zero, suc, ◌*◌, ◌/◌, ◌%◌, ◌-◌, Bool, cond, not, ◌&&◌, ◌||◌, leb, eqb}
use Rattle.std.specs.Prelude.{List, [], ◌∷◌, ◌++◌, map, length, get_or, take, drop}
use Rattle.table.specs.Limits.{place_size}
use Rattle.table.specs.Table.{entries, table_bytes, is_memory, all_zero, zeros}
use Rattle.ldc.specs.Lists.{all, flat, all_from}
use Rattle.summary.specs.Summary.{same_words}
use Rattle.ldc.specs.Store.{Store, is_free, bytes_at}
use Rattle.ldc.specs.Rules.{rule_a, rule_b, rule_c, rule_e, rule_f, rule_g}
use Rattle.ldc.specs.Layout.{fewest_places, most_places, level_count, live_state, frozen_state, state_of, link_count, card_of}
use Rattle.ldc.specs.Layout.{summary_in, table_summary, rows_of, row_rest}
use Rattle.ldc.specs.Layout.{threshold_in, cursor_in, length_in, marks_of, mark_words, marks_good, part_in, items_in}

-- Bytes of all places; a row of words for each card; the four lists, one after the other; the words of the head; the memory table's bytes.
pub record Lent : Type 0 where
  pub area : List ℕ
  pub cards : List (List ℕ)
  pub lists : List ℕ
  pub head : List ℕ
  pub memory : List ℕ

-- ---- number 1: sizes

unfoldable pub places_in : List ℕ → ℕ
places_in area = length area / place_size

-- Whole places, 16 to 4,096, as many cards, and as many items in each of the four lists.
unfoldable pub sizes_good : Lent → Bool
sizes_good m =
    eqb (length m.area % place_size) 0
    && (leb fewest_places (places_in m.area)
    && (leb (places_in m.area) most_places
    && (eqb (length m.cards) (places_in m.area)
    && eqb (length m.lists) (level_count * places_in m.area))))

-- ---- the numbers by name

abbrev pub list_length : Lent → ℕ → ℕ
list_length m n = length_in m.head n

-- The part of the lists that is level n's, in use and not.
abbrev pub list_part : Lent → ℕ → List ℕ
list_part m n = part_in (places_in m.area) m.lists n

-- ---- from lent memory to the store

abbrev pub chop : ℕ → List ℕ → List (List ℕ)
chop zero s = []
chop (suc n) s = take place_size s ∷ chop n (drop place_size s)

unfoldable pub level_of : Lent → ℕ → List ℕ
level_of m n = items_in (places_in m.area) m.lists m.head n

unfoldable pub store_of : Lent → Store
store_of m = record {
  threshold = threshold_in m.head;
  cursor = cursor_in m.head;
  marks = marks_of m.head;
  levels = level_of m 0 ∷ level_of m 1 ∷ level_of m 2 ∷ level_of m 3 ∷ [];
  cards = map card_of m.cards;
  places = chop (places_in m.area) m.area;
  memory = entries m.memory;
}

-- ---- from the store to lent memory

-- Parts not in use are zero.
unfoldable pub lent_of : Store → Lent
lent_of s = record {
  area = flat s.places;
  cards = rows_of s.cards s.places;
  lists = flat (map (λ ps. ps ++ zeros (length s.places - length ps)) s.levels);
  head = s.threshold ∷ s.cursor ∷ flat (map mark_words s.marks) ++ map (λ ps. length ps) s.levels;
  memory = table_bytes s.memory;
}

-- ---- number 5: the rules on lent memory

-- What rule B says of numbers: a state is one of three, a list is not longer than its part, only live cards hold links.
unfoldable pub row_good : List ℕ → Bool
row_good row = eqb (state_of row) live_state || (leb (state_of row) frozen_state && eqb (link_count row) 0)

unfoldable pub numbers_good : Lent → Bool
numbers_good m =
    all row_good m.cards
    && all_from level_count 0 (λ n. leb (list_length m n) (places_in m.area))

-- What rule C says of numbers: the bits of live and frozen cards are right.
unfoldable pub summary_good : (row bytes : List ℕ) → Bool
summary_good row bytes = is_free (card_of row) || same_words (summary_in row) (table_summary bytes)

unfoldable pub summaries_good : Lent → Bool
summaries_good m = all_from (length m.cards) 0 (λ p. summary_good (get_or m.cards p []) (bytes_at (store_of m) p))

-- What rule E says of numbers: at most T links a table.
unfoldable pub counts_good : Lent → Bool
counts_good m = all (λ row. leb (link_count row) (threshold_in m.head)) m.cards

-- What rule G says of numbers: parts of the book not in use are zero.
unfoldable pub unused_zero : Lent → Bool
unused_zero m =
    marks_good m.head
    && (all (λ row. all_zero (row_rest row)) m.cards
    && all_from level_count 0 (λ n. all_zero (drop (list_length m n) (list_part m n))))

-- Is a rule broken? E, F and G presuppose B and C, and count as kept where one of these is broken. (That does not show: the letter is then B, C
-- or an earlier one.)
unfoldable pub kept_b : Lent → Bool
kept_b m = numbers_good m && rule_b (store_of m)

unfoldable pub kept_c : Lent → Bool
kept_c m = rule_c (store_of m) && summaries_good m

unfoldable pub presupposed : Lent → Bool
presupposed m = kept_b m && kept_c m

unfoldable pub kept_e : Lent → Bool
kept_e m = not (presupposed m) || (counts_good m && rule_e (store_of m))

unfoldable pub kept_f : Lent → Bool
kept_f m = not (presupposed m) || rule_f (store_of m)

unfoldable pub kept_g : Lent → Bool
kept_g m = not (presupposed m) || (unused_zero m && rule_g (store_of m))

-- The letters of the rules, as ASCII codes.
abbrev pub letter_a : ℕ
letter_a = 65

abbrev pub letter_b : ℕ
letter_b = 66

abbrev pub letter_c : ℕ
letter_c = 67

abbrev pub letter_d : ℕ
letter_d = 68

abbrev pub letter_e : ℕ
letter_e = 69

abbrev pub letter_f : ℕ
letter_f = 70

abbrev pub letter_g : ℕ
letter_g = 71

-- The letters of the broken rules, in the order A to G.
abbrev pub letter : Bool → ℕ → List ℕ
letter kept l = cond kept [] (l ∷ [])

unfoldable pub broken : Lent → List ℕ
broken m =
    letter (rule_a (store_of m)) letter_a
    ++ (letter (kept_b m) letter_b
    ++ (letter (kept_c m) letter_c
    ++ (letter (is_memory m.memory) letter_d
    ++ (letter (kept_e m) letter_e
    ++ (letter (kept_f m) letter_f
    ++ letter (kept_g m) letter_g)))))

-- The first broken rule in the order A to G; 0 where none is broken.
unfoldable pub first_broken : Lent → ℕ
first_broken m = get_or (broken m) 0 0

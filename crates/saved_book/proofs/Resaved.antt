-- Encode after decode, the whole: bytes of the form of a saved book, opened over as many places as they name without a broken rule, are just the
-- bytes that saving the opened store writes. First what that store is, field by field; then its bytes from the last field to the first.
use Prim.Native.Nat.{ℕ, suc, ◌+◌, ◌-◌, ◌≤◌, ◌<◌}
use mathlib.Core.Path.{◌≡◌, sym, ◌∙◌, ap}
use mathlib.Core.Bool.{true}
use mathlib.Core.List.{List, [], ◌∷◌, ◌++◌, map, append_assoc, append-nil, Memᴰ}
use native.Mathlib.Omega.{arith}
use lib.ListN.{length, get_or, take, drop, length-drop, length-map}
use lib.Seq.{drop-length, take-append_seam}
use Rattle.coding.specs.Number.{number_at, Bytes}
use Rattle.coding.proofs.NumberLaws.{number-back}
use Rattle.table.specs.Limits.{place_size, table_head, table_limit}
use Rattle.table.specs.Entry.{Entry}
use Rattle.table.specs.Table.{zeros, entries_bytes, entries_at, entries, table_length, table_bytes}
use Rattle.table.specs.Valid.{Values}
use Rattle.table.proofs.Decode.{entries-short, head-shown, length-table_bytes}
use Rattle.table.proofs.Entries.{length-entries_at}
use Rattle.table.proofs.Tests.{and_parts}
use Rattle.ldc.specs.Lists.{all, flat}
use Rattle.ldc.specs.Store.{Store, size}
use Rattle.ldc.specs.Layout.{level_count, card_of, mark_of, part_in}
use Rattle.ldc.specs.Lent.{places_in, chop, level_of, store_of, row_good, numbers_good, broken}
use Rattle.ldc.proofs.Basics.ListLaws.{get_d_map, mem-get_or, spell, Each, get_or-parts, parts-flat}
use Rattle.ldc.proofs.Lent.Parts.{padded, length-padded}
use Rattle.ldc.proofs.Lent.Rules.{unbroken}
use Rattle.saved_book.specs.Saved.{whole_size, number_bytes, list_bytes, memory_bytes, field_bytes, saved_bytes}
use Rattle.saved_book.specs.Form.{whole_in, places_saved, threshold_saved, cursor_saved, flag_saved1, key_saved1, flag_saved2, key_saved2, cards_start}
use Rattle.saved_book.specs.Form.{saved_form, lists_start, memory_start}
use Rattle.saved_book.specs.Opened.{rows_saved, opened_rows, levels_saved, opened_lists, opened_head, opened_memory, opened_over, summed_rows}
use Rattle.saved_book.proofs.Forms.{FormIn, form-parts}
use Rattle.saved_book.proofs.Summed.{cards-summed, good-summed}
use Rattle.saved_book.proofs.Shown.{Small, entries-shown}
use Rattle.saved_book.proofs.Encode.{length-rows_saved, length-lists_saved, lists-few, mark-back, cards-back, lists_back, entries-back}

-- ---- pieces of lent memory

-- A table of entries, keys rising or not, shows them.
table-shows : (es : List Entry) → Small es → Values es → length es ≤ table_limit → entries (table_bytes es) ≡ es
unfolding entries table_length
table-shows es small values few =
    let fits : table_length es ≤ place_size = omega (arith, entries-short es values) in
    let h = head-shown es fits few in
    let long = length-table_bytes es fits in
    rw h.count (entries-shown (table_bytes es) es table_head _ small (omega arith) h.body).0

-- A list in its part of the lists is read back.
part-read : (places : ℕ) (pss : List (List ℕ)) → ((ps : List ℕ) → Memᴰ ps pss → length ps ≤ places)
    → (n : ℕ) → n < length pss
    → take (length (get_or pss n [])) (part_in places (flat (map (padded places) pss)) n) ≡ get_or pss n []
part-read places pss fit n h =
    let laid = map (padded places) pss in
    let long : length laid ≡ length pss = length-map pss (padded places) in
    let each : Each places laid =
    λ i near. let close : i < length pss = omega arith in
    rw (get_d_map (padded places) pss i [] [] close)
    (length-padded places (get_or pss i []) (fit (get_or pss i []) (mem-get_or pss i [] close))) in
    let part : part_in places (flat laid) n ≡ padded places (get_or pss n []) =
    sym (get_or-parts places (length laid) (flat laid) n (omega arith))
    ∙ ap (λ (xss : List (List ℕ)). get_or xss n []) (parts-flat places laid each)
    ∙ get_d_map (padded places) pss n [] [] h in
    rw part (take-append_seam (get_or pss n []) (zeros (places - length (get_or pss n []))))

module _ (area b : List ℕ) (by : Bytes b) (form : saved_form b ≡ true) (many : places_in area ≡ places_saved b)
    (kept : broken (opened_over area b) ≡ []) where
  f : FormIn b
  f = form-parts b form

  -- ---- the store opened

  rows : List (List ℕ)
  rows = rows_saved (places_saved b) b cards_start

  memory : List Entry
  memory = entries_at (number_at 2 b (memory_start b)) b (memory_start b + 2)

  shown : Store
  shown = record {
    threshold = threshold_saved b;
    cursor = cursor_saved b;
    marks = mark_of (flag_saved1 b) (key_saved1 b) ∷ mark_of (flag_saved2 b) (key_saved2 b) ∷ [];
    levels = levels_saved b;
    cards = map card_of rows;
    places = chop (places_in area) area;
    memory = memory;
  }

  rows-opened : opened_rows (places_in area) b ≡ rows
  unfolding opened_rows rows
  rows-opened =
      let none : places_in area - places_saved b ≡ 0 = omega arith in
      rw none (append-nil (rows_saved (places_saved b) b cards_start))

  -- The same cards, with summaries and without.
  cards-opened : map card_of (summed_rows (opened_rows (places_in area) b) (chop (places_in area) area)) ≡ map card_of rows
  cards-opened = rw rows-opened (cards-summed rows (chop (places_in area) area))

  rows-good : all row_good rows ≡ true
  unfolding numbers_good opened_over
  rows-good =
      sym (good-summed rows (chop (places_in area) area))
      ∙ rw rows-opened at (and_parts (all row_good (opened_over area b).cards) _ (unbroken (opened_over area b) kept).numbers).0

  four-levels : length (levels_saved b) ≡ level_count
  unfolding levels_saved
  four-levels = length-lists_saved level_count b (lists_start b)

  few-places : (ps : List ℕ) → Memᴰ ps (levels_saved b) → length ps ≤ places_in area
  unfolding levels_saved
  few-places ps m = rw many (lists-few level_count b (lists_start b) (memory_start b) f.lists ps m)

  level-opened : (n : ℕ) → n < level_count → level_of (opened_over area b) n ≡ get_or (levels_saved b) n []
  unfolding level_of opened_over opened_head opened_lists
  level-opened n h =
      let e : 6 + n ≡ suc (suc (suc (suc (suc (suc n))))) = omega arith in
      let near : n < length (levels_saved b) = omega (arith, four-levels) in
      rw (e, get_d_map (λ (ps : List ℕ). length ps) (levels_saved b) n [] 0 near)
      (part-read (places_in area) (levels_saved b) few-places n near)

  levels-opened : (store_of (opened_over area b)).levels ≡ levels_saved b
  unfolding store_of
  levels-opened =
      rw (level-opened 0 (omega arith), level-opened 1 (omega arith), level-opened 2 (omega arith), level-opened 3 (omega arith))
      (sym (spell 4 [] (levels_saved b) four-levels))

  memory-opened : entries (opened_memory b) ≡ memory
  unfolding opened_memory memory
  memory-opened =
      let n = number_at 2 b (memory_start b) in
      let e = entries-back b by n (memory_start b + 2) (length b) f.entries in
      table-shows _ e.1.0 e.1.1 (rw (length-entries_at n b (memory_start b + 2)) f.few)

  store-opened : store_of (opened_over area b) ≡ shown
  unfolding store_of opened_over opened_head shown
  store-opened i = record {
    threshold = threshold_saved b;
    cursor = cursor_saved b;
    marks = mark_of (flag_saved1 b) (key_saved1 b) ∷ mark_of (flag_saved2 b) (key_saved2 b) ∷ [];
    levels = levels-opened i;
    cards = cards-opened i;
    places = chop (places_in area) area;
    memory = memory-opened i;
  }

  -- ---- its bytes

  memory-back : memory_bytes memory ≡ drop (memory_start b) b
  unfolding memory_bytes number_bytes memory
  memory-back =
      let n = number_at 2 b (memory_start b) in
      let e = entries-back b by n (memory_start b + 2) (length b) f.entries in
      let all : entries_bytes (entries_at n b (memory_start b + 2)) ≡ drop (memory_start b + 2) b =
      sym (append-nil (entries_bytes (entries_at n b (memory_start b + 2)))) ∙ rw (drop-length b) at e.0 in
      rw (length-entries_at n b (memory_start b + 2), all) (number-back 2 b (memory_start b) by f.begun)

  places-shown : size shown ≡ places_saved b
  unfolding size shown rows
  places-shown = length-map rows card_of ∙ length-rows_saved (places_saved b) b cards_start

  levels-back : flat (map list_bytes (levels_saved b)) ++ drop (memory_start b) b ≡ drop (lists_start b) b
  unfolding levels_saved
  levels-back = lists_back b by level_count (lists_start b) (memory_start b) f.lists

  fields_back : field_bytes shown ≡ drop whole_size b
  unfolding field_bytes shown number_bytes rows
  fields_back =
      let h = f.head in
      let long : cards_start ≤ length b = h.long in
      let cards = cards-back b by (places_saved b) cards_start (lists_start b) f.cards rows-good in
      let second = mark-back b by 22 h.mark2 (omega arith) in
      let first = mark-back b by 12 h.mark1 (omega arith) in
      let ten = number-back 2 b 10 by (omega arith) in
      let eight = number-back 2 b 8 by (omega arith) in
      let six = number-back 2 b 6 by (omega arith) in
      let four = rw h.kind at (number-back 2 b 4 by (omega arith)) in
      rw (places-shown, memory-back) (simp (append_assoc, append-nil) (rw (levels-back, cards, second, first, ten, eight, six, four)))

  pub resaved : saved_bytes (store_of (opened_over area b)) ≡ b
  unfolding saved_bytes
  resaved =
      let h = f.head in
      let whole : whole_size + length (field_bytes shown) ≡ whole_in b =
      rw (fields_back, length-drop) (omega (arith, h.long, h.whole)) in
      rw (store-opened, whole, fields_back) (number-back whole_size b 0 by (omega (arith, h.long)))

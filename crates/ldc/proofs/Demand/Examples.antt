-- P1 to P10 and the examples of notes 2 and 5 hold, and so do the cases of the slips and the letters: each table is computed as a whole. So are the capacities.
use mathlib.Core.Path.{◌≡◌, refl}
use mathlib.Core.Bool.{true}
use mathlib.Core.List.{[], ◌∷◌, map}
use Rattle.ldc.specs.Store.{new_store, size, card, links, bytes_at, table, level, mark, within, slice, span_start, span_end, span_holds, sources}
use Rattle.ldc.specs.Rules.{named, threshold_good, rule_a, times_listed, rule_b, rule_c, link_good, hung_on, apart, rule_e, rule_f, rule_g}
use Rattle.ldc.specs.Layout.{state_of, link_count, link_at, card_of, table_summary, row_with, row_of, row_rest, mark_of, mark_good}
use Rattle.ldc.specs.Request.{known, body_good, key_in, value_in, reply_bytes}
use Rattle.ldc.specs.Memtable.{serve_put}
use Rattle.ldc.specs.Place.{next_place, place_taken, written, free_places, flushed, serve_flush}
use Rattle.ldc.specs.Read.{read_order, look_up, serve_look_up}
use Rattle.ldc.specs.Tidy.{lower_tables, drops_mark, comes_out, merged_entries, cut, merged_tables, merge_step, due, due_with, due_table, capacity, fuller, overfull, round, slices_of, down_step, tidy_step}
use Rattle.ldc.specs.Steps.{leaves, do_move, do_link, do_merge, serve_tidy}
use Rattle.ldc.specs.Lent.{lent_of, places_in, sizes_good, level_of, store_of, row_good, numbers_good, summary_good, summaries_good, counts_good, unused_zero, kept_b, kept_c, presupposed, kept_e, kept_f, kept_g, broken, first_broken}
use Rattle.ldc.specs.Run.{check, letter_of}
use Rattle.ldc.specs.Serve.{serve_kind, serve}
use Rattle.ldc.specs.History.{fed, result_in}
use Rattle.table.specs.Entry.{entry_length, entry_bytes, entry_of, entry_at, entry_form}
use Rattle.table.specs.Table.{zeros, entries_bytes, table_length, table_bytes, count_of, entries_at, entries, entries_good, all_zero, table_good, is_table, is_memory}
use Rattle.table.specs.Search.{find, count_within, least_key, greatest_key}
use Rattle.summary.specs.Bits.{exclusive_bit, sum_bit, weighed_bit, has_bit, with_bit}
use Rattle.summary.specs.Summary.{summary_of}
use Rattle.coding.specs.Number.{number_at, bytes_of}
use Rattle.ldc.specs.Examples.{examples, slips, letters, agree}

pub examples-agree : agree examples ≡ true
unfolding agree examples new_store size card links bytes_at table level mark within slice span_start span_end sources named known body_good key_in value_in serve_put next_place place_taken written free_places flushed serve_flush read_order look_up serve_look_up span_holds lower_tables drops_mark comes_out merged_entries cut merged_tables merge_step due due_with due_table capacity fuller overfull round slices_of down_step tidy_step leaves do_move do_link do_merge serve_tidy serve_kind serve entry_length entry_bytes entry_of entry_at zeros entries_bytes table_length table_bytes count_of entries_at entries find least_key greatest_key number_at bytes_of
examples-agree = refl

pub slips-agree : agree slips ≡ true
unfolding agree slips new_store size card links bytes_at table level mark within slice span_start span_end sources named known body_good key_in value_in serve_put next_place place_taken written free_places flushed serve_flush read_order look_up serve_look_up span_holds lower_tables drops_mark comes_out merged_entries cut merged_tables merge_step due due_with due_table capacity fuller overfull round slices_of down_step tidy_step leaves do_move do_link do_merge serve_tidy serve_kind serve entry_length entry_bytes entry_of entry_at zeros entries_bytes table_length table_bytes count_of entries_at entries find least_key greatest_key number_at bytes_of fed result_in reply_bytes
slips-agree = refl

pub letters-agree : agree letters ≡ true
unfolding agree letters new_store size card links bytes_at table level within slice span_start span_end named threshold_good rule_a times_listed rule_b rule_c link_good hung_on apart rule_e rule_f rule_g state_of link_count link_at card_of table_summary row_with row_of row_rest summary_good summaries_good kept_c mark_of mark_good lent_of places_in sizes_good level_of store_of row_good numbers_good counts_good unused_zero kept_b presupposed kept_e kept_f kept_g broken first_broken check letter_of entry_length entry_bytes entry_of entry_at entry_form zeros entries_bytes table_length table_bytes count_of entries_at entries entries_good all_zero table_good is_table is_memory count_within least_key greatest_key number_at bytes_of exclusive_bit sum_bit weighed_bit has_bit with_bit summary_of
letters-agree = refl

-- Note 7: the capacities of levels 0, 1 and 2 are still those that document 01 lists.
pub capacities-agree : map capacity (0 ∷ 1 ∷ 2 ∷ []) ≡ 2 ∷ 8 ∷ 32 ∷ []
unfolding capacity
capacities-agree = refl

-- Encode after decode: a table's place holds just the bytes of the entries that it shows, and those are valid.
-- Read from left to right: a number's bytes with what stands behind them are what stood there.
use Prim.Native.Nat.{ℕ, zero, suc, ◌+◌, ◌-◌, ◌^◌, ◌≤◌, ◌<◌}
use mathlib.Core.Path.{◌≡◌, sym, ◌∙◌, ap}
use mathlib.Core.Bool.{true}
use mathlib.Core.List.{List, ◌++◌, append_assoc}
use native.Mathlib.Omega.{arith}
use borrow.Author.Tests.{eqb-true}
use lib.ListN.{length, take, drop, length-append, length-drop, take-append-drop}
use lib.Seq.{drop-drop}
use Rattle.coding.specs.Number.{Bytes}
use Rattle.coding.proofs.NumberLaws.{number-back, number_at-bound, bytes_take, bytes_drop}
use Rattle.coding.proofs.Sets.{length_part}
use Rattle.table.specs.Limits.{value_limit, entry_head, table_head, place_size}
use Rattle.table.specs.Entry.{value_bytes, entry_bytes, entry_at, entry_form, length_at, kind_at, key_at}
use Rattle.table.specs.Table.{zeros, count_of, entries_bytes, table_length, table_bytes, entries_at, entries, entries_good, table_good}
use Rattle.table.specs.Valid.{Keys, Values, Valid}
use Rattle.table.proofs.Form.{formed, bytes-kept, entry-made}
use Rattle.table.proofs.Zeros.{zero-bytes}
use Rattle.table.proofs.Position.{Good, good-parts, good-entry, good-end}
use Rattle.table.proofs.Found.{entry_at-key}
use Rattle.table.proofs.Entries.{length-entries}

module _ (s : List ℕ) (b : Bytes s) where
  -- The bytes of the entry that stands at a place, and what stands behind it.
  pub entry-back : (at : ℕ) → entry_form (kind_at s at) (length_at s at) ≡ true → at + length_at s at ≤ length s
      → (entry_bytes (entry_at s at) ++ drop (at + length_at s at) s ≡ drop at s)
      × ((length (value_bytes (entry_at s at).value) ≤ value_limit) × Bytes (value_bytes (entry_at s at).value))
  unfolding entry_at
  entry-back at form hs =
      let f = formed (kind_at s at) (length_at s at) form in
      let n = length_at s at - entry_head in
      let v = take n (drop (at + entry_head) s) in
      let lv : length v ≡ n = length_part s (at + entry_head) n (omega arith) in
      let l : entry_head + length v ≡ length_at s at = omega arith in
      let form' : entry_form (kind_at s at) (entry_head + length v) ≡ true = rw l form in
      let made = entry-made (kind_at s at) (key_at s at) v form' in
      let value = bytes-kept (kind_at s at) (key_at s at) v form' in
      let e4 : at + 2 + 2 ≡ at + 4 = omega arith in
      let e12 : at + 4 + 8 ≡ at + entry_head = omega arith in
      let end : at + entry_head + n ≡ at + length_at s at = omega arith in
      let two = number-back 2 s at b (omega arith) in
      let four = rw e4 at (number-back 2 s (at + 2) b (omega arith)) in
      let twelve = rw e12 at (number-back 8 s (at + 4) b (omega arith)) in
      let tail : v ++ drop (at + length_at s at) s ≡ drop (at + entry_head) s =
      rw (← end, ← drop-drop n (at + entry_head) s) (take-append-drop n (drop (at + entry_head) s)) in (
        rw (made, l) (simp append_assoc (rw (tail, twelve, four, two))),
        (rw value (omega arith), rw value (bytes_take n (drop (at + entry_head) s) (bytes_drop (at + entry_head) s b))),
      )

  -- The same of n good entries, which are valid.
  entries-back : (n at least end : ℕ) → entries_good n s at least end ≡ true → end ≤ length s → least ≤ 2 ^ 64
      → (entries_bytes (entries_at n s at) ++ drop end s ≡ drop at s)
      × Keys least (2 ^ 64) (entries_at n s at)
      × Values (entries_at n s at)
  unfolding entries_good entries_at entries_bytes
  entries-back zero at least end h hs hl = (ap (λ i. drop i s) (sym (eqb-true at end h)), hl, tt)
  entries-back (suc n) at least end h hs hl =
      let g = good-entry n s at least end h in
      let ends = good-end n s (at + length_at s at) (suc (key_at s at)) end g.rest in
      let small : key_at s at < 2 ^ 64 = number_at-bound 8 s (at + 4) b in
      let e = entry-back at g.form (omega arith) in
      let r = entries-back n (at + length_at s at) (suc (key_at s at)) end g.rest hs small in (
        append_assoc (entry_bytes (entry_at s at)) (entries_bytes (entries_at n s (at + length_at s at))) (drop end s)
            ∙ ap (λ x. entry_bytes (entry_at s at) ++ x) r.0
            ∙ e.0,
        rw (entry_at-key s at) (g.rises, r.1),
        (e.1, r.2),
      )

  module _ (size : length s ≡ place_size) (fewest : ℕ) (good : table_good fewest s ≡ true) where
    parts : Good fewest s
    parts = good-parts fewest s good

    in_use : length_at s 0 ≤ place_size
    in_use = omega (arith, good-end (count_of s) s table_head 0 (length_at s 0) parts.good, parts.few)

    whole_back : (entries_bytes (entries s) ++ drop (length_at s 0) s ≡ drop table_head s)
        × Keys 0 (2 ^ 64) (entries s)
        × Values (entries s)
    unfolding entries
    whole_back = entries-back (count_of s) table_head 0 (length_at s 0) parts.good (omega (arith, in_use)) (omega arith)

    -- The entries that a table shows are valid.
    pub shows-valid : Valid (entries s)
    shows-valid =
        record { keys = whole_back.1; values = whole_back.2; few = omega (arith, length-entries s, parts.few) }

    -- A table's length in use is that of its entries.
    pub length_back : table_length (entries s) ≡ length_at s 0
    unfolding table_length
    length_back =
        omega (
          arith,
          simp (length-append, length-drop) at (ap length whole_back.0),
          in_use,
          good-end (count_of s) s table_head 0 (length_at s 0) parts.good,
        )

    -- The place holds just the bytes of the entries that it shows.
    pub encode : table_bytes (entries s) ≡ s
    unfolding table_bytes count_of
    encode =
        let zero : zeros (place_size - table_length (entries s)) ≡ drop (length_at s 0) s =
        sym (zero-bytes (drop (length_at s 0) s) parts.rest ∙ ap zeros (length-drop (length_at s 0) s ∙ omega (arith, length_back))) in
        let two = number-back 2 s 0 b (omega arith) in
        let four = rw parts.kind at (number-back 2 s 2 b (omega arith)) in
        let six = number-back 2 s 4 b (omega arith) in
        let eight = rw parts.zero at (number-back 2 s 6 b (omega arith)) in
        rw (zero, length_back, length-entries s) (simp append_assoc (rw (whole_back.0, eight, six, four, two)))

-- Filling a table: there is room for one entry more, and it goes behind the last; the end, where nothing is left.
use Prim.Native.Nat.{ℕ, ◌+◌, ◌*◌, ◌≤◌, ◌<◌}
use mathlib.Core.Path.{◌≡◌, sym, ◌∙◌, ap}
use mathlib.Core.List.{List}
use native.Mathlib.Omega.{arith}
use lib.ListN.{length, take, drop, get_or, length-drop}
use lib.Seq.{take_all, length-take-le}
use Rattle.table.specs.Limits.{entry_limit, table_head, table_limit}
use Rattle.table.specs.Entry.{Entry, entry_at}
use Rattle.table.specs.Table.{RoomFor, table_length, table_bytes, appended}
use Rattle.table.proofs.Decode.{entries-short, head-shown, length-table_bytes}
use Rattle.table.proofs.Append.{append-encode}
use Rattle.table.proofs.Taken.{entry-short}
use Rattle.ldc.proofs.Entries.Keys.{values-take, values-drop}
use Rattle.compact_merge.specs.Spots.{standing, Stand}
use Rattle.compact_merge.proofs.Spots.{standing-long, spot-seated, spot-more}

head_in : (es : List Entry) → table_head ≤ table_length es
unfolding table_length
head_in es = omega arith

module _ (bytes spots : List ℕ) (n from i : ℕ) (s : Stand bytes spots n) (inside : from + i ≤ n) where
  abbrev left : List Entry
  left = drop from (standing bytes spots n)

  many : length (take i left) ≡ i
  many = length-take-le i left (omega (arith, length-drop from (standing bytes spots n), standing-long bytes spots n s))

  -- What is written so far is short.
  slim : table_length (take i left) ≤ table_head + entry_limit * i
  unfolding table_length
  slim = omega (arith, entries-short (take i left) (values-take i left (values-drop from (standing bytes spots n) s.values)), many)

  module _ (to : List ℕ) (w : to ≡ table_bytes (take i left)) where
    pub fill-room : i < table_limit → RoomFor 1 to
    fill-room few =
        let d = head-shown (take i left) (omega (arith, slim)) (omega (arith, many)) in
        rw w (record {
          place = length-table_bytes (take i left) (omega (arith, slim));
          begun = omega (arith, d.len, head_in (take i left));
          small = omega (arith, d.len, d.count, many, slim);
          few = omega (arith, d.count, many);
        })

    -- One entry more.
    pub fill-turn : (at : ℕ) (next : List ℕ) → i < table_limit → from + i < n → at ≡ get_or spots (from + i) 0
        → next ≡ appended (entry_at bytes at) to
        → next ≡ table_bytes (take (i + 1) left)
    fill-turn at next few h e a =
        let spot : ℕ = get_or spots (from + i) 0 in
        let seat = spot-seated bytes spots n s (from + i) h in
        let short = entry-short bytes spot seat.form seat.room in
        a ∙ rw (e, w, spot-more bytes spots n s from i h)
        (append-encode (take i left) (entry_at bytes spot) (omega (arith, slim, short)) (omega (arith, many)))

    -- Nothing is left.
    pub fill_done : i ≤ table_limit → n ≤ from + i → to ≡ table_bytes (take table_limit left)
    fill_done few h =
        let short : length left ≤ i = omega (arith, length-drop from (standing bytes spots n), standing-long bytes spots n s) in
        w ∙ ap table_bytes (take_all i left short ∙ sym (take_all table_limit left (omega arith)))

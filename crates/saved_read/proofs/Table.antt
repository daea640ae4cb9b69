-- The memory table's bytes: entries of their own form are written as they were read, so the table is its head, the bytes from the first entry
-- to the end, and zeros.
use Prim.Native.Nat.{ℕ, zero, suc, ◌+◌, ◌*◌, ◌-◌, ◌≤◌}
use mathlib.Core.Path.{◌≡◌, refl, sym, ◌∙◌, ap}
use mathlib.Core.Bool.{true}
use mathlib.Core.List.{List, [], ◌++◌, append_assoc}
use mathlib.Core.Option.{some}
use native.Mathlib.Omega.{arith}
use lib.ListN.{length, take, drop, length-append, length-drop}
use lib.Seq.{sets, drop-length, take_all}
use Rattle.coding.specs.Number.{number_at, bytes_of, Bytes}
use Rattle.coding.proofs.NumberLaws.{length-bytes_of}
use Rattle.coding.proofs.Sets.{sets-mid}
use Rattle.table.specs.Limits.{entry_limit, table_head, place_size}
use Rattle.table.specs.Entry.{Entry, length_at, kind_at}
use Rattle.table.specs.Table.{zeros, entries_bytes, entries_at, table_length, table_bytes}
use Rattle.table.proofs.Form.{formed}
use Rattle.table.proofs.Zeros.{length-zeros, zeros-add}
use Rattle.table.proofs.Encode.{entry-back}
use Rattle.saved_book.specs.Form.{entry_to, in_turn, saved_form, memory_start}
use Rattle.saved_book.specs.Opened.{opened_memory}
use Rattle.saved_book.proofs.Forms.{entry-turn, FormIn, form-parts}

-- ---- the entries

entries-many : (n : ℕ) (s : List ℕ) (at : ℕ) → length (entries_at n s at) ≡ n
unfolding entries_at
entries-many zero s at = refl
entries-many (suc n) s at = ap suc (entries-many n s (at + length_at s at))

module _ (s : List ℕ) where
  -- Entries in turn are no longer than the limit, each.
  pub entries-short : (n at end : ℕ) → in_turn n (entry_to s) at ≡ some end → end ≤ at + entry_limit * n
  entries-short zero at end t = let e : at ≡ end = cc in omega arith
  entries-short (suc n) at end t =
      let e = entry-turn s n at end t in
      let f = formed (kind_at s at) (length_at s at) e.0.form in
      omega (arith, entries-short n (at + length_at s at) end e.1)

  -- Their bytes are those that stand there.
  entries-back : (n at : ℕ) → Bytes s → in_turn n (entry_to s) at ≡ some (length s) → entries_bytes (entries_at n s at) ≡ drop at s
  unfolding entries_bytes entries_at
  entries-back zero at b t = let e : at ≡ length s = cc in rw e (sym (drop-length s))
  entries-back (suc n) at b t =
      let e = entry-turn s n at (length s) t in
      rw (entries-back n (at + length_at s at) b e.1) (entry-back s b at e.0.form e.0.room).0

-- ---- the table

-- An empty table with room for so many bytes.
empty-parted : (l : ℕ) → table_head + l ≤ place_size
    → table_bytes []
    ≡ (bytes_of 2 table_head ++ (bytes_of 2 32 ++ (bytes_of 2 0 ++ bytes_of 2 0))) ++ (zeros l ++ zeros (place_size - (table_head + l)))
unfolding table_bytes table_length entries_bytes
empty-parted l h =
    let rest : zeros (place_size - table_head) ≡ zeros l ++ zeros (place_size - (table_head + l)) =
    ap zeros (omega arith) ∙ zeros-add l (place_size - (table_head + l)) in
    simp append_assoc (rw rest)

-- Over it: the entries' bytes, the length in use, and the count.
table-written : (es : List Entry) → table_length es ≤ place_size
    → sets (sets (sets (table_bytes []) table_head (entries_bytes es)) 0 (bytes_of 2 (table_length es))) 4 (bytes_of 2 (length es)) ≡ table_bytes es
unfolding table_bytes table_length
table-written es h =
    let eb : List ℕ = entries_bytes es in
    let l : ℕ = length eb in
    let old : List ℕ = bytes_of 2 table_head in
    let kind : List ℕ = bytes_of 2 32 in
    let nought : List ℕ = bytes_of 2 0 in
    let new : List ℕ = bytes_of 2 (table_head + l) in
    let count : List ℕ = bytes_of 2 (length es) in
    let rest : List ℕ = zeros (place_size - (table_head + l)) in
    let head : List ℕ = old ++ (kind ++ (nought ++ nought)) in
    let eight : length head ≡ table_head =
    omega (
      arith,
      length-append old (kind ++ (nought ++ nought)),
      length-append kind (nought ++ nought),
      length-append nought nought,
      length-bytes_of 2 table_head,
      length-bytes_of 2 32,
      length-bytes_of 2 0,
    ) in
    let four : length (new ++ kind) ≡ 4 = omega (arith, length-append new kind, length-bytes_of 2 (table_head + l), length-bytes_of 2 32) in
    let one : sets (table_bytes []) table_head eb ≡ old ++ (kind ++ (nought ++ (nought ++ (eb ++ rest)))) =
    rw (empty-parted l h) (sets-mid head (zeros l) rest eb table_head eight (length-zeros l) ∙ simp append_assoc) in
    let two : sets (old ++ (kind ++ (nought ++ (nought ++ (eb ++ rest))))) 0 new ≡ (new ++ kind) ++ (nought ++ (nought ++ (eb ++ rest))) =
    sets-mid [] old (kind ++ (nought ++ (nought ++ (eb ++ rest)))) new 0 refl
    (length-bytes_of 2 table_head ∙ sym (length-bytes_of 2 (table_head + l)))
    ∙ simp append_assoc in
    let three : sets ((new ++ kind) ++ (nought ++ (nought ++ (eb ++ rest)))) 4 count ≡ (new ++ kind) ++ (count ++ (nought ++ (eb ++ rest))) =
    sets-mid (new ++ kind) nought (nought ++ (eb ++ rest)) count 4 four (length-bytes_of 2 0 ∙ sym (length-bytes_of 2 (length es))) in
    rw (one, two, three) (simp append_assoc)

-- The table has room for the bytes from the first entry to the end.
pub memory-short : (s : List ℕ) → FormIn s → table_head + (length s - (memory_start s + 2)) ≤ place_size
memory-short s f = omega (arith, entries-short s (number_at 2 s (memory_start s)) (memory_start s + 2) (length s) f.entries, f.few)

-- The same at the position of the count, which stands in the bytes.
pub memory_fits : (s : List ℕ) (at : ℕ) → saved_form s ≡ true → at ≡ memory_start s
    → (at + 2 ≤ length s) × (table_head + (length s - (at + 2)) ≤ place_size)
memory_fits s at h e = let f = form-parts s h in (rw e f.begun, rw e (memory-short s f))

-- What is written is the memory table.
pub memory-written : (s s1 s2 s3 s4 : List ℕ) (at start n : ℕ) → Bytes s → FormIn s
    → at ≡ memory_start s
    → start ≡ at + 2
    → n ≡ number_at 2 s at
    → s1 ≡ table_bytes []
    → s2 ≡ sets s1 table_head (take (length s - start) (drop start s))
    → s3 ≡ sets s2 0 (bytes_of 2 (table_head + (length s - start)))
    → s4 ≡ sets s3 4 (bytes_of 2 n)
    → s4 ≡ opened_memory s
unfolding opened_memory table_length
memory-written s s1 s2 s3 s4 at start n b f ea es en e1 e2 e3 e4 =
    let m : ℕ = memory_start s in
    let k : ℕ = number_at 2 s m in
    let entries : List Entry = entries_at k s (m + 2) in
    let bytes : entries_bytes entries ≡ drop (m + 2) s = entries-back s k (m + 2) b f.entries in
    let many : length entries ≡ k = entries-many k s (m + 2) in
    let long : length (entries_bytes entries) ≡ length s - (m + 2) = ap length bytes ∙ length-drop (m + 2) s in
    let short : table_length entries ≤ place_size = omega (arith, memory-short s f) in
    let w = rw (long, bytes, many) at (table-written entries short) in
    let to : start ≡ m + 2 = omega arith in
    let all : take (length s - (m + 2)) (drop (m + 2) s) ≡ drop (m + 2) s =
    take_all (length s - (m + 2)) (drop (m + 2) s) (omega (arith, length-drop (m + 2) s)) in
    rw (e4, e3, e2, e1, en, to, ea, all) w

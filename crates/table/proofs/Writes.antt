-- What the code of `build` writes, store by store, is the bytes that the definitions give: runs one behind the other are one run.
use Prim.Native.Nat.{ℕ, ◌+◌}
use mathlib.Core.Path.{◌≡◌, refl, sym, ◌∙◌, ap}
use mathlib.Core.Bool.{true}
use mathlib.Core.List.{List, [], ◌++◌, append_assoc}
use native.Mathlib.Omega.{arith}
use lib.ListN.{length, length-append}
use lib.Seq.{sets}
use Rattle.coding.specs.Number.{bytes_of}
use Rattle.coding.proofs.NumberLaws.{length-bytes_of}
use Rattle.coding.proofs.Sets.{sets-append, sets-mid}
use Rattle.table.specs.Limits.{entry_head, table_head, place_size}
use Rattle.table.specs.Entry.{Entry, entry_length, entry_bytes, entry_of, entry_form, length_at}
use Rattle.table.specs.Table.{zeros, count_of, entries_bytes, table_length, table_bytes, appended}
use Rattle.table.proofs.Form.{length-kept, entry-made}
use Rattle.table.proofs.Zeros.{length-zeros, zeros-add}

-- The length of an entry's bytes is the length that it has.
pub length-entry_bytes : (e : Entry) → length (entry_bytes e) ≡ entry_length e
unfolding entry_bytes entry_length
length-entry_bytes e =
    simp (length-append, length-bytes_of) (omega arith)

-- Length, kind, key and value, written one behind the other.
pub entry-written : (s : List ℕ) (at kind key : ℕ) (v : List ℕ) → entry_form kind (entry_head + length v) ≡ true
    → sets (sets (sets (sets s at (bytes_of 2 (entry_head + length v))) (at + 2) (bytes_of 2 kind)) (at + 4) (bytes_of 8 key)) (at + entry_head) v
    ≡ sets s at (entry_bytes (entry_of kind key v))
entry-written s at kind key v h =
    let a = bytes_of 2 (entry_head + length v) in
    let b = bytes_of 2 kind in
    let k = bytes_of 8 key in
    let two : at + length a ≡ at + 2 = ap (λ n. at + n) (length-bytes_of 2 (entry_head + length v)) in
    let four : at + length (a ++ b) ≡ at + 4 =
    omega (arith, length-append a b, length-bytes_of 2 (entry_head + length v), length-bytes_of 2 kind) in
    let twelve : at + length (a ++ b ++ k) ≡ at + entry_head =
    omega (arith, length-append (a ++ b) k, length-bytes_of 8 key, four) in
    let all : sets s at (a ++ b ++ k ++ v) ≡ sets (sets (sets (sets s at a) (at + 2) b) (at + 4) k) (at + entry_head) v =
    sets-append s at (a ++ b ++ k) v
    ∙ rw (twelve, sets-append s at (a ++ b) k, four, sets-append s at a b, two) in
    rw (entry-made kind key v h) (sym all)

zeros-two : zeros 2 ≡ bytes_of 2 0
unfolding zeros bytes_of
zeros-two = refl

-- The head of an empty table, written over zeros.
pub empty-written : sets (sets (zeros place_size) 0 (bytes_of 2 table_head)) 2 (bytes_of 2 32) ≡ table_bytes []
unfolding table_bytes table_length entries_bytes
empty-written =
    let head = bytes_of 2 table_head ++ bytes_of 2 32 in
    let four : length (zeros 4) ≡ length head =
    omega (arith, length-zeros 4, length-append (bytes_of 2 table_head) (bytes_of 2 32), length-bytes_of 2 table_head, length-bytes_of 2 32) in
    let one : sets (zeros place_size) 0 head ≡ sets (sets (zeros place_size) 0 (bytes_of 2 table_head)) 2 (bytes_of 2 32) =
    sets-append (zeros place_size) 0 (bytes_of 2 table_head) (bytes_of 2 32) ∙ rw (length-bytes_of 2 table_head) in
    let over : sets (zeros place_size) 0 head ≡ head ++ zeros 1020 =
    ap (λ x. sets x 0 head) (zeros-add 4 1020) ∙ sets-mid [] (zeros 4) (zeros 1020) head 0 refl four in
    let rest : zeros 1020 ≡ bytes_of 2 0 ++ (bytes_of 2 0 ++ zeros 1016) =
    zeros-add 2 1018 ∙ ap (λ x. zeros 2 ++ x) (zeros-add 2 1016) ∙ rw zeros-two in
    sym one ∙ over ∙ rw rest (simp append_assoc)

-- An entry's bytes, the new length in use and the new count.
pub append-written : (s : List ℕ) (kind key : ℕ) (v : List ℕ) → entry_form kind (entry_head + length v) ≡ true
    → sets (sets (sets s (length_at s 0) (entry_bytes (entry_of kind key v))) 0 (bytes_of 2 (length_at s 0 + entry_head + length v)))
    4 (bytes_of 2 (count_of s + 1))
    ≡ appended (entry_of kind key v) s
unfolding appended
append-written s kind key v h =
    let e : length_at s 0 + entry_length (entry_of kind key v) ≡ length_at s 0 + entry_head + length v =
    omega (arith, length-kept kind key v h) in
    rw e

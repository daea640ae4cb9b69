-- Appending to the bytes of a table gives the bytes of the table with one entry more. Each of the three writes takes the place of as
-- many bytes: the entry that of zeros behind the last, the length in use and the count that of the old ones.
use Prim.Native.Nat.{ℕ, ◌+◌, ◌-◌, ◌^◌, ◌≤◌, ◌<◌}
use mathlib.Core.Path.{◌≡◌, refl, sym, ◌∙◌, ap}
use mathlib.Core.Bool.{true}
use mathlib.Core.List.{List, [], ◌∷◌, ◌++◌, append_assoc, append-nil}
use native.Mathlib.Omega.{arith}
use lib.ListN.{length, length-append}
use lib.Seq.{sets, length-sets}
use Rattle.coding.specs.Number.{bytes_of, Bytes}
use Rattle.coding.proofs.NumberLaws.{length-bytes_of}
use Rattle.coding.proofs.Sets.{sets-mid}
use Rattle.table.specs.Limits.{value_limit, entry_head, table_head, table_limit, place_size}
use Rattle.table.specs.Entry.{Entry, value_bytes, entry_length, entry_bytes, entry_form, length_at}
use Rattle.table.specs.Table.{zeros, count_of, entries_bytes, table_length, table_bytes, is_memory, appended, Appends}
use Rattle.table.specs.Valid.{Keys, Values, Valid}
use Rattle.table.proofs.Zeros.{length-zeros, zeros-add}
use Rattle.table.proofs.Form.{formed}
use Rattle.table.proofs.Position.{memory-good, good-end}
use Rattle.table.proofs.Writes.{length-entry_bytes}
use Rattle.table.proofs.Bounds.{keys-snoc}
use Rattle.table.proofs.Decode.{head-shown, valid-size, valid-head, decode-memory}

-- The bytes of entries and of one more.
pub bytes-snoc : (es : List Entry) (e : Entry) → entries_bytes (es ++ e ∷ []) ≡ entries_bytes es ++ entry_bytes e
unfolding entries_bytes
bytes-snoc [] e = append-nil (entry_bytes e)
bytes-snoc (f ∷ es) e = ap (λ x. entry_bytes f ++ x) (bytes-snoc es e) ∙ sym (append_assoc (entry_bytes f) (entries_bytes es) (entry_bytes e))

pub length-snoc : (es : List Entry) (e : Entry) → table_length (es ++ e ∷ []) ≡ table_length es + entry_length e
unfolding table_length
length-snoc es e =
    rw (bytes-snoc es e) (omega (arith, length-append (entries_bytes es) (entry_bytes e), length-entry_bytes e))

-- The three writes, over the parts of a place: t zeros stand where the entry goes, and r are left.
write-parts : (l k n z es x l' n' : List ℕ) (i t r : ℕ) → i ≡ length (l ++ k ++ n ++ z ++ es) → t ≡ length x + r
    → length l ≡ 2 → length k ≡ 2 → length n ≡ 2 → length l' ≡ 2 → length n' ≡ 2
    → sets (sets (sets (l ++ k ++ n ++ z ++ es ++ zeros t) i x) 0 l') 4 n' ≡ l' ++ k ++ n' ++ z ++ (es ++ x) ++ zeros r
write-parts l k n z es x l' n' i t r hi ht hl hk hn hl' hn' =
    let rest = z ++ es ++ x ++ zeros r in
    let entry : sets (l ++ k ++ n ++ z ++ es ++ zeros t) i x ≡ l ++ (k ++ (n ++ rest)) =
    rw (ht, zeros-add (length x) r)
    (sets-mid (l ++ k ++ n ++ z ++ es) (zeros (length x)) (zeros r) x i (sym hi) (length-zeros (length x)) ∙ simp append_assoc) in
    let len : sets (l ++ (k ++ (n ++ rest))) 0 l' ≡ (l' ++ k) ++ (n ++ rest) =
    sets-mid [] l (k ++ (n ++ rest)) l' 0 refl (omega arith) ∙ simp append_assoc in
    let count : sets ((l' ++ k) ++ (n ++ rest)) 4 n' ≡ l' ++ k ++ n' ++ z ++ (es ++ x) ++ zeros r =
    sets-mid (l' ++ k) n rest n' 4 (omega (arith, length-append l' k)) (omega arith) ∙ simp append_assoc in
    rw (entry, len) count

-- The entries' bytes end where the length in use says.
front : (es : List Entry)
    → table_length es ≡ length (bytes_of 2 (table_length es) ++ bytes_of 2 32 ++ bytes_of 2 (length es) ++ bytes_of 2 0 ++ entries_bytes es)
unfolding table_length
front es = simp (length-append, length-bytes_of) (omega arith)

-- The three writes, over the bytes of a table.
written : (es : List Entry) (e : Entry) → table_length es + entry_length e ≤ place_size
    → sets (sets (sets (table_bytes es) (table_length es) (entry_bytes e)) 0 (bytes_of 2 (table_length es + entry_length e)))
    4 (bytes_of 2 (length es + 1))
    ≡ table_bytes (es ++ e ∷ [])
unfolding table_bytes
written es e fits =
    let l = table_length es in
    let m = entry_length e in
    let t : place_size - l ≡ length (entry_bytes e) + (place_size - (l + m)) = omega (arith, length-entry_bytes e) in
    rw (length-snoc es e, bytes-snoc es e, length-append es (e ∷ []))
    (write-parts (bytes_of 2 l) (bytes_of 2 32) (bytes_of 2 (length es)) (bytes_of 2 0) (entries_bytes es) (entry_bytes e)
    (bytes_of 2 (l + m)) (bytes_of 2 (length es + 1)) l (place_size - l) (place_size - (l + m)) (front es) t
    (length-bytes_of 2 l) (length-bytes_of 2 32) (length-bytes_of 2 (length es)) (length-bytes_of 2 (l + m)) (length-bytes_of 2 (length es + 1)))

-- Appending an entry's bytes encodes the table with that entry at its end.
pub append-encode : (es : List Entry) (e : Entry) → table_length es + entry_length e ≤ place_size → length es < table_limit
    → appended e (table_bytes es) ≡ table_bytes (es ++ e ∷ [])
unfolding appended
append-encode es e fits few =
    let d = head-shown es (omega arith) (omega arith) in
    rw (d.len, d.count) (written es e fits)

module _ (kind : ℕ) (v : List ℕ) (form : entry_form kind (entry_head + length v) ≡ true) where
  -- A memory table with fewer than 16 entries has room for one more.
  pub memory-appends : (s : List ℕ) → length s ≡ place_size → is_memory s ≡ true → count_of s < table_limit → Appends s kind v
  memory-appends s size m few =
      let g = good-end (count_of s) s table_head 0 (length_at s 0) (memory-good s m).good in
      let f = formed kind (entry_head + length v) form in
      record { place = size; begun = omega arith; form = form; room = omega arith; few = few }

  -- So has a table that is being built.
  pub table-appends : (es : List Entry) → Valid es → length es < table_limit → Appends (table_bytes es) kind v
  table-appends es valid few =
      memory-appends (table_bytes es) (valid-size es valid) (decode-memory es valid) (omega (arith, (valid-head es valid).count))

-- Appending keeps the place's length.
pub length-appended : (e : Entry) (s : List ℕ) → length (appended e s) ≡ length s
unfolding appended
length-appended e s = simp length-sets

-- Valid entries with one more behind them, whose key is above theirs.
pub valid-snoc : (es : List Entry) (e : Entry) → Valid es → length es < table_limit → Keys 0 e.key es → e.key < 2 ^ 64
    → length (value_bytes e.value) ≤ value_limit → Bytes (value_bytes e.value) → Valid (es ++ e ∷ [])
valid-snoc es e v few above small short bytes =
    record {
      keys = keys-snoc es e 0 (2 ^ 64) above small;
      values = values-snoc es v.values;
      few = omega (arith, length-append es (e ∷ []));
    }
  where
    values-snoc : (es : List Entry) → Values es → Values (es ++ e ∷ [])
    values-snoc es = elim es as (λ k. Values k → Values (k ++ e ∷ [])) [ [] ↦ λ w. ((short, bytes), tt) | f ∷ (fs → ih) ↦ λ w. (w.0, ih w.1) ]

-- Decode after encode: a place that holds the bytes of valid entries shows those entries and is a table.
-- Read from left to right: where `drop at s` begins with some bytes, those are what stands at `at`, and the rest stands behind them.
use Prim.Native.Nat.{ℕ, suc, ◌+◌, ◌*◌, ◌-◌, ◌^◌, ◌≤◌, ◌<◌}
use mathlib.Core.Path.{◌≡◌, refl, sym, ◌∙◌, ap}
use mathlib.Core.Bool.{true}
use mathlib.Core.List.{List, [], ◌∷◌, ◌++◌, append_assoc}
use mathlib.Core.Option.{Option, some, none}
use native.Mathlib.Omega.{arith}
use borrow.Author.Tests.{le-leb, eq-eqb}
use lib.Dec.{leb}
use lib.ListN.{length, take, drop, length-append}
use lib.Seq.{drop-drop, drop-append_seam, take_at}
use Rattle.coding.specs.Number.{number_at, bytes_of, Bytes}
use Rattle.coding.proofs.NumberLaws.{number_at-there, length-bytes_of, bytes-bytes_of, bytes-append}
use Rattle.table.specs.Limits.{value_limit, entry_head, entry_limit, table_head, table_limit, place_size}
use Rattle.table.specs.Entry.{Entry, kind_of, value_bytes, entry_length, entry_bytes, entry_of, entry_at, entry_form, length_at, kind_at, key_at}
use Rattle.table.specs.Table.{zeros, count_of, entries_bytes, table_length, table_bytes, entries_at, entries}
use Rattle.table.specs.Table.{entries_good, table_good, is_table, is_memory}
use Rattle.table.specs.Valid.{Keys, Values, Valid}
use Rattle.table.proofs.Zeros.{length-zeros, zeros-zero, bytes-zeros}
use Rattle.table.proofs.Bounds.{keys_below}
use Rattle.table.proofs.Writes.{length-entry_bytes}

-- What stands behind the bytes at a place.
pub behind : (s : List ℕ) (at : ℕ) (a r : List ℕ) (n : ℕ) → length a ≡ n → drop at s ≡ a ++ r → drop (at + n) s ≡ r
behind s at a r n h e = sym (drop-drop n at s) ∙ ap (drop n) e ∙ ap (λ k. drop k (a ++ r)) (sym h) ∙ drop-append_seam a r

-- A kind and bytes taken from an entry make it again, and are of its form.
again : (k : ℕ) (o : Option (List ℕ)) → entry_of (kind_of o) k (value_bytes o) ≡ record { key = k; value = o }
unfolding entry_of
again k (some v) = refl
again k none = refl

form_of : (o : Option (List ℕ)) → length (value_bytes o) ≤ value_limit → entry_form (kind_of o) (entry_head + length (value_bytes o)) ≡ true
unfolding entry_form
form_of (some v) h = rw (le-leb entry_head (entry_head + length v) (omega arith), le-leb (entry_head + length v) entry_limit (omega arith))
form_of none h = refl

-- What stands at a place where the bytes of an entry are.
pub record Shown (s : List ℕ) (at : ℕ) (e : Entry) (r : List ℕ) : Type 0 where
  pub len : length_at s at ≡ entry_length e
  pub kind : kind_at s at ≡ kind_of e.value
  pub key : key_at s at ≡ e.key
  pub form : entry_form (kind_at s at) (length_at s at) ≡ true
  pub entry : entry_at s at ≡ e
  pub next : drop (at + length_at s at) s ≡ r

pub shown-entry : (s : List ℕ) (at : ℕ) (e : Entry) (r : List ℕ) → length (value_bytes e.value) ≤ value_limit → e.key < 2 ^ 64
    → drop at s ≡ entry_bytes e ++ r → Shown s at e r
unfolding entry_bytes entry_length entry_at
shown-entry s at e r hv hk h =
    let v = value_bytes e.value in
    let l = entry_head + length v in
    let k = kind_of e.value in
    let whole : drop at s ≡ bytes_of 2 l ++ (bytes_of 2 k ++ (bytes_of 8 e.key ++ (v ++ r))) = h ∙ simp append_assoc in
    let two = behind s at (bytes_of 2 l) (bytes_of 2 k ++ (bytes_of 8 e.key ++ (v ++ r))) 2 (length-bytes_of 2 l) whole in
    let e4 : at + 2 + 2 ≡ at + 4 = omega arith in
    let four = rw e4 at (behind s (at + 2) (bytes_of 2 k) (bytes_of 8 e.key ++ (v ++ r)) 2 (length-bytes_of 2 k) two) in
    let e12 : at + 4 + 8 ≡ at + entry_head = omega arith in
    let twelve = rw e12 at (behind s (at + 4) (bytes_of 8 e.key) (v ++ r) 8 (length-bytes_of 8 e.key) four) in
    let len : length_at s at ≡ l = number_at-there 2 l s at _ whole (omega arith) in
    let kind : kind_at s at ≡ k = number_at-there 2 k s (at + 2) _ two (kind-small e.value) in
    let key : key_at s at ≡ e.key = number_at-there 8 e.key s (at + 4) _ four (omega arith) in
    let value : take (length_at s at - entry_head) (drop (at + entry_head) s) ≡ v =
    rw twelve (take_at v r (length_at s at - entry_head) (omega arith)) in
    let le : at + entry_head + length v ≡ at + length_at s at = omega arith in
    record {
      len = len;
      kind = kind;
      key = key;
      form = rw (kind, len) (form_of e.value hv);
      entry = rw (kind, key, value) (again e.key e.value);
      next = rw le at (behind s (at + entry_head) v r (length v) refl twelve);
    }
  where
    kind-small : (o : Option (List ℕ)) → kind_of o < 256 ^ 2
    kind-small (some v) = omega arith
    kind-small none = omega arith

-- Entries' bytes have at most `entry_limit` for each.
pub entries-short : (es : List Entry) → Values es → length (entries_bytes es) ≤ entry_limit * length es
unfolding entries_bytes entry_length
entries-short [] vs = omega arith
entries-short (e ∷ es) vs =
    let r = entries-short es vs.1 in
    let l = length-entry_bytes e in
    omega (arith, length-append (entry_bytes e) (entries_bytes es), vs.0.0)

-- The bytes of valid entries show them and are judged good.
shown-entries : (es : List Entry) (s : List ℕ) (at low : ℕ) (r : List ℕ) → Keys low (2 ^ 64) es → Values es
    → drop at s ≡ entries_bytes es ++ r
    → (entries_at (length es) s at ≡ es) × (entries_good (length es) s at low (at + length (entries_bytes es)) ≡ true)
unfolding entries_bytes entries_at entries_good
shown-entries [] s at low r hk hv h = (refl, eq-eqb at (at + 0) (omega arith))
shown-entries (e ∷ es) s at low r hk hv h =
    let below = keys_below (suc e.key) (2 ^ 64) es hk.1 in
    let t = shown-entry s at e (entries_bytes es ++ r) hv.0.0 (omega arith) (h ∙ append_assoc (entry_bytes e) (entries_bytes es) r) in
    let n : at + length (entry_bytes e ++ entries_bytes es) ≡ at + length_at s at + length (entries_bytes es) =
    omega (arith, length-append (entry_bytes e) (entries_bytes es), length-entry_bytes e, t.len) in
    let rest = shown-entries es s (at + length_at s at) (suc e.key) r hk.1 hv.1 t.next in
    let from : leb low (key_at s at) ≡ true = le-leb low (key_at s at) (omega (arith, t.key, hk.0)) in
    (cc (t.entry, rest.0), rw (t.form, from, n, t.key) rest.1)

-- The head of a table's place, and what stands behind it.
pub record Head (es : List Entry) : Type 0 where
  pub len : length_at (table_bytes es) 0 ≡ table_length es
  pub kind : kind_at (table_bytes es) 0 ≡ 32
  pub count : count_of (table_bytes es) ≡ length es
  pub zero : number_at 2 (table_bytes es) 6 ≡ 0
  pub body : drop table_head (table_bytes es) ≡ entries_bytes es ++ zeros (place_size - table_length es)
  pub rest : drop (table_length es) (table_bytes es) ≡ zeros (place_size - table_length es)

rest-shown : (es : List Entry) (s : List ℕ) → drop table_head s ≡ entries_bytes es ++ zeros (place_size - table_length es)
    → drop (table_length es) s ≡ zeros (place_size - table_length es)
unfolding table_length
rest-shown es s e = behind s table_head (entries_bytes es) (zeros (place_size - table_length es)) (length (entries_bytes es)) refl e

pub head-shown : (es : List Entry) → table_length es ≤ place_size → length es ≤ table_limit → Head es
unfolding table_bytes count_of
head-shown es hl hn =
    let s = table_bytes es in
    let l = table_length es in
    let body = entries_bytes es ++ zeros (place_size - l) in
    let whole : drop 0 s ≡ bytes_of 2 l ++ (bytes_of 2 32 ++ (bytes_of 2 (length es) ++ (bytes_of 2 0 ++ body))) = simp append_assoc in
    let two = behind s 0 (bytes_of 2 l) (bytes_of 2 32 ++ (bytes_of 2 (length es) ++ (bytes_of 2 0 ++ body))) 2 (length-bytes_of 2 l) whole in
    let four = behind s 2 (bytes_of 2 32) (bytes_of 2 (length es) ++ (bytes_of 2 0 ++ body)) 2 (length-bytes_of 2 32) two in
    let six = behind s 4 (bytes_of 2 (length es)) (bytes_of 2 0 ++ body) 2 (length-bytes_of 2 (length es)) four in
    let eight = behind s 6 (bytes_of 2 0) body 2 (length-bytes_of 2 0) six in
    record {
      len = number_at-there 2 l s 0 _ whole (omega arith);
      kind = number_at-there 2 32 s 2 _ two (omega arith);
      count = number_at-there 2 (length es) s 4 _ four (omega arith);
      zero = number_at-there 2 0 s 6 _ six (omega arith);
      body = eight;
      rest = rest-shown es s eight;
    }

-- A table's bytes fill the place.
pub length-table_bytes : (es : List Entry) → table_length es ≤ place_size → length (table_bytes es) ≡ place_size
unfolding table_bytes table_length
length-table_bytes es h = simp (length-append, length-bytes_of, length-zeros) (omega arith)

-- They are bytes.
pub bytes-entries : (es : List Entry) → Values es → Bytes (entries_bytes es)
unfolding entries_bytes entry_bytes
bytes-entries [] vs = λ i. omega arith
bytes-entries (e ∷ es) vs = search (bytes-append, bytes-bytes_of, bytes-entries es vs.1, vs.0.1) depth 8

pub bytes-table : (es : List Entry) → Values es → Bytes (table_bytes es)
unfolding table_bytes
bytes-table es vs = search (bytes-append, bytes-bytes_of, bytes-zeros, bytes-entries es vs) depth 8

module _ (es : List Entry) (v : Valid es) where
  -- The length in use of a table of valid entries.
  pub valid-length : table_length es ≤ table_head + entry_limit * length es
  unfolding table_length
  valid-length = omega (arith, entries-short es v.values)

  pub valid-fits : table_length es ≤ place_size
  valid-fits = omega (arith, valid-length, v.few)

  pub valid-head : Head es
  valid-head = head-shown es valid-fits v.few

  pub valid-size : length (table_bytes es) ≡ place_size
  valid-size = length-table_bytes es valid-fits

  valid-shown : (entries_at (length es) (table_bytes es) table_head ≡ es)
      × (entries_good (length es) (table_bytes es) table_head 0 (table_length es) ≡ true)
  unfolding table_length
  valid-shown = shown-entries es (table_bytes es) table_head 0 (zeros (place_size - table_length es)) v.keys v.values valid-head.body

  -- The place shows the entries whose bytes it holds.
  pub decode : entries (table_bytes es) ≡ es
  unfolding entries
  decode = rw valid-head.count valid-shown.0

  -- It is a table of at least so many entries as there are.
  pub decode-good : (fewest : ℕ) → fewest ≤ length es → table_good fewest (table_bytes es) ≡ true
  unfolding table_good
  decode-good fewest h =
      let d = valid-head in
      rw (d.kind, d.count, d.zero, d.len, d.rest)
      (rw (le-leb fewest (length es) h, le-leb (length es) table_limit v.few, valid-shown.1, zeros-zero (place_size - table_length es)))

  -- So it is a memory table, and a place's table where there is an entry.
  pub decode-memory : is_memory (table_bytes es) ≡ true
  unfolding is_memory
  decode-memory = decode-good 0 (omega arith)

  pub decode-table : 1 ≤ length es → is_table (table_bytes es) ≡ true
  unfolding is_table
  decode-table h = decode-good 1 h

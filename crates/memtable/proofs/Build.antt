-- Entries appended to the bytes of a table are the bytes of the table with those entries; and the three parts of a put are a put.
use Prim.Native.Nat.{ℕ, zero, suc, ◌+◌, ◌*◌, ◌-◌, ◌≤◌, ◌<◌}
use mathlib.Core.Path.{◌≡◌, refl, sym, ◌∙◌, ap}
use mathlib.Core.Bool.{Bool, true, false, cond}
use mathlib.Core.List.{List, [], ◌∷◌, ◌++◌, append_assoc, append-nil}
use native.Mathlib.Omega.{arith}
use native.Mathlib.Numerals.{add-one}
use borrow.Author.Tests.{ltb-true}
use lib.ListN.{length, length-append}
use Rattle.table.specs.Limits.{entry_head, entry_limit, table_head, table_limit}
use Rattle.table.specs.Entry.{Entry, entry_length, entry_of, length_at, key_at}
use Rattle.table.specs.Table.{count_of, entries, entries_at, entries_good, entries_bytes, table_length, table_bytes, appended, RoomFor}
use Rattle.table.specs.Search.{find, count_below, position_at, position_in}
use Rattle.table.proofs.Tests.{cases}
use Rattle.table.proofs.Form.{formed, length-kept}
use Rattle.table.proofs.Position.{good-entry, good-end, memory-good, length-bounds}
use Rattle.table.proofs.Entries.{length-entries}
use Rattle.table.proofs.Decode.{head-shown, length-table_bytes}
use Rattle.table.proofs.Append.{append-encode, length-snoc}
use Rattle.table.proofs.Taken.{entry-long}
use Rattle.ldc.specs.Lists.{is_some}
use Rattle.ldc.specs.Memtable.{put}
use Rattle.memtable.specs.Appends.{appends}
use Rattle.memtable.specs.Put.{Puts}
use Rattle.memtable.proofs.Split.{below-few, below-fewer, next, put-split}

-- Entries of at most `entry_limit` bytes.
abbrev Shorts : List Entry → Type 0
Shorts [] = Unit {0}
Shorts (e ∷ es) = (entry_length e ≤ entry_limit) × Shorts es

-- A table's length in use is at most `entry_limit` bytes an entry behind its head.
abbrev Slim : List Entry → Type 0
Slim ds = table_length ds ≤ table_head + entry_limit * length ds

slim-none : Slim []
unfolding table_length entries_bytes
slim-none = omega arith

slim-snoc : (ds : List Entry) (e : Entry) → Slim ds → entry_length e ≤ entry_limit → Slim (ds ++ e ∷ [])
slim-snoc ds e d h = omega (arith, length-snoc ds e, length-append ds (e ∷ []))

pub room-table : (n : ℕ) (ds : List Entry) → Slim ds → length ds + n ≤ table_limit → RoomFor n (table_bytes ds)
unfolding table_length
room-table n ds d h =
    let hd = head-shown ds (omega arith) (omega arith) in
    record {
      place = length-table_bytes ds (omega arith);
      begun = omega (arith, hd.len);
      small = omega (arith, hd.len, hd.count);
      few = omega (arith, hd.count);
    }

pub appends-table : (es ds : List Entry) → Slim ds → Shorts es → length ds + length es ≤ table_limit
    → (appends es (table_bytes ds) ≡ table_bytes (ds ++ es)) × Slim (ds ++ es)
unfolding appends
appends-table [] ds d h n = (ap table_bytes (sym (append-nil ds)), rw (append-nil ds) d)
appends-table (e ∷ es) ds d h n =
    let d' : Slim (ds ++ e ∷ []) = slim-snoc ds e d h.0 in
    let l = length-append ds (e ∷ []) in
    let r = appends-table es (ds ++ e ∷ []) d' h.1 (omega arith) in
    let one : appended e (table_bytes ds) ≡ table_bytes (ds ++ e ∷ []) = append-encode ds e (omega (arith, h.0)) (omega arith) in
    let same : (ds ++ e ∷ []) ++ es ≡ ds ++ (e ∷ es) = append_assoc ds (e ∷ []) es in
    (rw one (r.0 ∙ ap table_bytes same), rw same at r.1)

-- The entries of a table are short, and the first of them are as many as asked for.
shorts : (i n : ℕ) (s : List ℕ) (at least end : ℕ) → entries_good n s at least end ≡ true → end ≤ length s → i ≤ n → Shorts (entries_at i s at)
unfolding entries_at
shorts zero n s at least end g h hi = tt
shorts (suc i) zero s at least end g h hi = absurd (omega arith)
shorts (suc i) (suc n) s at least end g h hi =
    let x = good-entry n s at least end g in
    let e = good-end n s (at + length_at s at) (suc (key_at s at)) end x.rest in
    (omega (arith, entry-long s at x.form (omega arith)), shorts i n s (at + length_at s at) (suc (key_at s at)) end x.rest h (omega arith))

-- So are those from the j-th on.
shorts-from : (j n : ℕ) (s : List ℕ) (at least end : ℕ) → entries_good n s at least end ≡ true → end ≤ length s → j ≤ n
    → Shorts (entries_at (n - j) s (position_at j s at))
unfolding position_at
shorts-from zero n s at least end g h hj = shorts (n - 0) n s at least end g h (omega arith)
shorts-from (suc j) zero s at least end g h hj = absurd (omega arith)
shorts-from (suc j) (suc n) s at least end g h hj =
    let x = good-entry n s at least end g in
    let e : suc n - suc j ≡ n - j = omega arith in
    rw e (shorts-from j n s (at + length_at s at) (suc (key_at s at)) end x.rest h (omega arith))

length-at : (n : ℕ) (s : List ℕ) (at : ℕ) → length (entries_at n s at) ≡ n
unfolding entries_at
length-at zero s at = refl
length-at (suc n) s at = ap suc (length-at n s (at + length_at s at))

module _ (to s : List ℕ) (held : Bool) (kind key : ℕ) (v : List ℕ) (p : Puts to s held kind key v) where
  -- The new one begins where those behind it do, or one before.
  pub next-is : next key (entries s) ≡ cond held (count_below key (entries s) + 1) (count_below key (entries s))
  unfolding next
  next-is = rw (p.found, add-one)

  pub few-below : (count_below key (entries s) ≤ count_of s) × (held ≡ true → count_below key (entries s) < count_of s)
  few-below = (
    omega (arith, below-few key (entries s), length-entries s),
    λ t. omega (arith, below-fewer key (entries s) (sym p.found ∙ t), length-entries s),
  )

  -- There is room for one more.
  pub few-next : (next key (entries s) ≤ count_of s) × (count_below key (entries s) + 1 + (count_of s - next key (entries s)) ≤ table_limit)
  unfolding next
  few-next =
      let g = memory-good s p.good in
      cases (is_some (find key (entries s)))
      (λ q. rw q (omega (arith, below-fewer key (entries s) q, length-entries s, g.few)))
      (λ q. let none : held ≡ false = p.found ∙ q in
      let few : count_of s < table_limit = ltb-true _ _ (rw none at p.room) in
      rw q (omega (arith, few-below.0)))

  first_part : (appends (entries_at (count_below key (entries s)) s table_head) (table_bytes [])
      ≡ table_bytes (entries_at (count_below key (entries s)) s table_head))
      × Slim (entries_at (count_below key (entries s)) s table_head)
  first_part =
      let g = memory-good s p.good in
      appends-table (entries_at (count_below key (entries s)) s table_head) [] slim-none
      (shorts (count_below key (entries s)) (count_of s) s table_head 0 (length_at s 0) g.good
      (omega (arith, length-bounds s p.good, p.place)) few-below.0)
      (omega (arith, length-at (count_below key (entries s)) s table_head, few-below.0, g.few))

  entry-short : entry_length (entry_of kind key v) ≤ entry_limit
  entry-short = omega (arith, length-kept kind key v p.form, (formed kind (entry_head + length v) p.form).high)

  second-part : appended (entry_of kind key v) (table_bytes (entries_at (count_below key (entries s)) s table_head))
      ≡ table_bytes (entries_at (count_below key (entries s)) s table_head ++ entry_of kind key v ∷ [])
  second-part = append-encode (entries_at (count_below key (entries s)) s table_head) (entry_of kind key v)
      (omega (arith, entry-short, first_part.1, length-at (count_below key (entries s)) s table_head, few-next.1))
      (omega (arith, length-at (count_below key (entries s)) s table_head, few-next.1))

  -- The new entry's place in the order.
  split : put (entry_of kind key v) (entries s)
      ≡ entries_at (count_below key (entries s)) s table_head
      ++ (entry_of kind key v ∷ entries_at (count_of s - next key (entries s)) s (position_in (next key (entries s)) s))
  unfolding entries position_in entry_of
  split = put-split (entry_of kind key v) (count_of s) s table_head 0 (length_at s 0) (memory-good s p.good).good

  -- The three parts, one behind the other.
  pub built : appends (entries_at (count_of s - next key (entries s)) s (position_in (next key (entries s)) s))
      (appended (entry_of kind key v) (appends (entries_at (count_below key (entries s)) s table_head) (table_bytes [])))
      ≡ table_bytes (put (entry_of kind key v) (entries s))
  unfolding position_in
  built =
      let g = memory-good s p.good in
      let ds = entries_at (count_below key (entries s)) s table_head in
      let e = entry_of kind key v in
      let j = next key (entries s) in
      let rest = entries_at (count_of s - j) s (position_in j s) in
      let third = appends-table rest (ds ++ e ∷ []) (slim-snoc ds e first_part.1 entry-short)
      (shorts-from j (count_of s) s table_head 0 (length_at s 0) g.good (omega (arith, length-bounds s p.good, p.place)) few-next.0)
      (omega (
        arith,
        length-append ds (e ∷ []),
        length-at (count_below key (entries s)) s table_head,
        length-at (count_of s - j) s (position_in j s),
        few-next.1,
      )) in
      rw (first_part.0, second-part) (third.0 ∙ ap table_bytes (append_assoc ds (e ∷ []) rest ∙ sym split))

  -- What the code is given on the way.
  pub room-first : RoomFor (count_below key (entries s) - 0) (table_bytes [])
  room-first = room-table (count_below key (entries s) - 0) [] slim-none (omega (arith, few-below.0, (memory-good s p.good).few))

  pub room-second : RoomFor 1 (appends (entries_at (count_below key (entries s)) s table_head) (table_bytes []))
  room-second = rw first_part.0 (room-table 1 (entries_at (count_below key (entries s)) s table_head) first_part.1
      (omega (arith, length-at (count_below key (entries s)) s table_head, few-next.1)))

  pub room-third : RoomFor (count_of s - next key (entries s))
      (appended (entry_of kind key v) (appends (entries_at (count_below key (entries s)) s table_head) (table_bytes [])))
  room-third =
      let ds = entries_at (count_below key (entries s)) s table_head in
      rw (first_part.0, second-part)
      (room-table (count_of s - next key (entries s)) (ds ++ entry_of kind key v ∷ []) (slim-snoc ds (entry_of kind key v) first_part.1 entry-short)
      (omega (arith, length-append ds (entry_of kind key v ∷ []), length-at (count_below key (entries s)) s table_head, few-next.1)))

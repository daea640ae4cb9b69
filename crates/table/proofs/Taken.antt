-- Entries taken from where they stand: what the code reads of one is the entry, it is short, and it may be put behind a table that has
-- room for one more. Each from the lengths of the parts.
use Prim.Native.Nat.{ℕ, ◌+◌, ◌-◌, ◌≤◌}
use mathlib.Core.Path.{◌≡◌, ◌∙◌}
use mathlib.Core.Bool.{true}
use mathlib.Core.List.{List}
use native.Mathlib.Omega.{arith}
use lib.ListN.{length, take, drop}
use Rattle.coding.proofs.Sets.{length_part}
use Rattle.table.specs.Limits.{entry_head, entry_limit}
use Rattle.table.specs.Entry.{entry_of, entry_at, entry_bytes, entry_form, entry_length, length_at, kind_at, key_at}
use Rattle.table.specs.Table.{Seated, Appends, RoomFor}
use Rattle.table.proofs.Form.{formed, length-kept}
use Rattle.table.proofs.Position.{Stands}
use Rattle.table.proofs.Writes.{length-entry_bytes}

-- What stands in a table stands whole.
pub seated-of : (s : List ℕ) (at : ℕ) → Stands s at → Seated s at
seated-of s at t = record { form = t.form; low = t.low; high = t.high; room = t.room }

-- The entry at a position has the length that is written there.
pub entry-long : (s : List ℕ) (at : ℕ) → entry_form (kind_at s at) (length_at s at) ≡ true → at + length_at s at ≤ length s
    → entry_length (entry_at s at) ≡ length_at s at
unfolding entry_at
entry-long s at form room =
    let f = formed (kind_at s at) (length_at s at) form in
    let n = length_at s at - entry_head in
    let v = take n (drop (at + entry_head) s) in
    let l : entry_head + length v ≡ length_at s at = omega (arith, length_part s (at + entry_head) n (omega arith)) in
    length-kept (kind_at s at) (key_at s at) v (rw l form) ∙ l

-- Room for one is room for an entry of the right form.
pub room-appends : (s : List ℕ) (kind : ℕ) (v : List ℕ) → RoomFor 1 s → entry_form kind (entry_head + length v) ≡ true → Appends s kind v
room-appends s kind v r h =
    let f = formed kind (entry_head + length v) h in
    record { place = r.place; begun = r.begun; form = h; room = omega (arith, r.small, r.few); few = omega (arith, r.few) }

-- An entry that stands whole is short, and its bytes are as many as it says.
module _ (s : List ℕ) (at : ℕ) (form : entry_form (kind_at s at) (length_at s at) ≡ true) (room : at + length_at s at ≤ length s) where
  pub entry-short : entry_length (entry_at s at) ≤ entry_limit
  entry-short = omega (arith, entry-long s at form room, formed (kind_at s at) (length_at s at) form)

  pub bytes-long : length (entry_bytes (entry_at s at)) ≡ length_at s at
  bytes-long = length-entry_bytes (entry_at s at) ∙ entry-long s at form room

-- What the code reads of an entry: kind, key, length, and the part of the bytes that is its value.
module _ (s : List ℕ) (at kind key len : ℕ) (hk : kind ≡ kind_at s at) (hy : key ≡ key_at s at) (hl : len ≡ length_at s at) where
  part : at + len - (at + entry_head) ≡ length_at s at - entry_head
  part = omega arith

  pub entry_read : entry_of kind key (take (at + len - (at + entry_head)) (drop (at + entry_head) s)) ≡ entry_at s at
  unfolding entry_at
  entry_read = rw (part, hk, hy)

  module _ (form : entry_form (kind_at s at) (length_at s at) ≡ true) (room : at + length_at s at ≤ length s) where
    pub value-long : entry_head + length (take (at + len - (at + entry_head)) (drop (at + entry_head) s)) ≡ len
    value-long =
        let f = formed (kind_at s at) (length_at s at) form in
        omega (arith, length_part s (at + entry_head) (at + len - (at + entry_head)) (omega arith))

    pub form-read : entry_form kind (entry_head + length (take (at + len - (at + entry_head)) (drop (at + entry_head) s))) ≡ true
    form-read = rw (value-long, hk, hl) form

    pub appends-read : (to : List ℕ) → RoomFor 1 to → Appends to kind (take (at + len - (at + entry_head)) (drop (at + entry_head) s))
    appends-read to h = room-appends to kind (take (at + len - (at + entry_head)) (drop (at + entry_head) s)) h form-read

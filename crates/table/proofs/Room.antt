-- What can be reached in a place, over plain numbers and lists. The proofs of the functions hand these laws the facts that they need:
-- a tactic in such a proof would read every record of the walk, which is what takes its time.
use Prim.Native.Nat.{ℕ, ◌+◌, ◌-◌, ◌≤◌, ◌<◌, ◌^◌}
use mathlib.Core.Path.{◌≡◌}
use mathlib.Core.List.{List}
use native.Mathlib.Omega.{arith}
use lib.ListN.{length}
use mir.Syntax.{w64}
use mir.Val.{Fits}
use Rattle.table.specs.Limits.{entry_head, place_size}
use Rattle.table.specs.Entry.{length_at}
use Rattle.table.proofs.Position.{Stands}

-- Numbers of 16 bits, and those within a place, fit 64.
pub wide : {n : ℕ} → n < 2 ^ 16 → Fits w64 n
wide h = omega arith

pub in_place : (k n : ℕ) → k ≤ place_size → n ≡ place_size → k ≤ n
in_place k n h e = omega arith

-- An index below a bound: the next one fits as the bound does, and fewer are left from there.
pub one_more : (i n : ℕ) → i < n → n < 2 ^ 64 → Fits w64 (i + 1)
one_more i n h f = omega arith

pub one_less : (i n : ℕ) → i < n → n - (i + 1) < n - i
one_less i n h = omega arith

pub none_left : (i n : ℕ) → n ≤ i → n - i ≡ 0
none_left i n h = omega arith

pub below-same : (i n m : ℕ) → i < n → n ≡ m → i < m
below-same i n m h e = omega arith

-- Where an entry stands, its head can be read, and what stands behind it can be reached.
module _ (s : List ℕ) (at : ℕ) (size : length s ≡ place_size) (here : Stands s at) where
  pub length-within : at + 2 ≤ length s
  length-within = omega arith

  pub head-within : at + entry_head ≤ length s
  head-within = omega arith

  pub next_fits : (l : ℕ) → l ≡ length_at s at → Fits w64 (at + l)
  next_fits l e = omega arith

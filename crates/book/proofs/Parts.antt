-- A level's part of the lists: where it lies, and its items in use and behind them.
use Prim.Native.Nat.{ℕ, ◌+◌, ◌*◌, ◌-◌, ◌≤◌, ◌<◌}
use mathlib.Core.Path.{◌≡◌, sym}
use mathlib.Core.List.{List}
use native.Mathlib.Omega.{arith}
use native.Mathlib.Nat.{mul-le-mul_right, suc-mul}
use lib.ListN.{take, drop}
use lib.Seq.{take-take, drop-drop}
use Rattle.ldc.proofs.Basics.ListLaws.{drop-take}
use Rattle.ldc.specs.Layout.{part_in}

pub part-fits : (n k places : ℕ) → n < k → n * places + places ≤ k * places
part-fits n k places h = omega (arith, mul-le-mul_right places h, suc-mul n places)

-- The first items of a part are those of the lists from the part's start on.
pub items-whole : (places : ℕ) (lists : List ℕ) (len n : ℕ) → len ≤ places → take len (part_in places lists n) ≡ take len (drop (n * places) lists)
items-whole places lists len n h = take-take len places (drop (n * places) lists) h

pub items-part : (places : ℕ) (lists : List ℕ) (len n : ℕ) → len ≤ places
    → take (n * places + len - n * places) (drop (n * places) lists) ≡ take len (part_in places lists n)
items-part places lists len n h =
    let e : n * places + len - n * places ≡ len = omega arith in
    rw e (sym (items-whole places lists len n h))

pub rest_part : (places : ℕ) (lists : List ℕ) (len n : ℕ) → len ≤ places
    → take (n * places + places - (n * places + len)) (drop (n * places + len) lists) ≡ drop len (part_in places lists n)
rest_part places lists len n h =
    let e : n * places + places - (n * places + len) ≡ places - len = omega arith in
    rw (e, ← drop-drop len (n * places) lists) (sym (drop-take len places (drop (n * places) lists)))

-- The pieces of the book that are arrays, as what lies in memory, and as places in a signature of n lifetimes.
use Prim.Native.Nat.{ℕ}
use denote.RattleType.{RattleType}
use denote.Array.{Array}
use denote.Builtin.{u8, u64, ArrayOf}
use denote.Signature.{Slot, plain}
use Rattle.table.specs.Limits.{place_size}
use Rattle.ldc.specs.Layout.{row_size, head_size}

abbrev pub Row : RattleType
Row = Array u64 row_size

abbrev pub Head : RattleType
Head = Array u64 head_size

abbrev pub Mem : RattleType
Mem = Array u8 place_size

abbrev pub RowS : {n : ℕ} → Slot n
RowS = ArrayOf (plain (λ _. u64)) (λ _. tt) row_size

abbrev pub HeadS : {n : ℕ} → Slot n
HeadS = ArrayOf (plain (λ _. u64)) (λ _. tt) head_size

abbrev pub MemS : {n : ℕ} → Slot n
MemS = ArrayOf (plain (λ _. u8)) (λ _. tt) place_size

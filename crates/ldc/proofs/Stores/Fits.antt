-- Marks and links of a store fit in eight bytes each: every key of them is below 2^64. (Soundness says so of the tables' own keys alone.)
use Prim.Native.Nat.{ℕ, ◌<◌, ◌^◌}
use mathlib.Core.List.{Memᴰ}
use mathlib.Core.Option.{some}
use Rattle.ldc.specs.Store.{Link, Store, links}

pub record Fits (s : Store) : Type 0 where
  pub marks : (k : ℕ) → Memᴰ (some k) s.marks → k < 2 ^ 64
  pub links : (p : ℕ) (l : Link) → Memᴰ l (links s p) → l.high < 2 ^ 64

-- A sound store, in the form that the proofs use: rules A to G as facts at every place, level and link.
-- Cards beyond the last are free, so that no fact has to say "below P".
use Prim.Native.Nat.{ℕ, suc, ◌≤◌, ◌<◌}
use mathlib.Core.Path.{◌≡◌}
use mathlib.Core.List.{List, [], ◌++◌, Memᴰ}
use mathlib.Core.Bool.{true, false, cond}
use lib.ListN.{length}
use Rattle.coding.specs.Number.{Bytes}
use Rattle.table.specs.Limits.{place_size}
use Rattle.table.specs.Table.{is_table}
use Rattle.table.specs.Valid.{Valid}
use Rattle.ldc.specs.Store.{Link, Store, size, card, links, is_free, is_live, is_frozen, bytes_at, level}
use Rattle.ldc.specs.Rules.{rule_a, times_listed, link_good, hung_on, all_apart, named, spans_rise}
use Rattle.ldc.specs.Layout.{level_count, most_places, fewest_places}

-- Bytes that are a table in a place.
pub record TablePlace (b : List ℕ) : Type 0 where
  pub long : length b ≡ place_size
  pub bytes : Bytes b
  pub good : is_table b ≡ true

pub record Sound (s : Store) : Type 0 where
  -- sizes
  pub fewest : fewest_places ≤ size s
  pub most : size s ≤ most_places
  pub placed : length s.places ≡ size s
  pub four : length s.levels ≡ level_count
  pub two : length s.marks ≡ 2
  -- A to D
  pub rule_a-kept : rule_a s ≡ true
  pub listed : (p : ℕ) → times_listed s p ≡ cond (is_live (card s p)) 1 0
  pub tables : (p : ℕ) → is_free (card s p) ≡ false → TablePlace (bytes_at s p)
  pub memory : Valid s.memory
  -- E
  pub bare : (p : ℕ) → Memᴰ p (level s 0) → links s p ≡ []
  pub few : (p : ℕ) → length (links s p) ≤ s.threshold
  pub hung : (p : ℕ) (l : Link) → Memᴰ l (links s p) → link_good s l ≡ true
  pub disjoint : all_apart (hung_on s 1 ++ (hung_on s 2 ++ hung_on s 3)) ≡ true
  -- F and G
  pub naming : (p : ℕ) → is_frozen (card s p) ≡ named s p
  pub rising : (n : ℕ) → spans_rise s (level s (suc n)) ≡ true

-- Every place has 1,024 bytes, the free ones too. (No step reads a free place; only the bytes as lent need this.)
abbrev pub Whole : Store → Type 0
Whole s = (p : ℕ) → p < size s → length (bytes_at s p) ≡ place_size

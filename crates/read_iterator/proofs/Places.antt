-- A spot's place in the area or behind it, and its entry there.
use Prim.Native.Nat.{ℕ, ◌+◌, ◌*◌, ◌≤◌, ◌<◌, ◌/◌, ◌%◌}
use mathlib.Core.Path.{◌≡◌, refl, sym, ◌∙◌, ap}
use mathlib.Core.Bool.{not}
use mathlib.Core.List.{List, ◌++◌}
use native.Mathlib.Omega.{arith}
use lib.Dec.{eqb}
use lib.ListN.{length, length-append}
use Rattle.table.specs.Limits.{place_size, entry_head}
use Rattle.table.specs.Entry.{length_at, kind_at, entry_at}
use Rattle.table.specs.Table.{place_at, place_of, Seated}
use Rattle.ldc.specs.Lent.{Lent}
use Rattle.ldc.specs.Read.{holds_value}
use Rattle.ldc.proofs.Lent.Shows.{sizes}
use Rattle.read.specs.Shown.{Kept}
use Rattle.read.proofs.Hits.{value-test}
use Rattle.read_gather.specs.Gathered.{SeatedIn}
use Rattle.read_gather.proofs.Seats.{seat-length, seat-kind, seat-shown}
use Rattle.read_gather.proofs.Steps.{place-before}
use Rattle.read_gather.proofs.Whole.{place-behind}
use Rattle.read_iterator.specs.Spots.{Whole}

-- ---- whole places

pub whole-kept : (m : Lent) → Kept m → length m.memory ≡ place_size → Whole m.area m.memory
whole-kept m k h = record { places = omega (arith, (sizes m k.sizes).area); table = h }

-- ---- which place

module _ (area memory : List ℕ) (w : Whole area memory) (spot : ℕ) where
  pub in_area : spot < length area → place_of area (spot / place_size) ≡ place_of (area ++ memory) (spot / place_size)
  in_area h = place-before area memory (spot / place_size * place_size) (omega (arith, w.places))

  pub in_memory : length area ≤ spot → spot < length area + place_size → memory ≡ place_of (area ++ memory) (spot / place_size)
  in_memory l h =
      let e : length area ≡ spot / place_size * place_size = omega (arith, w.places) in
      place-behind area memory w.table ∙ ap (λ b. place_at b (area ++ memory)) e

  pub spot-within : SeatedIn (area ++ memory) spot → spot < length area + place_size
  spot-within t = omega (arith, t.low, t.room, length-append area memory, w.table)

-- ---- the entry there

module _ (bytes : List ℕ) (spot : ℕ) (t : SeatedIn bytes spot) where
  abbrev s : List ℕ
  s = place_of bytes (spot / place_size)

  head : spot % place_size + entry_head ≤ place_size
  head = omega (arith, t.low, t.placed)

  same : spot / place_size * place_size + spot % place_size ≡ spot
  same = omega arith

  len : length_at s (spot % place_size) ≡ length_at bytes spot
  len = sym (seat-length bytes s (spot / place_size * place_size) (spot % place_size) refl head) ∙ ap (length_at bytes) same

  kind : kind_at s (spot % place_size) ≡ kind_at bytes spot
  kind = sym (seat-kind bytes s (spot / place_size * place_size) (spot % place_size) refl head) ∙ ap (kind_at bytes) same

  spot-seated : Seated s (spot % place_size)
  spot-seated = record {
    form = rw (kind, len) t.form;
    low = rw len t.low;
    high = rw len t.high;
    room = rw len t.placed;
  }

  spot-shown : entry_at s (spot % place_size) ≡ entry_at bytes spot
  spot-shown =
      sym (seat-shown bytes s (spot / place_size * place_size) (spot % place_size) refl head spot-seated.room) ∙ ap (entry_at bytes) same

  -- Read in the bytes of its place.
  module _ (place : List ℕ) (p : place ≡ s) where
    pub seated-there : Seated place (spot % place_size)
    seated-there = rw p spot-seated

    pub shown-there : entry_at place (spot % place_size) ≡ entry_at bytes spot
    shown-there = rw p spot-shown

    pub value_there : (kind : ℕ) → kind ≡ kind_at place (spot % place_size) → not (eqb kind 2) ≡ holds_value (entry_at bytes spot)
    value_there kind k = rw k (value-test place (spot % place_size) ∙ ap holds_value shown-there)

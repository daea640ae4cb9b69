-- Keys (document 01): line number (24 bits) times 2^40 plus distance in millimetres (40 bits).
use Rattle.std.specs.Prelude.{ℕ, ◌+◌, ◌*◌, ◌/◌, ◌%◌, ◌^◌, cond, ◌&&◌, ltb, Option, Some, None}
use Rattle.coding.specs.declared.key.Key.{Key}

-- A line and a distance that fit their bits make a key; others are refused.
unfoldable pub key_of : (line distance : ℕ) → Option Key
key_of line distance =
    cond (ltb line (2 ^ 24) && ltb distance (2 ^ 40))
    (Some (record { value = line * 2 ^ 40 + distance }))
    None

-- The line number in a key.
abbrev pub line_of : (key : ℕ) → ℕ
line_of key = key / 2 ^ 40

-- The distance in a key, in millimetres.
abbrev pub distance_of : (key : ℕ) → ℕ
distance_of key = key % 2 ^ 40

-- Lines and distances are below these.
abbrev pub lines : ℕ
lines = 2 ^ 24

abbrev pub distances : ℕ
distances = 2 ^ 40

-- The key of a line and a distance that fit their bits.
abbrev pub key_on : (line distance : ℕ) → Key
key_on line distance = record { value = line * distances + distance }

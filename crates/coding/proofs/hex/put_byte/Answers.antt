-- `put_byte` meets its contract: a space and the two digits, one behind the other.
use Rattle.std.proofs.Common.{ℕ, List, suc, ◌≡◌, ◌+◌, ◌/◌, ◌%◌, arith}
use Rattle.std.proofs.lemmas.List.Edits.{sets}
use lib.ListN.{set}
use Rattle.coding.specs.Hex.{hex_digit, byte_text}
use Rattle.coding.proofs.hex.put_byte.Goals as goal

-- The three stores.
written : (o : List ℕ) (at b high low : ℕ) → high ≡ hex_digit (b / 16) → low ≡ hex_digit (b % 16)
    → set (set (set o at 32) (at + 1) high) (at + 2) low ≡ sets o at (byte_text b)
unfolding byte_text
written o at b high low h l =
    let one : at + 1 ≡ suc at = omega arith in
    let two : at + 2 ≡ suc (suc at) = omega arith in
    rw (one, two, h, l)

pub returns : goal.returns
returns c = written c.args.out.now c.args.at c.args.b _ _ c.digit.ensures c.digit-2.ensures

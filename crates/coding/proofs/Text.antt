-- One turn of the loop that spells bytes: what is left to write is the text of this byte and of those behind it.
use Prim.Native.Nat.{ℕ, suc, ◌+◌, ◌*◌, ◌<◌}
use mathlib.Core.Path.{◌≡◌, refl}
use mathlib.Core.List.{List}
use native.Mathlib.Omega.{arith}
use native.Mathlib.Numerals.{add-one}
use lib.ListN.{length, get_or, drop}
use lib.Seq.{sets, drop-cons}
use Rattle.coding.proofs.Sets.{sets-append}
use Rattle.coding.specs.Hex.{byte_text, bytes_text}

length-byte_text : (b : ℕ) → length (byte_text b) ≡ 3
unfolding byte_text
length-byte_text b = refl

pub text-turn : (o v : List ℕ) (i : ℕ) → i < length v
    → sets o (3 * i) (bytes_text (drop i v)) ≡ sets (sets o (3 * i) (byte_text (get_or v i 0))) (3 * (i + 1)) (bytes_text (drop (i + 1) v))
unfolding bytes_text
text-turn o v i h =
    let next : 3 * (i + 1) ≡ 3 * i + length (byte_text (get_or v i 0)) = omega (arith, length-byte_text (get_or v i 0)) in
    rw (next, add-one i, drop-cons v i 0 h) (sets-append o (3 * i) (byte_text (get_or v i 0)) (bytes_text (drop (suc i) v)))

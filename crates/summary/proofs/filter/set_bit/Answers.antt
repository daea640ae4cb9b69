-- `set_bit` meets its contract: the mask is the power of two that the definition has, since it lies within a byte.
use Rattle.std.proofs.Common.{ℕ, ◌≡◌, ◌*◌, ◌%◌, ◌^◌, ◌<◌, ◌∙◌, ap, bit_and}
use native.Mathlib.Nat.{mod-eq_of_lt, one-mul}
use lib.Pow.{pow-lt}
use Rattle.summary.specs.Bits.{with_bit}
use Rattle.summary.proofs.Words.{bit-place, bit-place-below}
use Rattle.summary.proofs.filter.set_bit.Goals as goal

-- The mask of bit n.
mask : (n : ℕ) → 1 * 2 ^ bit_and n 7 % 256 ≡ 2 ^ (n % 8)
mask n =
    let within : 2 ^ bit_and n 7 < 2 ^ 8 = pow-lt {j = 8} (bit-place-below n) in
    ap (λ x. x % 256) (one-mul (2 ^ bit_and n 7)) ∙ mod-eq_of_lt within ∙ ap (λ x. 2 ^ x) (bit-place n)

pub returns : goal.returns
unfolding with_bit
returns c = rw (mask c.args.n)

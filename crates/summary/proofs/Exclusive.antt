-- The exclusive or of a key's bytes, as the code works it out: of the halves, of the quarters, of their bytes. A byte of an exclusive or is
-- that of the bytes, and since it associates the order does not matter. That it associates is shown digit by digit.
use Prim.Native.Nat.{ℕ, zero, suc, ◌+◌, ◌*◌, ◌/◌, ◌%◌, ◌^◌, ◌<◌}
use mathlib.Core.Path.{◌≡◌, refl, sym, ◌∙◌, ap, ap₂}
use native.Mathlib.Omega.{arith}
use lib.Arith.{bin_ind, digits_mod}
use lib.Bits.{bit_and, bit_xor, differ, and_mask, xor_step, xor_shr, xor_mod, xor_comm, xor_zero_r}
use Rattle.summary.specs.Bits.{exclusive, exclusive_bit}
use Rattle.summary.proofs.Folded.{listed}

-- ---- it associates

differ-below : (x y : ℕ) → x < 2 → y < 2 → differ x y < 2
differ-below zero y hx hy = hy
differ-below (suc zero) zero hx hy = omega arith
differ-below (suc zero) (suc y) hx hy = omega arith
differ-below (suc (suc x)) y hx hy = absurd (omega arith)

differ-assoc : (x y z : ℕ) → x < 2 → y < 2 → z < 2 → differ (differ x y) z ≡ differ x (differ y z)
differ-assoc zero y z hx hy hz = refl
differ-assoc (suc zero) zero z hx hy hz = refl
differ-assoc (suc zero) (suc zero) zero hx hy hz = refl
differ-assoc (suc zero) (suc zero) (suc zero) hx hy hz = refl
differ-assoc (suc zero) (suc zero) (suc (suc z)) hx hy hz = absurd (omega arith)
differ-assoc (suc zero) (suc (suc y)) z hx hy hz = absurd (omega arith)
differ-assoc (suc (suc x)) y z hx hy hz = absurd (omega arith)

low_digit : (a b : ℕ) → bit_xor a b % 2 ≡ differ (a % 2) (b % 2)
low_digit a b =
    ap (λ x. x % 2) (xor_step a b)
    ∙ digits_mod (bit_xor (a / 2) (b / 2)) (differ-below (a % 2) (b % 2) (omega arith) (omega arith))

xor_assoc : (a b c : ℕ) → bit_xor (bit_xor a b) c ≡ bit_xor a (bit_xor b c)
xor_assoc =
    bin_ind (λ n. (b c : ℕ) → bit_xor (bit_xor n b) c ≡ bit_xor n (bit_xor b c)) (λ b c. refl)
    (λ n ih b c.
    xor_step (bit_xor n b) c
    ∙ ap₂ (λ x y. bit_xor x (c / 2) * 2 + differ y (c % 2)) (xor_shr n b 1) (low_digit n b)
    ∙ ap₂ (λ x y. x * 2 + y) (ih (b / 2) (c / 2)) (differ-assoc (n % 2) (b % 2) (c % 2) (omega arith) (omega arith) (omega arith))
    ∙ sym (xor_step n (bit_xor b c) ∙ ap₂ (λ x y. bit_xor (n / 2) x * 2 + differ (n % 2) y) (xor_shr b c 1) (low_digit b c)))

-- ---- eight of them in another order

module _ (op : ℕ → ℕ → ℕ) (assoc : (a b c : ℕ) → op (op a b) c ≡ op a (op b c)) (comm : (a b : ℕ) → op a b ≡ op b a) where
  left_comm : (a b c : ℕ) → op a (op b c) ≡ op b (op a c)
  left_comm a b c = sym (assoc a b c) ∙ ap (λ x. op x c) (comm a b) ∙ assoc b a c

  reordered : (a b c d e f g h : ℕ)
      → op (op (op a e) (op c g)) (op (op b f) (op d h)) ≡ op a (op b (op c (op d (op e (op f (op g h))))))
  reordered a b c d e f g h = simp (assoc, left_comm)

-- ---- the bit of a key

-- Byte i of an exclusive or.
xor-byte : (a b i : ℕ) → bit_xor a b / 2 ^ i % 256 ≡ bit_xor (a / 2 ^ i % 256) (b / 2 ^ i % 256)
xor-byte a b i = ap (λ x. x % 256) (xor_shr a b i) ∙ xor_mod (a / 2 ^ i) (b / 2 ^ i) 8

pub exclusive-folded : (k h q : ℕ) → h ≡ bit_xor k (k / 4294967296) → q ≡ bit_xor h (h / 65536)
    → bit_and (bit_xor q (q / 256)) 255 ≡ exclusive_bit k
unfolding exclusive_bit
exclusive-folded k h q eh eq =
    let b : ℕ = k / 65536 in
    let c : ℕ = k / 65536 / 65536 in
    let d : ℕ = k / 65536 / 65536 / 65536 in
    let g : h ≡ bit_xor k c = eh ∙ ap (bit_xor k) (omega arith) in
    let h0 : h % 256 ≡ bit_xor (k % 256) (c % 256) = ap (λ x. x % 256) g ∙ xor_mod k c 8 in
    let h1 : h / 256 % 256 ≡ bit_xor (k / 256 % 256) (c / 256 % 256) = ap (λ x. x / 256 % 256) g ∙ xor-byte k c 8 in
    let up : h / 65536 ≡ bit_xor b d = ap (λ x. x / 65536) g ∙ xor_shr k c 16 in
    let h2 : h / 65536 % 256 ≡ bit_xor (b % 256) (d % 256) = ap (λ x. x % 256) up ∙ xor_mod b d 8 in
    let h3 : h / 65536 / 256 % 256 ≡ bit_xor (b / 256 % 256) (d / 256 % 256) = ap (λ x. x / 256 % 256) up ∙ xor-byte b d 8 in
    let q0 : q % 256 ≡ bit_xor (h % 256) (h / 65536 % 256) = ap (λ x. x % 256) eq ∙ xor_mod h (h / 65536) 8 in
    let q1 : q / 256 % 256 ≡ bit_xor (h / 256 % 256) (h / 65536 / 256 % 256) = ap (λ x. x / 256 % 256) eq ∙ xor-byte h (h / 65536) 8 in
    let whole : bit_and (bit_xor q (q / 256)) 255 ≡ bit_xor (q % 256) (q / 256 % 256) =
    and_mask (bit_xor q (q / 256)) 8 ∙ xor_mod q (q / 256) 8 in
    let first : q % 256 ≡ bit_xor (bit_xor (k % 256) (c % 256)) (bit_xor (b % 256) (d % 256)) = q0 ∙ ap₂ bit_xor h0 h2 in
    let second : q / 256 % 256 ≡ bit_xor (bit_xor (k / 256 % 256) (c / 256 % 256)) (bit_xor (b / 256 % 256) (d / 256 % 256)) =
    q1 ∙ ap₂ bit_xor h1 h3 in
    whole
    ∙ ap₂ bit_xor first second
    ∙ reordered bit_xor xor_assoc xor_comm
    (k % 256) (k / 256 % 256) (b % 256) (b / 256 % 256) (c % 256) (c / 256 % 256) (d % 256) (d / 256 % 256)
    ∙ ap
    (λ x. bit_xor (k % 256) (bit_xor (k / 256 % 256) (bit_xor (b % 256) (bit_xor (b / 256 % 256)
    (bit_xor (c % 256) (bit_xor (c / 256 % 256) (bit_xor (d % 256) x)))))))
    (sym (xor_zero_r (d / 256 % 256)))
    ∙ sym (ap exclusive (listed k))

-- Keys in another order, or said twice, make the same summary: it has the bits of its keys and no other, and bytes with the same bits
-- are the same. A number below 2^w is known by its w lowest bits: by induction on w.
use Prim.Native.Nat.{ℕ, zero, suc, ◌+◌, ◌*◌, ◌/◌, ◌%◌, ◌^◌, ◌<◌}
use mathlib.Core.Path.{◌≡◌, refl, sym, ◌∙◌, ap}
use mathlib.Core.Bool.{Bool, true, false, true≢false}
use mathlib.Core.List.{List, [], ◌∷◌, Memᴰ}
use mathlib.Core.Logic.{⊎_elim}
use native.Mathlib.Omega.{arith}
use native.Mathlib.Nat.{div-one, div-lt_iff_lt-mul, div-div-eq-div-mul, mul_comm, pow-suc, pow-zero}
use borrow.Author.Tests.{eqb-true, eqb-false}
use lib.Dec.{eqb}
use lib.ListN.{length, get_or}
use lib.Seq.{ext_get_or}
use Rattle.coding.proofs.NumberLaws.{Bytes}
use Rattle.table.proofs.Tests.{cases, or_parts}
use Rattle.summary.specs.Bits.{has_bit}
use Rattle.summary.specs.Summary.{summary_of}
use Rattle.summary.proofs.Form.{length-summary, bytes-summary}
use Rattle.summary.proofs.Held.{key_has, any_has, any-member, has-summary}

-- Two tests that follow from one another are the same.
same_tests : (a b : Bool) → (a ≡ true → b ≡ true) → (b ≡ true → a ≡ true) → a ≡ b
same_tests true b f g = sym (f refl)
same_tests false true f g = g refl
same_tests false false f g = refl

-- A bit that some key has: which one?
some_key : (n : ℕ) (ks : List ℕ) → any_has n ks ≡ true → (k : ℕ) × Memᴰ k ks × (key_has n k ≡ true)
some_key n [] h = absurd (true≢false (sym h))
some_key n (k ∷ ks) h =
    ⊎_elim (λ here. (k, Memᴰ.head refl, here))
    (λ later. let r = some_key n ks later in (r.0, Memᴰ.tail r.1, r.2))
    (or_parts (key_has n k) (any_has n ks) h)

-- A bit of a number below 2 is the number.
low_bit : (a b : ℕ) → eqb (a % 2) 1 ≡ eqb (b % 2) 1 → a % 2 ≡ b % 2
low_bit a b e =
    cases (eqb (a % 2) 1)
    (λ q. let x : a % 2 ≡ 1 = eqb-true _ _ q in let y : b % 2 ≡ 1 = eqb-true _ _ (sym e ∙ q) in omega arith)
    (λ q. let x : a % 2 ≡ 1 → ⊥ = eqb-false _ _ q in let y : b % 2 ≡ 1 → ⊥ = eqb-false _ _ (sym e ∙ q) in omega arith)

-- Numbers with the same w lowest bits, and no other.
same_bits : (w a b : ℕ) → a < 2 ^ w → b < 2 ^ w → ((j : ℕ) → j < w → eqb (a / 2 ^ j % 2) 1 ≡ eqb (b / 2 ^ j % 2) 1) → a ≡ b
same_bits zero a b ha hb h = omega (arith, pow-zero 2)
same_bits (suc w) a b ha hb h =
    let half : (x : ℕ) → x < 2 ^ suc w → x / 2 < 2 ^ w = λ x hx. (div-lt_iff_lt-mul {k = 2} (omega arith)).1 (rw pow-suc at hx) in
    let shift : (x j : ℕ) → x / 2 ^ suc j ≡ x / 2 / 2 ^ j =
    λ x j. ap (λ p. x / p) (pow-suc 2 j ∙ mul_comm (2 ^ j) 2) ∙ sym (div-div-eq-div-mul x 2 (2 ^ j)) in
    let first : a % 2 ≡ b % 2 = low_bit a b (rw (pow-zero 2, div-one a, div-one b) at (h 0 (omega arith))) in
    let rest : a / 2 ≡ b / 2 = same_bits w (a / 2) (b / 2) (half a ha) (half b hb)
    (λ j hj. rw (shift a j, shift b j) at (h (suc j) (omega arith))) in
    omega arith

-- Bytes with the same bits.
same_bytes : (s t : List ℕ) → length s ≡ length t → Bytes s → Bytes t → ((n : ℕ) → has_bit s n ≡ has_bit t n) → s ≡ t
unfolding has_bit
same_bytes s t l bs bt h =
    ext_get_or 0 s t l (λ i hi.
    same_bits 8 (get_or s i 0) (get_or t i 0) (bs i) (bt i) (λ j hj.
    let byte : (i * 8 + j) / 8 ≡ i = omega arith in
    let low : (i * 8 + j) % 8 ≡ j = omega arith in
    rw (byte, low) at (h (i * 8 + j))))

-- Each of these keys is one of those.
abbrev pub Within : (ks ks' : List ℕ) → Type 0
Within ks ks' = (k : ℕ) → Memᴰ k ks → Memᴰ k ks'

any-within : (n : ℕ) (ks ks' : List ℕ) → Within ks ks' → any_has n ks ≡ true → any_has n ks' ≡ true
any-within n ks ks' w h = let k = some_key n ks h in any-member n k.0 ks' (w k.0 k.1) k.2

pub same_keys : (ks ks' : List ℕ) → Within ks ks' → Within ks' ks → summary_of ks ≡ summary_of ks'
same_keys ks ks' f g =
    same_bytes (summary_of ks) (summary_of ks') (length-summary ks ∙ sym (length-summary ks')) (bytes-summary ks) (bytes-summary ks')
    (λ n. has-summary ks n
    ∙ same_tests (any_has n ks) (any_has n ks') (any-within n ks ks' f) (any-within n ks' ks g)
    ∙ sym (has-summary ks' n))

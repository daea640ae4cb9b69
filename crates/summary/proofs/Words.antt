-- Four words and the 32 bytes in them: the byte at an index, a bit of it by shifts and masks, how many bits are set, and comparing.
-- The byte at an index is found by induction on the words, and the ones of a number are those of its bytes, by induction on the width.
use Prim.Native.Nat.{ℕ, zero, suc, ◌+◌, ◌*◌, ◌/◌, ◌%◌, ◌-◌, ◌^◌, ◌≤◌, ◌<◌}
use mathlib.Core.Path.{◌≡◌, refl, sym, ◌∙◌, ap}
use mathlib.Core.Bool.{◌&&◌, and-true}
use mathlib.Core.List.{List, [], ◌∷◌, ◌++◌}
use native.Mathlib.Omega.{arith}
use native.Mathlib.Nat.{zero-div, div-one, div-lt_iff_lt-mul, pow-suc, pow-zero}
use borrow.Author.Tests.{ltb-true, ltb-false}
use lib.Bits.{bit_and, and_mask, and_high}
use lib.Count.{ones, ones_cat}
use lib.Dec.{eqb, ltb}
use lib.ListN.{length, get_or, get_or-append}
use lib.Pow.{shr-shr}
use lib.Seq.{get_or-append-add}
use Rattle.coding.specs.Number.{bytes_of}
use Rattle.coding.proofs.NumberLaws.{length-bytes_of}
use Rattle.table.proofs.Tests.{cases}
use Rattle.summary.specs.Bits.{has_bit}
use Rattle.summary.specs.Summary.{summary_words, bits_set, bytes_in, same_words}

-- ---- the byte at an index

byte_of : (w n i : ℕ) → i < w → get_or (bytes_of w n) i 0 ≡ n / 2 ^ (i * 8) % 256
unfolding bytes_of
byte_of zero n i h = absurd (omega arith)
byte_of (suc w) n zero h = ap (λ x. x % 256) (sym (div-one n))
byte_of (suc w) n (suc i) h =
    let e : suc i * 8 ≡ 8 + i * 8 = omega arith in
    byte_of w (n / 256) i (omega arith) ∙ ap (λ x. x % 256) (shr-shr n 8 (i * 8)) ∙ ap (λ x. n / 2 ^ x % 256) (sym e)

pub byte-in : (ws : List ℕ) (i : ℕ) → get_or (bytes_in ws) i 0 ≡ get_or ws (i / 8) 0 / 2 ^ (i % 8 * 8) % 256
byte-in [] i = rw (zero-div (2 ^ (i % 8 * 8)))
byte-in (w ∷ ws) i =
    cases (ltb i 8)
    (λ q. let h : i < 8 = ltb-true i 8 q in
    let high : i / 8 ≡ 0 = omega arith in
    let low : i % 8 ≡ i = omega arith in
    get_or-append (bytes_of 8 w) (bytes_in ws) 0 i (rw (length-bytes_of 8 w) h)
    ∙ byte_of 8 w i h ∙ rw (high, low))
    (λ q. let h : 8 ≤ i = ltb-false i 8 q in
    let high : i / 8 ≡ suc ((i - 8) / 8) = omega arith in
    let low : i % 8 ≡ (i - 8) % 8 = omega arith in
    let at : i ≡ length (bytes_of 8 w) + (i - 8) = omega (arith, length-bytes_of 8 w) in
    ap (λ j. get_or (bytes_of 8 w ++ bytes_in ws) j 0) at
    ∙ get_or-append-add (bytes_of 8 w) (bytes_in ws) (i - 8) 0
    ∙ byte-in ws (i - 8)
    ∙ rw (high, low))

-- ---- a bit of it

-- Where the byte of bit n begins in its word, and where the bit stands in the byte.
byte-start : (n : ℕ) → bit_and n 56 ≡ n / 8 % 8 * 8
byte-start n = and_high n 3 3

pub bit-place : (n : ℕ) → bit_and n 7 ≡ n % 8
bit-place n = and_mask n 3

pub bit-place-below : (n : ℕ) → bit_and n 7 < 8
bit-place-below n = omega (arith, bit-place n)

pub bit-read : (ws : List ℕ) (n : ℕ)
    → eqb (bit_and (bit_and (get_or ws (n / 64) 0 / 2 ^ bit_and n 56) 255 / 2 ^ bit_and n 7) 1) 1 ≡ has_bit (bytes_in ws) n
unfolding has_bit
bit-read ws n =
    let word : n / 8 / 8 ≡ n / 64 = omega arith in
    let byte : bit_and (get_or ws (n / 64) 0 / 2 ^ bit_and n 56) 255 ≡ get_or (bytes_in ws) (n / 8) 0 =
    and_mask (get_or ws (n / 64) 0 / 2 ^ bit_and n 56) 8
    ∙ ap (λ x. get_or ws (n / 64) 0 / 2 ^ x % 256) (byte-start n)
    ∙ ap (λ x. get_or ws x 0 / 2 ^ (n / 8 % 8 * 8) % 256) (sym word)
    ∙ sym (byte-in ws (n / 8)) in
    ap (λ x. eqb (bit_and (x / 2 ^ bit_and n 7) 1) 1) byte
    ∙ ap (λ x. eqb x 1) (and_mask (get_or (bytes_in ws) (n / 8) 0 / 2 ^ bit_and n 7) 1)
    ∙ ap (λ x. eqb (get_or (bytes_in ws) (n / 8) 0 / 2 ^ x % 2) 1) (bit-place n)

-- ---- how many are set

ones-bytes : (w n : ℕ) → n < 256 ^ w → ones n ≡ bits_set (bytes_of w n)
unfolding bytes_of ones
ones-bytes zero n h = let e : n ≡ 0 = omega (arith, pow-zero 256) in ap ones e
ones-bytes (suc w) n h =
    let q : n / 256 < 256 ^ w = (div-lt_iff_lt-mul {k = 256} (omega arith)).1 (rw pow-suc at h) in
    let cut : n ≡ n / 256 * 2 ^ 8 + n % 256 = omega arith in
    let apart : ones (n / 256 * 2 ^ 8 + n % 256) ≡ ones (n / 256) + ones (n % 256) = ones_cat 8 (n / 256) (n % 256) (omega arith) in
    ap ones cut ∙ omega (arith, apart, ones-bytes w (n / 256) q)

bits-append : (s t : List ℕ) → bits_set (s ++ t) ≡ bits_set s + bits_set t
bits-append [] t = omega arith
bits-append (b ∷ s) t = omega (arith, bits-append s t)

pub bits-word : (w : ℕ) (ws : List ℕ) → w < 2 ^ 64 → bits_set (bytes_in (w ∷ ws)) ≡ ones w + bits_set (bytes_in ws)
bits-word w ws h = bits-append (bytes_of 8 w) (bytes_in ws) ∙ ap (λ x. x + bits_set (bytes_in ws)) (sym (ones-bytes 8 w h))

-- Four words, one by one.
four : (ws : List ℕ) → length ws ≡ summary_words → ws ≡ get_or ws 0 0 ∷ get_or ws 1 0 ∷ get_or ws 2 0 ∷ get_or ws 3 0 ∷ []
four [] h = absurd (omega arith)
four (a ∷ []) h = absurd (omega arith)
four (a ∷ b ∷ []) h = absurd (omega arith)
four (a ∷ b ∷ c ∷ []) h = absurd (omega arith)
four (a ∷ b ∷ c ∷ d ∷ []) h = refl
four (a ∷ b ∷ c ∷ d ∷ e ∷ ws) h = absurd (omega arith)

module _ (ws : List ℕ) (size : length ws ≡ summary_words) where
  pub bits-read : ((i : ℕ) → get_or ws i 0 < 2 ^ 64)
      → (ones (get_or ws 0 0) + ones (get_or ws 1 0)) + (ones (get_or ws 2 0) + ones (get_or ws 3 0)) ≡ bits_set (bytes_in ws)
  bits-read small =
      let a = get_or ws 0 0 in
      let b = get_or ws 1 0 in
      let c = get_or ws 2 0 in
      let d = get_or ws 3 0 in
      let whole : bits_set (bytes_in ws) ≡ bits_set (bytes_in (a ∷ b ∷ c ∷ d ∷ [])) = ap (λ x. bits_set (bytes_in x)) (four ws size) in
      omega (
        arith,
        whole,
        bits-word a (b ∷ c ∷ d ∷ []) (small 0),
        bits-word b (c ∷ d ∷ []) (small 1),
        bits-word c (d ∷ []) (small 2),
        bits-word d [] (small 3),
      )

  -- Compared one by one.
  pub same_read : (xs : List ℕ) → length xs ≡ summary_words
      → eqb (get_or ws 0 0) (get_or xs 0 0)
      && (eqb (get_or ws 1 0) (get_or xs 1 0) && (eqb (get_or ws 2 0) (get_or xs 2 0) && eqb (get_or ws 3 0) (get_or xs 3 0)))
      ≡ same_words ws xs
  same_read xs h =
      ap (λ x. eqb (get_or ws 0 0) (get_or xs 0 0) && (eqb (get_or ws 1 0) (get_or xs 1 0) && (eqb (get_or ws 2 0) (get_or xs 2 0) && x)))
      (sym (and-true (eqb (get_or ws 3 0) (get_or xs 3 0))))
      ∙ ap (λ x. same_words x (get_or xs 0 0 ∷ get_or xs 1 0 ∷ get_or xs 2 0 ∷ get_or xs 3 0 ∷ [])) (sym (four ws size))
      ∙ ap (same_words ws) (sym (four xs h))

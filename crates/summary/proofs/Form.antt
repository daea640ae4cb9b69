-- A summary is 32 bytes, and its four words hold just these: setting a bit keeps length and bytes, and a number's bytes are those it
-- was read from.
use Prim.Native.Nat.{ℕ, zero, suc, ◌/◌, ◌%◌, ◌^◌, ◌<◌}
use mathlib.Core.Path.{◌≡◌, refl, sym, ◌∙◌, ap}
use mathlib.Core.List.{List, [], ◌∷◌, ◌++◌}
use native.Mathlib.Omega.{arith}
use lib.Bits.{bit_or, or_lt}
use lib.ListN.{length, get_or, set, drop, length-set}
use lib.Pow.{pow-lt}
use lib.Seq.{drop_at, drop-drop, drop-length}
use Rattle.coding.specs.Number.{number_at, bytes_of}
use Rattle.coding.proofs.NumberLaws.{Bytes, number-back, number_at-bound, number_at-there, length-bytes_of}
use Rattle.table.specs.Table.{zeros}
use Rattle.table.proofs.Zeros.{length-zeros, bytes-zeros}
use Rattle.summary.specs.Bits.{exclusive_bit, sum_bit, weighed_bit, with_bit}
use Rattle.summary.specs.Summary.{summary_bytes, summary_words, with_key, with_keys, summary_of, words_of, bytes_in}

-- ---- its length

pub length-with_bit : (n : ℕ) (s : List ℕ) → length (with_bit n s) ≡ length s
unfolding with_bit
length-with_bit n s = length-set s (n / 8) (bit_or (get_or s (n / 8) 0) (2 ^ (n % 8)))

pub length-with_key : (k : ℕ) (s : List ℕ) → length (with_key k s) ≡ length s
length-with_key k s =
    length-with_bit (weighed_bit k) (with_bit (sum_bit k) (with_bit (exclusive_bit k) s))
    ∙ length-with_bit (sum_bit k) (with_bit (exclusive_bit k) s)
    ∙ length-with_bit (exclusive_bit k) s

pub length-with_keys : (ks s : List ℕ) → length (with_keys ks s) ≡ length s
length-with_keys [] s = refl
length-with_keys (k ∷ ks) s = length-with_keys ks (with_key k s) ∙ length-with_key k s

pub length-summary : (ks : List ℕ) → length (summary_of ks) ≡ summary_bytes
unfolding summary_of
length-summary ks = length-with_keys ks (zeros summary_bytes) ∙ length-zeros summary_bytes

-- ---- its bytes

-- A byte stored among bytes.
bytes-set : (s : List ℕ) (i b : ℕ) → b < 256 → Bytes s → Bytes (set s i b)
bytes-set [] i b h bs j = bs j
bytes-set (x ∷ s) zero b h bs zero = h
bytes-set (x ∷ s) zero b h bs (suc j) = bs (suc j)
bytes-set (x ∷ s) (suc i) b h bs zero = bs 0
bytes-set (x ∷ s) (suc i) b h bs (suc j) = bytes-set s i b h (λ k. bs (suc k)) j

pub bytes-with_bit : (n : ℕ) (s : List ℕ) → Bytes s → Bytes (with_bit n s)
unfolding with_bit
bytes-with_bit n s b =
    let power : 2 ^ (n % 8) < 2 ^ 8 = pow-lt {j = 8} (omega arith) in
    bytes-set s (n / 8) (bit_or (get_or s (n / 8) 0) (2 ^ (n % 8))) (or_lt 8 (get_or s (n / 8) 0) (2 ^ (n % 8)) (b (n / 8)) power) b

pub bytes-with_key : (k : ℕ) (s : List ℕ) → Bytes s → Bytes (with_key k s)
bytes-with_key k s b =
    bytes-with_bit (weighed_bit k) (with_bit (sum_bit k) (with_bit (exclusive_bit k) s))
    (bytes-with_bit (sum_bit k) (with_bit (exclusive_bit k) s) (bytes-with_bit (exclusive_bit k) s b))

pub bytes-with_keys : (ks s : List ℕ) → Bytes s → Bytes (with_keys ks s)
bytes-with_keys [] s b = b
bytes-with_keys (k ∷ ks) s b = bytes-with_keys ks (with_key k s) (bytes-with_key k s b)

pub bytes-summary : (ks : List ℕ) → Bytes (summary_of ks)
unfolding summary_of
bytes-summary ks = bytes-with_keys ks (zeros summary_bytes) (bytes-zeros summary_bytes)

-- ---- its words

pub words_back : (s : List ℕ) → length s ≡ summary_bytes → Bytes s → bytes_in (words_of s) ≡ s
words_back s h b =
    let first : bytes_of 8 (number_at 8 s 0) ++ drop 8 s ≡ s = number-back 8 s 0 b (omega arith) in
    let second : bytes_of 8 (number_at 8 s 8) ++ drop 16 s ≡ drop 8 s = number-back 8 s 8 b (omega arith) in
    let third : bytes_of 8 (number_at 8 s 16) ++ drop 24 s ≡ drop 16 s = number-back 8 s 16 b (omega arith) in
    let last : bytes_of 8 (number_at 8 s 24) ++ drop 32 s ≡ drop 24 s = number-back 8 s 24 b (omega arith) in
    let none : drop 32 s ≡ [] = ap (λ n. drop n s) (sym h) ∙ drop-length s in
    let end : bytes_of 8 (number_at 8 s 24) ++ [] ≡ drop 24 s = rw none at last in
    ap (λ x. bytes_of 8 (number_at 8 s 0) ++ (bytes_of 8 (number_at 8 s 8) ++ (bytes_of 8 (number_at 8 s 16) ++ x))) end
    ∙ ap (λ x. bytes_of 8 (number_at 8 s 0) ++ (bytes_of 8 (number_at 8 s 8) ++ x)) third
    ∙ ap (λ x. bytes_of 8 (number_at 8 s 0) ++ x) second
    ∙ first

pub summary-back : (ks : List ℕ) → bytes_in (words_of (summary_of ks)) ≡ summary_of ks
summary-back ks = words_back (summary_of ks) (length-summary ks) (bytes-summary ks)

-- Each word is below 2^64.
pub word_below : (s : List ℕ) (at : ℕ) → Bytes s → number_at 8 s at < 2 ^ 64
word_below s at b = number_at-bound 8 s at b

-- Words as bytes and back.
pub bytes_back : (ws : List ℕ) → length ws ≡ summary_words → ((i : ℕ) → get_or ws i 0 < 2 ^ 64) → words_of (bytes_in ws) ≡ ws
bytes_back [] h small = absurd (omega arith)
bytes_back (a ∷ []) h small = absurd (omega arith)
bytes_back (a ∷ b ∷ []) h small = absurd (omega arith)
bytes_back (a ∷ b ∷ c ∷ []) h small = absurd (omega arith)
bytes_back (a ∷ b ∷ c ∷ d ∷ []) h small =
    let s : List ℕ = bytes_in (a ∷ b ∷ c ∷ d ∷ []) in
    let next : (w : ℕ) (t : List ℕ) → drop 8 (bytes_of 8 w ++ t) ≡ t = λ w t. drop_at (bytes_of 8 w) t 8 (length-bytes_of 8 w) in
    let at8 : drop 8 s ≡ bytes_in (b ∷ c ∷ d ∷ []) = next a (bytes_in (b ∷ c ∷ d ∷ [])) in
    let at16 : drop 16 s ≡ bytes_in (c ∷ d ∷ []) = sym (drop-drop 8 8 s) ∙ ap (drop 8) at8 ∙ next b (bytes_in (c ∷ d ∷ [])) in
    let at24 : drop 24 s ≡ bytes_in (d ∷ []) = sym (drop-drop 8 16 s) ∙ ap (drop 8) at16 ∙ next c (bytes_in (d ∷ [])) in
    rw (
      number_at-there 8 a s 0 (bytes_in (b ∷ c ∷ d ∷ [])) refl (small 0),
      number_at-there 8 b s 8 (bytes_in (c ∷ d ∷ [])) at8 (small 1),
      number_at-there 8 c s 16 (bytes_in (d ∷ [])) at16 (small 2),
      number_at-there 8 d s 24 [] at24 (small 3),
    )
bytes_back (a ∷ b ∷ c ∷ d ∷ e ∷ ws) h small = absurd (omega arith)

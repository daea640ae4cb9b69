-- The laws of numbers in bytes, each over the width, by induction on it.
use Prim.Native.Nat.{ℕ, zero, suc, ◌+◌, ◌*◌, ◌/◌, ◌%◌, ◌^◌, ◌-◌, ◌<◌, ◌≤◌}
use mathlib.Core.Path.{◌≡◌, refl, sym, ◌∙◌, ap}
use mathlib.Core.List.{List, [], ◌∷◌, ◌++◌}
use native.Mathlib.Omega.{arith}
use native.Mathlib.Numerals.{add-one}
use native.Mathlib.Nat.{lt_of_lt_of_le, pow-le-pow_right, pow-suc, pow-zero, div-lt_iff_lt-mul, add-zero}
use lib.Arith.{digits_mod, digits_div}
use lib.ListN.{length, get_or, set, take, drop, length-set, take-append-drop}
use lib.Seq.{sets, drop-cons, drop-drop, get_or-drop, get_or-set_same}
use Rattle.coding.specs.Number.{number_at, bytes_of}
pub use Rattle.coding.specs.Number.{Bytes}
use Rattle.coding.proofs.Sets.{get_or-sets-below, get_or-sets-above}

-- The value's bound.
pub number_at-bound : (w : ℕ) (s : List ℕ) (at : ℕ) → Bytes s → number_at w s at < 256 ^ w
unfolding number_at
number_at-bound zero s at b = omega (arith, pow-zero 256)
number_at-bound (suc w) s at b = omega (arith, pow-suc 256 w, number_at-bound w s (suc at) b, b at)

-- The same at any greater width.
pub number_at-below : (w k : ℕ) (s : List ℕ) (at : ℕ) → w ≤ k → Bytes s → number_at w s at < 256 ^ k
number_at-below w k s at h b =
    lt_of_lt_of_le (number_at-bound w s at b) (pow-le-pow_right {n = 256} (omega arith) h)

-- As many bytes as the width says.
pub length-bytes_of : (w n : ℕ) → length (bytes_of w n) ≡ w
unfolding bytes_of
length-bytes_of zero n = refl
length-bytes_of (suc w) n = ap suc (length-bytes_of w (n / 256))

-- They are bytes.
pub bytes-bytes_of : (w n : ℕ) → Bytes (bytes_of w n)
unfolding bytes_of
bytes-bytes_of zero n i = omega arith
bytes-bytes_of (suc w) n zero = omega arith
bytes-bytes_of (suc w) n (suc i) = bytes-bytes_of w (n / 256) i

-- A number depends on its own bytes alone.
pub number_at-cong : (w : ℕ) (s t : List ℕ) (at bt : ℕ) → ((i : ℕ) → i < w → get_or s (at + i) 0 ≡ get_or t (bt + i) 0)
    → number_at w s at ≡ number_at w t bt
unfolding number_at
number_at-cong zero s t at bt h = refl
number_at-cong (suc w) s t at bt h =
    let here : get_or s at 0 ≡ get_or t bt 0 = rw (add-zero at, add-zero bt) at (h 0 (omega arith)) in
    let next : (i : ℕ) → i < w → get_or s (suc at + i) 0 ≡ get_or t (suc bt + i) 0 =
    λ i hi. let p : at + suc i ≡ suc at + i = omega arith in
    let q : bt + suc i ≡ suc bt + i = omega arith in
    rw (p, q) at (h (suc i) (omega arith)) in
    rw (here, number_at-cong w s t (suc at) (suc bt) next)

-- Bytes written outside a number leave it.
pub number_at-other : (w : ℕ) (s : List ℕ) (at : ℕ) (vs : List ℕ) (i : ℕ) → (at + w ≤ i) → number_at w (sets s i vs) at ≡ number_at w s at
number_at-other w s at vs i h = number_at-cong w (sets s i vs) s at at (λ k hk. get_or-sets-below s i vs (at + k) 0 (omega arith))

pub number_at-other' : (w : ℕ) (s : List ℕ) (at : ℕ) (vs : List ℕ) (i : ℕ) → (i + length vs ≤ at) → number_at w (sets s i vs) at ≡ number_at w s at
number_at-other' w s at vs i h = number_at-cong w (sets s i vs) s at at (λ k hk. get_or-sets-above s i vs (at + k) 0 (omega arith))

-- Reading back what was written, in the middle of anything.
pub number_at-written : (w n : ℕ) (s : List ℕ) (at : ℕ) → n < 256 ^ w → at + w ≤ length s → number_at w (sets s at (bytes_of w n)) at ≡ n
unfolding number_at bytes_of
number_at-written zero n s at h hs = omega (arith, pow-zero 256)
number_at-written (suc w) n s at h hs =
    let q : n / 256 < 256 ^ w = (div-lt_iff_lt-mul {k = 256} (omega arith)).1 (rw pow-suc at h) in
    let rest : number_at w (sets (set s at (n % 256)) (suc at) (bytes_of w (n / 256))) (suc at) ≡ n / 256 =
    number_at-written w (n / 256) (set s at (n % 256)) (suc at) q (omega (arith, length-set s at (n % 256))) in
    let first : get_or (sets (set s at (n % 256)) (suc at) (bytes_of w (n / 256))) at 0 ≡ n % 256 =
    get_or-sets-below (set s at (n % 256)) (suc at) (bytes_of w (n / 256)) at 0 (omega arith)
    ∙ get_or-set_same s at (n % 256) 0 (omega arith) in
    rw (rest, first) (omega arith)

-- The bytes of a number are determined by its value.
pub bytes_of-number_at : (w : ℕ) (s : List ℕ) (at : ℕ) → Bytes s → at + w ≤ length s → bytes_of w (number_at w s at) ≡ take w (drop at s)
unfolding number_at bytes_of
bytes_of-number_at zero s at b hs = refl
bytes_of-number_at (suc w) s at b hs =
    let n : ℕ = number_at w s (suc at) in
    let low : (n * 256 + get_or s at 0) % 256 ≡ get_or s at 0 = digits_mod n (b at) in
    let high : (n * 256 + get_or s at 0) / 256 ≡ n = digits_div n (b at) in
    rw (low, high, drop-cons s at 0 (omega arith), bytes_of-number_at w s (suc at) b (omega arith))

-- Reading a number where its bytes stand, whatever is around them.
pub number_at-there : (w n : ℕ) (s : List ℕ) (at : ℕ) (rest : List ℕ) → drop at s ≡ bytes_of w n ++ rest → n < 256 ^ w → number_at w s at ≡ n
unfolding number_at bytes_of
number_at-there zero n s at rest e h = omega (arith, pow-zero 256)
number_at-there (suc w) n s at rest e h =
    let q : n / 256 < 256 ^ w = (div-lt_iff_lt-mul {k = 256} (omega arith)).1 (rw pow-suc at h) in
    let first : get_or s at 0 ≡ n % 256 =
    ap (λ i. get_or s i 0) (sym (add-zero at)) ∙ sym (get_or-drop at s 0 0) ∙ ap (λ l. get_or l 0 0) e in
    let behind : drop (suc at) s ≡ bytes_of w (n / 256) ++ rest =
    ap (λ i. drop i s) (sym (add-one at)) ∙ sym (drop-drop 1 at s) ∙ ap (drop 1) e in
    rw (first, number_at-there w (n / 256) s (suc at) rest behind q) (omega arith)

-- A number's bytes, and what stands behind them.
pub number-back : (w : ℕ) (s : List ℕ) (at : ℕ) → Bytes s → at + w ≤ length s → bytes_of w (number_at w s at) ++ drop (at + w) s ≡ drop at s
number-back w s at b hs = rw (bytes_of-number_at w s at b hs, ← drop-drop w at s) (take-append-drop w (drop at s))

-- Parts of bytes are bytes, and so are bytes behind bytes.
pub bytes_drop : (n : ℕ) (s : List ℕ) → Bytes s → Bytes (drop n s)
bytes_drop n s b i = rw (get_or-drop n s i 0) (b (n + i))

pub bytes_take : (n : ℕ) (s : List ℕ) → Bytes s → Bytes (take n s)
bytes_take zero s b i = omega arith
bytes_take (suc n) [] b i = omega arith
bytes_take (suc n) (x ∷ s) b zero = b 0
bytes_take (suc n) (x ∷ s) b (suc i) = bytes_take n s (λ k. b (suc k)) i

pub bytes-append : (s t : List ℕ) → Bytes s → Bytes t → Bytes (s ++ t)
bytes-append [] t b c i = c i
bytes-append (x ∷ s) t b c zero = b 0
bytes-append (x ∷ s) t b c (suc i) = bytes-append s t (λ k. b (suc k)) c i

-- One turn of the loop that reads, from the highest byte down.
pub get-turn : (s : List ℕ) (at width left : ℕ) → 0 < left → left ≤ width
    → number_at (width - left) s (at + left) * 256 + get_or s (at + (left - 1)) 0 ≡ number_at (width - (left - 1)) s (at + (left - 1))
unfolding number_at
get-turn s at width left h hw =
    let e : width - (left - 1) ≡ suc (width - left) = omega arith in
    let f : suc (at + (left - 1)) ≡ at + left = omega arith in
    rw (e, f)

-- One turn of the loop that writes, from the lowest byte up.
pub put-turn : (s : List ℕ) (at width i n : ℕ) → i < width
    → sets s (at + i) (bytes_of (width - i) n) ≡ sets (set s (at + i) (n % 256)) (at + (i + 1)) (bytes_of (width - (i + 1)) (n / 256))
unfolding bytes_of
put-turn s at width i n h =
    let e : width - i ≡ suc (width - (i + 1)) = omega arith in
    let f : at + (i + 1) ≡ suc (at + i) = omega arith in
    rw (e, f)

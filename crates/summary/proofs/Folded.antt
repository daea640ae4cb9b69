-- A key by its bytes in lanes: the even ones and the odd ones, each lane's bytes summed, and the lanes summed. What a mask keeps is found
-- lane by lane; all else is arithmetic on the eight bytes.
use Prim.Native.Nat.{ℕ, suc, ◌+◌, ◌*◌, ◌/◌, ◌%◌, ◌^◌, ◌<◌}
use mathlib.Core.Path.{◌≡◌, sym, ◌∙◌, ap}
use mathlib.Core.List.{[], ◌∷◌}
use native.Mathlib.Omega.{arith}
use lib.Bits.{bit_and, and_block, and_mask}
use lib.Pow.{split}
use Rattle.coding.specs.Number.{bytes_of}
use Rattle.summary.specs.Bits.{key_bytes, total, weighed, sum_bit, weighed_bit}
use Rattle.summary.specs.Lanes.{Lanes}

-- ---- the even bytes of a word

-- The lowest lane of a mask that keeps its lower byte.
mask_lane : (k m : ℕ) → bit_and k (m * 2 ^ 16 + 255) ≡ bit_and (k / 65536) m * 65536 + k % 256
mask_lane k m =
    let low : bit_and (k % 65536) 255 ≡ k % 256 = and_mask (k % 65536) 8 ∙ omega arith in
    ap (λ x. bit_and x (m * 2 ^ 16 + 255)) (sym (split k 16))
    ∙ and_block 16 (k / 65536) m (k % 65536) 255 (omega arith) (omega arith)
    ∙ ap (λ x. bit_and (k / 65536) m * 65536 + x) low

-- Four lanes as a word, the lowest last.
abbrev pub word : (d c b a : ℕ) → ℕ
word d c b a = ((d * 65536 + c) * 65536 + b) * 65536 + a

-- What the mask of all four lanes keeps: bytes 0, 2, 4 and 6.
evens : (k : ℕ)
    → bit_and k 0x00ff00ff00ff00ff ≡ word (k / 65536 / 65536 / 65536 % 256) (k / 65536 / 65536 % 256) (k / 65536 % 256) (k % 256)
evens k =
    mask_lane k 0x00ff00ff00ff
    ∙ ap (λ x. x * 65536 + k % 256)
    (mask_lane (k / 65536) 0x00ff00ff
    ∙ ap (λ x. x * 65536 + k / 65536 % 256)
    (mask_lane (k / 65536 / 65536) 0x00ff
    ∙ ap (λ x. x * 65536 + k / 65536 / 65536 % 256) (and_mask (k / 65536 / 65536 / 65536) 8)))

-- Of the key without its lowest byte: bytes 1, 3, 5 and 7.
odds : (k : ℕ)
    → bit_and (k / 256) 0x00ff00ff00ff00ff
    ≡ word (k / 65536 / 65536 / 65536 / 256 % 256) (k / 65536 / 65536 / 256 % 256) (k / 65536 / 256 % 256) (k / 256 % 256)
odds k =
    let swap : (x : ℕ) → x / 256 / 65536 ≡ x / 65536 / 256 = λ x. omega arith in
    evens (k / 256) ∙ rw (swap k, swap (k / 65536), swap (k / 65536 / 65536))

-- The same bytes as the definition lists them, two at a time.
two_bytes : (w k : ℕ) → bytes_of (suc (suc w)) k ≡ k % 256 ∷ k / 256 % 256 ∷ bytes_of w (k / 65536)
unfolding bytes_of
two_bytes w k = let e : k / 256 / 256 ≡ k / 65536 = omega arith in ap (λ x. k % 256 ∷ k / 256 % 256 ∷ bytes_of w x) e

pub listed : (k : ℕ) → let b = k / 65536 in let c = k / 65536 / 65536 in let d = k / 65536 / 65536 / 65536 in
    key_bytes k
    ≡ k % 256 ∷ k / 256 % 256 ∷ b % 256 ∷ b / 256 % 256 ∷ c % 256 ∷ c / 256 % 256 ∷ d % 256 ∷ d / 256 % 256 ∷ []
unfolding bytes_of
listed k =
    let b : ℕ = k / 65536 in
    let c : ℕ = k / 65536 / 65536 in
    two_bytes 6 k
    ∙ ap (λ x. k % 256 ∷ k / 256 % 256 ∷ x)
    (two_bytes 4 b
    ∙ ap (λ x. b % 256 ∷ b / 256 % 256 ∷ x)
    (two_bytes 2 c ∙ ap (λ x. c % 256 ∷ c / 256 % 256 ∷ x) (two_bytes 0 (c / 65536))))

-- ---- the lanes summed

-- Eight bytes.
record Eight (b0 b1 b2 b3 b4 b5 b6 b7 : ℕ) : Type 0 where
  h0 : b0 < 256
  h1 : b1 < 256
  h2 : b2 < 256
  h3 : b3 < 256
  h4 : b4 < 256
  h5 : b5 < 256
  h6 : b6 < 256
  h7 : b7 < 256

-- What stands above the lowest lane, above the two lowest, and in the highest.
above : (d c b a : ℕ) → a < 512 → b < 512 → c < 512
    → word d c b a / 65536 + word d c b a / 4294967296 + word d c b a / 281474976710656 ≡ word 0 d (c + d) (b + (c + d))
above d c b a ha hb hc =
    let one : word d c b a / 65536 ≡ (d * 65536 + c) * 65536 + b = omega arith in
    let two : word d c b a / 4294967296 ≡ d * 65536 + c = omega arith in
    let three : word d c b a / 281474976710656 ≡ d = omega arith in
    omega arith

module _ (b0 b1 b2 b3 b4 b5 b6 b7 : ℕ) (e : Eight b0 b1 b2 b3 b4 b5 b6 b7) where
  pairs-word : word b6 b4 b2 b0 + word b7 b5 b3 b1 ≡ word (b6 + b7) (b4 + b5) (b2 + b3) (b0 + b1)
  pairs-word = omega arith

  sum-lanes : Lanes (word b6 b4 b2 b0 + word b7 b5 b3 b1) (b0 + b1) (b2 + b3) (b4 + b5) (b6 + b7)
  sum-lanes = record { word = pairs-word; first = omega arith; second = omega arith; third = omega arith; fourth = omega arith }

  sum-total : total (b0 ∷ b1 ∷ b2 ∷ b3 ∷ b4 ∷ b5 ∷ b6 ∷ b7 ∷ []) ≡ b0 + b1 + (b2 + b3 + (b4 + b5 + (b6 + b7)))
  sum-total = omega arith

  -- Each lane of the weighed sum: its pair, its odd byte once more, and twice what stands above.
  abbrev w0 : ℕ
  w0 = b0 + b1 + b1 + 2 * (b2 + b3 + (b4 + b5 + (b6 + b7)))

  abbrev w1 : ℕ
  w1 = b2 + b3 + b3 + 2 * (b4 + b5 + (b6 + b7))

  abbrev w2 : ℕ
  w2 = b4 + b5 + b5 + 2 * (b6 + b7)

  abbrev w3 : ℕ
  w3 = b6 + b7 + b7

  weighed-small : (w0 < 16384) × (w1 < 16384) × (w2 < 16384) × (w3 < 16384)
  weighed-small = omega arith

  weighed-word : (p : ℕ) → p ≡ word b6 b4 b2 b0 + word b7 b5 b3 b1
      → p + word b7 b5 b3 b1 + 2 * (p / 65536 + p / 4294967296 + p / 281474976710656) ≡ word w3 w2 w1 w0
  weighed-word p h =
      let up = above (b6 + b7) (b4 + b5) (b2 + b3) (b0 + b1) (omega arith) (omega arith) (omega arith) in
      rw (h ∙ pairs-word, up) (omega arith)

  weighed-lanes : (p : ℕ) → p ≡ word b6 b4 b2 b0 + word b7 b5 b3 b1
      → Lanes (p + word b7 b5 b3 b1 + 2 * (p / 65536 + p / 4294967296 + p / 281474976710656)) w0 w1 w2 w3
  weighed-lanes p h =
      let s = weighed-small in
      record { word = weighed-word p h; first = s.0; second = s.1; third = s.2; fourth = s.3 }

  weighed-total : weighed 0 (b0 ∷ b1 ∷ b2 ∷ b3 ∷ b4 ∷ b5 ∷ b6 ∷ b7 ∷ []) ≡ w0 + (w1 + (w2 + w3))
  weighed-total = omega arith

-- ---- the two bits of a key

-- The result of summing the lanes of a word.
abbrev pub Folds : (w r : ℕ) → Type 0
Folds w r = (a b c d : ℕ) → Lanes w a b c d → r ≡ a + (b + (c + d))

module _ (k : ℕ) where
  eight : Eight
      (k % 256)
      (k / 256 % 256)
      (k / 65536 % 256)
      (k / 65536 / 256 % 256)
      (k / 65536 / 65536 % 256)
      (k / 65536 / 65536 / 256 % 256)
      (k / 65536 / 65536 / 65536 % 256)
      (k / 65536 / 65536 / 65536 / 256 % 256)
  eight =
      record {
        h0 = omega arith;
        h1 = omega arith;
        h2 = omega arith;
        h3 = omega arith;
        h4 = omega arith;
        h5 = omega arith;
        h6 = omega arith;
        h7 = omega arith;
      }

  pub sum_folded : (r : ℕ) → Folds (bit_and k 0x00ff00ff00ff00ff + bit_and (k / 256) 0x00ff00ff00ff00ff) r → bit_and r 255 ≡ sum_bit k
  unfolding sum_bit
  sum_folded r f =
      let g = rw (evens k, odds k) at f in
      let s : r ≡ total (key_bytes k) =
      g _ _ _ _ (sum-lanes _ _ _ _ _ _ _ _ eight) ∙ sym (ap total (listed k) ∙ sum-total _ _ _ _ _ _ _ _ eight) in
      and_mask r 8 ∙ ap (λ x. x % 256) s

  pub weighed-folded : (p r : ℕ) → p ≡ bit_and k 0x00ff00ff00ff00ff + bit_and (k / 256) 0x00ff00ff00ff00ff
      → Folds (p + bit_and (k / 256) 0x00ff00ff00ff00ff + 2 * (p / 65536 + p / 4294967296 + p / 281474976710656)) r
      → bit_and r 255 ≡ weighed_bit k
  unfolding weighed_bit
  weighed-folded p r h f =
      let q = rw (evens k, odds k) at h in
      let g = rw (odds k) at f in
      let s : r ≡ weighed 0 (key_bytes k) =
      g _ _ _ _ (weighed-lanes _ _ _ _ _ _ _ _ eight p q) ∙ sym (ap (weighed 0) (listed k) ∙ weighed-total _ _ _ _ _ _ _ _ eight) in
      and_mask r 8 ∙ ap (λ x. x % 256) s

-- `bytes_of` meets its contract: the bytes of four words, one behind the other, fill a summary.
use Rattle.std.proofs.Common.{ℕ, zero, suc, ◌≡◌, ◌^◌, ◌<◌, List, [], ◌∷◌, ◌++◌, length, get_or, refl, sym, ◌∙◌, ap, arith}
use Rattle.std.proofs.lemmas.List.Edits.{sets}
use mathlib.Core.List.{append-nil}
use lib.ListN.{length-append}
use Rattle.coding.specs.Number.{bytes_of}
use Rattle.coding.proofs.NumberLaws.{length-bytes_of}
use Rattle.coding.proofs.Sets.{sets-append, sets-all}
use Rattle.summary.specs.Summary.{summary_bytes, words_of, bytes_in}
use Rattle.summary.proofs.Form.{bytes_back}
use Rattle.summary.proofs.filter.bytes_of.Goals as goal

-- Each word's bytes behind those before it.
stored : (z : List ℕ) (a b c d : ℕ) → length z ≡ summary_bytes
    → sets (sets (sets (sets z 0 (bytes_of 8 a)) 8 (bytes_of 8 b)) 16 (bytes_of 8 c)) 24 (bytes_of 8 d) ≡ bytes_in (a ∷ b ∷ c ∷ d ∷ [])
stored z a b c d h =
    let long : (w : ℕ) → length (bytes_of 8 w) ≡ 8 = length-bytes_of 8 in
    let last : bytes_of 8 d ++ [] ≡ bytes_of 8 d = append-nil (bytes_of 8 d) in
    let one = sets-append z 0 (bytes_of 8 a) (bytes_of 8 b ++ (bytes_of 8 c ++ (bytes_of 8 d ++ []))) in
    let two = sets-append (sets z 0 (bytes_of 8 a)) 8 (bytes_of 8 b) (bytes_of 8 c ++ (bytes_of 8 d ++ [])) in
    let three = sets-append (sets (sets z 0 (bytes_of 8 a)) 8 (bytes_of 8 b)) 16 (bytes_of 8 c) (bytes_of 8 d ++ []) in
    let all : sets z 0 (bytes_in (a ∷ b ∷ c ∷ d ∷ [])) ≡ bytes_in (a ∷ b ∷ c ∷ d ∷ []) =
    sets-all z (bytes_in (a ∷ b ∷ c ∷ d ∷ [])) (simp (length-append, long) (sym h)) in
    ap (sets (sets (sets (sets z 0 (bytes_of 8 a)) 8 (bytes_of 8 b)) 16 (bytes_of 8 c)) 24) (sym last)
    ∙ sym (rw (long a) at one ∙ rw (long b) at two ∙ rw (long c) at three) ∙ all

-- Each of four words is below 2^64 if all are.
below : (a b c d : ℕ) → a < 2 ^ 64 → b < 2 ^ 64 → c < 2 ^ 64 → d < 2 ^ 64 → (i : ℕ) → get_or (a ∷ b ∷ c ∷ d ∷ []) i 0 < 2 ^ 64
below a b c d ha hb hc hd zero = ha
below a b c d ha hb hc hd (suc zero) = hb
below a b c d ha hb hc hd (suc (suc zero)) = hc
below a b c d ha hb hc hd (suc (suc (suc zero))) = hd
below a b c d ha hb hc hd (suc (suc (suc (suc i)))) = omega arith

pub returns : goal.returns
returns c =
    let a = c.args in
    let ws : List ℕ = a.first ∷ a.second ∷ a.third ∷ a.fourth ∷ [] in
    let bytes : c.put_u64-4.new.s ≡ bytes_in ws =
    c.put_u64-4.ensures
    ∙ ap (λ x. sets x 24 (bytes_of 8 a.fourth)) c.put_u64-3.ensures
    ∙ ap (λ x. sets (sets x 16 (bytes_of 8 a.third)) 24 (bytes_of 8 a.fourth)) c.put_u64-2.ensures
    ∙ ap (λ x. sets (sets (sets x 8 (bytes_of 8 a.second)) 16 (bytes_of 8 a.third)) 24 (bytes_of 8 a.fourth)) c.put_u64.ensures
    ∙ stored _ a.first a.second a.third a.fourth refl in
    let small : (i : ℕ) → get_or ws i 0 < 2 ^ 64 =
    below a.first a.second a.third a.fourth (omega (arith, c.ranges)) (omega (arith, c.ranges)) (omega (arith, c.ranges)) (omega (arith, c.ranges)) in
    (bytes, ap words_of bytes ∙ bytes_back ws refl small)

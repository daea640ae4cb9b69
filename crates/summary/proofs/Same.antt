-- Words compared one by one: true exactly if the lists are equal, by induction on both. So a card's words are those of a table's summary
-- exactly if the bytes in them are the summary.
use Prim.Native.Nat.{ℕ, ◌^◌, ◌<◌}
use mathlib.Core.Path.{◌≡◌, refl, sym, ◌∙◌, ap}
use mathlib.Core.Bool.{true, true≢false}
use mathlib.Core.List.{List, [], ◌∷◌}
use borrow.Author.Tests.{eqb-true, eq-eqb}
use lib.Dec.{eqb}
use lib.ListN.{length, get_or}
use Rattle.table.proofs.Tests.{and_parts}
use Rattle.summary.specs.Summary.{summary_words, summary_of, words_of, bytes_in, same_words}
use Rattle.summary.proofs.Form.{summary-back, bytes_back}

pub same_true : (xs ys : List ℕ) → same_words xs ys ≡ true → xs ≡ ys
same_true [] [] h = refl
same_true [] (y ∷ ys) h = absurd (true≢false (sym h))
same_true (x ∷ xs) [] h = absurd (true≢false (sym h))
same_true (x ∷ xs) (y ∷ ys) h =
    let p = and_parts (eqb x y) (same_words xs ys) h in
    let e : x ≡ y = eqb-true x y p.0 in
    let r : xs ≡ ys = same_true xs ys p.1 in
    cc

pub same_refl : (xs : List ℕ) → same_words xs xs ≡ true
same_refl [] = refl
same_refl (x ∷ xs) = rw (eq-eqb x x refl) (same_refl xs)

pub same-summary : (ws ks : List ℕ) → same_words ws (words_of (summary_of ks)) ≡ true → bytes_in ws ≡ summary_of ks
same-summary ws ks h = ap bytes_in (same_true ws (words_of (summary_of ks)) h) ∙ summary-back ks

pub summary-same : (ws ks : List ℕ) → length ws ≡ summary_words → ((i : ℕ) → get_or ws i 0 < 2 ^ 64) → bytes_in ws ≡ summary_of ks
    → same_words ws (words_of (summary_of ks)) ≡ true
summary-same ws ks h small e =
    let same : words_of (summary_of ks) ≡ ws = sym (ap words_of e) ∙ bytes_back ws h small in
    rw same (same_refl ws)

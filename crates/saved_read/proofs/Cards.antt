-- The loops over cards and links: what is left to write is this card or link and those behind it. Runs of stores are `sets`; a card is taken off the
-- front of those that stand in turn by `card-turn`.
use Prim.Native.Nat.{ℕ, zero, suc, ◌+◌, ◌*◌, ◌-◌, ◌≤◌, ◌<◌}
use mathlib.Core.Path.{◌≡◌, refl, sym, ◌∙◌, ap}
use mathlib.Core.List.{List, [], ◌∷◌, ◌++◌, append-nil}
use mathlib.Core.Option.{some}
use native.Mathlib.Omega.{arith}
use native.Mathlib.Nat.{sub-zero}
use native.Mathlib.Numerals.{add-one, add-two}
use lib.ListN.{length, set, drop, replicate, length-append, length-drop}
use lib.Seq.{sets}
use Rattle.coding.specs.Number.{number_at}
use Rattle.coding.proofs.Sets.{sets-mid, sets-all}
use Rattle.table.specs.Table.{zeros}
use Rattle.table.proofs.Zeros.{length-zeros, zeros-add}
use Rattle.summary.specs.Summary.{summary_words}
use Rattle.ldc.specs.Store.{free}
use Rattle.ldc.specs.Layout.{link_size, link_limit, link_start, link_words, row_with}
use Rattle.saved_book.specs.Form.{places_saved, cards_start, card_head, link_width, count_saved, card_end, card_to, in_turn}
use Rattle.saved_book.specs.Opened.{link_saved, links_saved, row_saved, rows_saved, opened_rows}
use Rattle.saved_book.proofs.Forms.{CardAt, card-turn}

-- ---- links in a row

-- The four stores of a link.
pub link-put : (row s : List ℕ) (at i to place low high number : ℕ) → to ≡ link_start i
    → place ≡ number_at 2 s at
    → low ≡ number_at 8 s (at + 2)
    → high ≡ number_at 8 s (at + 10)
    → number ≡ number_at 2 s (at + 18)
    → set (set (set (set row to place) (to + 1) low) (to + 2) high) (to + 3) number ≡ sets row (link_start i) (link_words (link_saved s at ∷ []))
link-put row s at i to place low high number e a b c d =
    let three : to + 3 ≡ suc (suc (suc to)) = omega arith in
    rw (← e, ← a, ← b, ← c, ← d, add-one to, add-two to, three)

words_long : (n : ℕ) (s : List ℕ) (at : ℕ) → length (link_words (links_saved n s at)) ≡ link_size * n
words_long zero s at = refl
words_long (suc n) s at = let r = words_long n s (at + link_width) in omega arith

-- State, count and zeros, over which all links are to be written; the last of the zeros are the summary's.
pub row-start : (s : List ℕ) (at state n left from : ℕ) → state ≡ number_at 2 s at → n ≡ count_saved s at → n ≤ link_limit
    → left ≡ n → from ≡ at + card_head
    → row_saved s at ≡ sets (state ∷ n ∷ zeros (link_size * link_limit + summary_words)) 2 (link_words (links_saved left s from))
unfolding row_saved
row-start s at state n left from es en h el ef =
    let front : List ℕ = state ∷ n ∷ [] in
    let words : List ℕ = link_words (links_saved n s (at + card_head)) in
    let over : ℕ = link_size * link_limit - link_size * n in
    let rest : zeros (link_size * link_limit + summary_words) ≡ zeros (link_size * n) ++ (zeros over ++ zeros summary_words) =
    ap zeros (omega arith)
    ∙ zeros-add (link_size * n) (over + summary_words)
    ∙ ap (λ (z : List ℕ). zeros (link_size * n) ++ z) (zeros-add over summary_words) in
    let long : length (zeros (link_size * n)) ≡ length words = length-zeros (link_size * n) ∙ sym (words_long n s (at + card_head)) in
    rw (← es, ← en, el, ef, rest) (sym (sets-mid front (zeros (link_size * n)) (zeros over ++ zeros summary_words) words 2 refl long))

pub link-turn : (row s : List ℕ) (at n i : ℕ) → i < n
    → sets row (link_start i) (link_words (links_saved (n - i) s (at + link_width * i)))
    ≡ sets (sets row (link_start i) (link_words (link_saved s (at + link_width * i) ∷ []))) (link_start (i + 1))
    (link_words (links_saved (n - (i + 1)) s (at + link_width * (i + 1))))
link-turn row s at n i h =
    let e : n - i ≡ suc (n - (i + 1)) = omega arith in
    let next : at + link_width * (i + 1) ≡ at + link_width * i + link_width = omega arith in
    let to : link_start (i + 1) ≡ suc (suc (suc (suc (link_start i)))) = omega arith in
    rw (e, next, to)

-- ---- rows of the cards

pub rows-turn : (rows : List (List ℕ)) (s : List ℕ) (at n i : ℕ) → i < n
    → sets rows i (rows_saved (n - i) s at) ≡ sets (set rows i (row_saved s at)) (i + 1) (rows_saved (n - (i + 1)) s (card_end s at))
rows-turn rows s at n i h =
    let e : n - i ≡ suc (n - (i + 1)) = omega arith in
    rw (e, add-one i)

rows_long : (n : ℕ) (s : List ℕ) (at : ℕ) → length (rows_saved n s at) ≡ n
rows_long zero s at = refl
rows_long (suc n) s at = ap suc (rows_long n s (card_end s at))

-- All are left to write before the first.
pub rows-start : (rows : List (List ℕ)) (s : List ℕ) (n at : ℕ) → n ≡ length rows
    → rows_saved n s at ≡ sets rows 0 (rows_saved (length rows - 0) s at)
rows-start rows s n at h = rw (← h, sub-zero) (sym (sets-all rows (rows_saved n s at) (rows_long n s at ∙ h)))

-- The card at the front of those left, and those behind it.
pub card-next : (s : List ℕ) (at n i end : ℕ) → i < n → in_turn (n - i) (card_to s) at ≡ some end
    → CardAt s at × (in_turn (n - (i + 1)) (card_to s) (card_end s at) ≡ some end)
card-next s at n i end h t =
    let e : n - i ≡ suc (n - (i + 1)) = omega arith in
    card-turn s (n - (i + 1)) at end (rw e at t)

pub free-turn : (rows : List (List ℕ)) (row : List ℕ) (n i : ℕ) → i < n
    → sets rows i (replicate (n - i) row) ≡ sets (set rows i row) (i + 1) (replicate (n - (i + 1)) row)
free-turn rows row n i h =
    let e : n - i ≡ suc (n - (i + 1)) = omega arith in
    rw (e, add-one i)

free-long : (n : ℕ) (row : List ℕ) → length (replicate n row) ≡ n
free-long zero row = refl
free-long (suc n) row = ap suc (free-long n row)

-- The first of the rows come back as those saved, and free ones are written behind them: these are all.
pub rows_whole : (rows r1 r2 : List (List ℕ)) (s : List ℕ) (n : ℕ) → n ≡ places_saved s → places_saved s ≤ length rows
    → r1 ≡ rows_saved (places_saved s) s cards_start
    → r2 ≡ sets (r1 ++ drop n rows) n (replicate (length (r1 ++ drop n rows) - n) (row_with free (zeros summary_words)))
    → r2 ≡ opened_rows (length rows) s
unfolding opened_rows
rows_whole rows r1 r2 s n en h e1 e2 =
    let row : List ℕ = row_with free (zeros summary_words) in
    let behind : List (List ℕ) = drop n rows in
    let added : List (List ℕ) = replicate (length rows - n) row in
    let long : length r1 ≡ n = ap length e1 ∙ rows_long (places_saved s) s cards_start ∙ sym en in
    let left : length behind ≡ length added = length-drop n rows ∙ sym (free-long (length rows - n) row) in
    let all : length (r1 ++ behind) ≡ length rows = omega (arith, length-append r1 behind, length-drop n rows) in
    let whole = sets-mid r1 behind [] added n long left in
    let whole' = rw (append-nil behind, append-nil added) at whole in
    e2 ∙ rw all (whole' ∙ rw (e1, en))

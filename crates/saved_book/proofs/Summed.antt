-- Summaries worked out afresh (document 02, note 6). Rows without summaries, over places that hold a table wherever the card is live or frozen,
-- get just those that the store's rows have; and what a row says of its card, the words before the summary, is as it was.
use Prim.Native.Nat.{ℕ, zero, suc, ◌+◌, ◌*◌, ◌-◌, ◌≤◌, ◌<◌, min}
use mathlib.Core.Path.{◌≡◌, refl, sym, ◌∙◌, ap}
use mathlib.Core.Bool.{true, false, cond, not, ◌&&◌}
use mathlib.Core.List.{List, [], ◌∷◌, ◌++◌, map, append_assoc, append-nil, Memᴰ}
use native.Mathlib.Omega.{arith}
use lib.ListN.{length, get_or, replicate, length-append}
use lib.Seq.{sets}
use Rattle.coding.proofs.Sets.{get_or-sets-below, sets-mid}
use Rattle.table.specs.Table.{zeros, is_table}
use Rattle.table.proofs.Zeros.{length-zeros}
use Rattle.summary.specs.Summary.{summary_words}
use Rattle.ldc.specs.Lists.{all}
use Rattle.ldc.specs.Store.{Card, free, live, frozen, links_of, is_free}
use Rattle.ldc.specs.Layout.{row_head, link_size, link_limit, summary_start, state_of, link_count, links_at, card_of, link_words, state_word}
use Rattle.ldc.specs.Layout.{table_summary, summary_on, row_with, row_of, rows_of}
use Rattle.ldc.specs.Lent.{row_good}
use Rattle.ldc.proofs.Lent.Parts.{card-back, length-link_words}
use Rattle.saved_book.specs.Opened.{fresh_summary, summed, summed_rows}

-- ---- the rows of a store, but without summaries

abbrev pub bare_row : Card → List ℕ
bare_row c = row_with c (zeros summary_words)

-- What stands before the summary.
unfoldable front : Card → List ℕ
front c = state_word c ∷ length (links_of c) ∷ (link_words (links_of c) ++ zeros (link_size * link_limit - link_size * length (links_of c)))

front-with : (c : Card) (words : List ℕ) → row_with c words ≡ front c ++ words
unfolding row_with front
front-with c words =
    ap (λ (ws : List ℕ). state_word c ∷ length (links_of c) ∷ ws)
    (sym (append_assoc (link_words (links_of c)) (zeros (link_size * link_limit - link_size * length (links_of c))) words))

module _ (c : Card) (few : length (links_of c) ≤ link_limit) where
  length_front : length (front c) ≡ summary_start
  unfolding front
  length_front = rw (length-append, length-link_words, length-zeros) (omega arith)

  -- Another summary in the place of the one there is.
  other-summary : (words other : List ℕ) → length words ≡ length other → sets (row_with c words) summary_start other ≡ row_with c other
  other-summary words other n =
      let mid = sets-mid (front c) words [] other summary_start length_front n in
      rw (front-with c words, front-with c other) (rw (append-nil words, append-nil other) at mid)

fresh_on : (c : Card) (bytes : List ℕ) → (is_free c ≡ false → is_table bytes ≡ true)
    → cond (not (is_free c) && is_table bytes) (table_summary bytes) (zeros summary_words) ≡ summary_on c bytes
fresh_on free bytes h = refl
fresh_on (live ls) bytes h = rw (h refl)
fresh_on frozen bytes h = rw (h refl)

length-on : (c : Card) (bytes : List ℕ) → length (summary_on c bytes) ≡ summary_words
unfolding table_summary
length-on free bytes = length-zeros summary_words
length-on (live ls) bytes = refl
length-on frozen bytes = refl

summed-bare : (c : Card) (bytes : List ℕ) → length (links_of c) ≤ link_limit → (is_free c ≡ false → is_table bytes ≡ true)
    → summed (bare_row c) bytes ≡ row_of c bytes
unfolding summed fresh_summary row_of
summed-bare c bytes few h =
    rw (card-back c (zeros summary_words) few, fresh_on c bytes h) (other-summary c few (zeros summary_words) (summary_on c bytes) (length-zeros summary_words ∙ sym (length-on c bytes)))

pub summed-rows : (cs : List Card) (bs : List (List ℕ)) → ((c : Card) → Memᴰ c cs → length (links_of c) ≤ link_limit)
    → ((p : ℕ) → is_free (get_or cs p free) ≡ false → is_table (get_or bs p []) ≡ true)
    → summed_rows (map bare_row cs) bs ≡ rows_of cs bs
summed-rows [] bs few h = refl
summed-rows (c ∷ cs) [] few h =
    rw (summed-bare c [] (few c (Memᴰ.head refl)) (h 0), summed-rows cs [] (λ d m. few d (Memᴰ.tail m)) (λ p. h (suc p)))
summed-rows (c ∷ cs) (b ∷ bs) few h =
    rw (summed-bare c b (few c (Memᴰ.head refl)) (h 0), summed-rows cs bs (λ d m. few d (Memᴰ.tail m)) (λ p. h (suc p)))

-- ---- added places: free, whatever they hold

pub bare-grown : (cs : List Card) (n : ℕ) → map bare_row (cs ++ replicate n free) ≡ map bare_row cs ++ replicate n (bare_row free)
bare-grown [] zero = refl
bare-grown [] (suc n) = ap (λ (rows : List (List ℕ)). bare_row free ∷ rows) (bare-grown [] n)
bare-grown (c ∷ cs) n = ap (λ (rows : List (List ℕ)). bare_row c ∷ rows) (bare-grown cs n)

free-row : (bytes : List ℕ) → row_of free bytes ≡ bare_row free
unfolding row_of
free-row bytes = refl

free-rows : (n : ℕ) (bs : List (List ℕ)) → rows_of (replicate n free) bs ≡ replicate n (bare_row free)
free-rows zero bs = refl
free-rows (suc n) [] = rw (free-row [], free-rows n [])
free-rows (suc n) (b ∷ bs) = rw (free-row b, free-rows n bs)

-- Rows over other places, of which those that are not free have the same bytes.
row-over : (c : Card) (b b' : List ℕ) → (is_free c ≡ false → b ≡ b') → row_of c b ≡ row_of c b'
row-over free b b' h = free-row b ∙ sym (free-row b')
row-over (live ls) b b' h = ap (row_of (live ls)) (h refl)
row-over frozen b b' h = ap (row_of frozen) (h refl)

pub rows_grown : (cs : List Card) (n : ℕ) (bs bs' : List (List ℕ))
    → ((p : ℕ) → is_free (get_or cs p free) ≡ false → get_or bs p [] ≡ get_or bs' p [])
    → rows_of (cs ++ replicate n free) bs ≡ rows_of cs bs' ++ replicate n (bare_row free)
rows_grown [] n bs bs' h = free-rows n bs
rows_grown (c ∷ cs) n [] [] h = rw (rows_grown cs n [] [] (λ p. h (suc p)))
rows_grown (c ∷ cs) n [] (b' ∷ bs') h = rw (row-over c [] b' (h 0), rows_grown cs n [] bs' (λ p. h (suc p)))
rows_grown (c ∷ cs) n (b ∷ bs) [] h = rw (row-over c b [] (h 0), rows_grown cs n bs [] (λ p. h (suc p)))
rows_grown (c ∷ cs) n (b ∷ bs) (b' ∷ bs') h = rw (row-over c b b' (h 0), rows_grown cs n bs bs' (λ p. h (suc p)))

-- ---- what a row says of its card

-- Rows alike before the summary.
module _ (a b : List ℕ) (same : (i : ℕ) → i < summary_start → get_or a i 0 ≡ get_or b i 0) where
  links-alike : (n at : ℕ) → at + link_size * n ≤ summary_start → links_at n a at ≡ links_at n b at
  links-alike zero at h = refl
  links-alike (suc n) at h =
      rw (same at (omega arith), same (at + 1) (omega arith), same (at + 2) (omega arith), same (at + 3) (omega arith), links-alike n (at + link_size) (omega arith))

  card-alike : card_of a ≡ card_of b
  unfolding card_of state_of link_count
  card-alike =
      rw (same 0 (omega arith), same 1 (omega arith), links-alike (min (get_or b 1 0) link_limit) row_head (omega arith))

  good-alike : row_good a ≡ row_good b
  unfolding row_good state_of link_count
  good-alike = rw (same 0 (omega arith), same 1 (omega arith))

before-alike : (row bytes : List ℕ) (i : ℕ) → i < summary_start → get_or (summed row bytes) i 0 ≡ get_or row i 0
unfolding summed
before-alike row bytes i h = get_or-sets-below row summary_start (fresh_summary row bytes) i 0 h

pub cards-summed : (rows bs : List (List ℕ)) → map card_of (summed_rows rows bs) ≡ map card_of rows
cards-summed [] bs = refl
cards-summed (row ∷ rows) [] = rw (card-alike (summed row []) row (before-alike row []), cards-summed rows [])
cards-summed (row ∷ rows) (b ∷ bs) = rw (card-alike (summed row b) row (before-alike row b), cards-summed rows bs)

pub good-summed : (rows bs : List (List ℕ)) → all row_good (summed_rows rows bs) ≡ all row_good rows
good-summed [] bs = refl
good-summed (row ∷ rows) [] = rw (good-alike (summed row []) row (before-alike row []), good-summed rows [])
good-summed (row ∷ rows) (b ∷ bs) = rw (good-alike (summed row b) row (before-alike row b), good-summed rows bs)

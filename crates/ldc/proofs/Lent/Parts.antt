-- There and back for each piece of the book by itself: a card and its row, a mark and its two words, a level list and its part of
-- the lists. Rows go by induction on the links, four words at a time.
use Prim.Native.Nat.{ℕ, zero, suc, ◌+◌, ◌*◌, ◌-◌, ◌≤◌, ◌<◌, min}
use mathlib.Core.Path.{◌≡◌, refl, sym, ◌∙◌, ap, ap₂}
use mathlib.Core.Bool.{Bool, true, cond, ◌&&◌, ◌||◌}
use mathlib.Core.List.{List, [], ◌∷◌, ◌++◌, map, append_assoc, Memᴰ}
use mathlib.Core.Logic.{⊎_elim}
use mathlib.Core.Option.{Option, some, none}
use native.Mathlib.Omega.{arith}
use native.Mathlib.Nat.{add-zero}
use borrow.Author.Tests.{eqb-true, eqb-false, leb-true}
use lib.Dec.{eqb, leb}
use lib.ListN.{length, get_or, set, take, drop, length-append, length-drop, take-append-drop}
use lib.Seq.{length-take-le, take_at, drop_at, drop-append_seam, drop-drop, drop-cons, get_or-drop}
use Rattle.table.specs.Table.{all_zero, zeros}
use Rattle.table.proofs.Tests.{and_parts, or_parts, cases}
use Rattle.table.proofs.Zeros.{length-zeros, zero-bytes, zeros-zero}
use Rattle.ldc.specs.Lists.{all, flat}
use Rattle.summary.specs.Summary.{summary_words, same_words}
use Rattle.summary.proofs.Same.{same_true, same_refl}
use Rattle.ldc.specs.Store.{Link, Card, free, live, frozen, links_of, is_free}
use Rattle.ldc.specs.Lent.{row_good, summary_good}
use Rattle.ldc.proofs.Basics.ListLaws.{drop-take}
use Rattle.ldc.specs.Layout.{state_of, link_count, links_at, card_of, mark_of, link_words, state_word, mark_words, mark_good, link_limit, row_head, link_size, link_start, live_state}
use Rattle.ldc.specs.Layout.{summary_start, row_size, summary_in, table_summary, summary_on, row_with, row_of, rows_of, row_rest}

-- ---- links

-- The links that stand at a position are read there.
pub links-back : (ls : List Link) (row : List ℕ) (at : ℕ) (rest : List ℕ) → drop at row ≡ link_words ls ++ rest
    → links_at (length ls) row at ≡ ls
links-back [] row at rest h = refl
links-back (l ∷ ls) row at rest h =
    let word : (i : ℕ) → get_or row (at + i) 0 ≡ get_or (l.place ∷ l.low ∷ l.high ∷ l.number ∷ (link_words ls ++ rest)) i 0 =
    λ i. sym (get_or-drop at row i 0) ∙ ap (λ (s : List ℕ). get_or s i 0) h in
    let first : get_or row at 0 ≡ l.place = rw (add-zero at) at (word 0) in
    let next : drop (at + link_size) row ≡ link_words ls ++ rest = sym (drop-drop link_size at row) ∙ ap (λ (s : List ℕ). drop link_size s) h in
    rw (first, word 1, word 2, word 3, links-back ls row (at + link_size) rest next)

-- The words of the links read at a position are those that stand there.
words_back : (n : ℕ) (row : List ℕ) (at : ℕ) → at + link_size * n ≤ length row → link_words (links_at n row at) ≡ take (link_size * n) (drop at row)
words_back zero row at h = refl
words_back (suc n) row at h =
    let e : link_size * suc n ≡ suc (suc (suc (suc (link_size * n)))) = omega arith in
    let one : at + 1 ≡ suc at = omega arith in
    let two : at + 2 ≡ suc (suc at) = omega arith in
    let three : at + 3 ≡ suc (suc (suc at)) = omega arith in
    let four : at + link_size ≡ suc (suc (suc (suc at))) = omega arith in
    let r = words_back n row (suc (suc (suc (suc at)))) (omega arith) in
    rw (
      e,
      one,
      two,
      three,
      four,
      drop-cons row at 0 (omega arith),
      drop-cons row (suc at) 0 (omega arith),
      drop-cons row (suc (suc at)) 0 (omega arith),
      drop-cons row (suc (suc (suc at))) 0 (omega arith),
      r,
    )

pub length-link_words : (ls : List Link) → length (link_words ls) ≡ link_size * length ls
length-link_words [] = refl
length-link_words (l ∷ ls) = let r = length-link_words ls in omega arith

pub length-links_at : (n : ℕ) (row : List ℕ) (at : ℕ) → length (links_at n row at) ≡ n
length-links_at zero row at = refl
length-links_at (suc n) row at = ap suc (length-links_at n row (at + link_size))

-- ---- zeros

pub zero-append : (s t : List ℕ) → all_zero (s ++ t) ≡ (all_zero s && all_zero t)
unfolding all_zero
zero-append [] t = refl
zero-append (b ∷ s) t = cases (eqb b 0) (λ q. rw q (zero-append s t)) (λ q. rw q)

-- ---- cards

-- A card with no more links than there is room for is read back from its row.
pub card-back : (c : Card) (summary : List ℕ) → length (links_of c) ≤ link_limit → card_of (row_with c summary) ≡ c
unfolding card_of row_with state_of link_count
card-back free summary h = refl
card-back frozen summary h = refl
card-back (live ls) summary h =
    let n : min (length ls) link_limit ≡ length ls = omega arith in
    let rest : List ℕ = zeros (link_size * link_limit - link_size * length ls) ++ summary in
    rw (n, links-back ls (live_state ∷ length ls ∷ (link_words ls ++ rest)) row_head rest refl)

-- What stands before the summary.
unfoldable body_of : Card → List ℕ
body_of c = state_word c ∷ length (links_of c) ∷ (link_words (links_of c) ++ zeros (link_size * link_limit - link_size * length (links_of c)))

row-split : (c : Card) (summary : List ℕ) → row_with c summary ≡ body_of c ++ summary
unfolding row_with body_of
row-split c summary =
    ap (λ (ws : List ℕ). state_word c ∷ length (links_of c) ∷ ws)
    (sym (append_assoc (link_words (links_of c)) (zeros (link_size * link_limit - link_size * length (links_of c))) summary))

length-body : (c : Card) → length (links_of c) ≤ link_limit → length (body_of c) ≡ summary_start
unfolding body_of
length-body c h = rw (length-append, length-link_words, length-zeros) (omega arith)

-- The summary in a row is the one that it was given.
pub summary-back : (c : Card) (summary : List ℕ) → length (links_of c) ≤ link_limit → summary_in (row_with c summary) ≡ summary
summary-back c summary h = rw (row-split c summary) (drop_at (body_of c) summary summary_start (length-body c h))

pub length-row_with : (c : Card) (summary : List ℕ) → length (links_of c) ≤ link_limit → length summary ≡ summary_words
    → length (row_with c summary) ≡ row_size
length-row_with c summary h n = rw (row-split c summary, length-append, length-body c h) (omega arith)

length-on : (c : Card) (bytes : List ℕ) → length (summary_on c bytes) ≡ summary_words
unfolding table_summary
length-on free bytes = length-zeros summary_words
length-on (live ls) bytes = refl
length-on frozen bytes = refl

pub length-row_of : (c : Card) (bytes : List ℕ) → length (links_of c) ≤ link_limit → length (row_of c bytes) ≡ row_size
unfolding row_of
length-row_of c bytes h = length-row_with c (summary_on c bytes) h (length-on c bytes)

-- The row of a card keeps the rules of numbers: its count is that of its links, and the rest is zero.
pub count-row_with : (c : Card) (summary : List ℕ) → link_count (row_with c summary) ≡ length (links_of c)
unfolding link_count row_with
count-row_with c summary = refl

pub good-row_with : (c : Card) (summary : List ℕ) → row_good (row_with c summary) ≡ true
unfolding row_good state_of link_count row_with
good-row_with free summary = refl
good-row_with (live ls) summary = refl
good-row_with frozen summary = refl

pub count-row_of : (c : Card) (bytes : List ℕ) → link_count (row_of c bytes) ≡ length (links_of c)
unfolding row_of
count-row_of c bytes = count-row_with c (summary_on c bytes)

pub good-row_of : (c : Card) (bytes : List ℕ) → row_good (row_of c bytes) ≡ true
unfolding row_of
good-row_of c bytes = good-row_with c (summary_on c bytes)

-- Zeros behind the links.
links-rest : (c : Card) → all_zero (drop (link_start (length (links_of c))) (body_of c)) ≡ true
unfolding body_of
links-rest c =
    let n : ℕ = length (links_of c) in
    let e : link_start n ≡ suc (suc (link_size * n)) = omega arith in
    rw (e, drop_at (link_words (links_of c)) (zeros (link_size * link_limit - link_size * n)) (link_size * n) (length-link_words (links_of c))) (zeros-zero (link_size * link_limit - link_size * n))

free-rest : (c : Card) (bytes : List ℕ) → all_zero (cond (is_free c) (summary_on c bytes) []) ≡ true
unfolding all_zero
free-rest free bytes = zeros-zero summary_words
free-rest (live ls) bytes = refl
free-rest frozen bytes = refl

pub rest-row_of : (c : Card) (bytes : List ℕ) → length (links_of c) ≤ link_limit → all_zero (row_rest (row_of c bytes)) ≡ true
unfolding row_rest row_of
rest-row_of c bytes h =
    let words : List ℕ = summary_on c bytes in
    let n : link_count (row_with c words) ≡ length (links_of c) = unfold row_of in count-row_of c bytes in
    let front : take summary_start (row_with c words) ≡ body_of c =
    rw (row-split c words) (take_at (body_of c) words summary_start (length-body c h)) in
    rw (n, front, card-back c words h, summary-back c words h)
    (zero-append (drop (link_start (length (links_of c))) (body_of c)) (cond (is_free c) words []) ∙ rw (links-rest c) (free-rest c bytes))

on-right : (c : Card) (bytes : List ℕ) → (is_free c || same_words (summary_on c bytes) (table_summary bytes)) ≡ true
on-right free bytes = refl
on-right (live ls) bytes = same_refl (table_summary bytes)
on-right frozen bytes = same_refl (table_summary bytes)

-- Right bits, and none where the place is free, are the summary on the card.
on-back : (c : Card) (bytes words : List ℕ) → length words ≡ summary_words → all_zero (cond (is_free c) words []) ≡ true
    → (is_free c || same_words words (table_summary bytes)) ≡ true → summary_on c bytes ≡ words
on-back free bytes words n z r = sym (zero-bytes words z ∙ rw n)
on-back (live ls) bytes words n z r = sym (same_true words (table_summary bytes) r)
on-back frozen bytes words n z r = sym (same_true words (table_summary bytes) r)

-- The bits on the card are right.
pub summary-row_of : (c : Card) (bytes : List ℕ) → length (links_of c) ≤ link_limit → summary_good (row_of c bytes) bytes ≡ true
unfolding summary_good row_of
summary-row_of c bytes h =
    rw (card-back c (summary_on c bytes) h, summary-back c (summary_on c bytes) h) (on-right c bytes)

-- A whole row is made of its state, its count, as many links, zeros if the rest is zero, and its summary.
row-parts : (n : ℕ) (row : List ℕ) → length row ≡ row_size → n ≤ link_limit → all_zero (drop (link_start n) (take summary_start row)) ≡ true
    → get_or row 0 0 ∷ get_or row 1 0 ∷ (link_words (links_at n row row_head) ++ (zeros (link_size * link_limit - link_size * n) ++ summary_in row)) ≡ row
row-parts n row h few rest =
    let behind : List ℕ = drop (link_start n) row in
    let mid : drop (link_start n) (take summary_start row) ≡ take (link_size * link_limit - link_size * n) behind =
    let e : summary_start - link_start n ≡ link_size * link_limit - link_size * n = omega arith in
    drop-take (link_start n) summary_start row ∙ ap (λ (k : ℕ). take k behind) e in
    let size : length (take (link_size * link_limit - link_size * n) behind) ≡ link_size * link_limit - link_size * n =
    length-take-le (link_size * link_limit - link_size * n) behind (rw length-drop (omega arith)) in
    let zero : take (link_size * link_limit - link_size * n) behind ≡ zeros (link_size * link_limit - link_size * n) =
    rw size at (zero-bytes (take (link_size * link_limit - link_size * n) behind) (rw mid at rest)) in
    let last : drop (link_size * link_limit - link_size * n) behind ≡ summary_in row =
    let e : link_start n + (link_size * link_limit - link_size * n) ≡ summary_start = omega arith in
    drop-drop (link_size * link_limit - link_size * n) (link_start n) row ∙ ap (λ (k : ℕ). drop k row) e in
    let end : drop (link_size * n) (drop row_head row) ≡ zeros (link_size * link_limit - link_size * n) ++ summary_in row =
    drop-drop (link_size * n) row_head row ∙ sym (take-append-drop (link_size * link_limit - link_size * n) behind) ∙ ap₂ ◌++◌ zero last in
    let links : link_words (links_at n row row_head) ++ (zeros (link_size * link_limit - link_size * n) ++ summary_in row) ≡ drop row_head row =
    rw (words_back n row row_head (omega arith), ← end) (take-append-drop (link_size * n) (drop row_head row)) in
    rw links (sym (drop-cons row 0 0 (omega arith) ∙ ap (λ (s : List ℕ). get_or row 0 0 ∷ s) (drop-cons row 1 0 (omega arith))))

module _ (row : List ℕ) (good : row_good row ≡ true) where
  -- What the card of a row says is what the row says.
  pub state-of : state_word (card_of row) ≡ state_of row
  unfolding card_of row_good
  state-of =
      cases (eqb (state_of row) 1)
      (λ q. rw q (sym (eqb-true (state_of row) 1 q)))
      (λ q. cases (eqb (state_of row) 2)
      (λ r. rw (q, r) (sym (eqb-true (state_of row) 2 r)))
      (λ r. let g : leb (state_of row) 2 ≡ true = (and_parts (leb (state_of row) 2) (eqb (link_count row) 0) (rw q at good)).0 in
      rw (q, r) (omega (arith, leb-true (state_of row) 2 g, eqb-false (state_of row) 1 q, eqb-false (state_of row) 2 r))))

  pub links-of : link_count row ≤ link_limit → links_of (card_of row) ≡ links_at (link_count row) row row_head
  unfolding card_of row_good
  links-of few =
      cases (eqb (state_of row) 1)
      (λ q. let n : min (link_count row) link_limit ≡ link_count row = omega arith in rw (q, n))
      (λ q. let n : link_count row ≡ 0 =
      eqb-true (link_count row) 0 (and_parts (leb (state_of row) 2) (eqb (link_count row) 0) (rw q at good)).1 in
      cases (eqb (state_of row) 2) (λ r. rw (q, r, n)) (λ r. rw (q, r, n)))

  -- A whole row that keeps the rules is the one of its card and its place.
  module _ (bytes : List ℕ) (long : length row ≡ row_size) (few : link_count row ≤ link_limit)
      (rest : all_zero (row_rest row) ≡ true) (right : summary_good row bytes ≡ true) where
    rests : (all_zero (drop (link_start (link_count row)) (take summary_start row)) ≡ true)
        × (all_zero (cond (is_free (card_of row)) (summary_in row) []) ≡ true)
    unfolding row_rest
    rests =
        let front : List ℕ = drop (link_start (link_count row)) (take summary_start row) in
        let behind : List ℕ = cond (is_free (card_of row)) (summary_in row) [] in
        and_parts (all_zero front) (all_zero behind) (sym (zero-append front behind) ∙ rest)

    summary-of : summary_on (card_of row) bytes ≡ summary_in row
    unfolding summary_good
    summary-of =
        on-back (card_of row) bytes (summary_in row) (rw length-drop (omega arith)) rests.1 right

    pub row_back : row_of (card_of row) bytes ≡ row
    unfolding row_of row_with state_of link_count
    row_back =
        rw (summary-of, state-of, links-of few, length-links_at) (row-parts (link_count row) row long few rests.0)

-- ---- the rows of all cards

pub length-rows : (cs : List Card) (bs : List (List ℕ)) → length (rows_of cs bs) ≡ length cs
length-rows [] bs = refl
length-rows (c ∷ cs) [] = ap suc (length-rows cs [])
length-rows (c ∷ cs) (b ∷ bs) = ap suc (length-rows cs bs)

pub get_d_rows : (cs : List Card) (bs : List (List ℕ)) (p : ℕ) → p < length cs → get_or (rows_of cs bs) p [] ≡ row_of (get_or cs p free) (get_or bs p [])
get_d_rows [] bs p h = absurd (omega arith)
get_d_rows (c ∷ cs) [] zero h = refl
get_d_rows (c ∷ cs) [] (suc p) h = get_d_rows cs [] p (omega arith)
get_d_rows (c ∷ cs) (b ∷ bs) zero h = refl
get_d_rows (c ∷ cs) (b ∷ bs) (suc p) h = get_d_rows cs bs p (omega arith)

-- One card changed, and one with its place.
pub rows-card : (cs : List Card) (bs : List (List ℕ)) (p : ℕ) (c : Card) → rows_of (set cs p c) bs ≡ set (rows_of cs bs) p (row_of c (get_or bs p []))
rows-card [] bs p c = refl
rows-card (x ∷ cs) [] zero c = refl
rows-card (x ∷ cs) [] (suc p) c = ap (λ (rows : List (List ℕ)). row_of x [] ∷ rows) (rows-card cs [] p c)
rows-card (x ∷ cs) (b ∷ bs) zero c = refl
rows-card (x ∷ cs) (b ∷ bs) (suc p) c = ap (λ (rows : List (List ℕ)). row_of x b ∷ rows) (rows-card cs bs p c)

pub rows_both : (cs : List Card) (bs : List (List ℕ)) (p : ℕ) (c : Card) (b : List ℕ) → p < length bs
    → rows_of (set cs p c) (set bs p b) ≡ set (rows_of cs bs) p (row_of c b)
rows_both [] bs p c b h = refl
rows_both (x ∷ cs) [] p c b h = absurd (omega arith)
rows_both (x ∷ cs) (y ∷ bs) zero c b h = refl
rows_both (x ∷ cs) (y ∷ bs) (suc p) c b h = ap (λ (rows : List (List ℕ)). row_of x y ∷ rows) (rows_both cs bs p c b (omega arith))

-- What holds of the row of each card at its place, holds of all rows.
pub all-rows : (test : List ℕ → Bool) (cs : List Card) (bs : List (List ℕ))
    → ((c : Card) (b : List ℕ) → Memᴰ c cs → test (row_of c b) ≡ true) → all test (rows_of cs bs) ≡ true
all-rows test [] bs h = refl
all-rows test (c ∷ cs) [] h =
    rw (h c [] (Memᴰ.head refl)) (all-rows test cs [] (λ x b m. h x b (Memᴰ.tail m)))
all-rows test (c ∷ cs) (b ∷ bs) h =
    rw (h c b (Memᴰ.head refl)) (all-rows test cs bs (λ x y m. h x y (Memᴰ.tail m)))

-- Cards are read back from their rows, and rows that are those of their cards and places from these.
pub cards-rows : (cs : List Card) (bs : List (List ℕ)) → ((c : Card) → Memᴰ c cs → length (links_of c) ≤ link_limit) → map card_of (rows_of cs bs) ≡ cs
unfolding row_of
cards-rows [] bs h = refl
cards-rows (c ∷ cs) [] h =
    rw (card-back c (summary_on c []) (h c (Memᴰ.head refl)), cards-rows cs [] (λ x m. h x (Memᴰ.tail m)))
cards-rows (c ∷ cs) (b ∷ bs) h =
    rw (card-back c (summary_on c b) (h c (Memᴰ.head refl)), cards-rows cs bs (λ x m. h x (Memᴰ.tail m)))

pub rows-cards : (rows bs : List (List ℕ)) → ((p : ℕ) → p < length rows → row_of (card_of (get_or rows p [])) (get_or bs p []) ≡ get_or rows p [])
    → rows_of (map card_of rows) bs ≡ rows
rows-cards [] bs h = refl
rows-cards (row ∷ rows) [] h =
    let first = h 0 (omega arith) in
    let rest = rows-cards rows [] (λ p n. h (suc p) (omega arith)) in
    cc
rows-cards (row ∷ rows) (b ∷ bs) h =
    let first = h 0 (omega arith) in
    let rest = rows-cards rows bs (λ p n. h (suc p) (omega arith)) in
    cc

-- ---- marks

pub marks-read : (a b : Option ℕ) (rest : List ℕ) → let ws : List ℕ = flat (map mark_words (a ∷ b ∷ [])) ++ rest in
    mark_of (get_or ws 0 0) (get_or ws 1 0) ∷ mark_of (get_or ws 2 0) (get_or ws 3 0) ∷ [] ≡ a ∷ b ∷ []
unfolding mark_of
marks-read none none rest = refl
marks-read none (some l) rest = refl
marks-read (some k) none rest = refl
marks-read (some k) (some l) rest = refl

pub good-marks : (a b : Option ℕ) (rest : List ℕ) → let ws : List ℕ = flat (map mark_words (a ∷ b ∷ [])) ++ rest in
    (mark_good (get_or ws 0 0) (get_or ws 1 0) ≡ true) × (mark_good (get_or ws 2 0) (get_or ws 3 0) ≡ true)
unfolding mark_good
good-marks none none rest = (refl, refl)
good-marks none (some l) rest = (refl, refl)
good-marks (some k) none rest = (refl, refl)
good-marks (some k) (some l) rest = (refl, refl)

pub length-marks : (ms : List (Option ℕ)) → length (flat (map mark_words ms)) ≡ 2 * length ms
length-marks [] = refl
length-marks (none ∷ ms) = omega (arith, length-marks ms)
length-marks (some k ∷ ms) = omega (arith, length-marks ms)

pub words-of-mark : (flag key : ℕ) → mark_good flag key ≡ true → mark_words (mark_of flag key) ≡ flag ∷ key ∷ []
unfolding mark_of mark_good
words-of-mark flag key h =
    ⊎_elim
    (λ q. let e : flag ≡ 1 = eqb-true flag 1 q in rw e)
    (λ q. let b = and_parts (eqb flag 0) (eqb key 0) q in
    let e : flag ≡ 0 = eqb-true flag 0 b.0 in
    let k : key ≡ 0 = eqb-true key 0 b.1 in
    rw (e, k))
    (or_parts (eqb flag 1) (eqb flag 0 && eqb key 0) h)

-- ---- level lists

-- A level list in a part of so many items: the rest is zero.
abbrev pub padded : ℕ → List ℕ → List ℕ
padded size ps = ps ++ zeros (size - length ps)

pub length-padded : (size : ℕ) (ps : List ℕ) → length ps ≤ size → length (padded size ps) ≡ size
length-padded size ps h = rw (length-append, length-zeros) (omega arith)

pub padded-rest : (size : ℕ) (ps : List ℕ) → all_zero (drop (length ps) (padded size ps)) ≡ true
padded-rest size ps = rw (drop-append_seam ps (zeros (size - length ps))) (zeros-zero (size - length ps))

-- A part whose rest is zero is the one of its list.
pub part-back : (size n : ℕ) (part : List ℕ) → length part ≡ size → n ≤ size → all_zero (drop n part) ≡ true
    → padded size (take n part) ≡ part
part-back size n part h hn rest =
    let long : length (take n part) ≡ n = length-take-le n part (omega arith) in
    let end : size - n ≡ length (drop n part) = rw length-drop (omega arith) in
    rw (long, end, ← zero-bytes (drop n part) rest) (take-append-drop n part)

-- The search of a level for the tables whose links name a place: spans rise, so only those whose spans meet its keys are to be asked.
use Prim.Native.Nat.{ℕ, zero, suc, ◌+◌, ◌-◌, ◌≤◌, ◌<◌}
use mathlib.Core.Path.{◌≡◌, refl, ◌∙◌, ap}
use mathlib.Core.Bool.{Bool, true, false, not, ◌&&◌, ◌||◌}
use mathlib.Core.List.{List, [], ◌∷◌}
use native.Mathlib.Omega.{arith}
use native.Mathlib.Numerals.{add-one}
use borrow.Author.Tests.{eqb-true, eqb-false, ltb-true}
use lib.Dec.{eqb, ltb}
use lib.ListN.{length, get_or, set, take, drop, length-drop, drop_of_length-le}
use lib.Seq.{drop-cons, get_or-drop, take_all, get_or-set_same, get_or-set_other}
use Rattle.coding.specs.Number.{Bytes}
use Rattle.table.specs.Table.{entries, place_of, zeros}
use Rattle.table.specs.Search.{least_key, greatest_key}
use Rattle.summary.specs.Summary.{summary_words}
use Rattle.ldc.specs.Lists.{any}
use Rattle.ldc.specs.Store.{Card, free, links_of, Store, span_start, span_end}
use Rattle.ldc.proofs.Basics.Cases.{cases, clash, both_left, both_right, negated}
use Rattle.ldc.proofs.Lent.Parts.{card-back}
use Rattle.ldc.proofs.Stores.Naming.{any-intro, any-elim, any-get_or, any-index, agree}
use Rattle.ldc.specs.Layout.{state_of, card_of, row_with}
use Rattle.ldc.specs.Facts.{Spans}
use Rattle.read.specs.Level.{rank}
use Rattle.read.proofs.Rank.{spans, least-within}
use Rattle.compact_install.specs.Release.{row_names, named_in, held_in, held_among, Sought}
use Rattle.book.specs.Rows.{shown_by}

-- ---- tables in front, and tables behind

refuted : (b : Bool) → (b ≡ true → ⊥) → b ≡ false
refuted true h = absurd (h refl)
refuted false h = refl

-- Tables whose spans end below the key can be left out if none of them passes.
any-front : (s : Store) (k : ℕ) (t : ℕ → Bool) (ps : List ℕ) → ((q : ℕ) → t q ≡ true → k ≤ span_end s q) → any t ps ≡ any t (drop (rank s k ps) ps)
unfolding rank
any-front s k t [] h = refl
any-front s k t (p ∷ ps) h =
    cases (ltb (span_end s p) k)
    (λ q. let no : t p ≡ false = refuted (t p) (λ y. omega (arith, h p y, ltb-true (span_end s p) k q)) in
    rw (q, no) (any-front s k t ps h))
    (λ q. rw q)

-- Of tables whose spans start above the key none passes.
any-back : (s : Store) (k low : ℕ) (t : ℕ → Bool) (ps : List ℕ) → Spans s low ps → k < low → ((q : ℕ) → t q ≡ true → span_start s q ≤ k) → any t ps ≡ false
any-back s k low t [] sp l h = refl
any-back s k low t (p ∷ ps) sp l h =
    let no : t p ≡ false = refuted (t p) (λ y. omega (arith, h p y, sp.0)) in
    rw no (any-back s k (suc (span_end s p)) t ps sp.2 (omega (arith, sp.0, sp.1)) h)

spans-behind : (s : Store) (low : ℕ) (ps : List ℕ) (j : ℕ) → Spans s low ps → j < length ps → Spans s (suc (span_end s (get_or ps j 0))) (drop (suc j) ps)
spans-behind s low [] j h hj = absurd (omega arith)
spans-behind s low (p ∷ ps) zero h hj = h.2
spans-behind s low (p ∷ ps) (suc j) h hj = spans-behind s (suc (span_end s p)) ps j h.2 (omega arith)

-- ---- rows without links

free_names : (f : ℕ) → row_names f (row_with free (zeros summary_words)) ≡ false
unfolding row_names
free_names f = ap (λ (c : Card). any (λ l. eqb l.place f) (links_of c)) (card-back free (zeros summary_words) (omega arith))

none-names : (f : ℕ) → row_names f [] ≡ false
unfolding row_names card_of state_of
none-names f = refl

-- ---- the items from one on, as the code takes them

part-all : (items : List ℕ) (i : ℕ) → take (length items - i) (drop i items) ≡ drop i items
part-all items i = take_all (length items - i) (drop i items) (rw length-drop (omega arith))

part-near : (items : List ℕ) (i k : ℕ) → k < length (take (length items - i) (drop i items)) → i + k < length items
part-near items i k h = omega (arith, rw part-all at h, length-drop i items)

part-item : (items : List ℕ) (i k : ℕ) → get_or (take (length items - i) (drop i items)) k 0 ≡ get_or items (i + k) 0
part-item items i k = rw (part-all items i) (get_or-drop i items k 0)

-- ---- in lent pieces

module _ (p f : ℕ) (cards : List (List ℕ)) (items : List ℕ) where
  pub held-turn : (j : ℕ) → j < length items
      → held_among p f cards (drop j items)
      ≡ ((not (eqb (get_or items j 0) p) && row_names f (get_or cards (get_or items j 0) [])) || held_among p f cards (drop (j + 1) items))
  unfolding held_among
  held-turn j h = rw (add-one j, drop-cons items j 0 h)

  pub held-end : (j : ℕ) → length items ≤ j → held_among p f cards (drop j items) ≡ false
  unfolding held_among
  held-end j h = let none : drop j items ≡ [] = drop_of_length-le items {i = j} h in rw none

  -- One turn of the loop over the tables from the i-th on, at the k-th of these: it holds the place, or one behind it does.
  pub held-step : (i k q : ℕ) (names : Bool) → k < length (take (length items - i) (drop i items))
      → q ≡ get_or (take (length items - i) (drop i items)) k 0 → names ≡ row_names f (get_or cards q [])
      → held_among p f cards (drop (i + k) items) ≡ ((not (eqb q p) && names) || held_among p f cards (drop (i + (k + 1)) items))
  held-step i k q names h qe ne =
      let near : i + k < length items = part-near items i k h in
      let here : q ≡ get_or items (i + k) 0 = qe ∙ part-item items i k in
      let next : i + k + 1 ≡ i + (k + 1) = omega arith in
      rw (ne, here, ← next) (held-turn (i + k) near)

module _ (area : List ℕ) (cards : List (List ℕ)) (items : List ℕ) (p f : ℕ) (so : Sought area cards items f) where
  abbrev test : ℕ → Bool
  test q = not (eqb q p) && row_names f (get_or cards q [])

  named-test : (q : ℕ) → test q ≡ true → row_names f (get_or cards q []) ≡ true
  named-test q h = both_right (not (eqb q p)) (row_names f (get_or cards q [])) h

  -- Whether another card's link names the place is to be asked of these tables alone, and of those from the first that reaches its least key on.
  held_all : p < length cards → held_in p f cards ≡ held_among p f cards items
  unfolding held_in named_in held_among
  held_all below =
      agree (any (row_names f) (set cards p (row_with free (zeros summary_words)))) (any test items)
      (λ h. let r = any-index (row_names f) (set cards p (row_with free (zeros summary_words))) [] h in
      cases (eqb r.0 p)
      (λ e. let here : get_or (set cards p (row_with free (zeros summary_words))) r.0 [] ≡ row_with free (zeros summary_words) = rw (eqb-true r.0 p e) (get_or-set_same cards p (row_with free (zeros summary_words)) [] below) in
      clash (rw here at r.1) (free_names f))
      (λ e. let here = get_or-set_other cards p r.0 (row_with free (zeros summary_words)) [] (eqb-false r.0 p e) in
      let names : row_names f (get_or cards r.0 []) ≡ true = rw here at r.1 in
      any-intro test items r.0 (so.among r.0 names) (rw (e, names))))
      (λ h. let r = any-elim test items h in
      let q : ℕ = r.0 in
      let other = eqb-false q p (negated (eqb q p) (both_left (not (eqb q p)) (row_names f (get_or cards q [])) r.1.1)) in
      let here = get_or-set_other cards p q (row_with free (zeros summary_words)) [] other in
      any-get_or (row_names f) (set cards p (row_with free (zeros summary_words))) [] q (none-names f) (rw here (named-test q r.1.1)))

  pub held-front : p < length cards
      → held_in p f cards
      ≡ held_among p f cards (drop (rank (shown_by area cards) (least_key (entries (place_of area f))) items) items)
  unfolding held_among
  held-front below =
      held_all below
      ∙ any-front (shown_by area cards) (least_key (entries (place_of area f))) test items (λ q h. so.reaches q (named-test q h))

  -- Behind a table with a least key above all keys of the place none does.
  pub held-stop : Bytes area → (j : ℕ) → j < length items
      → greatest_key (entries (place_of area f)) < least_key (entries (place_of area (get_or items j 0)))
      → held_among p f cards (drop (j + 1) items) ≡ false
  unfolding held_among
  held-stop b j h above =
      let s = shown_by area cards in
      rw (add-one j)
      (any-back s (greatest_key (entries (place_of area f))) (suc (span_end s (get_or items j 0))) test (drop (suc j) items)
      (spans-behind s 0 items j (spans area cards items b so.legible so.rising) h)
      (omega (arith, above, (least-within area cards items b so.legible so.rising j h).1))
      (λ q t. so.starts q (named-test q t)))

  -- The same of the k-th of the tables from the i-th on.
  pub held-past : Bytes area → (i k q : ℕ) → k < length (take (length items - i) (drop i items))
      → q ≡ get_or (take (length items - i) (drop i items)) k 0
      → greatest_key (entries (place_of area f)) < least_key (entries (place_of area q))
      → held_among p f cards (drop (i + (k + 1)) items) ≡ false
  held-past b i k q h qe above =
      let here : q ≡ get_or items (i + k) 0 = qe ∙ part-item items i k in
      let next : i + k + 1 ≡ i + (k + 1) = omega arith in
      rw (← next) (held-stop b (i + k) (part-near items i k h) (rw here at above))

-- A level list in its part of the lent lists: an item's index and `replaced`, and what the writes leave of a part that shows a list.
-- A part shows a list if it is `padded`: the list, and zeros behind it.
use Prim.Native.Nat.{ℕ, zero, suc, ◌+◌, ◌-◌, ◌≤◌, ◌<◌}
use mathlib.Core.Path.{◌≡◌, refl, sym, ◌∙◌, ap, ap₂}
use mathlib.Core.Bool.{true}
use mathlib.Core.List.{List, [], ◌∷◌, ◌++◌, append_assoc, append-nil}
use native.Mathlib.Omega.{arith}
use native.Mathlib.Nat.{sub-zero}
use native.Mathlib.Numerals.{add-one}
use borrow.Author.Tests.{eqb-true, eqb-false, ne_eqb}
use borrow.Rule.Slice.PartMut.{put_mid}
use lib.Dec.{eqb}
use lib.ListN.{length, get_or, set, take, drop, length-append, length-drop, get_or-append}
use lib.Seq.{paste, sets, sets-eq, length-sets, length-take-le, take-append-le, take-append_seam, drop-append-add, set-append_seam}
use Rattle.std.specs.Prelude.{Option, Some, None, is_some, position}
use Rattle.std.specs.List.{position_from}
use Rattle.std.proofs.lemmas.Iterator.Adapters.{position_from-zero}
use Rattle.coding.proofs.Sets.{sets-append, sets-comm, sets-back}
use Rattle.table.specs.Table.{zeros}
use Rattle.table.proofs.Tests.{cases}
use Rattle.table.proofs.Zeros.{length-zeros, zeros-add}
use Rattle.ldc.specs.Lists.{how_many}
use Rattle.ldc.specs.Steps.{replaced}
use Rattle.ldc.proofs.Basics.ListLaws.{drop-take}
use Rattle.ldc.proofs.Lent.Parts.{padded, length-padded}
use Rattle.book.specs.Level.{index_from, index_of, spliced}

-- ---- replacing

-- Items moved to the right to make room, and the new ones laid there.
pub laid : (items part moved after : List ℕ) (n i : ℕ) → 1 ≤ length items
    → moved ≡ sets part (i + 1 + (length items - 1)) (drop (i + 1) (take n part)) → after ≡ sets moved i items
    → after ≡ spliced i n items part
unfolding spliced zeros
laid items part moved after n i h m a =
    let k : i + 1 + (length items - 1) ≡ i + length items = omega arith in
    let none : 1 - length items ≡ 0 = omega arith in
    let back : List ℕ = drop (suc i) (take n part) in
    let room : moved ≡ sets part (i + length items) back = m ∙ rw (k, add-one i) in
    rw (none, append-nil back, a, room)
    (sym (sets-append part i items back ∙ sets-comm part i items (i + length items) back (omega arith)))

no_items : (xs : List ℕ) → length xs ≡ 0 → xs ≡ []
no_items [] h = refl
no_items (x ∷ xs) h = absurd (omega arith)

-- Replaced by none is taken out.
pub taken_out : (items part : List ℕ) (n i : ℕ) → length items ≡ 0 → spliced i n [] part ≡ spliced i n items part
taken_out items part n i h = ap (λ xs. spliced i n xs part) (sym (no_items items h))

-- Items copied within their part, from a position on up to the n-th, are a run.
moved_is : (part : List ℕ) (n from to : ℕ) → n ≤ length part → from ≤ n → to + (n - from) ≤ length part
    → paste part to (drop from part) (n - from) ≡ sets part to (drop from (take n part))
moved_is part n from to hn h room =
    let back : List ℕ = drop from (take n part) in
    let cut : take (n - from) (drop from part) ≡ back = sym (drop-take from n part) in
    let long : length back ≡ n - from = length-drop from (take n part) ∙ ap (λ (k : ℕ). k - from) (length-take-le n part hn) in
    ap₂ (λ (vs : List ℕ) (k : ℕ). take to part ++ vs ++ drop (to + k) part) cut (sym long)
    ∙ sym (sets-eq back part to (omega arith))

-- The i-th of n items replaced: those behind it are copied to where the new ones will end, and the new ones laid in between.
module _ (items part moved new : List ℕ) (n i : ℕ) (within : i < n) (fits : n ≤ length part) (room : n + length items ≤ suc (length part))
    (m : moved ≡ paste part (i + length items) (drop (i + 1) part) (n - (i + 1))) (e : new ≡ items) where
  run : moved ≡ sets part (i + length items) (drop (suc i) (take n part))
  run = m ∙ moved_is part n (i + 1) (i + length items) fits (omega arith) (omega arith) ∙ rw (add-one i)

  both : put_mid i (i + length items - i) moved new ≡ sets moved i items
  both =
      let k : i + length items - i ≡ length items = omega arith in
      let long : length moved ≡ length part = ap length run ∙ length-sets part (i + length items) (drop (suc i) (take n part)) in
      rw (k, e) (sets-back moved i (length items) items (omega arith) refl)

  pub laid-over : (length items ≡ 0 → ⊥) → put_mid i (i + length items - i) moved new ≡ spliced i n items part
  laid-over some =
      let k : i + 1 + (length items - 1) ≡ i + length items = omega arith in
      laid items part moved (put_mid i (i + length items - i) moved new) n i (omega arith) (rw (k, add-one i) run) both

  -- By none: the last becomes zero.
  pub closed-up : length items ≡ 0 → set (put_mid i (i + length items - i) moved new) (n - 1) 0 ≡ spliced i n items part
  unfolding spliced zeros
  closed-up h =
      let none : items ≡ [] = no_items items h in
      let back : List ℕ = drop (suc i) (take n part) in
      let long : length back ≡ n - suc i = length-drop (suc i) (take n part) ∙ ap (λ (k : ℕ). k - suc i) (length-take-le n part fits) in
      let last : n - 1 ≡ i + length back = omega arith in
      let here : i + length items ≡ i = omega arith in
      let before : moved ≡ sets part i back = rw here at run in
      ap (λ (xs : List ℕ). set xs (n - 1) 0) both
      ∙ rw (none, before, last) (sym (sets-append part i back (0 ∷ [])))

-- ---- where an item stands

-- The library's search for an item is the definition's.
position-from : (p i : ℕ) (xs : List ℕ) → position_from (λ x. eqb x p) i xs ≡ index_from p i xs
unfolding index_from
position-from p i [] = refl
position-from p i (x ∷ xs) = rw (add-one i, position-from p (suc i) xs)

pub position-index : (p : ℕ) (xs : List ℕ) → position (λ x. eqb x p) xs ≡ index_of p xs
unfolding index_of
position-index p xs = position_from-zero (λ x. eqb x p) xs ∙ position-from p 0 xs

-- A list with its i-th item replaced by several.
abbrev pub swapped : (i : ℕ) → (items ps : List ℕ) → List ℕ
swapped i items ps = take i ps ++ (items ++ drop (suc i) ps)

-- What an index that was found says.
pub record Stands (p i : ℕ) (ps : List ℕ) : Type 0 where
  pub within : i < length ps
  pub here : get_or ps i 0 ≡ p
  pub other : (items : List ℕ) → replaced p items ps ≡ swapped i items ps

stands_from : (p first i : ℕ) (ps : List ℕ) → index_from p first ps ≡ Some i → (j : ℕ) × (i ≡ first + j) × Stands p j ps
unfolding index_from
stands_from p first i [] h = absurd (let z : ◌≡◌ {A = ℕ} 0 1 = cc in omega arith)
stands_from p first i (x ∷ xs) h =
    cases (eqb x p)
    (λ q. let e : Some first ≡ Some i = rw q at h in
    let same : first ≡ i = cc in
    (0, omega arith, record { within = omega arith; here = eqb-true x p q; other = λ items. rw q }))
    (λ q. let r = stands_from p (suc first) i xs (rw q at h) in (
      suc r.0,
      omega (arith, r.1),
      record { within = omega (arith, r.2.within); here = r.2.here; other = λ items. rw q (ap (λ ys. x ∷ ys) (r.2.other items)) },
    ))

pub index-stands : (p i : ℕ) (ps : List ℕ) → index_of p ps ≡ Some i → Stands p i ps
unfolding index_of
index-stands p i ps h =
    let r = stands_from p 0 i ps h in
    let e : r.0 ≡ i = omega (arith, r.1) in
    rw e at r.2

-- Where none is found, none is there.
nothing-from : (p first : ℕ) (ps : List ℕ) → index_from p first ps ≡ None → how_many (eqb p) ps ≡ 0
unfolding index_from
nothing-from p first [] h = refl
nothing-from p first (x ∷ xs) h =
    cases (eqb x p)
    (λ q. let e : Some first ≡ None = rw q at h in
    absurd (let z : ◌≡◌ {A = ℕ} 0 1 = cc in omega arith))
    (λ q. rw (ne_eqb p x (λ e. eqb-false x p q (sym e))) (nothing-from p (suc first) xs (rw q at h)))

pub index-nothing : (p : ℕ) (ps : List ℕ) → index_of p ps ≡ None → how_many (eqb p) ps ≡ 0
unfolding index_of
index-nothing p ps h = nothing-from p 0 ps h

some-else : (o : Option ℕ) → (o ≡ None → ⊥) → is_some o ≡ true
some-else None h = absurd (h refl)
some-else (Some i) h = refl

-- Where it is there, it is found.
pub index-some : (p : ℕ) (ps : List ℕ) → 1 ≤ how_many (eqb p) ps → is_some (index_of p ps) ≡ true
index-some p ps h = some-else (index_of p ps) (λ e. omega (arith, index-nothing p ps e))

-- ---- what the writes leave

pub item-padded : (size i : ℕ) (ps : List ℕ) → i < length ps → get_or (padded size ps) i 0 ≡ get_or ps i 0
item-padded size i ps h = get_or-append ps (zeros (size - length ps)) 0 i h

-- The items in use of a part that shows a list are the list.
pub take-padded : (size : ℕ) (ps : List ℕ) → take (length ps) (padded size ps) ≡ ps
take-padded size ps = take-append_seam ps (zeros (size - length ps))

zeros-suc : (n : ℕ) → zeros (suc n) ≡ 0 ∷ zeros n
unfolding zeros
zeros-suc n = refl

-- One more behind the last.
pub append-padded : (size p : ℕ) (ps : List ℕ) → length ps < size → set (padded size ps) (length ps) p ≡ padded size (ps ++ p ∷ [])
append-padded size p ps h =
    let rest : zeros (size - length ps) ≡ 0 ∷ zeros (size - (length ps + 1)) =
    ap zeros (omega arith) ∙ zeros-suc (size - (length ps + 1)) in
    let more : length (ps ++ p ∷ []) ≡ length ps + 1 = length-append ps (p ∷ []) in
    rw (rest, more, set-append_seam, append_assoc)

drop-zeros : (d n : ℕ) → drop d (zeros n) ≡ zeros (n - d)
unfolding zeros
drop-zeros zero n = rw (sub-zero n)
drop-zeros (suc d) zero = let e : 0 - suc d ≡ 0 = omega arith in rw e
drop-zeros (suc d) (suc n) = let e : suc n - suc d ≡ n - d = omega arith in rw e (drop-zeros d n)

-- The i-th item replaced.
pub splice-padded : (size i : ℕ) (items ps : List ℕ) → i < length ps → length ps ≤ size → length ps + length items ≤ suc size
    → spliced i (length ps) items (padded size ps) ≡ padded size (swapped i items ps)
unfolding spliced
splice-padded size i items ps h hs hn =
    let n : ℕ = length ps in
    let k : ℕ = length items in
    let back : List ℕ = drop (suc i) ps in
    let row : List ℕ = items ++ (back ++ zeros (1 - k)) in
    let part : List ℕ = padded size ps in
    let rest : length back ≡ n - suc i = length-drop (suc i) ps in
    let long : length row ≡ k + (n - suc i + (1 - k)) =
    rw (length-append, length-append, length-zeros, rest) in
    let fits : i + length row ≤ length part = omega (arith, length-padded size ps hs) in
    let cut : i + length row ≡ n + (k - 1) = omega arith in
    let front : take i part ≡ take i ps = take-append-le i ps (zeros (size - n)) (omega arith) in
    let behind : drop (i + length row) part ≡ zeros (size - n - (k - 1)) =
    rw cut (drop-append-add ps (zeros (size - n)) (k - 1) ∙ drop-zeros (k - 1) (size - n)) in
    let size' : length (swapped i items ps) ≡ i + (k + (n - suc i)) =
    rw (length-append, length-append, rest, length-take-le i ps (omega arith)) in
    let tail : zeros (size - length (swapped i items ps)) ≡ zeros (1 - k) ++ zeros (size - n - (k - 1)) =
    ap zeros (omega arith) ∙ zeros-add (1 - k) (size - n - (k - 1)) in
    rw (take-padded size ps) (sets-eq row part i fits ∙ rw (front, behind, tail) (simp append_assoc))

-- The first item that is p replaced, at the index where it was found.
pub replaced-padded : (size p i : ℕ) (items ps : List ℕ) → index_of p ps ≡ Some i → length ps ≤ size → length ps + length items ≤ suc size
    → spliced i (length ps) items (padded size ps) ≡ padded size (replaced p items ps)
replaced-padded size p i items ps h hs hn =
    let s = index-stands p i ps h in
    splice-padded size i items ps s.within hs hn ∙ ap (padded size) (sym (s.other items))

-- What a step's name tells of a sound store: on which level the table stands, whether it has links, that none is due, and that there is room.
-- The step is named by finds in lists; by the cases of what each find gave, what is found stands in its list and passes the test.
use Prim.Native.Nat.{ℕ, zero, suc, ◌≤◌, ◌<◌}
use mathlib.Core.Path.{◌≡◌, refl, sym, ap}
use mathlib.Core.List.Memᴰ
use mathlib.Core.List.{List, [], ◌∷◌, append-nil, Memᴰ}
use mathlib.Core.Bool.{Bool, true, false, not, ◌&&◌}
use mathlib.Core.Logic.{⊎_elim}
use mathlib.Core.Option.{Option, some, none}
use native.Mathlib.Omega.{arith}
use borrow.Author.Tests.{leb-true, leb-false, ltb-true}
use lib.Dec.{leb, ltb}
use lib.ListN.{length, get_or, take, drop, take-append-drop, length-append, length-take, length-drop}
use Rattle.ldc.specs.Lists.{first, keep, is_empty}
use Rattle.ldc.specs.Store.{Store, level, links, table, mark, span_end, within}
use Rattle.ldc.specs.Place.{free_places}
use Rattle.ldc.specs.Tidy.{Slice, idle, refused, moved, linked, merged, merged_tables, merge_step, Spot, due_with, due, due_in, due_table, capacity, fuller, fullest, overfull, passed, round, responsible, slices_of, down_step, tidy_step}
use Rattle.ldc.proofs.Basics.Cases.{cases, clash, maybe, both_left, both_right, neither_left}
use Rattle.ldc.proofs.Basics.ListLaws.{empty-list, all-at, mem-get_or}
use Rattle.ldc.proofs.Steps.Ranges.{reaches}
use Rattle.ldc.proofs.Stores.Sound.{Sound}
use Rattle.ldc.specs.Facts.{Merging, Chosen}

-- ---- what is found, and what is kept

module _ {A : Type 0} (t : A → Bool) where
  pub first_some : (xs : List A) (x : A) → first t xs ≡ some x → Memᴰ x xs × (t x ≡ true)
  first_some [] x e = absurd (let z : ◌≡◌ {A = ℕ} 0 1 = cc in omega arith)
  first_some (y ∷ ys) x e =
      cases (t y)
      (λ q. let s : ◌≡◌ {A = Option A} (some y) (some x) = rw q at e in
      let r : x ≡ y = cc in (Memᴰ.head r, rw r q))
      (λ q. let r = first_some ys x (rw q at e) in (Memᴰ.tail r.0, r.1))

  pub first-none : (xs : List A) → first t xs ≡ none → (x : A) → Memᴰ x xs → t x ≡ false
  first-none [] e x m = absurd (elim m [ ])
  first-none (y ∷ ys) e x m =
      cases (t y)
      (λ q. absurd (let s : ◌≡◌ {A = Option A} (some y) none = rw q at e in let z : ◌≡◌ {A = ℕ} 0 1 = cc in omega arith))
      (λ q. ⊎_elim (λ r. rw r q) (λ r. first-none ys (rw q at e) x r) (Memᴰ.cases_cons m))

  pub keep-member : (xs : List A) (x : A) → Memᴰ x (keep t xs) → Memᴰ x xs × (t x ≡ true)
  keep-member [] x m = absurd (elim m [ ])
  keep-member (y ∷ ys) x m =
      cases (t y)
      (λ q. ⊎_elim
      (λ r. (Memᴰ.head r, rw r q))
      (λ r. let k = keep-member ys x r in (Memᴰ.tail k.0, k.1))
      (Memᴰ.cases_cons (rw q at m)))
      (λ q. let k = keep-member ys x (rw q at m) in (Memᴰ.tail k.0, k.1))

-- ---- the slices of a link

-- The tables below that they hang on, and the place that they name.
responsible-member : (s : Store) (p from : ℕ) (qs : List ℕ) (x : Slice) → Memᴰ x (responsible p from (reaches s qs))
    → (x.place ≡ p) × Memᴰ x.on qs
responsible-member s p from [] x m = absurd (elim m [ ])
responsible-member s p from (q ∷ []) x m =
    ⊎_elim (λ e. (ap (λ y. y.place) e, Memᴰ.head (ap (λ y. y.on) e))) (λ t. absurd (elim t [ ])) (Memᴰ.cases_cons m)
responsible-member s p from (q ∷ r ∷ qs) x m =
    ⊎_elim (λ e. (ap (λ y. y.place) e, Memᴰ.head (ap (λ y. y.on) e)))
    (λ t. let k = responsible-member s p (suc (span_end s q)) (r ∷ qs) x t in (k.0, Memᴰ.tail k.1)) (Memᴰ.cases_cons m)

pub slice-member : (s : Store) (n p : ℕ) (x : Slice) → Memᴰ x (slices_of s n p) → (x.place ≡ p) × Memᴰ x.on (level s (suc n))
unfolding slices_of
slice-member s n p x m =
    let t : Slice → Bool = λ r. not (is_empty (within r.low r.high (table s p))) in
    responsible-member s p 0 (level s (suc n)) x
    (keep-member t (responsible p 0 (reaches s (level s (suc n)))) x m).0

-- ---- the due table

module _ (s : Store) where
  due-some : (ns : List ℕ) (d : Spot) → due_in s ns ≡ some d → Memᴰ d.on ns × Memᴰ d.place (level s d.on)
  due-some [] d e = absurd (let z : ◌≡◌ {A = ℕ} 0 1 = cc in omega arith)
  due-some (n ∷ ns) d e =
      maybe (first (due s) (level s n))
      (λ q. let r = due-some ns d (rw q at e) in (Memᴰ.tail r.0, r.1))
      (λ p q. let x : ◌≡◌ {A = Option Spot} (some (record { on = n; place = p })) (some d) = rw q at e in
      let y : record { on = n; place = p } ≡ d = cc in
      let a : d.on ≡ n = sym (ap (λ z. z.on) y) in
      let b : d.place ≡ p = sym (ap (λ z. z.place) y) in
      (Memᴰ.head a, rw (a, b) (first_some (due s) (level s n) p q).0))

  due-none : (ns : List ℕ) → due_in s ns ≡ none → (n : ℕ) → Memᴰ n ns → (q : ℕ) → Memᴰ q (level s n) → due s q ≡ false
  due-none [] e n m q l = absurd (elim m [ ])
  due-none (k ∷ ns) e n m q l =
      maybe (first (due s) (level s k))
      (λ f. ⊎_elim
      (λ nk. first-none (due s) (level s k) f q (rw nk at l))
      (λ t. due-none ns (rw f at e) n t q l)
      (Memᴰ.cases_cons m))
      (λ p f. absurd (let x : ◌≡◌ {A = Option Spot} (some (record { on = k; place = p })) none = rw f at e in
      let z : ◌≡◌ {A = ℕ} 0 1 = cc in omega arith))

-- ---- the level and the round

pub fullest-some : (live : ℕ → ℕ) (ns : List ℕ) (n : ℕ) → fullest live ns ≡ some n → Memᴰ n ns × (capacity n < live n)
fullest-some live [] n e = absurd (let z : ◌≡◌ {A = ℕ} 0 1 = cc in omega arith)
fullest-some live (m ∷ ns) n e =
    cases (ltb (capacity m) (live m))
    (λ q.
    let above : capacity m < live m = ltb-true (capacity m) (live m) q in
    maybe (fullest live ns)
    (λ f. let x : ◌≡◌ {A = Option ℕ} (some m) (some n) = rw (q, f) at e in
    let r : n ≡ m = cc in (Memᴰ.head r, rw r above))
    (λ k f. cases (fuller live m k)
    (λ g. let x : ◌≡◌ {A = Option ℕ} (some k) (some n) = rw (q, f, g) at e in
    let r : n ≡ k = cc in
    let i = fullest-some live ns k f in (rw r (Memᴰ.tail i.0), rw r i.1))
    (λ g. let x : ◌≡◌ {A = Option ℕ} (some m) (some n) = rw (q, f, g) at e in
    let r : n ≡ m = cc in (Memᴰ.head r, rw r above))))
    (λ q. let i = fullest-some live ns n (rw q at e) in (Memᴰ.tail i.0, i.1))

module _ (s : Store) where
  overfull-some : (n : ℕ) → overfull s ≡ some n → (n ≤ 2) × (1 ≤ length (level s n))
  unfolding overfull
  overfull-some n e =
      let f = fullest-some (λ i. length (level s i)) (0 ∷ 1 ∷ 2 ∷ []) n e in
      (leb-true n 2 (all-at (λ i. leb i 2) (0 ∷ 1 ∷ 2 ∷ []) refl f.0), omega (arith, f.1))

  round-member : (n q : ℕ) → Memᴰ q (round s n) → Memᴰ q (level s n)
  unfolding round
  round-member n q m =
      let k = passed s (mark s n) (level s n) in
      let whole = take-append-drop k (level s n) in
      ⊎_elim
      (λ a. rw whole at (Memᴰ.append_right {a = q} (take k (level s n)) {t = drop k (level s n)} a))
      (λ b. rw whole at (Memᴰ.append_left {a = q} {s = take k (level s n)} (drop k (level s n)) b))
      (Memᴰ.append_cases (drop k (level s n)) m)

  round-first : (n : ℕ) → 1 ≤ length (level s n) → Memᴰ (get_or (round s n) 0 0) (round s n)
  unfolding round
  round-first n h =
      mem-get_or (round s n) 0 0 (simp (length-append, length-take, length-drop) (omega arith))

  -- level 0 has no mark
  round-zero : round s 0 ≡ level s 0
  unfolding round mark
  round-zero = append-nil (level s 0)

-- The first of tables that all have no links.
first-bare : (s : Store) (ps : List ℕ) (p : ℕ) → ((q : ℕ) → Memᴰ q ps → links s q ≡ []) → first (λ q. is_empty (links s q)) ps ≡ some p
    → (qs : List ℕ) × (ps ≡ p ∷ qs)
first-bare s [] p h e = absurd (let z : ◌≡◌ {A = ℕ} 0 1 = cc in omega arith)
first-bare s (q ∷ qs) p h e =
    let x : ◌≡◌ {A = Option ℕ} (some q) (some p) = rw (h q (Memᴰ.head refl)) at e in
    let r : q ≡ p = cc in (qs, rw r)

-- ---- the steps

module _ (s : Store) (S : Sound s) where
  pub due-merging : (d : Spot) → due_table s ≡ some d → Merging s d.on d.place
  unfolding due_table
  due-merging d e =
      let r = due-some s (1 ∷ 2 ∷ 3 ∷ []) d e in
      let b = all-at (λ i. leb 1 i && leb i 3) (1 ∷ 2 ∷ 3 ∷ []) refl r.0 in
      record {
        lowest = leb-true 1 d.on (both_left (leb 1 d.on) (leb d.on 3) b);
        highest = leb-true d.on 3 (both_right (leb 1 d.on) (leb d.on 3) b);
        on = r.1;
      }

  none-due : due_table s ≡ none → (n : ℕ) → n ≤ 2 → (q : ℕ) → Memᴰ q (level s (suc n)) → length (links s q) < s.threshold
  unfolding due_table due due_with
  none-due e n h q m = leb-false s.threshold (length (links s q)) (neither_left (leb s.threshold (length (links s q))) _ (due-none s (1 ∷ 2 ∷ 3 ∷ []) e (suc n) (within-three n h) q m))
    where
      within-three : (i : ℕ) → i ≤ 2 → Memᴰ (suc i) (1 ∷ 2 ∷ 3 ∷ [])
      within-three zero l = Memᴰ.head refl
      within-three (suc zero) l = Memᴰ.tail (Memᴰ.head refl)
      within-three (suc (suc zero)) l = Memᴰ.tail (Memᴰ.tail (Memᴰ.head refl))
      within-three (suc (suc (suc i))) l = absurd (omega arith)

  -- no table of level 0 has links
  linked-low : (n p : ℕ) → Memᴰ p (level s n) → is_empty (links s p) ≡ false → 1 ≤ n
  linked-low zero p m h = let e : links s p ≡ [] = S.bare p m in clash (rw e) h
  linked-low (suc n) p m h = omega arith

  pub full-merging : (n : ℕ) → overfull s ≡ some n → first (λ q. is_empty (links s q)) (round s n) ≡ none → Merging s n (get_or (round s n) 0 0)
  full-merging n o f =
      let b = overfull-some s n o in
      let m = round-first s n b.1 in
      let on = round-member s n (get_or (round s n) 0 0) m in
      record {
        lowest = linked-low n (get_or (round s n) 0 0) on (first-none (λ q. is_empty (links s q)) (round s n) f (get_or (round s n) 0 0) m);
        highest = omega (arith, b.0);
        on = on;
      }

  pub chosen : (n p : ℕ) → due_table s ≡ none → overfull s ≡ some n → first (λ q. is_empty (links s q)) (round s n) ≡ some p → Chosen s n p
  chosen n p d o f =
      let b = overfull-some s n o in
      let r = first_some (λ q. is_empty (links s q)) (round s n) p f in
      record {
        highest = b.0;
        on = round-member s n p r.0;
        bare = empty-list (links s p) r.1;
        oldest = λ z. first-bare s (level s 0) p S.bare (rw (z, round-zero s) at f);
        calm = none-due d n b.0;
      }

  -- By how the step came about: nothing to do, a merge, or a chosen table going down.
  pub tidy-cases : {P : Type 0} → (tidy_step s ≡ idle → P) → ((n p : ℕ) → Merging s n p → tidy_step s ≡ merge_step s n p → P)
      → ((n p : ℕ) → Chosen s n p → tidy_step s ≡ down_step s n p → P) → P
  unfolding tidy_step
  tidy-cases i m c =
      maybe (due_table s)
      (λ d. maybe (overfull s)
      (λ o. i (rw (d, o)))
      (λ n o. maybe (first (λ q. is_empty (links s q)) (round s n))
      (λ f. m n (get_or (round s n) 0 0) (full-merging n o f) (rw (d, o, f)))
      (λ p f. c n p (chosen n p d o f) (rw (d, o, f)))))
      (λ t d. m t.on t.place (due-merging t d) (rw d))

pub record Moved (s : Store) (n p : ℕ) : Type 0 where
  pub chosen : Chosen s n p
  pub empty : level s (suc n) ≡ []

pub record Linked (s : Store) (n p : ℕ) (xs : List Slice) : Type 0 where
  pub chosen : Chosen s n p
  pub filled : is_empty (level s (suc n)) ≡ false
  pub slices : xs ≡ slices_of s n p

pub record Merged (s : Store) (n p : ℕ) : Type 0 where
  pub merging : Merging s n p
  pub room : length (merged_tables s n p) ≤ free_places s

-- A merge is done or refused, and a table that goes down is moved or linked.
module _ {P : Type 0} (s : Store) (n p : ℕ) where
  pub merge-cases : (length (merged_tables s n p) ≤ free_places s → merge_step s n p ≡ merged n p → P) → (merge_step s n p ≡ refused → P) → P
  unfolding merge_step
  merge-cases m r =
      cases (leb (length (merged_tables s n p)) (free_places s))
      (λ q. m (leb-true (length (merged_tables s n p)) (free_places s) q) (rw q))
      (λ q. r (rw q))

  pub down-cases : (level s (suc n) ≡ [] → down_step s n p ≡ moved n p → P)
      → (is_empty (level s (suc n)) ≡ false → down_step s n p ≡ linked n p (slices_of s n p) → P) → P
  unfolding down_step
  down-cases m l =
      cases (is_empty (level s (suc n)))
      (λ q. m (empty-list (level s (suc n)) q) (rw q))
      (λ q. l q (rw q))

-- Two names that begin otherwise.
apart-names : {P : Type 0} → ◌≡◌ {A = ℕ} 0 1 → P
apart-names z = absurd (omega arith)

module _ (s : Store) (S : Sound s) (n p : ℕ) where
  pub step-moved : tidy_step s ≡ moved n p → Moved s n p
  step-moved e =
      tidy-cases s S
      (λ i. apart-names (cc))
      (λ k q _ i. merge-cases s k q (λ _ x. apart-names (cc)) (λ x. apart-names (cc)))
      (λ k q c i. down-cases s k q
      (λ empty x. let a : n ≡ k = cc in let b : p ≡ q = cc in
      rw (a, b) (record { chosen = c; empty = empty }))
      (λ _ x. apart-names (cc)))

  pub step-linked : (xs : List Slice) → tidy_step s ≡ linked n p xs → Linked s n p xs
  step-linked xs e =
      tidy-cases s S
      (λ i. apart-names (cc))
      (λ k q _ i. merge-cases s k q (λ _ x. apart-names (cc)) (λ x. apart-names (cc)))
      (λ k q c i. down-cases s k q
      (λ _ x. apart-names (cc))
      (λ filled x. let a : n ≡ k = cc in let b : p ≡ q = cc in let c' : xs ≡ slices_of s k q = cc in
      rw (a, b) (record { chosen = c; filled = filled; slices = c' })))

  pub step-merged : tidy_step s ≡ merged n p → Merged s n p
  step-merged e =
      tidy-cases s S
      (λ i. apart-names (cc))
      (λ k q m i. merge-cases s k q
      (λ room x. let a : n ≡ k = cc in let b : p ≡ q = cc in
      rw (a, b) (record { merging = m; room = room }))
      (λ x. apart-names (cc)))
      (λ k q _ i. down-cases s k q (λ _ x. apart-names (cc)) (λ _ x. apart-names (cc)))

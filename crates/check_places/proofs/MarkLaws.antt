-- What marks say: which places links name. Rule F by marks, and by marks that links of different levels name no common place.
use Prim.Native.Nat.{ℕ, zero, suc, ◌+◌, ◌≤◌, ◌<◌}
use mathlib.Core.Path.{◌≡◌, refl, sym, ◌∙◌, ap}
use mathlib.Core.Bool.{Bool, true, false, cond, not, ◌&&◌, beq, and-true}
use mathlib.Core.List.Memᴰ
use mathlib.Core.List.{List, [], ◌∷◌, ◌++◌, map, append-nil, Memᴰ}
use mathlib.Core.Logic.{⊎_elim}
use native.Mathlib.Omega.{arith}
use borrow.Author.Tests.{eq-eqb, ne_eqb, eqb-true, eqb-false}
use lib.Dec.{eqb}
use lib.ListN.{length, get_or, set, length-set}
use lib.Seq.{get_or-set_same, get_or-set_other}
use Rattle.table.specs.Table.{zeros}
use Rattle.table.proofs.Tests.{cases}
use Rattle.table.proofs.Zeros.{length-zeros}
use Rattle.ldc.specs.Lists.{all, any, flat}
use Rattle.ldc.specs.Store.{Link, links_of}
use Rattle.ldc.specs.Rules.{Hung, apart, all_apart}
use Rattle.ldc.proofs.Basics.ListLaws.{all_of, any_append}
use Rattle.ldc.specs.Layout.{card_of, items_in}
use Rattle.book.specs.Row.{links_in}
use Rattle.check_walk.specs.Links.{pairs, apart_in, links_over, unmarked, levels_apart, links_marked}
use Rattle.check_walk.proofs.LinkLaws.{all_append, long-marks}
use Rattle.check_walk.proofs.ApartLaws.{all_split, pairs-append}
use Rattle.check_places.proofs.FoundLaws.{zero-count}
use Rattle.check_places.proofs.WalkLaws.{all_same, all-swap}

-- ---- what a mark says

-- A place's mark is 1 if a link names it, else what it was.
mark-value : (t : List ℕ) (ls : List Link) (p : ℕ) → p < length t
    → get_or (links_marked t ls) p 0 ≡ cond (any (λ l. eqb l.place p) ls) 1 (get_or t p 0)
unfolding links_marked
mark-value t [] p h = refl
mark-value t (l ∷ ls) p h =
    cases (eqb l.place p)
    (λ q. let same : l.place ≡ p = eqb-true _ _ q in
    let t' : List ℕ = set t p 1 in
    let here : get_or t' p 0 ≡ 1 = get_or-set_same t p 1 0 h in
    rw (q, same) (mark-value t' ls p (rw length-set h) ∙ rw here (one (any (λ k. eqb k.place p) ls))))
    (λ q. rw q (mark-value (set t l.place 1) ls p (rw length-set h)
    ∙ rw (get_or-set_other t l.place p 1 0 (λ e. eqb-false _ _ q (sym e)))))
  where
    one : (b : Bool) → ◌≡◌ {A = ℕ} (cond b 1 1) 1
    one true = refl
    one false = refl

-- ---- rule F

any-rows : (test : Link → Bool) (cards : List (List ℕ))
    → any test (flat (map links_in cards)) ≡ any (λ c. any test (links_of c)) (map card_of cards)
unfolding links_in
any-rows test [] = refl
any-rows test (row ∷ cards) = any_append test (links_of (card_of row)) (flat (map links_in cards)) ∙ rw (any-rows test cards)

one-zero : (a b : Bool) → eqb (cond a 1 0) (cond b 1 0) ≡ beq b a
one-zero true true = refl
one-zero true false = refl
one-zero false true = refl
one-zero false false = refl

pub mark-named : (P : ℕ) (cards : List (List ℕ)) (p : ℕ) (b : Bool) → p < P
    → eqb (get_or (links_marked (zeros P) (flat (map links_in cards))) p 0) (cond b 1 0)
    ≡ beq b (any (λ c. any (λ l. eqb l.place p) (links_of c)) (map card_of cards))
mark-named P cards p b h =
    rw (mark-value (zeros P) (flat (map links_in cards)) p (rw (length-zeros P) h), zero-count P p, any-rows (λ l. eqb l.place p) cards)
    (one-zero (any (λ c. any (λ l. eqb l.place p) (links_of c)) (map card_of cards)) b)

-- ---- levels

-- The links of n levels from one on, each with its level.
abbrev pub hung : (on : ℕ) → Link → Hung
hung n l = record { on = n; link = l }

abbrev pub hungs : (n from : ℕ) → (ℕ → List Link) → List Hung
hungs zero from ls = []
hungs (suc n) from ls = map (hung from) (ls from) ++ hungs n (suc from) ls

all_map : {A B : Type 0} (f : A → B) (test : B → Bool) (xs : List A) → all test (map f xs) ≡ all (λ x. test (f x)) xs
all_map f test [] = refl
all_map f test (x ∷ xs) = rw (all_map f test xs)

-- On one level links are apart as `apart_in` says, on two if they name different places.
same-level : (n : ℕ) (g h : Link) → apart (hung n g) (hung n h) ≡ apart_in g h
unfolding apart apart_in
same-level n g h = rw (eq-eqb n n refl)

two-levels : (n : ℕ) (g : Link) (h : Hung) → (n ≡ h.on → ⊥) → apart (hung n g) h ≡ not (eqb g.place h.link.place)
unfolding apart
two-levels n g h d = rw (ne_eqb n h.on d) (mathlib.Core.Bool.or-false (not (eqb g.place h.link.place)))

pairs-hung : (n : ℕ) (ls : List Link) → pairs apart (map (hung n) ls) ≡ pairs apart_in ls
pairs-hung n [] = refl
pairs-hung n (l ∷ ls) =
    rw (
      all_map (hung n) (apart (hung n l)) ls,
      all_same (λ k. apart (hung n l) (hung n k)) (apart_in l) ls (λ k m. same-level n l k),
      pairs-hung n ls,
    )

pub all_apart-pairs : (hs : List Hung) → all_apart hs ≡ pairs apart hs
all_apart-pairs [] = refl
all_apart-pairs (h ∷ hs) = rw (all_apart-pairs hs)

not-any : {A : Type 0} (test : A → Bool) (xs : List A) → not (any test xs) ≡ all (λ x. not (test x)) xs
not-any test [] = refl
not-any test (x ∷ xs) = cases (test x) (λ q. rw q) (λ q. rw q (not-any test xs))

-- What links leave unmarked: what was, and they don't name.
left-unmarked : (t : List ℕ) (ls : List Link) (k : Link) → k.place < length t
    → unmarked (links_marked t ls) k ≡ (unmarked t k && all (λ l. not (eqb l.place k.place)) ls)
unfolding unmarked
left-unmarked t ls k h =
    rw (mark-value t ls k.place h, ← not-any (λ l. eqb l.place k.place) ls)
    (split (any (λ l. eqb l.place k.place) ls) (get_or t k.place 0))
  where
    split : (b : Bool) (x : ℕ) → eqb (cond b 1 x) 0 ≡ (eqb x 0 && not b)
    split true x = sym (mathlib.Core.Bool.and-false (eqb x 0))
    split false x = sym (and-true (eqb x 0))

-- Links of the levels that name places, of which there are P.
abbrev Named : (P n from : ℕ) → (ℕ → List Link) → Type 0
Named P k from ls = (n : ℕ) (l : Link) → from ≤ n → n < from + k → Memᴰ l (ls n) → l.place < P

hung-mem : (P : ℕ) (ls : ℕ → List Link) (k from : ℕ) → Named P k from ls → (h : Hung) → Memᴰ h (hungs k from ls) → (from ≤ h.on) × (h.link.place < P)
hung-mem P ls zero from d h m = absurd (Memᴰ.not-nil m)
hung-mem P ls (suc k) from d h m =
    ⊎_elim
    (λ a. let r = map-mem (ls from) a in (omega (arith, ap (λ x. x.on) r.2), rw (ap (λ x. x.link) r.2) (d from r.0 (omega arith) (omega arith) r.1)))
    (λ b. let r = hung-mem P ls k (suc from) (λ n l lo hi x. d n l (omega arith) (omega arith) x) h b in (omega (arith, r.0), r.1))
    (Memᴰ.append_cases (map (hung from) (ls from)) m)
  where
    map-mem : (xs : List Link) → Memᴰ h (map (hung from) xs) → (l : Link) × Memᴰ l xs × (h ≡ hung from l)
    map-mem [] x = absurd (Memᴰ.not-nil x)
    map-mem (l ∷ xs) (Memᴰ.head e) = (l, Memᴰ.head refl, e)
    map-mem (l ∷ xs) (Memᴰ.tail x) = let r = map-mem xs x in (r.0, Memᴰ.tail r.1, r.2)

level-shuffle : (a p u b q : Bool) → (a && (p && ((u && b) && q))) ≡ ((a && u) && (p && (b && q)))
level-shuffle true true true b q = refl
level-shuffle true true false b q = refl
level-shuffle true false true b q = refl
level-shuffle true false false b q = refl
level-shuffle false p u b q = refl

module _ (cards : List (List ℕ)) (lists head : List ℕ) where
  abbrev pub level_links : ℕ → List Link
  level_links n = links_over cards (items_in (length cards) lists head n)

  levels-hung : (k from : ℕ) (t : List ℕ) → Named (length t) k from level_links
      → levels_apart k from cards lists head t
      ≡ (all (λ h. unmarked t h.link) (hungs k from level_links) && pairs apart (hungs k from level_links))
  unfolding levels_apart
  levels-hung zero from t d = refl
  levels-hung (suc k) from t d =
      let ls : List Link = level_links from in
      let hs : List Hung = hungs k (suc from) level_links in
      let inner = levels-hung k (suc from) (links_marked t ls) (λ n l lo hi x. rw (long-marks t ls) (d n l (omega arith) (omega arith) x)) in
      let split : all (λ h. unmarked (links_marked t ls) h.link) hs
      ≡ (all (λ h. unmarked t h.link) hs && all (λ h. all (λ l. apart (hung from l) h) ls) hs) =
      all_same (λ h. unmarked (links_marked t ls) h.link) (λ h. unmarked t h.link && all (λ l. apart (hung from l) h) ls) hs
      (λ h m. let r = hung-mem (length t) level_links k (suc from) (λ n l lo hi x. d n l (omega arith) (omega arith) x) h m in
      left-unmarked t ls h.link r.1
      ∙ rw (all_same (λ l. apart (hung from l) h) (λ l. not (eqb l.place h.link.place)) ls (λ l y. two-levels from l h (λ e. omega (arith, r.0)))))
      ∙ all_split (λ h. unmarked t h.link && all (λ l. apart (hung from l) h) ls) (λ h. unmarked t h.link)
      (λ h. all (λ l. apart (hung from l) h) ls) hs (λ h. refl) in
      let swap : all (λ h. all (λ l. apart (hung from l) h) ls) hs ≡ all (λ x. all (apart x) hs) (map (hung from) ls) =
      sym (all_map (hung from) (λ x. all (apart x) hs) ls ∙ all-swap (λ l h. apart (hung from l) h) ls hs) in
      rw (
        inner,
        split,
        swap,
        all_append (λ h. unmarked t h.link) (map (hung from) ls) hs,
        all_map (hung from) (λ h. unmarked t h.link) ls,
        pairs-append apart (map (hung from) ls) hs,
        pairs-hung from ls,
      )
      (level-shuffle (all (unmarked t) ls) (pairs apart_in ls) (all (λ h. unmarked t h.link) hs)
      (all (λ x. all (apart x) hs) (map (hung from) ls)) (pairs apart hs))

  -- With no marks at first: the links of levels 1 to 3 are apart.
  pub levels-all : (P : ℕ) → Named P 3 1 level_links
      → levels_apart 3 1 cards lists head (zeros P)
      ≡ all_apart (map (hung 1) (level_links 1) ++ (map (hung 2) (level_links 2) ++ map (hung 3) (level_links 3)))
  unfolding unmarked
  levels-all P d =
      let blank : all (λ h. unmarked (zeros P) h.link) (hungs 3 1 level_links) ≡ true =
      all_of (λ h. unmarked (zeros P) h.link) (hungs 3 1 level_links) (λ h m. rw (zero-count P h.link.place)) in
      levels-hung 3 1 (zeros P) (λ n l lo hi x. rw (length-zeros P) (d n l lo hi x))
      ∙ rw (blank, append-nil (map (hung 3) (level_links 3)))
      (sym (all_apart-pairs (map (hung 1) (level_links 1) ++ (map (hung 2) (level_links 2) ++ map (hung 3) (level_links 3)))))

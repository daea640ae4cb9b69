-- The plan from its parts: what the levels of legible memory give, the level by the head's lengths, and the plan by the cases of what was found.
-- And what a plan tells of a sound store.
use Prim.Native.Nat.{ℕ, zero, suc, ◌<◌}
use mathlib.Core.Path.{◌≡◌, refl, sym, ◌∙◌, ap}
use mathlib.Core.List.{List, [], ◌∷◌, Memᴰ}
use mathlib.Core.Bool.{cond}
use mathlib.Core.Option.{Option, some, none}
use native.Mathlib.Omega.{arith}
use lib.Dec.{ltb}
use lib.ListN.{length}
use borrow.Author.Tests.{ltb-true}
use Rattle.ldc.specs.Lists.{first, is_empty}
use Rattle.ldc.specs.Store.{Store, level, links, last_level}
use Rattle.ldc.specs.Layout.{level_count, length_in, items_in}
use Rattle.ldc.specs.Tidy.{tidy_step, due_table, capacity, fuller, prefer, fullest, overfull, round}
use Rattle.ldc.proofs.Basics.Cases.{maybe}
use Rattle.ldc.proofs.Basics.ListLaws.{all-at}
use Rattle.ldc.proofs.Stores.Sound.{Sound}
use Rattle.ldc.proofs.Steps.StepFacts.{fullest-some, due-merging, full-merging, chosen}
use Rattle.ldc.specs.Facts.{Merging, Chosen}
use Rattle.read.specs.Shown.{Listed}
use Rattle.read.specs.Look.{Levels}
use Rattle.read.proofs.Walks as walks
use Rattle.std.specs.Prelude as code
use Rattle.std.specs.Prelude.{None}
use Rattle.book.specs.Place.{the_index}
use Rattle.compact_pick.specs.Due.{Items, Booked, the_due}
use Rattle.compact_pick.specs.declared.due.Due.{Due}
use Rattle.compact_pick.specs.Level.{Short}
use Rattle.compact_pick.specs.Plan.{level_plan, plan_of, plan_step}
use Rattle.compact_pick.specs.declared.Plan.{Plan}
use Rattle.compact_pick.specs.declared.Plan.TheVariants.{Idle, Down, Merge}

-- ---- the fullest of some levels

-- Levels of as many tables are equally full.
prefer-same : (f g : ℕ → ℕ) (n : ℕ) (o : Option ℕ) → f n ≡ g n → ((m : ℕ) → o ≡ some m → f m ≡ g m) → prefer f n o ≡ prefer g n o
unfolding fuller
prefer-same f g n none e h = refl
prefer-same f g n (some m) e h = rw (e, h m refl)

fullest-same : (f g : ℕ → ℕ) (ns : List ℕ) → ((n : ℕ) → Memᴰ n ns → f n ≡ g n) → fullest f ns ≡ fullest g ns
fullest-same f g [] h = refl
fullest-same f g (n ∷ ns) h =
    let here : f n ≡ g n = h n (Memᴰ.head refl) in
    let rest : fullest f ns ≡ fullest g ns = fullest-same f g ns (λ m t. h m (Memᴰ.tail t)) in
    rw (here, rest)
    (ap (λ o. cond (ltb (capacity n) (g n)) (some o) (fullest g ns))
    (prefer-same f g n (fullest g ns) here (λ m e. h m (Memᴰ.tail (fullest-some g ns m e).0))))

three : (n : ℕ) → Memᴰ n (0 ∷ 1 ∷ 2 ∷ []) → n < last_level
three n m = ltb-true n last_level (all-at (λ i. ltb i last_level) (0 ∷ 1 ∷ 2 ∷ []) refl m)

-- ---- legible levels

module _ (area : List ℕ) (cards : List (List ℕ)) (lists head : List ℕ) (v : Levels area cards lists head) where
  pub listed : (n : ℕ) → n < level_count → Listed area (items_in (length cards) lists head n)
  listed zero h = v.newest
  listed (suc n) h = (v.rising n (omega arith)).listed

  pub items : (n : ℕ) → n < level_count → Items area cards (items_in (length cards) lists head n)
  items n h = record { legible = v.legible; listed = listed n h }

  pub short : Short head
  short n h = omega (arith, v.lengths n h, v.legible.few)

  pub items-long : (n : ℕ) → n < level_count → length (items_in (length cards) lists head n) ≡ length_in head n
  items-long n h = walks.items-long (length cards) lists head n h v.sized (v.lengths n h)

  -- ---- the level

  pub overfull-by : (s : Store) → Booked s cards lists head → fullest (length_in head) (0 ∷ 1 ∷ 2 ∷ []) ≡ overfull s
  unfolding overfull
  overfull-by s b =
      let live : (n : ℕ) → n < level_count → length_in head n ≡ length (level s n) = λ n h. sym (ap length (b.levels n h) ∙ items-long n h) in
      fullest-same (length_in head) (λ n. length (level s n)) (0 ∷ 1 ∷ 2 ∷ []) (λ n m. live n (omega (arith, three n m)))

-- A level that is to be relieved has a capacity, and tables.
pub full-some : (live : ℕ → ℕ) (n : ℕ) → fullest live (0 ∷ 1 ∷ 2 ∷ []) ≡ some n → (n < last_level) × (0 < live n)
full-some live n e = let f = fullest-some live (0 ∷ 1 ∷ 2 ∷ []) n e in (three n f.0, omega (arith, f.1))

-- ---- by cases

module _ (s : Store) where
  pub plan-due : (n p : ℕ) → due_table s ≡ some (record { on = n; place = p }) → plan_of s ≡ Merge n p
  unfolding plan_of
  plan-due n p e = rw e

  pub plan-level : due_table s ≡ none → plan_of s ≡ level_plan s (overfull s)
  unfolding plan_of
  plan-level e = rw e

  -- No table is due, so the plan is that of the level that was found.
  pub plan-here : (area : List ℕ) (cards : List (List ℕ)) (lists head : List ℕ) → Levels area cards lists head → Booked s cards lists head
      → (d : code.Option Due) → the_due d ≡ due_table s → d ≡ None
      → (o : code.Option ℕ) → the_index o ≡ fullest (length_in head) (0 ∷ 1 ∷ 2 ∷ []) → plan_of s ≡ level_plan s (the_index o)
  plan-here area cards lists head v b d e missed o f =
      plan-level (sym e ∙ ap the_due missed) ∙ ap (level_plan s) (sym (f ∙ overfull-by area cards lists head v s b))

  pub plan-idle : level_plan s none ≡ Idle
  unfolding level_plan
  plan-idle = refl

  -- The plan names the step.
  pub plan-named : tidy_step s ≡ plan_step s (plan_of s)
  unfolding tidy_step plan_of level_plan
  plan-named =
      maybe (due_table s)
      (λ d. maybe (overfull s)
      (λ o. rw (d, o))
      (λ n o. maybe (first (λ q. is_empty (links s q)) (round s n)) (λ f. rw (d, o, f)) (λ p f. rw (d, o, f))))
      (λ t d. rw d)

-- ---- what a plan tells

-- The table that is planned for stands on its level, and may be merged or taken down.
abbrev pub Planned : Store → Plan → Type 0
Planned s Idle = Unit {0}
Planned s (Down n p) = Chosen s n p
Planned s (Merge n p) = Merging s n p

pub plan-tells : (s : Store) → Sound s → Planned s (plan_of s)
unfolding plan_of level_plan
plan-tells s S =
    maybe (due_table s)
    (λ d. maybe (overfull s)
    (λ o. rw (d, o) tt)
    (λ n o. maybe (first (λ q. is_empty (links s q)) (round s n))
    (λ f. rw (d, o, f) (full-merging s S n o f))
    (λ p f. rw (d, o, f) (chosen s S n p d o f))))
    (λ t d. rw d (due-merging s S t d))

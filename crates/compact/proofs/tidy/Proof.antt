-- `tidy` meets its contract: the plan names the step, and by the plan's cases the step is done.
use Prim.Native.Nat.{ℕ}
use mathlib.Core.Path.{◌≡◌, refl, sym, ◌∙◌, ap}
use mathlib.Core.List.{List}
use native.Mathlib.Omega.{arith}
use borrow.Author.Rules.{rules}
use Rattle.coding.specs.Number.{Bytes}
use Rattle.ldc.specs.Lent.{store_of}
use Rattle.ldc.specs.Tidy.{tidy_step}
use Rattle.book.specs.Head.{head_words}
use Rattle.book.specs.Pieces.{lent}
use Rattle.compact_install.specs.Merge.{Backed}
use Rattle.compact_pick.specs.Plan.{plan_step}
use Rattle.compact_pick.specs.declared.Plan.{Plan}
use Rattle.compact_pick.proofs.Plans.{Planned, plan-named, plan-tells}
use Rattle.compact.proofs.Given.{sound, same}
use Rattle.compact.proofs.tidy.Statement.{statement}
use Rattle.compact.proofs.tidy.Tie as tie

-- The area is bytes.
bytes : (c : tie.After-slice_known-1) → Bytes c.args.area.now
bytes c = λ i. omega (arith, c.slice_known-1.given i)

-- The plan names the step, with every memory table.
step : (c : tie.Start)
    → (memory : List ℕ) → Backed (lent c.args.area.now c.args.cards.now c.args.lists.now (head_words c.args.head) memory)
    → let s = store_of (lent c.args.area.now c.args.cards.now c.args.lists.now (head_words c.args.head) memory) in
    tidy_step s ≡ plan_step s c.args.plan
step c memory b =
    let a = c.args in
    let s = store_of (lent a.area.now a.cards.now a.lists.now (head_words a.head) memory) in
    plan-named s ∙ ap (plan_step s) (sym (c.requires.planned memory b))

-- And it tells of the table.
tells : (c : tie.After-slice_known-1) → (r : Plan) → c.args.plan ≡ r
    → let b = c in
    Planned (store_of (lent b.args.area.now b.args.cards.now b.args.lists.now (head_words b.args.head) b.requires.work.memory)) r
tells c r e =
    let a = c.args in
    let t = c.requires.work in
    rw (sym (c.requires.planned t.memory t.backed) ∙ e) at
    (plan-tells (store_of (lent a.area.now a.cards.now a.lists.now (head_words a.head) t.memory))
    (sound a.area.now a.cards.now a.lists.now (head_words a.head) t.memory t.wide refl t.backed (bytes c)))

enum_told : tie.Need-enum_told-1
enum_told c = search rules

enum-known-plan : tie.Need-enum_known-plan
enum-known-plan c = search rules

take-down-requires : tie.Need-take_down-requires
take-down-requires c κs =
    let p = c in
    let k = p in
    record { work = k.requires.work; chosen = tells k.before.before.before.before _ p.in-Down.is }

enum-known-plan-2 : tie.Need-enum_known-plan-in-Merge-1
enum-known-plan-2 c = search rules

merge-or-refuse-requires : tie.Need-merge_or_refuse-requires
merge-or-refuse-requires c κs =
    let p = c in
    let k = p in
    record { work = k.requires.work; merging = tells k.before.before.before.before.before _ p.in-Merge.is }

returns : tie.Need-returns-in-Idle
returns c memory b =
    let k = c in
    let a = k.args in
    rw (step k.before.before.before memory b ∙ ap (plan_step _) c.in-Idle.is)
    (record { result = refl; body = refl; left = sym (same a.area.now a.cards.now a.lists.now (head_words a.head) memory k.requires.work.wide refl b (bytes k.before.before)) })

same_length : tie.Need-shape_of-area-in-Down
same_length c = search rules

same-length-2 : tie.Need-shape_of-cards-in-Down
same-length-2 c = search rules

same-length-3 : tie.Need-shape_of-lists-in-Down
same-length-3 c = search rules

returns-2 : tie.Need-returns-in-Down
returns-2 c memory b =
    let d = c in
    let p = d in
    rw (step p.before.before.before.before.before.before.before.before.before memory b ∙ ap (plan_step _) p.in-Down.is) (d.take_down.ensures memory b)

same-length-4 : tie.Need-shape_of-area-in-Merge
same-length-4 c = search rules

same-length-5 : tie.Need-shape_of-cards-in-Merge
same-length-5 c = search rules

same-length-6 : tie.Need-shape_of-lists-in-Merge
same-length-6 c = search rules

returns-3 : tie.Need-returns-in-Merge
returns-3 c memory b =
    let d = c in
    let p = d in
    rw (step p.before.before.before.before.before.before.before.before.before.before.before.before memory b ∙ ap (plan_step _) p.in-Merge.is) (d.merge_or_refuse.ensures memory b)

pub tidy_spec : {M : Type 1} → statement M
tidy_spec =
    tie.close (tie.spec enum_told enum-known-plan take-down-requires enum-known-plan-2 merge-or-refuse-requires returns same_length same-length-2 same-length-3 returns-2 same-length-4 same-length-5 same-length-6 returns-3)

-- `tidy_reply` meets its contract: the step that was planned is done; with result 0, step and level stand behind the six bytes, otherwise
-- the reply has no body.
use mathlib.Core.Path.{◌≡◌, refl, ◌∙◌, ap}
use mathlib.Core.List.{List}
use native.Mathlib.Omega.{arith}
use borrow.Author.Rules.{rules}
use Rattle.coding.specs.Number.{Bytes}
use Rattle.ldc.specs.Lent.{store_of}
use Rattle.ldc.specs.Tidy.{tidy_step}
use Rattle.ldc.specs.Steps.{serve_tidy, step_served}
use Rattle.book.specs.Head.{head_words}
use Rattle.book.specs.Pieces.{lent}
use Rattle.compact_pick.specs.Calm.{calm_after}
use Rattle.compact_pick.specs.Plan.{plan_of}
use Rattle.compact_pick.proofs.Given.{told}
use Rattle.compact_install.specs.Merge.{Backed}
use Rattle.compact.proofs.Given.{levels, calm-beside}
use Rattle.serve_write.proofs.Turns.{turn-bare, turn_step, does-bare}
use Rattle.serve_write.proofs.steps.tidy_reply.Statement.{statement}
use Rattle.serve_write.proofs.steps.tidy_reply.Tie as tie

-- The memory table that stands beside the pieces.
backed : (c : tie.After-slice_known-3-1)
    → let a = c.args in
    Backed (lent a.area.now a.cards.now a.lists.now (head_words a.head) a.memory.now)
backed c =
    let p = c.requires in
    record { long = p.0.memory; valued = λ i. omega (arith, c.shared_slice_known-1.given i); kept = p.0.kept }

-- The area is bytes.
bytes : (c : tie.After-slice_known-3-1) → Bytes c.args.area.now
bytes c = λ i. omega (arith, c.slice_known-1.given i)

make-plan-requires : tie.Need-make_plan-plan-requires
make-plan-requires c κs =
    let k = c in
    let s = k in
    let a = s.args in
    levels a.area.now a.cards.now a.lists.now (head_words a.head) a.memory.now s.requires.0.wide refl (backed k) (bytes k)

due-after-requires : tie.Need-due_after-next-requires
due-after-requires c κs = search rules

-- The plan that was made is the store's, with every memory table.
planned : (c : tie.After-make_plan-plan)
    → let a = c.args in
    (memory : List _) → Backed (lent a.area.now a.cards.now a.lists.now (head_words a.head) memory)
    → c.make_plan-plan.result ≡ plan_of (store_of (lent a.area.now a.cards.now a.lists.now (head_words a.head) memory))
planned c memory b =
    let s = c in
    let a = s.args in
    let t = told (lent a.area.now a.cards.now a.lists.now (head_words a.head) memory) b.kept in
    c.make_plan-plan.ensures _ (record { reads = t.reads; booked = t.booked })
    (calm-beside a.area.now a.cards.now a.lists.now (head_words a.head) a.memory.now memory a.suspect s.requires.1.1)

tidy-requires : tie.Need-tidy-done-requires
tidy-requires c κs =
    let p = c in
    let k = p in
    record {
      work = record { wide = k.requires.0.wide; memory = _; backed = backed k.before.before.before.before.before };
      planned = planned p.before.before.before.before;
    }

-- The level that is told.
next : (c : tie.After-due_after-next)
    → let a = c.args in
    c.due_after-next.result ≡ calm_after a.suspect (plan_of (store_of (lent a.area.now a.cards.now a.lists.now (head_words a.head) a.memory.now)))
next c =
    let a = c.args in
    c.due_after-next.ensures ∙ ap (calm_after a.suspect) (planned c.before a.memory.now (backed c.before.before))

answer-bare-requires : tie.Need-answer_bare-requires
answer-bare-requires c κs = c.requires.1.0

same_length : tie.Need-shape_of-area-then-done-ne-DONE
same_length c = search rules

same-length-2 : tie.Need-shape_of-cards-then-done-ne-DONE
same-length-2 c = search rules

same-length-3 : tie.Need-shape_of-lists-then-done-ne-DONE
same-length-3 c = search rules

same-length-4 : tie.Need-shape_of-answer-then-done-ne-DONE
same-length-4 c = search rules

returns : tie.Need-returns-then-done-ne-DONE
unfolding serve_tidy
returns c =
    let r = c in
    let i = r in
    let t = i in
    let d = t in
    let k = d in
    let a = k.args in
    let s = store_of (lent a.area.now a.cards.now a.lists.now (head_words a.head) a.memory.now) in
    let does = t.tidy-done.ensures a.memory.now (backed k.before.before.before.before.before.before.before.before.before.before.before.before.before.before.before.before.before.before) in (
      turn-bare 6 t.tidy-done.result.result (step_served (tidy_step s) s) _ a.answer.now _ a.at _ does.result (does-bare does i.if-done-ne-DONE.true) does.left
          r.answer_bare.ensures,
      next d.before.before.before.before.before.before.before.before.before.before.before.before.before.before.before.before,
    )

step-reply-requires : tie.Need-step_reply-requires
step-reply-requires c κs = c.requires.1.0

same-length-5 : tie.Need-shape_of-area
same-length-5 c = search rules

same-length-6 : tie.Need-shape_of-cards
same-length-6 c = search rules

same-length-7 : tie.Need-shape_of-lists
same-length-7 c = search rules

same-length-8 : tie.Need-shape_of-answer
same-length-8 c = search rules

returns-2 : tie.Need-returns
unfolding serve_tidy
returns-2 c =
    let r = c in
    let i = r in
    let t = i in
    let d = t in
    let k = d in
    let a = k.args in
    (turn_step (t.tidy-done.ensures a.memory.now (backed k.before.before.before.before.before.before.before.before.before.before.before.before.before.before.before.before.before.before)) i.if-done-ne-DONE.false a.answer.now _ a.at _ r.step_reply.ensures, next d.before.before.before.before.before.before.before.before.before.before.before.before.before.before.before.before)

pub tidy_reply_spec : {M : Type 1} → statement M
tidy_reply_spec =
    tie.close (tie.spec make-plan-requires due-after-requires tidy-requires answer-bare-requires same_length same-length-2 same-length-3 same-length-4 returns step-reply-requires same-length-5 same-length-6 same-length-7 same-length-8 returns-2)

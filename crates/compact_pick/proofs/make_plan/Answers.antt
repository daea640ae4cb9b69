-- `make_plan` meets its contract: by what the due table, the level and the choice gave.
use Prim.Native.Nat.{ℕ, ◌<◌}
use mathlib.Core.Path.{◌≡◌, sym, ◌∙◌, ap}
use native.Mathlib.Omega.{arith}
use lib.ListN.{length}
use Rattle.ldc.specs.Layout.{level_count, length_in, items_in}
use Rattle.book.specs.Head.{head_words}
use Rattle.book.specs.Place.{the_index}
use Rattle.compact_pick.specs.Due.{the_due}
use Rattle.compact_pick.specs.Plan.{level_plan}
use Rattle.compact_pick.proofs.Plans.{items, items-long, full-some, plan-due, plan-here, plan-idle}
use Rattle.compact_pick.proofs.make_plan.Goals as goal
use Rattle.compact_pick.proofs.make_plan.Goals.{After-items-items}

pub returns-in-Some : goal.returns-in-Some
returns-in-Some c s w k =
    sym (plan-due s c.in-Some.table.level c.in-Some.table.place (sym (c.find_due.ensures s w k) ∙ ap the_due c.in-Some.is))

pub returns-in_default-find_overfull : goal.returns-in_default-find_overfull
returns-in_default-find_overfull c s w k =
    let a = c.args in
    sym (plan-here s a.area.now a.cards.now a.lists.now (head_words a.head) c.requires w.booked
    c.find_due.result (c.find_due.ensures s w k) c.in_default.is
    c.find_overfull.result c.find_overfull.ensures
    ∙ ap (λ o. level_plan s (the_index o)) c.in_default-find_overfull.is ∙ plan-idle s)

pub items-items-requires : goal.items-items-requires
items-items-requires c =
    let n : ℕ = c.in-Some-find_overfull.n in
    let f = full-some (length_in (head_words c.args.head)) n (sym c.find_overfull.ensures ∙ ap the_index c.in-Some-find_overfull.is) in
    let four : n < level_count = omega (arith, f.0) in
    (c.requires.sized, (rw c.length_of.ensures (c.requires.lengths n four), four))

-- The items that are lent on are the level's.
lent-items : (c : After-items-items)
    → let a = c.args in
    c.items-items.result.now ≡ items_in (length a.cards.now) a.lists.now (head_words a.head) c.in-Some-find_overfull.n
lent-items c = c.items-items.ensures ∙ rw c.length_of.ensures

pub choose-requires : goal.choose-requires
choose-requires c =
    let a = c.args in
    let n : ℕ = c.in-Some-find_overfull.n in
    let f = full-some (length_in (head_words a.head)) n (sym c.find_overfull.ensures ∙ ap the_index c.in-Some-find_overfull.is) in
    let four : n < level_count = omega (arith, f.0) in
    rw (lent-items (goal.at.choose-requires c).After-items-items)
    (record {
      carded = items a.area.now a.cards.now a.lists.now (head_words a.head) c.requires n four;
      some_item = rw (items-long a.area.now a.cards.now a.lists.now (head_words a.head) c.requires n four) f.1;
    })

pub returns : goal.returns
returns c s w k =
    let a = c.args in
    let n : ℕ = c.in-Some-find_overfull.n in
    let f = full-some (length_in (head_words a.head)) n (sym c.find_overfull.ensures ∙ ap the_index c.in-Some-find_overfull.is) in
    let four : n < level_count = omega (arith, f.0) in
    c.choose.ensures s
    (record {
      reads = w.reads;
      linked = w.booked.linked;
      level-items = w.booked.levels n four ∙ sym (lent-items (goal.at.returns c).After-items-items);
      level-mark = w.booked.marks n ∙ sym c.mark_of.ensures;
    })
    ∙ sym (plan-here s a.area.now a.cards.now a.lists.now (head_words a.head) c.requires w.booked
    c.find_due.result (c.find_due.ensures s w k) c.in_default.is
    c.find_overfull.result c.find_overfull.ensures
    ∙ ap (λ o. level_plan s (the_index o)) c.in-Some-find_overfull.is)

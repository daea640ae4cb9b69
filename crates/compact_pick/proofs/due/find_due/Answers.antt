-- `find_due` meets its contract: a level's list gives its due table, or that it has none.
use Prim.Native.Nat.{◌+◌, ◌-◌}
use mathlib.Core.Path.{◌≡◌, refl, sym, ◌∙◌, ap}
use mathlib.Core.List.{[], ◌∷◌}
use native.Mathlib.Omega.{arith}
use lib.ListN.{length, drop}
use Rattle.ldc.specs.Lists.{first}
use Rattle.ldc.specs.Store.{Store}
use Rattle.ldc.specs.Tidy.{due_in, due_table}
use Rattle.book.specs.Head.{head_words}
use Rattle.book.specs.Pieces.{lent}
use Rattle.book.specs.Place.{the_index}
use Rattle.compact_pick.specs.Calm.{CalmBut}
use Rattle.compact_pick.specs.Due.{passes_by, ToldBy}
use Rattle.compact_pick.specs.declared.due.Wanted.TheVariants.{DueBy}
use Rattle.compact_pick.proofs.Dues.{looked, looked-few, items-looked, levels-turn, due-here, due-turn}
use Rattle.compact_pick.proofs.Plans.{items}
use Rattle.compact_pick.proofs.due.find_due.Goals as goal
use Rattle.compact_pick.proofs.due.find_due.Goals.{After-items-items, After-find_table}

pub loop-n-init : goal.loop-n-init
unfolding due_table
loop-n-init c s b k = refl

pub items-items-requires : goal.items-items-requires
items-items-requires c =
    let v = c.requires in
    let n = c.loop-n.n in
    (v.sized, (rw c.count_looked_at.ensures (looked-few (head_words c.args.head) c.args.suspect n _ (v.lengths n c.loop-n-test.true)), omega arith))

-- The items that are lent on are those of the level that are looked at.
lent-items : (c : After-items-items)
    → c.items-items.result.now ≡ looked (length c.args.cards.now) c.args.lists.now (head_words c.args.head) c.args.suspect c.loop-n.n
lent-items c = c.items-items.ensures ∙ rw c.count_looked_at.ensures

pub find_table-requires : goal.find_table-requires
find_table-requires c =
    let a = c.args in
    rw (lent-items c)
    (items-looked a.area.now a.cards.now a.lists.now (head_words a.head) a.suspect c.loop-n.n
    (items a.area.now a.cards.now a.lists.now (head_words a.head) c.requires c.loop-n.n c.loop-n-test.true))

-- One level's part in it.
turned : (c : After-find_table)
    → let a = c.args in
    let n = c.loop-n.n in
    (s : Store) → ToldBy s (lent a.area.now a.cards.now a.lists.now (head_words a.head) []) → CalmBut a.suspect s
    → due_table s ≡ due_in s (n ∷ drop n (1 ∷ 2 ∷ 3 ∷ []))
turned c s b k = c.loop-n.invariant s b k ∙ ap (due_in s) (levels-turn c.loop-n.n (omega arith) c.loop-n-test.true)

-- What the level's list gave.
given : (c : After-find_table)
    → let a = c.args in
    the_index c.find_table.result
    ≡ first (passes_by a.area.now a.cards.now (DueBy a.head.threshold))
    (looked (length a.cards.now) a.lists.now (head_words a.head) a.suspect c.loop-n.n)
given c =
    let a = c.args in
    let lent_on : c.items-items.result.now ≡ looked (length a.cards.now) a.lists.now (head_words a.head) a.suspect c.loop-n.n =
    c.items-items.ensures ∙ rw c.count_looked_at.ensures in
    c.find_table.ensures ∙ rw lent_on

pub returns-in-Some : goal.returns-in-Some
returns-in-Some c s b k =
    let f = (goal.at.returns-in-Some c).After-find_table in
    let a = c.args in
    let n = c.loop-n.n in
    sym (turned f s b k
    ∙ due-here s (lent a.area.now a.cards.now a.lists.now (head_words a.head) []) b n c.loop-n-test.true a.suspect (omega arith) k
    a.head.threshold c.find_table.result (drop n (1 ∷ 2 ∷ 3 ∷ [])) refl (given f) c.in-Some.place c.in-Some.is)

pub loop-n-preserved : goal.loop-n-preserved
loop-n-preserved c s b k =
    let f = (goal.at.loop-n-preserved c).After-find_table in
    let a = c.args in
    let n = c.loop-n.n in
    let e : n + 1 - 1 ≡ n = omega arith in
    turned f s b k
    ∙ due-turn s (lent a.area.now a.cards.now a.lists.now (head_words a.head) []) b n c.loop-n-test.true a.suspect (omega arith) k
    a.head.threshold c.find_table.result (drop n (1 ∷ 2 ∷ 3 ∷ [])) refl (given f) c.in_default.is
    ∙ rw e

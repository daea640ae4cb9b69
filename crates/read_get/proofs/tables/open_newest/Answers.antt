-- `open_newest` meets its contract: a turn asks the last table of the list that is left, and then those before it are left.
use Rattle.std.proofs.Common.{◌≡◌, ℕ, List, [], ◌∷◌, ◌++◌, reverse, length, refl, ◌∙◌, ap, arith}
use lib.ListN.{length-reverse}
use Rattle.std.proofs.lemmas.List.{get_or_push, get_or_append_left, length_push, reverse-append}
use Rattle.read.specs.Shown.{Summed, ListSummed}
use Rattle.read_get.proofs.Opening.{Left, left-start, left_as, left-fit, left-met, left-next, left_end}
use Rattle.read_get.proofs.Sources.{no_length}
use Rattle.read_get.proofs.tables.open_newest.Goals as goal
use Rattle.read_get.proofs.tables.open_newest.Goals.{After-open_table-next}

-- Where all tables have their summaries on their cards the last does, and those before it do.
last : (area : List ℕ) (cards : List (List ℕ)) (ps qs : List ℕ) (p : ℕ) → ps ≡ qs ++ p ∷ [] → ListSummed area cards ps
    → Summed area cards p × ListSummed area cards qs
last area cards ps qs p e h =
    let all = rw e at h in (
      rw (get_or_push qs p 0 (length qs) refl) at (all (length qs) (omega (arith, length_push qs p))),
      λ i k. rw (get_or_append_left qs (p ∷ []) 0 i k) at (all i (omega (arith, length_push qs p))),
    )

pub loop-p-init : goal.loop-p-init
loop-p-init c =
    let a = c.args in
    let e : c.into_iter-p-iterator.result.iter.rest.now ≡ a.items.now =
    rw (c.into_iter-p-iterator.ensures.into_iter_gives, c.rev-p-items.ensures.source) c.iter.ensures.rest in (
      rw e c.requires.1.0,
      left-start a.area.now a.cards.now a.key.value _ _ _ (ap reverse e)
          record { missed = c.nothing-seen.ensures.0; tables = c.nothing-seen.ensures.1.0; bits = c.nothing-seen.ensures.1.1 },
    )

pub open_table-next-requires : goal.open_table-next-requires
open_table-next-requires c =
    let a = c.args in
    let t = last a.area.now a.cards.now _ _ _ c.in-Some.ensures.steps c.loop-p.invariant.0 in
    (c.requires.0, rw c.from.ensures t.0)

-- What is left: this table, and those before it.
turned : (c : After-open_table-next)
    → let a = c.args in
    Left a.area.now a.cards.now a.key.value (reverse a.items.now) ((c.from.result ∷ []) ++ reverse c.next.new.self.iter.rest.now) c.loop-p.seen
turned c =
    let a = c.args in
    left_as a.area.now a.cards.now a.key.value _ _ _ _
    (ap reverse c.in-Some.ensures.steps ∙ reverse-append c.next.new.self.iter.rest.now (c.in-Some.field-0.now ∷ []) ∙ rw c.from.ensures)
    c.loop-p.invariant.1

pub then-seen-requires : goal.then-seen-requires
then-seen-requires c =
    let a = c.args in
    left-fit a.area.now a.cards.now a.key.value _ _ _ _ _ (turned c) c.open_table-next.ensures
    (omega (arith, length-reverse a.items.now, c.requires.1.1)) (omega arith)

pub returns-then-seen : goal.returns-then-seen
returns-then-seen c =
    let a = c.args in
    left-met a.area.now a.cards.now a.key.value _ _ _ _ _ (turned (goal.at.returns-then-seen c).After-open_table-next) c.open_table-next.ensures
    _ c.then-seen.ensures c.if-seen.true

pub loop-p-preserved : goal.loop-p-preserved
loop-p-preserved c =
    let a = c.args in (
      (last a.area.now a.cards.now _ _ _ c.in-Some.ensures.steps c.loop-p.invariant.0).1,
      left-next a.area.now a.cards.now a.key.value _ _ _ _ _ (turned (goal.at.loop-p-preserved c).After-open_table-next) c.open_table-next.ensures
          _ c.then-seen.ensures c.if-seen.false,
    )

pub returns : goal.returns
returns c =
    let a = c.args in
    left_end a.area.now a.cards.now a.key.value _ _
    (left_as a.area.now a.cards.now a.key.value _ _ _ _ (ap reverse (no_length _ c.in-None.ensures.steps.0)) c.loop-p.invariant.1)

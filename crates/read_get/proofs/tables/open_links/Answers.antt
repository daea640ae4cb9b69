-- `open_links` meets its contract: a turn asks the last of the links that are left, and then those before it are left.
use Rattle.std.proofs.Common.{◌≡◌, ℕ, ◌-◌, List, [], ◌∷◌, ◌++◌, reverse, length, get_or, take, sym, ◌∙◌, ap, arith}
use lib.Seq.{take-length}
use Rattle.ldc.specs.Store.{Link, links}
use Rattle.ldc.specs.Layout.{link_at}
use Rattle.book.specs.Row.{the_link}
use Rattle.book.specs.Rows.{shown_by}
use Rattle.book.proofs.Rows.{no_link}
use Rattle.read.proofs.Shows.{links-long, link-shown}
use Rattle.read_get.specs.Opens.{ranges}
use Rattle.read_get.proofs.Opening.{Left, left-start, left_as, left-fit, left-met, left-next, left_end}
use Rattle.read_get.proofs.Asking.{ranges-turn, few-ranges}
use Rattle.read_get.proofs.Sources.{few-linked}
use Rattle.read_get.proofs.tables.open_links.Goals as goal
use Rattle.read_get.proofs.tables.open_links.Goals.{After-open_slice-next}

pub loop-i-init : goal.loop-i-init
loop-i-init c =
    let a = c.args in
    let s = shown_by a.area.now a.cards.now in
    let n : length (links s a.p) ≡ c.link_count-n.result = links-long a.area.now a.cards.now c.requires.0.legible a.p c.requires.1
    ∙ sym c.link_count-n.ensures in
    left-start a.area.now a.cards.now a.key.value _ _ _
    (ap (λ (ls : List Link). ranges a.key.value (reverse ls)) (ap (λ (i : ℕ). take i (links s a.p)) (sym n) ∙ take-length (links s a.p)))
    record { missed = c.nothing-seen.ensures.0; tables = c.nothing-seen.ensures.1.0; bits = c.nothing-seen.ensures.1.1 }

pub open_slice-next-requires : goal.open_slice-next-requires
open_slice-next-requires c =
    let t = c.requires.0.linked c.args.p (c.loop-i.i - 1) c.requires.1 (omega arith) in
    let e = c.link_at.ensures in
    (c.requires.0, rw (ap (λ (l : Link). l.place) e) t)

-- What is left: this link, and those before it.
turned : (c : After-open_slice-next)
    → let a = c.args in
    let s = shown_by a.area.now a.cards.now in
    let l = c.loop-i in
    Left a.area.now a.cards.now a.key.value (ranges a.key.value (reverse (links s a.p)))
    (ranges a.key.value (the_link c.link_at.result ∷ []) ++ ranges a.key.value (reverse (take (l.i - 1) (links s a.p)))) l.seen
turned c =
    let a = c.args in
    let l = c.loop-i in
    let g = c.requires.0.legible in
    let s = shown_by a.area.now a.cards.now in
    let d : Link = no_link in
    let this : get_or (links s a.p) (l.i - 1) d ≡ link_at (get_or a.cards.now a.p []) (l.i - 1) =
    link-shown a.area.now a.cards.now g a.p c.requires.1 (l.i - 1) d (omega arith) in
    left_as a.area.now a.cards.now a.key.value _ _ _ _
    (ranges-turn a.key.value (links s a.p) l.i d (omega arith) (omega (arith, links-long a.area.now a.cards.now g a.p c.requires.1))
    ∙ ap (λ (x : Link). ranges a.key.value (x ∷ []) ++ ranges a.key.value (reverse (take (l.i - 1) (links s a.p)))) (this ∙ sym c.link_at.ensures))
    l.invariant

pub then-seen-requires : goal.then-seen-requires
then-seen-requires c =
    let a = c.args in
    left-fit a.area.now a.cards.now a.key.value _ _ _ _ _ (turned c) c.open_slice-next.ensures
    (few-linked a.area.now a.cards.now a.key.value c.requires.0.legible a.p c.requires.1)
    (omega (arith, few-ranges a.key.value (the_link c.link_at.result ∷ [])))

pub returns-then-seen : goal.returns-then-seen
returns-then-seen c =
    let a = c.args in
    left-met a.area.now a.cards.now a.key.value _ _ _ _ _ (turned (goal.at.returns-then-seen c).After-open_slice-next) c.open_slice-next.ensures
    _ c.then-seen.ensures c.if-seen.true

pub loop-i-preserved : goal.loop-i-preserved
loop-i-preserved c =
    let a = c.args in
    left-next a.area.now a.cards.now a.key.value _ _ _ _ _ (turned (goal.at.loop-i-preserved c).After-open_slice-next) c.open_slice-next.ensures
    _ c.then-seen.ensures c.if-seen.false

pub returns : goal.returns
returns c =
    let a = c.args in
    let s = shown_by a.area.now a.cards.now in
    let e : c.loop-i.i ≡ 0 = omega arith in
    left_end a.area.now a.cards.now a.key.value _ _
    (left_as a.area.now a.cards.now a.key.value _ _ _ _ (ap (λ (i : ℕ). ranges a.key.value (reverse (take i (links s a.p)))) e) c.loop-i.invariant)

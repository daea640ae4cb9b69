-- `row_names` meets its contract: this link names the place, or one behind it does.
use Rattle.std.proofs.Common.{arith, ◌≡◌, ◌<◌, true, false, [], get_or, refl, sym, ap, ◌∙◌}
use borrow.Author.Tests.{eq-eqb, ne_eqb}
use lib.Dec.{eqb}
use Rattle.ldc.specs.Store.{Link}
use Rattle.ldc.specs.Layout.{link_count, link_at}
use Rattle.compact_install.specs.Release.{row_names}
use Rattle.compact_install.proofs.Freeing.{names-turn, names-end}
use Rattle.compact_install.proofs.release.row_names.Goals as goal

pub loop-i-init : goal.loop-i-init
unfolding row_names
loop-i-init c = refl

pub returns-then-link_at-f : goal.returns-then-link_at-f
returns-then-link_at-f c =
    let row = get_or c.args.cards.now c.args.q [] in
    let near : c.loop-i.i < link_count row = omega (arith, c.link_count-i-end.ensures, c.loop-i-test.true) in
    let here : eqb (link_at row c.loop-i.i).place c.args.f ≡ true =
    eq-eqb _ _ (ap (λ (x : Link). x.place) (sym c.link_at.ensures) ∙ c.if-link_at-f.true) in
    sym (c.loop-i.invariant ∙ names-turn row c.loop-i.i c.args.f c.requires.1 near ∙ rw here)

pub loop-i-preserved : goal.loop-i-preserved
loop-i-preserved c =
    let row = get_or c.args.cards.now c.args.q [] in
    let near : c.loop-i.i < link_count row = omega (arith, c.link_count-i-end.ensures, c.loop-i-test.true) in
    let here : eqb (link_at row c.loop-i.i).place c.args.f ≡ false =
    ne_eqb _ _ (λ e. c.if-link_at-f.false (ap (λ (x : Link). x.place) c.link_at.ensures ∙ e)) in
    c.loop-i.invariant ∙ names-turn row c.loop-i.i c.args.f c.requires.1 near ∙ rw here

pub returns : goal.returns
returns c =
    let row = get_or c.args.cards.now c.args.q [] in
    sym
    (c.loop-i.invariant
    ∙ names-end row c.loop-i.i c.args.f c.requires.1 (omega (arith, c.link_count-i-end.ensures, c.loop-i-test.false)))

-- `find_held` meets its contract: one flag more.
use Rattle.std.proofs.Common.{arith, ℕ, ◌≡◌, [], ◌&&◌, ltb, get_or, ap, ◌∙◌}
use lib.ListN.{length-set}
use Rattle.ldc.specs.Store.{Link}
use Rattle.ldc.specs.Layout.{link_count, link_at}
use Rattle.compact_install.specs.Release.{held_in}
use Rattle.compact_install.proofs.Freeing.{flags-turn}
use Rattle.compact_install.proofs.release.find_held.Goals as goal

pub loop-i-preserved : goal.loop-i-preserved
loop-i-preserved c =
    let a = c.args in
    let l = c.loop-i in
    let flags = flags-turn (λ (j : ℕ). held_in a.p (link_at (get_or a.cards.now a.p []) j).place a.cards.now) l.held l.i c.is_held.result
    (omega (arith, c.requires.legible.counted a.p c.requires.below, c.link_count-i-end.ensures, c.loop-i-test.true, l.invariant.0))
    (c.is_held.ensures ∙ ap (λ (x : Link). held_in a.p x.place a.cards.now) c.link_at-link.ensures) l.invariant.1 in
    (length-set l.held l.i c.is_held.result ∙ l.invariant.0, flags)

pub returns : goal.returns
returns c =
    let a = c.args in
    let l = c.loop-i in
    let all : l.i ≡ link_count (get_or a.cards.now a.p []) = omega (arith, c.link_count-i-end.ensures, l.auto.i-end, c.loop-i-test.false) in
    λ j. l.invariant.1 j ∙ ap (λ (x : ℕ). ltb j x && held_in a.p (link_at (get_or a.cards.now a.p []) j).place a.cards.now) all

-- `links_rest_zero` meets its contract: beyond as many links as there is room for there is no rest.
use native.Mathlib.Omega.{arith}
use Prim.Native.Nat.{◌-◌}
use mathlib.Core.Path.{◌≡◌, ◌∙◌}
use lib.ListN.{length, take, drop, length-drop}
use lib.Seq.{take_all}
use Rattle.ldc.specs.Layout.{link_start}
use Rattle.check_places.proofs.FoundLaws.{rest-none, zeros-found}
use Rattle.check_places.proofs.unused.links_rest_zero.Goals as goal

pub returns-then-n : goal.returns-then-n
returns-then-n c = rest-none c.args.words.now c.args.n c.requires (omega (arith, c.if-n.true))

pub returns : goal.returns
returns c =
    let words = c.args.words.now in
    let start = link_start c.args.n in
    let whole : take (length words - start) (drop start words) ≡ drop start words =
    take_all (length words - start) (drop start words) (rw length-drop (omega arith)) in
    c.all_are.ensures ∙ rw (c.link_start.ensures, whole) (zeros-found (drop start words))

-- One link's ends.
use mathlib.Core.Path.{◌≡◌, ◌∙◌, ap}
use Prim.Native.Nat.{◌<◌, min, max}
use native.Mathlib.Omega.{arith}
use borrow.Author.Rules.{rules}
use lib.ListN.{length}
use Rattle.book.specs.Row.{links_in}
use Rattle.ldc.specs.Layout.{link_at}
use Rattle.book.proofs.Rows.{few}
use Rattle.check_walk.proofs.SpanLaws.{least-turn, greatest-turn}
use Rattle.check_walk.proofs.span.measure.Goals as goal

pub link_at-l-requires : goal.link_at-l-requires
link_at-l-requires c = omega (arith, few c.args.row.now, c.links_held-j-end.ensures)

pub loop-j-preserved : goal.loop-j-preserved
loop-j-preserved c =
    let row = c.args.row.now in
    let l = c.loop-j in
    let j = l.j in
    let link = c.link_at-l in
    let low : link.result.low.value ≡ (link_at row j).low = ap (λ l. l.low) link.ensures in
    let high : link.result.high.value ≡ (link_at row j).high = ap (λ l. l.high) link.ensures in
    let least : c.min.result.value ≡ min link.result.low.value link.result.high.value = rw c.min.ensures (search rules) in
    let greatest : c.max.result.value ≡ max link.result.low.value link.result.high.value = rw c.max.ensures (grind arith) in
    let least' : c.min-start.result.value ≡ min l.start.value c.min.result.value = rw c.min-start.ensures (search rules) in
    let greatest' : c.max-end.result.value ≡ max l.end.value c.max.result.value = rw c.max-end.ensures (search rules) in
    let start : min l.start.value (min (link_at row j).low (link_at row j).high) ≡ c.min-start.result.value = omega arith in
    let end : max l.end.value (max (link_at row j).low (link_at row j).high) ≡ c.max-end.result.value = omega arith in
    let h : j < length (links_in row) = omega (arith, c.links_held-j-end.ensures) in
    (l.invariant.0 ∙ least-turn l.start.value row j h ∙ rw start, l.invariant.1 ∙ greatest-turn l.end.value row j h ∙ rw end)

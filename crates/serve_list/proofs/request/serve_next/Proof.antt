-- `serve_next` meets its contract: a request stands whole at the position, and kind and body are read where the definition reads them.
use Prim.Native.Nat.{ℕ, ◌+◌, ◌-◌, ◌≤◌}
use mathlib.Core.Path.{◌≡◌, ◌∙◌, ap}
use mathlib.Core.List.{List}
use native.Mathlib.Omega.{arith}
use borrow.Author.Rules.{rules}
use lib.ListN.{length, take, drop}
use Rattle.table.specs.Entry.{length_at}
use Rattle.ldc.specs.Lent.{store_of}
use Rattle.ldc.specs.Request.{Request}
use Rattle.ldc.specs.Run.{request_at}
use Rattle.book.specs.Head.{head_words}
use Rattle.book.specs.Pieces.{lent}
use Rattle.wire.proofs.Splits.{whole-fits}
use Rattle.serve_write.specs.Turn.{request, turned_by, suspect_after}
use Rattle.serve_list.proofs.request.serve_next.Statement.{statement}
use Rattle.serve_list.proofs.request.serve_next.Tie as tie

-- The request ends within the list, and has its four bytes.
there : (c : tie.Start)
    → let list = c.args.list.now in
    let at = c.args.at in
    (at + 4 ≤ length list) × ((4 ≤ length_at list at) × (at + length_at list at ≤ length list))
there c = whole-fits c.args.list.now c.args.at c.requires.1.0

kind-at-requires : tie.Need-kind_at-kind-requires
kind-at-requires c κs = (there c.before.before.before.before.before).0

add_start : tie.Need-overflow_add-start
add_start c = omega (arith, (there c.before.before.before.before.before.before).0, c.well_formed)

length-at-requires : tie.Need-length_at-requires
length-at-requires c κs = omega (arith, (there c.before.before.before.before.before.before).0)

cast-end : tie.Need-overflow_cast-end
cast-end c = search rules

add-end : tie.Need-overflow_add-end
add-end c = omega (arith, (there c.before.before.before.before.before.before.before).1.1, c.length_at.ensures, c.well_formed)

sub-serve : tie.Need-slice_bounds-serve-count
sub-serve c = omega (arith, (there c.before.before.before.before.before.before.before.before.before.before.before).1.0, c.length_at.ensures)

part-serve-start : tie.Need-slice_bounds-serve-start
part-serve-start c =
    let t = there c.before.before.before.before.before.before.before.before.before.before.before in
    let e = c.length_at.ensures in
    search rules

part-serve-end : tie.Need-slice_bounds-serve-end
part-serve-end c =
    let t = there c.before.before.before.before.before.before.before.before.before.before.before in
    let e = c.length_at.ensures in
    search rules

serve-requires : tie.Need-serve-requires
serve-requires c κs = let p = c.requires in (p.0, p.1.1)

same_length : tie.Need-shape_of-area
same_length c = search rules

same-length-2 : tie.Need-shape_of-cards
same-length-2 c = search rules

same-length-3 : tie.Need-shape_of-lists
same-length-3 c = search rules

same-length-4 : tie.Need-shape_of-memory
same-length-4 c = search rules

same-length-5 : tie.Need-shape_of-answer
same-length-5 c = search rules

returns : tie.Need-returns
unfolding request_at
returns c =
    let r = c in
    let l = r in
    let k = l in
    let a = k.args in
    let m = lent a.area.now a.cards.now a.lists.now (head_words a.head) a.memory.now in
    let n : a.at + l.length_at.result - (a.at + 4) ≡ length_at a.list.now a.at - 4 = omega (arith, l.length_at.ensures) in
    let part : List ℕ = take (a.at + l.length_at.result - (a.at + 4)) (drop (a.at + 4) a.list.now) in
    let q : request k.kind_at-kind.result part ≡ request_at a.list.now a.at =
    ap (λ (x : ℕ). request x part) k.kind_at-kind.ensures ∙ ap (λ (x : ℕ). request (request_at a.list.now a.at).kind (take x (drop (a.at + 4) a.list.now))) n in (
      r.serve.ensures.0 ∙ ap (λ (x : Request). turned_by m x a.answer.now a.written) q,
      r.serve.ensures.1 ∙ ap (λ (x : Request). suspect_after a.suspect (store_of m) x) q,
    )

pub serve_next_spec : {M : Type 1} → statement M
serve_next_spec =
    tie.close (tie.spec kind-at-requires add_start length-at-requires cast-end add-end sub-serve part-serve-start part-serve-end serve-requires same_length same-length-2 same-length-3 same-length-4 same-length-5 returns)

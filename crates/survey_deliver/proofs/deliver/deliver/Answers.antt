-- `deliver` meets its contract: each piece made is the next one, so the list is reached again behind it, at a stop. In each, `n` says that of the
-- piece by what its run gave.
use Rattle.std.proofs.Common.{arith, refl, sym, ◌∙◌}
use lib.Seq.{length-take-le}
use Rattle.wire.specs.Refusal.{refusal_number}
use Rattle.wire.proofs.Refusals.{refused-number}
use Rattle.survey_deliver.proofs.Along.{reached-start}
use Rattle.survey_deliver.proofs.Pieces.{next-reached, next-length, next-piece, next-listed, next-some, next-stop, stop-start, end_refused, end-failed, end-all}
use Rattle.survey_deliver.proofs.Handed.{grown-start, grown-next, grown-all, refused-none}
use Rattle.survey_deliver.proofs.deliver.deliver.Goals as goal

pub loop-from-init : goal.loop-from-init
loop-from-init g c = ((reached-start c.args.list.now _ c.requires.0, stop-start c.args.list.now), (refl, (c.requires.1, grown-start c.args.list.now _)))

-- ---- a refused list

pub returns-in-Err-clause-finished : goal.returns-in-Err-clause-finished
returns-in-Err-clause-finished g c =
    let i = c.loop-from.invariant in
    let n = rw c.in-Err.is at c.next_piece-made.ensures.0 in
    end_refused (next-reached i.0.0 n) (next-stop i.0.0 n i.1.0 i.0.1) (refusal_number c.in-Err.refusal) n.numbered (refused-number c.in-Err.refusal)

pub returns-in-Err-clause-handed_on : goal.returns-in-Err-clause-handed_on
returns-in-Err-clause-handed_on g c =
    let i = c.loop-from.invariant in
    let n = rw c.in-Err.is at c.next_piece-made.ensures.0 in
    let none = refused-none c.args.list.now (refusal_number c.in-Err.refusal) n.numbered (refused-number c.in-Err.refusal) in
    λ _. grown-all c.args.list.now c.loop-from.from.served _ _ (omega (arith, none)) i.1.1.1

-- ---- the piece

pub slice_bounds-answer-end : goal.slice_bounds-answer-end
slice_bounds-answer-end g c =
    let n = rw c.in-Ok.is at c.next_piece-made.ensures.0 in
    omega (arith, next-length c.loop-from.invariant.0.0 n (λ i. omega (arith, c.type_inv.list i)), c.next_piece-made.auto.answer)

pub slice_bounds-hand_on-end : goal.slice_bounds-hand_on-end
slice_bounds-hand_on-end g c =
    let n = rw c.in-Ok.is at c.next_piece-made.ensures.0 in
    sym
    (length-take-le _ c.next_piece-made.new.answer
    (omega (arith, next-length c.loop-from.invariant.0.0 n (λ i. omega (arith, c.type_inv.list i)), c.next_piece-made.auto.answer)))

pub hand_on-requires : goal.hand_on-requires
hand_on-requires g c =
    let n = rw c.in-Ok.is at c.next_piece-made.ensures.0 in
    next-piece c.loop-from.invariant.0.0 n (λ i. omega (arith, c.type_inv.list i))

-- ---- after the piece was handed on

pub returns-in-Err-hand_on-clause-finished : goal.returns-in-Err-hand_on-clause-finished
returns-in-Err-hand_on-clause-finished g c =
    let i = c.loop-from.invariant in
    let n = rw c.in-Ok.is at c.next_piece-made.ensures.0 in
    end-failed (next-reached i.0.0 n) (next-stop i.0.0 n i.1.0 i.0.1) (next-listed i.0.0 n refl)
    (omega (arith, next-some i.0.0 n (omega (arith, i.1.0)) refl c.loop-from-test.true))

pub loop-from-smaller : goal.loop-from-smaller
loop-from-smaller g c =
    let i = c.loop-from.invariant in
    let n = rw c.in-Ok.is at c.next_piece-made.ensures.0 in
    omega (arith, (next-reached i.0.0 n).counted, next-some i.0.0 n (omega (arith, i.1.0)) refl c.loop-from-test.true)

pub loop-from-preserved : goal.loop-from-preserved
loop-from-preserved g c =
    let i = c.loop-from.invariant in
    let n = rw c.in-Ok.is at c.next_piece-made.ensures.0 in (
      (next-reached i.0.0 n, next-stop i.0.0 n i.1.0 i.0.1),
      (
        c.next_piece-made.auto.answer ∙ i.1.0,
        (c.next_piece-made.ensures.1, grown-next i.0.0 n (λ i. omega (arith, c.type_inv.list i)) _ _ _ i.1.1.1 c.in_default.ensures),
      ),
    )

-- ---- at the end

pub returns-clause-finished : goal.returns-clause-finished
returns-clause-finished g c = let i = c.loop-from.invariant in end-all i.0.0 i.0.1 c.loop-from-test.false

pub returns-clause-handed_on : goal.returns-clause-handed_on
returns-clause-handed_on g c =
    let i = c.loop-from.invariant in
    λ _. grown-all c.args.list.now c.loop-from.from.served _ _ (omega (arith, (end-all i.0.0 i.0.1 c.loop-from-test.false).told.ended refl)) i.1.1.1

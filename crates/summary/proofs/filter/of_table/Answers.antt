-- `of_table` meets its contract: an entry stands where the loop does, and its key's bits are set in a turn.
use Rattle.std.proofs.Common.{refl, sym, ◌∙◌, ap, arith}
use Rattle.table.proofs.Position.{stands_at, position_first, position-after}
use Rattle.table.proofs.Room.{length-within, head-within, next_fits}
use Rattle.summary.specs.Summary.{words_of}
use Rattle.summary.proofs.Filled.{fill-first, fill-turn, fill_end}
use Rattle.summary.proofs.filter.of_table.Goals as goal

pub loop-init : goal.loop-init
loop-init c =
    let t = c.args.table.now in
    record { place = sym (position_first t); filled = fill-first t _ refl }

pub key_at-requires : goal.key_at-requires
key_at-requires c =
    let l = c.loop in
    head-within _ _ c.requires.0 (stands_at c.args.table.now c.requires.1 l.counter l.at (omega arith) l.invariant.place)

pub length_at-requires : goal.length_at-requires
length_at-requires c =
    let l = c.loop in
    length-within _ _ c.requires.0 (stands_at c.args.table.now c.requires.1 l.counter l.at (omega arith) l.invariant.place)

pub overflow_add-at : goal.overflow_add-at
overflow_add-at c =
    let l = c.loop in
    next_fits _ _ c.requires.0 (stands_at c.args.table.now c.requires.1 l.counter l.at (omega arith) l.invariant.place) _
    (c.from-at.ensures ∙ c.length_at.ensures)

pub loop-preserved : goal.loop-preserved
loop-preserved c =
    let l = c.loop in
    let len = c.from-at.ensures ∙ c.length_at.ensures in
    record {
      place = position-after _ _ _ _ l.invariant.place len;
      filled = fill-turn _ _ _ _ _ _ _ _ _ (omega arith) len c.key_at.ensures c.add_key.ensures l.invariant.filled;
    }

pub returns : goal.returns
returns c = c.words_of.ensures ∙ ap words_of (fill_end _ _ _ _ _ _ (omega arith) c.loop.invariant.filled)

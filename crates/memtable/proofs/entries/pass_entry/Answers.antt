-- `pass_entry` meets its contract: the next entry stands behind this one.
use Rattle.std.proofs.Common.{ℕ, ◌≡◌, ◌<◌, List, true, ◌∙◌, arith}
use Rattle.table.specs.Table.{count_of, is_memory}
use Rattle.table.specs.Search.{position_in}
use Rattle.table.specs.Entry.{length_at}
use Rattle.table.proofs.Position.{Stands, stands, position-step}
use Rattle.memtable.proofs.Turn.{small}
use Rattle.memtable.proofs.entries.pass_entry.Goals as goal

standing : (s : List ℕ) (at i : ℕ) → is_memory s ≡ true → at ≡ position_in i s → i < count_of s → Stands s at
standing s at i good e h = rw e (stands s good i h)

pub overflow_add-result : goal.overflow_add-result
overflow_add-result c = omega (arith, c.requires.1 c.if-held.true, small c.args.s.now c.requires.0.good)

pub length_at-requires : goal.length_at-requires
length_at-requires c =
    let here = c.args.here in
    omega (arith, standing c.args.s.now here.at here.index c.requires.0.good c.requires.0.stands (c.requires.1 c.if-held.true), c.requires.0.place)

pub overflow_add-result-then-held : goal.overflow_add-result-then-held
overflow_add-result-then-held c =
    let here = c.args.here in
    let h = standing c.args.s.now here.at here.index c.requires.0.good c.requires.0.stands (c.requires.1 c.if-held.true) in
    omega (arith, h, c.from.ensures, c.length_at.ensures)

pub returns-then-held : goal.returns-then-held
returns-then-held c =
    let long : c.from.result ≡ length_at c.args.s.now c.args.here.at = c.from.ensures ∙ c.length_at.ensures in
    (rw c.if-held.true, cc (position-step c.args.s.now c.args.here.index))

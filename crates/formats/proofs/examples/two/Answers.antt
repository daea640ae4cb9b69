-- `two` meets its contract: the first entry is put behind none, the second behind the first.
use Rattle.formats.proofs.Built.{a-appends, mark-appends, a-appended, mark-appended}
use Rattle.formats.proofs.examples.two.Goals as goal

pub append-requires : goal.append-requires
append-requires c = a-appends _ c.clear.ensures

pub append-requires-2 : goal.append-requires-2
append-requires-2 c = mark-appends _ (a-appended _ _ c.clear.ensures c.append.ensures)

pub returns : goal.returns
returns c = mark-appended _ _ (a-appended _ _ c.clear.ensures c.append.ensures) c.append-2.ensures

-- `numbered` meets its contract: the number is compared with the count; what is a table is legible memory.
use Rattle.table.proofs.Position.{table-memory}
use Rattle.check_links.proofs.rule_e.numbered.Goals as goal

pub count_within-n-requires : goal.count_within-n-requires
count_within-n-requires c = (c.requires.0, table-memory c.args.place.now c.requires.1)

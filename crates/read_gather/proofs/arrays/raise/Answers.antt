-- `raise` meets its contract: the library's copy, one place up, is what it is to make.
use Rattle.std.proofs.Common.{◌∙◌}
use Rattle.read_gather.proofs.Lifts.{lift_copied}
use Rattle.read_gather.proofs.arrays.raise.Goals as goal

pub returns : goal.returns
returns c =
    let a = c.args in
    c.copy_within.ensures.after ∙ lift_copied a.j a.top 0 a.words.now c.requires.0 c.requires.1

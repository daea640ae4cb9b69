-- `is_whole` meets its contract: the same tests, without an addition that could run over.
use Rattle.std.proofs.Common.{sym, ◌∙◌}
use Rattle.wire.proofs.Splits.{whole-short, whole-test}
use Rattle.wire.proofs.list.is_whole.Goals as goal

pub returns-then-left-lt-REQUEST_HEAD : goal.returns-then-left-lt-REQUEST_HEAD
returns-then-left-lt-REQUEST_HEAD c = sym (whole-short c.args.list.now c.args.at c.if-left-lt-REQUEST_HEAD.true)

pub returns : goal.returns
returns c =
    let a = c.args in
    whole-test a.list.now a.at c.from-len.result c.requires c.if-left-lt-REQUEST_HEAD.false (c.from-len.ensures ∙ c.length_at.ensures)

-- The tables from the next one on are left, and `top` says up to which key.
use Rattle.std.proofs.Common.{◌≡◌, ◌+◌, drop}
use Rattle.book.specs.Rows.{shown_by}
use Rattle.read_gather.specs.Sources.{ranges}
use Rattle.read_gather.specs.Order.{up_to, sources_of}
use Rattle.read_gather.proofs.Going.{Going}
use Rattle.read_gather.proofs.level.in_level.Given as goal

abbrev pub invariant-loop-p : goal.invariant-loop-p
invariant-loop-p l = record {
  top : l.top.value ≡ up_to l.keys l.used l.high.value;
  going : Going l.area (ranges l.low.value l.high.value (sources_of (shown_by l.area l.cards) l.items)) l.initial.keys l.initial.spots l.n
      l.keys l.spots l.used (ranges l.low.value l.high.value (sources_of (shown_by l.area l.cards) (drop (l.first + l.p-index) l.items)));
}

-- The loop of `is_held_from`: whether a table from the i-th on holds the place is whether one of those not yet asked does.
use Rattle.std.proofs.Common.{◌≡◌, ◌+◌, drop}
use Rattle.compact_install.specs.Release.{held_among}
use Rattle.compact_install.proofs.release.is_held_from.Given as goal

abbrev pub invariant-loop-q : goal.invariant-loop-q
invariant-loop-q l = held_among l.p l.f l.cards (drop l.i l.items) ≡ held_among l.p l.f l.cards (drop (l.i + l.q-index) l.items)

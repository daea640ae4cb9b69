-- The loop of `find_held`: the flags of the first i links are set, all others say no.
use Rattle.std.proofs.Common.{ℕ, ◌≡◌, [], false, ◌&&◌, ltb, length, get_or}
use Rattle.ldc.specs.Layout.{link_limit, link_at}
use Rattle.compact_install.specs.Release.{held_in}
use Rattle.compact_install.proofs.release.find_held.Given as goal

abbrev pub invariant-loop-i : goal.invariant-loop-i
invariant-loop-i l =
    (length l.held ≡ link_limit)
    × ((j : ℕ) → get_or l.held j false ≡ (ltb j l.i && held_in l.p (link_at (get_or l.cards l.p []) j).place l.cards))

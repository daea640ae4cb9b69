-- `find` meets its contract: keys rise, so the entry sought is the one that `seek` gives, or there is none.
use Rattle.std.proofs.Common.{ℕ, List, Bool, true, cond, ◌≡◌, sym, ◌∙◌}
use lib.Dec.{eqb}
use Rattle.std.specs.Prelude as code
use Rattle.std.specs.Prelude.{Some, None}
use Rattle.table.specs.Entry.{key_at}
use Rattle.table.specs.Table.{is_memory}
use Rattle.table.specs.Search.{seek_in, find_in}
use Rattle.table.proofs.Found.{exact, find-exact, seek-stands}
use Rattle.table.proofs.Room.{head-within}
use Rattle.table.proofs.search.find.Goals as goal

-- What is found, from what was sought.
module _ (s : List ℕ) (key : ℕ) (m : is_memory s ≡ true) (sought : code.Option ℕ) (e : sought ≡ seek_in s key) where
  nowhere : sought ≡ None → find_in s key ≡ None
  unfolding exact
  nowhere h = find-exact s key m ∙ rw (← e, h)

  -- An entry was found at `at`; `hit` says whether its key is the one sought.
  there : (at here : ℕ) (hit : Bool) → sought ≡ Some at → here ≡ key_at s at → hit ≡ eqb here key → find_in s key ≡ cond hit (Some at) None
  unfolding exact
  there at here hit h k t = find-exact s key m ∙ rw (← e, h, ← k, ← t)

pub returns-in_err-at : goal.returns-in_err-at
returns-in_err-at c = c.from_residual.ensures ∙ sym (nowhere _ _ c.requires.1 _ c.seek.ensures c.in_err-at.was)

pub key_at-requires : goal.key_at-requires
key_at-requires c =
    let at = c.in_ok-at.at in
    head-within _ _ c.requires.0 (seek-stands c.args.s.now c.requires.1 c.args.key.value at (sym c.seek.ensures ∙ c.in_ok-at.was)).0

pub returns-then-eq : goal.returns-then-eq
returns-then-eq c =
    sym (there _ _ c.requires.1 _ c.seek.ensures _ _ true c.in_ok-at.was c.key_at.ensures c.if-eq.ensures)

pub returns-else-eq : goal.returns-else-eq
returns-else-eq c =
    sym (there _ _ c.requires.1 _ c.seek.ensures _ _ _ c.in_ok-at.was c.key_at.ensures c.if-eq.ensures)

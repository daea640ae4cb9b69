-- `insert` meets its contract: a law of `Inserts` for each way out.
use Rattle.std.proofs.Common.{◌≡◌, ◌<◌, get_or, arith}
use Rattle.read_gather.proofs.Inserts.{slot-few, in_place, beyond, between}
use Rattle.read_gather.proofs.arrays.insert.Goals as goal
use Rattle.read_gather.proofs.arrays.insert.Goals.{else-j-n-via-then-j-n+else-keys-j, else-j-n-via-else-j-n}

pub returns-then-keys-j : goal.returns-then-keys-j
returns-then-keys-j c =
    let a = c.args in
    in_place a.keys.now a.n a.key c.requires.0 _ c.slot-j.ensures a.words.now a.word c.requires.1.1 c.if-j-n.true c.if-keys-j.true

pub returns-then-keys-j-2 : goal.returns-then-keys-j-2
returns-then-keys-j-2 c =
    let a = c.args in
    beyond a.keys.now a.n a.key c.requires.0 _ c.slot-j.ensures a.words.now a.word c.requires.1.1 c.if-keys-j-2.true

pub raise-requires : goal.raise-requires
raise-requires c =
    let few = slot-few c.args.keys.now c.args.n c.args.key c.requires.0 _ c.slot-j.ensures in
    omega (arith, c.min-top.ensures, c.if-keys-j-2.false)

pub raise-requires-2 : goal.raise-requires-2
raise-requires-2 c =
    let few = slot-few c.args.keys.now c.args.n c.args.key c.requires.0 _ c.slot-j.ensures in
    omega (arith, c.min-top.ensures, c.if-keys-j-2.false, c.requires.1.1)

pub returns : goal.returns
returns c =
    let a = c.args in
    -- no key in use is the new one
    let anew : c.slot-j.result < a.n → get_or a.keys.now c.slot-j.result 0 ≡ a.key → ⊥ =
    elim c.else-j-n.branch [
      | else-j-n-via-then-j-n+else-keys-j w ↦ λ l e. w.if-keys-j.false e
      | else-j-n-via-else-j-n w ↦ λ l e. omega arith
    ] in
    between a.keys.now a.n a.key c.requires.0 _ c.slot-j.ensures a.words.now a.word c.requires.1.1 _ _ _ anew c.if-keys-j-2.false c.min-top.ensures
    c.raise.ensures c.raise-2.ensures

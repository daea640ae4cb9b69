-- `append_up_to` meets its contract: the entry that stands here is put behind the others, and the next one stands behind it.
use Rattle.std.proofs.Common.{ℕ, suc, ◌≡◌, ◌+◌, ◌-◌, ◌≤◌, ◌<◌, List, true, sym, ◌∙◌, arith}
use Rattle.table.specs.Entry.{entry_at, entry_length, length_at}
use Rattle.table.specs.Table.{count_of, is_memory}
use Rattle.table.specs.Search.{position_in}
use Rattle.table.proofs.Position.{Stands, stands, position-step}
use Rattle.table.proofs.Taken.{entry-long}
use Rattle.memtable.proofs.Turn.{appends-turn, appends-end, room-one, room-turn}
use Rattle.memtable.proofs.entries.append_up_to.Goals as goal

-- Before the n-th, an entry stands here.
here : (s : List ℕ) (at i n : ℕ) → is_memory s ≡ true → at ≡ position_in i s → i < n → n ≤ count_of s → Stands s at
here s at i n good e h few = rw e (stands s good i (omega arith))

pub append_from-requires : goal.append_from-requires
append_from-requires c =
    let l = c.loop in
    let a = c.args in
    let h = here a.s.now l.at l.counter a.n c.requires.0.good l.invariant.stands (omega arith) c.requires.1.0 in
    (room-one (a.n - l.counter) l.to (omega arith) l.invariant.room, (h.form, omega (arith, h.room, c.requires.0.place)))

pub length_at-requires : goal.length_at-requires
length_at-requires c =
    let l = c.loop in
    omega (arith, here c.args.s.now l.at l.counter c.args.n c.requires.0.good l.invariant.stands (omega arith) c.requires.1.0, c.requires.0.place)

pub overflow_add-at : goal.overflow_add-at
overflow_add-at c =
    let l = c.loop in
    let h = here c.args.s.now l.at l.counter c.args.n c.requires.0.good l.invariant.stands (omega arith) c.requires.1.0 in
    omega (arith, h, c.from-at.ensures, c.length_at.ensures)

pub loop-preserved : goal.loop-preserved
loop-preserved c =
    let l = c.loop in
    let a = c.args in
    let s = a.s.now in
    let h = here s l.at l.counter a.n c.requires.0.good l.invariant.stands (omega arith) c.requires.1.0 in
    let long : c.from-at.result ≡ length_at s l.at = c.from-at.ensures ∙ c.length_at.ensures in
    let same : entry_length (entry_at s l.at) ≡ length_at s l.at = entry-long s l.at h.form (omega (arith, c.requires.0.place)) in
    let m : a.n - l.counter ≡ suc (a.n - (l.counter + 1)) = omega arith in
    record {
      stands = cc (position-step s l.counter);
      room = rw c.append_from.ensures
          (room-turn (a.n - (l.counter + 1)) (entry_at s l.at) l.to (rw m at l.invariant.room) (omega arith) (omega arith));
      left = l.invariant.left ∙ appends-turn a.n l.counter s l.at l.to (omega arith) ∙ rw (c.append_from.ensures, long);
    }

pub returns : goal.returns
returns c =
    let l = c.loop in
    sym (l.invariant.left ∙ appends-end c.args.n l.counter c.args.s.now l.at l.to (omega arith))

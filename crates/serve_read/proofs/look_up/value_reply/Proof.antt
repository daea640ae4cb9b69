-- `value_reply` meets its contract: a delete mark gives 64 and no body, a value 0 and its bytes.
use Prim.Native.Nat.{ℕ, ◌+◌, ◌-◌}
use mathlib.Core.Path.{◌≡◌, sym, ◌∙◌, ap}
use mathlib.Core.List.{[]}
use mathlib.Core.Option.{some}
use native.Mathlib.Omega.{arith}
use borrow.Author.Rules.{rules}
use lib.ListN.{length, take, drop}
use lib.Seq.{sets}
use Rattle.coding.proofs.Sets.{length_part}
use Rattle.table.specs.Limits.{entry_head}
use Rattle.table.specs.Entry.{entry_at, length_at}
use Rattle.ldc.proofs.Serving.Replies.{length-reply}
use Rattle.wire.specs.Reply.{reply_head}
use Rattle.wire.proofs.Written.{reply-written}
use Rattle.read.proofs.Walks.{mark-value, some-value}
use Rattle.serve_read.proofs.look_up.value_reply.Statement.{statement}
use Rattle.serve_read.proofs.look_up.value_reply.Tie as tie

kind-at-requires : tie.Need-kind_at-requires
kind-at-requires c κs = search rules

write-head-requires : tie.Need-write_head-requires
write-head-requires c κs = search rules

same_length : tie.Need-shape_of-answer-then-kind_at-eq-DELETE_MARK
same_length c = search rules

returns : tie.Need-returns-then-kind_at-eq-DELETE_MARK
returns c =
    let a = c.args in
    let e = mark-value a.s.now a.from (sym c.kind_at.ensures ∙ c.if-kind_at-eq-DELETE_MARK.true) in
    record {
      bytes = c.write_head.ensures ∙ reply-written a.answer.now a.at 3 64 [] ∙ rw e;
      count = rw e (sym (length-reply 3 64 []));
    }

add_start : tie.Need-overflow_add-start
add_start c = search rules

length-at-requires : tie.Need-length_at-requires
length-at-requires c κs = search rules

cast-end : tie.Need-overflow_cast-end
cast-end c = search rules

add-end : tie.Need-overflow_add-end
add-end c = search rules

sub-write-head : tie.Need-overflow_sub-end
sub-write-head c = search rules

write-head-requires-2 : tie.Need-write_head-requires-2
write-head-requires-2 c κs = search rules

add-copy : tie.Need-overflow_add-at
add-copy c = search rules

sub-copy : tie.Need-slice_bounds-copy-count
sub-copy c = search rules

part-copy-start : tie.Need-slice_bounds-copy-start
part-copy-start c = search rules

part-copy-end : tie.Need-slice_bounds-copy-end
part-copy-end c = search rules

copy-requires : tie.Need-copy-requires
copy-requires c κs = search rules

sub-result : tie.Need-overflow_sub-result
sub-result c = search rules

add-result : tie.Need-overflow_add-result
add-result c = search rules

same-length-2 : tie.Need-shape_of-answer
same-length-2 c = search rules

returns-2 : tie.Need-returns
returns-2 c =
    let a = c.args in
    let s = a.s.now in
    let t = c.requires.1.0 in
    let v = take (length_at s a.from - entry_head) (drop (a.from + entry_head) s) in
    let e : (entry_at s a.from).value ≡ some v =
    some-value s a.from (λ q. c.if-kind_at-eq-DELETE_MARK.false (c.kind_at.ensures ∙ q)) in
    let n : a.from + c.length_at.result - (a.from + 12) ≡ length_at s a.from - entry_head =
    omega (arith, c.length_at.ensures) in
    let long : length v ≡ length_at s a.from - entry_head = length_part s (a.from + entry_head) (length_at s a.from - entry_head) (omega (arith, t, c.requires.0)) in
    record {
      bytes = c.copy.ensures
          ∙ rw (c.write_head-2.ensures, n)
          (ap (λ (m : ℕ). sets (sets a.answer.now a.at (reply_head 3 0 m)) (a.at + 6) v) (sym long) ∙ reply-written a.answer.now a.at 3 0 v ∙ rw e);
      count = rw (n, e) (omega (arith, length-reply 3 0 v));
    }

pub value_reply_spec : {M : Type 1} → statement M
value_reply_spec =
    tie.close (tie.spec kind-at-requires write-head-requires same_length returns add_start length-at-requires cast-end add-end sub-write-head write-head-requires-2 add-copy sub-copy part-copy-start part-copy-end copy-requires sub-result add-result same-length-2 returns-2)

-- `decided_reply` meets its contract: a delete mark gives no value; of another entry the value stands behind the counts.
use Prim.Native.Nat.{ℕ, ◌+◌, ◌-◌}
use mathlib.Core.Path.{◌≡◌, sym, ◌∙◌, ap}
use mathlib.Core.Option.{some}
use native.Mathlib.Omega.{arith}
use borrow.Author.Rules.{rules}
use lib.ListN.{length, take, drop}
use lib.Seq.{sets}
use Rattle.coding.proofs.Sets.{length_part}
use Rattle.table.specs.Limits.{entry_head}
use Rattle.table.specs.Entry.{entry_at, length_at}
use Rattle.ldc.specs.Probe.{probe_body}
use Rattle.ldc.proofs.Serving.Replies.{length-reply, length-probe}
use Rattle.wire.specs.Reply.{reply_head}
use Rattle.read.proofs.Walks.{mark-value, some-value}
use Rattle.serve_read.specs.Value.{count_bytes}
use Rattle.serve_read.proofs.Probed.{found-written}
use Rattle.serve_read.proofs.probe.decided_reply.Statement.{statement}
use Rattle.serve_read.proofs.probe.decided_reply.Tie as tie

kind-at-requires : tie.Need-kind_at-requires
kind-at-requires c κs = search rules

missed-reply-requires : tie.Need-missed_reply-requires
missed-reply-requires c κs = search rules

same_length : tie.Need-shape_of-answer-then-kind_at-eq-DELETE_MARK
same_length c = search rules

returns : tie.Need-returns-then-kind_at-eq-DELETE_MARK
returns c =
    let r = c in
    let k = r in
    let a = k.args in
    let e = mark-value a.s.now a.from (sym k.kind_at.ensures ∙ r.if-kind_at-eq-DELETE_MARK.true) in
    rw e r.missed_reply.ensures

add_start : tie.Need-overflow_add-start
add_start c = search rules

length-at-requires : tie.Need-length_at-requires
length-at-requires c κs = search rules

cast-end : tie.Need-overflow_cast-end
cast-end c = search rules

add-end : tie.Need-overflow_add-end
add-end c = search rules

sub-write-head : tie.Need-overflow_sub-end
sub-write-head c = search rules

add-write-head : tie.Need-overflow_add-end-2
add-write-head c = search rules

write-head-requires : tie.Need-write_head-requires
write-head-requires c κs = search rules

add-write-counts : tie.Need-overflow_add-at
add-write-counts c = search rules

write-counts-requires : tie.Need-write_counts-requires
write-counts-requires c κs = search rules

add-copy : tie.Need-overflow_add-copy
add-copy c = search rules

add-copy-2 : tie.Need-overflow_add-at-2
add-copy-2 c = search rules

sub-copy : tie.Need-slice_bounds-copy-count
sub-copy c = search rules

part-copy-start : tie.Need-slice_bounds-copy-start
part-copy-start c = search rules

part-copy-end : tie.Need-slice_bounds-copy-end
part-copy-end c = search rules

copy-requires : tie.Need-copy-requires
copy-requires c κs = search rules

add-result : tie.Need-overflow_add-result
add-result c = search rules

sub-result : tie.Need-overflow_sub-result
sub-result c = search rules

add-result-2 : tie.Need-overflow_add-result-2
add-result-2 c = search rules

same-length-2 : tie.Need-shape_of-answer
same-length-2 c = search rules

returns-2 : tie.Need-returns
returns-2 c =
    let y = c in
    let w = y in
    let h = w in
    let l = h in
    let i = l in
    let k = i in
    let st = k in
    let a = st.args in
    let s = a.s.now in
    let t = st.requires.1.0 in
    let v = take (length_at s a.from - entry_head) (drop (a.from + entry_head) s) in
    let e : (entry_at s a.from).value ≡ some v = some-value s a.from (λ q. i.if-kind_at-eq-DELETE_MARK.false (k.kind_at.ensures ∙ q)) in
    let n : a.from + l.length_at.result - (a.from + 12) ≡ length_at s a.from - entry_head = omega (arith, l.length_at.ensures) in
    let long : length v ≡ length_at s a.from - entry_head =
    length_part s (a.from + entry_head) (length_at s a.from - entry_head) (omega (arith, t, st.requires.0)) in
    record {
      bytes = y.copy.ensures
          ∙ rw (w.write_counts.ensures, h.write_head.ensures, n)
          (ap (λ (m : ℕ). sets (sets (sets a.answer.now a.at (reply_head 8 0 (8 + m))) (a.at + 6) (count_bytes 1 a.tables a.bits)) (a.at + 14) v) (sym long)
          ∙ found-written a.answer.now a.at a.tables a.bits v ∙ rw e);
      count = rw (n, e) (omega (arith, long, length-reply 8 0 (probe_body (some v) a.tables a.bits), length-probe (some v) a.tables a.bits));
    }

pub decided_reply_spec : {M : Type 1} → statement M
decided_reply_spec =
    tie.close (tie.spec kind-at-requires missed-reply-requires same_length returns add_start length-at-requires cast-end add-end sub-write-head add-write-head write-head-requires add-write-counts write-counts-requires add-copy add-copy-2 sub-copy part-copy-start part-copy-end copy-requires add-result sub-result add-result-2 same-length-2 returns-2)

-- `missed_reply` meets its contract: the counts stand behind six bytes, and nothing behind them.
use Prim.Native.Nat.{◌+◌}
use mathlib.Core.Path.{◌∙◌, ap}
use mathlib.Core.Option.{none}
use native.Mathlib.Omega.{arith}
use borrow.Author.Rules.{rules}
use lib.Seq.{sets}
use Rattle.ldc.specs.Probe.{probe_body}
use Rattle.ldc.proofs.Serving.Replies.{length-reply, length-probe}
use Rattle.serve_read.specs.Value.{count_bytes}
use Rattle.serve_read.proofs.Probed.{missed-written}
use Rattle.serve_read.proofs.probe.missed_reply.Statement.{statement}
use Rattle.serve_read.proofs.probe.missed_reply.Tie as tie

write-head-requires : tie.Need-write_head-requires
write-head-requires c κs = search rules

add-write-counts : tie.Need-overflow_add-at
add-write-counts c = search rules

write-counts-requires : tie.Need-write_counts-requires
write-counts-requires c κs = search rules

add-result : tie.Need-overflow_add-result
add-result c = search rules

same_length : tie.Need-shape_of-answer
same_length c = search rules

returns : tie.Need-returns
returns c =
    let w = c in
    let h = w in
    let a = h.args in
    record {
      bytes = w.write_counts.ensures
          ∙ ap (λ x. sets x (a.at + 6) (count_bytes 0 a.tables a.bits)) h.write_head.ensures
          ∙ missed-written a.answer.now a.at a.tables a.bits;
      count = omega (arith, length-reply 8 0 (probe_body none a.tables a.bits), length-probe none a.tables a.bits);
    }

pub missed_reply_spec : {M : Type 1} → statement M
missed_reply_spec =
    tie.close (tie.spec write-head-requires add-write-counts write-counts-requires add-result same_length returns)

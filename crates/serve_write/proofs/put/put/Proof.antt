-- `put` meets its contract: key and value are those of the body, and the reply has none.
use Prim.Native.Nat.{ℕ, ◌-◌}
use mathlib.Core.Path.{◌≡◌, ◌∙◌, ap}
use mathlib.Core.List.{[]}
use lib.ListN.{length, take, drop}
use lib.Seq.{sets}
use Rattle.table.specs.Entry.{entry_of}
use borrow.Author.Rules.{rules}
use Rattle.ldc.specs.Request.{reply_bytes, key_in, value_in}
use Rattle.memtable.specs.Put.{put_in}
use Rattle.serve_write.proofs.Values.{value-part, value-length}
use Rattle.serve_write.proofs.put.put.Statement.{statement}
use Rattle.serve_write.proofs.put.put.Tie as tie

key-at-requires : tie.Need-key_at-key-requires
key-at-requires c κs = search rules

sub-put : tie.Need-slice_bounds-put-count
sub-put c = search rules

part-put-start : tie.Need-slice_bounds-put-start
part-put-start c = search rules

part-put-end : tie.Need-slice_bounds-put-end
part-put-end c = search rules

put-requires : tie.Need-put-result-requires
put-requires c κs =
    let b = c in
    ((b.requires.0, b.requires.1.0), rw (value-length b.args.body.now b.requires.1.1.0) b.requires.1.1.1.0)

answer-bare-requires : tie.Need-answer_bare-requires
answer-bare-requires c κs = search rules

same_length : tie.Need-shape_of-memory
same_length c = search rules

same-length-2 : tie.Need-shape_of-answer
same-length-2 c = search rules

returns : tie.Need-returns
unfolding key_in
returns c =
    let r = c in
    let p = r in
    let k = p in
    let a = k.args in
    let made : put_in (entry_of a.kind k.key_at-key.result.value (take (length a.body.now - 8) (drop 8 a.body.now))) a.memory.now
    ≡ put_in (entry_of a.kind (key_in a.body.now) (value_in a.body.now)) a.memory.now =
    rw (k.key_at-key.ensures, value-part a.body.now) in (
      p.put-result.ensures.1 ∙ ap (λ v. v.bytes) made,
      record {
        bytes = r.answer_bare.ensures.bytes ∙ ap (λ (n : ℕ). sets a.answer.now a.at (reply_bytes a.kind n [])) (p.put-result.ensures.0 ∙ ap (λ v. v.result) made);
        count = r.answer_bare.ensures.count ∙ ap (λ (n : ℕ). length (reply_bytes a.kind n [])) (p.put-result.ensures.0 ∙ ap (λ v. v.result) made);
      },
    )

pub put_spec : {M : Type 1} → statement M
put_spec =
    tie.close (tie.spec key-at-requires sub-put part-put-start part-put-end put-requires answer-bare-requires same_length same-length-2 returns)

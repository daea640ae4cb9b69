-- `step_reply` meets its contract: six bytes, then two numbers.
use Prim.Native.Nat.{ℕ, ◌+◌}
use mathlib.Core.Path.{sym, ◌∙◌, ap}
use mathlib.Core.List.{List, [], ◌∷◌}
use borrow.Author.Rules.{rules}
use lib.Seq.{sets}
use Rattle.wire.specs.Reply.{numbers}
use Rattle.serve_write.proofs.Turns.{step-written, step-length}
use Rattle.serve_write.proofs.steps.step_reply.Statement.{statement}
use Rattle.serve_write.proofs.steps.step_reply.Tie as tie

write-head-requires : tie.Need-write_head-requires
write-head-requires c κs = search rules

add-put-numbers : tie.Need-overflow_add-at
add-put-numbers c = search rules

slice-aggregate-put-numbers : tie.Need-slice_bounds-put_numbers-end
slice-aggregate-put-numbers c = search rules

put-numbers-requires : tie.Need-put_numbers-requires
put-numbers-requires c κs = search rules

add-result : tie.Need-overflow_add-result
add-result c = search rules

same_length : tie.Need-shape_of-answer
same_length c = search rules

returns : tie.Need-returns
returns c =
    let r = c in
    let h = r in
    let a = h.args in
    record {
      bytes = r.put_numbers.ensures ∙ ap (λ (x : List ℕ). sets x (a.at + 6) (numbers (a.step ∷ a.level ∷ []))) h.write_head.ensures
          ∙ step-written a.answer.now a.at a.step a.level;
      count = sym (step-length a.step a.level);
    }

pub step_reply_spec : {M : Type 1} → statement M
step_reply_spec =
    tie.close (tie.spec write-head-requires add-put-numbers slice-aggregate-put-numbers put-numbers-requires add-result same_length returns)

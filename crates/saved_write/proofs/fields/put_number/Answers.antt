-- `put_number` meets its contract.
use Prim.Native.Nat.{◌+◌}
use mathlib.Core.Path.{refl, sym, ap}
use Rattle.saved_book.specs.Saved.{number_bytes}
use Rattle.saved_write.proofs.Widths.{length-number}
use Rattle.saved_write.proofs.fields.put_number.Goals as goal

pub returns : goal.returns
returns c =
    let a = c.args in (
      record {
        written = unfold number_bytes in c.put.ensures;
        behind = ap (λ k. a.at + k) (sym (length-number a.n));
      },
      refl,
    )

-- `put_key` meets its contract.
use Prim.Native.Nat.{◌+◌}
use mathlib.Core.Path.{refl, sym, ap}
use Rattle.saved_book.specs.Saved.{key_bytes}
use Rattle.saved_write.proofs.Widths.{length-key}
use Rattle.saved_write.proofs.fields.put_key.Goals as goal

pub returns : goal.returns
returns c =
    let a = c.args in (
      record {
        written = unfold key_bytes in c.put.ensures;
        behind = ap (λ k. a.at + k) (sym (length-key a.key));
      },
      refl,
    )

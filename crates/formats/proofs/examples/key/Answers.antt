-- `key` meets its contract: line 3 and distance 1,250 fit their bits, so a key is built of them.
use Rattle.std.proofs.Common.{◌≡◌, sym, ◌∙◌, ◌+◌, ◌*◌, ◌^◌}
use lib.Dec.{lit<}
use Rattle.std.specs.Prelude.{Some}
use Rattle.coding.specs.Key.{key_of}
use Rattle.coding.specs.declared.key.Key.{Key}
use Rattle.coding.proofs.KeyLaws.{fits}
use Rattle.formats.proofs.examples.key.Goals as goal

built : key_of 3 1250 ≡ Some (record { value = 3 * 2 ^ 40 + 1250 })
built = fits 3 1250 (lit< tt) (lit< tt)

inside : (k : Key) → key_of 3 1250 ≡ Some k → k.value ≡ 3 * 2 ^ 40 + 1250
inside k h = let same = sym built ∙ h in cc

pub unwrap-requires : goal.unwrap-requires
unwrap-requires c = rw (c.of.ensures ∙ built)

pub returns : goal.returns
returns c = inside c.unwrap.result (sym c.of.ensures ∙ c.unwrap.ensures)

-- `put_bytes` meets its contract: a turn writes the text of the next byte, and at the end no byte is left.
use Rattle.std.proofs.Common.{ℕ, List, [], ◌≡◌, ◌+◌, ◌*◌, ◌≤◌, ◌<◌, length, get_or, drop, sym, ◌∙◌}
use Rattle.std.proofs.lemmas.List.Edits.{sets}
use lib.ListN.{drop_of_length-le}
use Rattle.coding.specs.Hex.{byte_text, bytes_text}
use Rattle.coding.proofs.Text.{text-turn}
use Rattle.coding.proofs.hex.put_bytes.Goals as goal

-- Nothing is left at the loop's end.
ended : (o₀ o v : List ℕ) (i : ℕ) → length v ≤ i → sets o₀ 0 (bytes_text v) ≡ sets o (3 * i) (bytes_text (drop i v)) → o ≡ sets o₀ 0 (bytes_text v)
unfolding bytes_text
ended o₀ o v i h e =
    let none : drop i v ≡ [] = drop_of_length-le v {i = i} h in
    sym (rw none at e)

turned : (o₀ o p v : List ℕ) (i : ℕ) → i < length v
    → sets o₀ 0 (bytes_text v) ≡ sets o (3 * i) (bytes_text (drop i v))
    → p ≡ sets o (3 * i) (byte_text (get_or v i 0))
    → sets o₀ 0 (bytes_text v) ≡ sets p (3 * (i + 1)) (bytes_text (drop (i + 1) v))
turned o₀ o p v i h e q = e ∙ text-turn o v i h ∙ rw (sym q)

pub loop-i-preserved : goal.loop-i-preserved
loop-i-preserved c = turned _ _ _ _ _ c.loop-i-test.true c.loop-i.invariant c.put_byte.ensures

pub returns : goal.returns
returns c = ended _ _ _ _ c.loop-i-test.false c.loop-i.invariant

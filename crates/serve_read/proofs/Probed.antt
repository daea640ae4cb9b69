-- The reply to a probe: what is written store by store is the reply that the definition gives, and the value in it is that of the entry that
-- decides. Its counts fit their bytes, since few tables are opened.
use Prim.Native.Nat.{ℕ, ◌+◌, ◌<◌, ◌^◌}
use mathlib.Core.Path.{◌≡◌, sym, ◌∙◌, ap}
use mathlib.Core.List.{List, ◌++◌, append-nil}
use mathlib.Core.Option.{some, none}
use native.Mathlib.Omega.{arith}
use lib.ListN.{length, length-append}
use lib.Seq.{sets}
use Rattle.coding.specs.Number.{bytes_of}
use Rattle.coding.proofs.NumberLaws.{length-bytes_of}
use Rattle.coding.proofs.Sets.{sets-append}
use Rattle.table.specs.Entry.{Entry}
use Rattle.table.specs.Search.{find}
use Rattle.ldc.specs.Lists.{flat}
use Rattle.ldc.specs.Store.{Store}
use Rattle.ldc.specs.Request.{reply_bytes}
use Rattle.ldc.specs.Read.{read_order, value_of, look_up}
use Rattle.ldc.specs.Probe.{opened, bits_in, probe_body, serve_probe}
use Rattle.ldc.proofs.Lent.Round.{level-fits}
use Rattle.ldc.proofs.Stores.Opened.{few-opened, few_bits}
use Rattle.ldc.proofs.Stores.Sound.{Sound}
use Rattle.ldc.proofs.Stores.SoundRules.{threshold-eight}
use Rattle.wire.specs.Reply.{reply_head, replied}
use Rattle.wire.proofs.Written.{reply-written}
use Rattle.serve_read.specs.Value.{count_bytes}

-- ---- the bytes

pub counts-written : (a : List ℕ) (at found tables bits : ℕ)
    → sets (sets (sets a at (bytes_of 2 found)) (at + 2) (bytes_of 2 tables)) (at + 4) (bytes_of 4 bits) ≡ sets a at (count_bytes found tables bits)
unfolding count_bytes
counts-written a at found tables bits =
    let x = bytes_of 2 found in
    let y = bytes_of 2 tables in
    let two : at + length x ≡ at + 2 = ap (λ k. at + k) (length-bytes_of 2 found) in
    let four : at + length (x ++ y) ≡ at + 4 = omega (arith, length-append x y, length-bytes_of 2 found, length-bytes_of 2 tables) in
    sym (sets-append a at (x ++ y) (bytes_of 4 bits) ∙ rw (four, sets-append a at x y, two))

pub length-counts : (found tables bits : ℕ) → length (count_bytes found tables bits) ≡ 8
unfolding count_bytes
length-counts found tables bits = simp (length-append, length-bytes_of)

-- Without a value.
pub missed-written : (a : List ℕ) (at tables bits : ℕ)
    → sets (sets a at (reply_head 8 0 8)) (at + 6) (count_bytes 0 tables bits) ≡ sets a at (reply_bytes 8 0 (probe_body none tables bits))
unfolding probe_body count_bytes
missed-written a at tables bits =
    let body : List ℕ = count_bytes 0 tables bits in
    let n : length body ≡ 8 = length-counts 0 tables bits in
    ap (λ (k : ℕ). sets (sets a at (reply_head 8 0 k)) (at + 6) body) (sym n)
    ∙ reply-written a at 8 0 body
    ∙ ap (λ (s : List ℕ). sets a at (reply_bytes 8 0 s)) (sym (append-nil body))

-- With one behind the counts.
pub found-written : (a : List ℕ) (at tables bits : ℕ) (v : List ℕ)
    → sets (sets (sets a at (reply_head 8 0 (8 + length v))) (at + 6) (count_bytes 1 tables bits)) (at + 14) v ≡ sets a at (reply_bytes 8 0 (probe_body (some v) tables bits))
unfolding probe_body count_bytes
found-written a at tables bits v =
    let counts : List ℕ = count_bytes 1 tables bits in
    let n : length counts ≡ 8 = length-counts 1 tables bits in
    let all : length (counts ++ v) ≡ 8 + length v = length-append counts v ∙ ap (λ (k : ℕ). k + length v) n in
    let e : at + 6 + length counts ≡ at + 14 = omega arith in
    let head : List ℕ = sets a at (reply_head 8 0 (8 + length v)) in
    sym (sets-append head (at + 6) counts v ∙ rw e)
    ∙ ap (λ (k : ℕ). sets (sets a at (reply_head 8 0 k)) (at + 6) (counts ++ v)) (sym all)
    ∙ reply-written a at 8 0 (counts ++ v)

-- ---- the entry that decides

module _ (s : Store) (k tables bits : ℕ) (t : tables ≡ length (opened s k)) (b : bits ≡ bits_in s (opened s k)) where
  pub probe_found : (e : Entry) → some e ≡ find k (flat (read_order s)) → replied 8 (serve_probe s k) ≡ reply_bytes 8 0 (probe_body e.value tables bits)
  unfolding serve_probe look_up
  probe_found e h = rw (t, b) (ap (λ o. reply_bytes 8 0 (probe_body (value_of o) (length (opened s k)) (bits_in s (opened s k)))) (sym h))

  pub probe-missed : none ≡ find k (flat (read_order s)) → replied 8 (serve_probe s k) ≡ reply_bytes 8 0 (probe_body none tables bits)
  unfolding serve_probe look_up
  probe-missed h = rw (t, b) (ap (λ o. reply_bytes 8 0 (probe_body (value_of o) (length (opened s k)) (bits_in s (opened s k)))) (sym h))

-- ---- the counts fit their bytes

module _ (s : Store) (S : Sound s) (k : ℕ) where
  few : length (opened s k) < 65536
  few = omega (arith, few-opened s S k, level-fits s S 0, S.most, threshold-eight s S.rule_a-kept)

  pub tables-fit : (tables : ℕ) → tables ≡ length (opened s k) → tables < 65536
  tables-fit tables t = omega (arith, few)

  pub bits_fit : (bits : ℕ) → bits ≡ bits_in s (opened s k) → bits < 2 ^ 32
  bits_fit bits b = omega (arith, few, few_bits s k (opened s k))

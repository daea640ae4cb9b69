-- The reply to a look-up, and the bytes of a probe's reply before the value.
use Rattle.std.specs.Prelude.{ℕ, List, [], ◌++◌}
use Rattle.std.proofs.Math.Option.{Option, some, none}
use Rattle.coding.specs.Number.{bytes_of}
use Rattle.ldc.specs.Request.{look_up_kind, done_result, no_value, reply_bytes}

-- The reply to a look-up that gives this value, or none.
abbrev pub value_reply : Option (List ℕ) → List ℕ
value_reply (some v) = reply_bytes look_up_kind done_result v
value_reply none = reply_bytes look_up_kind no_value []

-- Found, tables opened, bits set.
unfoldable pub count_bytes : (found tables bits : ℕ) → List ℕ
count_bytes found tables bits = bytes_of 2 found ++ bytes_of 2 tables ++ bytes_of 4 bits

-- How running a list to its end ended: the number of its run, and whether writing failed.
use Rattle.std.specs.Prelude.{ℕ, Bool, true, false, Result, Ok, Err}
use Rattle.ldc.specs.Run.{accepted}
use Rattle.wire.specs.Refusal.{refusal_number}
use Rattle.survey_deliver.specs.declared.deliver.Undelivered.{Undelivered}
use Rattle.survey_deliver.specs.declared.deliver.Undelivered.TheVariants.{Refused, NotWritten}

abbrev pub number_told : {A : Type 0} → Result A Undelivered → ℕ
number_told (Ok x) = accepted
number_told (Err (Refused refusal)) = refusal_number refusal
number_told (Err (NotWritten error)) = accepted

abbrev pub not_written : {A : Type 0} → Result A Undelivered → Bool
not_written (Ok x) = false
not_written (Err (Refused refusal)) = false
not_written (Err (NotWritten error)) = true

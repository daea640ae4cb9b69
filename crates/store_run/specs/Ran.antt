-- What a run gives; a refused one has served nothing and written nothing.
use Rattle.std.specs.Prelude.{Result}
use Rattle.std.specs.Result.{result_unwrap_or}
use Rattle.wire.specs.declared.refusal.Refusal.{Refusal}
use Rattle.store_run.specs.declared.Ran.{Ran}

abbrev pub ran_in : Result Ran Refusal → Ran
ran_in r = result_unwrap_or r (record { served = 0; written = 0 })

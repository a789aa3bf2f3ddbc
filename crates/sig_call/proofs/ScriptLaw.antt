-- The call law, of a script that was returned.
use Rattle.std.specs.Prelude.{Result, Ok, Err, IfOk}
use Rattle.sig_program.specs.Scripts.{Program}
use Rattle.sig_call.specs.CallLaw.{CallsEnterOnce}
use Rattle.sig_call.proofs.CallRuns.{calls_once}

pub all_once : {E : Type 0} (r : Result Program E) → IfOk r CallsEnterOnce
all_once (Ok script) = calls_once script
all_once (Err e) = tt

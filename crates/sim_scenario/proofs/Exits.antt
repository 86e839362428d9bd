-- The ways out of a reader that reads part by part.
use Rattle.std.proofs.Common.{◌≡◌, Ok, Result}
use Rattle.std.specs.Result.{IsErrAnd}
use Rattle.std.proofs.lemmas.Result.{err_from_is_err_and}
use Rattle.sqs_formats.specs.declared.faults.ScenarioFault.{ScenarioFault}
use Rattle.sqs_formats.specs.Reading.{and_then}
use Rattle.sim_scenario.specs.Gives.{Fails, Gives}
use Rattle.sim_scenario.specs.declared.fault.ReadError.{ReadError}

-- what `?` returns is its error
pub way_out : {X Y : Type 0} (view : X → Y) (r : Result X ReadError) (e : ReadError) (read : Result Y ScenarioFault) → IsErrAnd r (λ f. f ≡ e) → Fails e read → Gives view r read
way_out view r e read h fails = let p = err_from_is_err_and r h in rw (p.1, p.2) fails

-- past a part that was read, the error is that of the rest
pub past : {X Y : Type 0} {part : Result X ScenarioFault} {x : X} (e : ReadError) (rest : X → Result Y ScenarioFault) → part ≡ Ok x → Fails e (rest x) → Fails e (and_then part rest)
unfolding and_then
past e rest h fails = rw h fails

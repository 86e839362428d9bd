use Rattle.std.proofs.Common.{refl}
use Rattle.sqs_formats.specs.Reading.{and_then}
use Rattle.sim_scenario.proofs.Exits.{past, way_out}
use Rattle.sim_scenario.proofs.ListItems.{fails_first}
use Rattle.sim_scenario.proofs.scalers.scaler.Goals as goal

pub returns-in_err-cooldown_in : goal.returns-in_err-cooldown_in
returns-in_err-cooldown_in c = way_out _ _ _ _ c.from_residual-in_err-cooldown_in.ensures.1 (past _ _ c.in_ok-known_scaler_keys.ensures (past _ _ c.in_ok-start.ensures (past _ _ c.in_ok-every.ensures (past _ _ (rw c.saturating_sub.ensures at c.in_ok-reading.ensures) (past _ _ c.in_ok-target.ensures (past _ _ c.in_ok-least.ensures (past _ _ c.in_ok-most.ensures (past _ _ c.in_ok-most_added.ensures (past _ _ c.in_ok-most_taken.ensures (past _ _ c.in_ok-cooldown_out.ensures (fails_first _ _ _ c.in_err-cooldown_in.ensures)))))))))))

pub returns : goal.returns
unfolding and_then
returns c = rw (c.in_ok-known_scaler_keys.ensures, c.in_ok-start.ensures, c.in_ok-every.ensures, (rw c.saturating_sub.ensures at c.in_ok-reading.ensures), c.in_ok-target.ensures, c.in_ok-least.ensures, c.in_ok-most.ensures, c.in_ok-most_added.ensures, c.in_ok-most_taken.ensures, c.in_ok-cooldown_out.ensures, c.in_ok-cooldown_in.ensures) refl

use Rattle.std.proofs.Common.{append_assoc}
use Rattle.sim_scenario.proofs.scripted.script_blame.Goals as goal

pub returns-in-Ok : goal.returns-in-Ok
returns-in-Ok c = rw (c.in-Some.is, append_assoc) (rw (c.as_str.ensures.value, c.in-Ok.ensures.ok) at c.blame-in-Ok.ensures)

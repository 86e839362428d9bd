use Rattle.sim_scenario.proofs.Drafted.{script_names_of_draft}
use Rattle.sim_scenario.proofs.draft.Draft.script_names.Goals as goal

pub returns-in-Ok : goal.returns-in-Ok
returns-in-Ok c newest text of = rw (script_names_of_draft text, ← of.table, c.in-Ok.is) (rw c.actor_items.ensures at c.names_in.ensures)

pub returns-in-Err : goal.returns-in-Err
returns-in-Err c newest text of = rw (script_names_of_draft text, ← of.table, c.in-Err.is) c.new.ensures.items

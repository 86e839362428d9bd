use Rattle.sim_scenario.proofs.Drafted.{scenario_of_table, scenario_refused}
use Rattle.sim_scenario.proofs.Admits.{names_fails}
use Rattle.sim_scenario.proofs.draft.Draft.read.Goals as goal

pub returns-in-Ok-clause-value : goal.returns-in-Ok-clause-value
returns-in-Ok-clause-value c newest text of =
    rw (scenario_of_table newest c.args.scripts.now text c.args.self c.in-Ok.table of c.in-Ok.is) c.document.ensures.value

pub returns-in-Err-clause-value : goal.returns-in-Err-clause-value
returns-in-Err-clause-value c newest text of =
    names_fails c.blame.result _ _ (scenario_refused newest c.args.scripts.now text c.args.self c.in-Err.refusal of c.in-Err.is) (rw c.top.ensures at c.blame.ensures)

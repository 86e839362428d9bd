use Rattle.toml.specs.View.{table_view}
use Rattle.std.proofs.Common.{[]}
use Rattle.sqs_formats.specs.Reading.{and_then}
use Rattle.sqs_formats.specs.Scenario.{scenario_in}
use Rattle.sim_scenario.specs.Gives.{table}
use Rattle.sim_scenario.specs.Tops.{top_view}
use Rattle.sim_scenario.proofs.TopRanges.{top_in_range}
use Rattle.sim_scenario.proofs.Exits.{way_out}
use Rattle.sim_scenario.proofs.ListItems.{fails_first}
use Rattle.sim_scenario.proofs.reader.document.Goals as goal

pub agents-requires-clause-numbers : goal.agents-requires-clause-numbers
agents-requires-clause-numbers c = top_in_range c.args.newest (table [] (table_view c.args.table.now)) (top_view c.in_ok-top.top) (rw c.top-section.ensures at c.in_ok-top.ensures.value)

pub returns-in_err-top-clause-value : goal.returns-in_err-top-clause-value
unfolding scenario_in
returns-in_err-top-clause-value c = way_out _ _ _ _ c.from_residual.ensures.1 (fails_first _ _ _ (rw c.top-section.ensures at c.in_err-top.ensures.value))

pub returns-clause-value : goal.returns-clause-value
unfolding scenario_in and_then
returns-clause-value c = rw (rw c.top-section.ensures at c.in_ok-top.ensures.value) (rw c.in_ok-outline.ensures at c.agents.ensures.value)

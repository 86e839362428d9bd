-- The parts into which a scenario is taken apart.
use Rattle.sqs_model.specs.Scenario.{Scenario}
use Rattle.sim_scenario.specs.AtHome.{scenario_with}
use Rattle.sim_scenario.specs.declared.scenario.ScenarioParts.{ScenarioParts}

-- the scenario of some parts
abbrev pub scenario_of_parts : ScenarioParts → Scenario
scenario_of_parts p = scenario_with p.horizon p.seed p.sample p.queues.items p.actors.items p.tasks.items p.names.items

use Rattle.std.proofs.Common.{◌≤◌}
use Rattle.std.proofs.lemmas.List.Elements.{All-same}
use Rattle.std.proofs.lemmas.Iterator.{items_from_collect}
use Rattle.std.proofs.lemmas.Iterator.Consumers.{YieldsList-from_first}
use Rattle.std.proofs.lemmas.Result.{IfOk-weaker}
use Rattle.sqs_model.specs.Scenario.{edges}
use Rattle.sim_engine.specs.declared.edge.Edge.{Edge}
use Rattle.sim_scenario.proofs.WayRanges.{ways_in_range}
use Rattle.sim_scenario.proofs.ways.edges.Goals as goal

pub returns-clause-range : goal.returns-clause-range
returns-clause-range c =
    let s = c.args.scenario.now in
    let are = items_from_collect c.collect.result c.collect.ensures.ran (YieldsList-from_first (λ e. e) (λ es. es) (edges s) c.ways_of.ensures.ways) in
    IfOk-weaker c.collect.result _ _ (λ ways is. All-same (λ (e : Edge). (1 ≤ e.least) × (e.least ≤ 900000)) ways.items (edges s) is (ways_in_range s c.ways_of.ensures.range)) are

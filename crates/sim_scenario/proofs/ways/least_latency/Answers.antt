use Rattle.std.proofs.Common.{◌∙◌, ◌+◌, rules, sym, tests}
use Rattle.std.proofs.lemmas.Iterator.{YieldsList-from_map}
use Rattle.std.proofs.lemmas.Iterator.Adapters.{option_map_id}
use Rattle.std.proofs.lemmas.Iterator.Consumers.{YieldsList-at, YieldsList-from_first, min_from_yields_List}
use Rattle.sqs_model.specs.Scenario.{edges}
use Rattle.sim_engine.specs.declared.edge.Edge.{Edge}
use Rattle.sim_scenario.proofs.LeastWay.{least_found}
use Rattle.sim_scenario.proofs.ways.least_latency.Goals as goal

pub returns : goal.returns
returns c =
    let s = c.args.scenario.now in
    let ways = YieldsList-at c.map.ensures.source (YieldsList-from_first (λ e. e) (λ es. es) (edges s) c.ways_of.ensures.ways) in
    let least = sym (option_map_id c.min.result) ∙ min_from_yields_List c.map.result c.min.result c.min.ensures.ran (YieldsList-from_map _ (λ (e : Edge). e.least) ways c.map.ensures.closure (λ x r q k. search (rules, tests))) in
    c.unwrap_or.ensures ∙ rw (least, c.horizon-past.ensures.value) (least_found (s.horizon + 1) (edges s))

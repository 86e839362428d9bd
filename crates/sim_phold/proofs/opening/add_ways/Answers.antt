-- Each way that is added is behind the others.
use Rattle.std.proofs.Common.{◌≡◌}
use Rattle.sim_engine.specs.declared.edge.Edge.{Edge}
use Rattle.sim_phold.specs.Opening.{way}
use Rattle.sim_phold.proofs.Growing.{grown_behind}
use Rattle.sim_phold.proofs.opening.add_ways.Goals as goal

pub loop-to-preserved : goal.loop-to-preserved
loop-to-preserved c =
    let to = c.loop-to.to in
    let edge : Edge = record { from = c.args.from; to = to; least = c.from.result } in
    let takes : c.from.result ≡ c.args.workload.lookahead = c.from.ensures in
    let edge_is : edge ≡ way c.args.workload c.args.from to = cc in
    grown_behind (way c.args.workload c.args.from) to c.args.edges.now.items c.loop-to.edges.items _ edge
    c.loop-to.invariant edge_is c.in_ok-push.ensures.items

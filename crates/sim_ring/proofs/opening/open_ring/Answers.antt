-- Counters and ways are added one after another, and the ring that they make is simulated.
use Rattle.std.specs.List.{range_with_len}
use Rattle.std.proofs.Common.{arith, ap, subst, sym, ◌≡◌, ◌≤◌, All, List}
use Rattle.sim_engine.specs.Setting.{Setting}
use Rattle.sim_engine.specs.Simulated.{IsSimulated}
use Rattle.sim_ring.specs.declared.counter.Counter.{Counter}
use Rattle.sim_engine.specs.declared.edge.Edge.{Edge}
use Rattle.sim_ring.specs.Opening.{opening_counter, ring_setting, way_from}
use Rattle.sim_ring.specs.Ring.{ring, ring_conditions}
use Rattle.sim_ring.proofs.Growing.{grown}
use Rattle.sim_ring.proofs.Sound.{ring_simulated, ways_in_range}
use Rattle.sim_ring.proofs.opening.open_ring.Goals as goal

pub loop-number-preserved : goal.loop-number-preserved
loop-number-preserved c =
    let n = c.loop-number.number in
    let counter = opening_counter c.args.counters c.args.apart in
    let way = way_from c.args.counters c.args.apart in
    let opened : c.in_ok-counter.counter ≡ counter n = c.in_ok-counter.ensures.opened in
    let leads : c.in_ok-counter.counter.next ≡ (counter n).next = ap (λ x. x.next) opened in
    let takes : c.from.result ≡ c.args.apart = c.from.ensures in
    let edge : Edge = record { from = n; to = c.in_ok-counter.counter.next; least = c.from.result } in
    let edge_is : edge ≡ way n = cc in
    let sites = c.loop-number.sites.items in (
      grown counter n sites _ c.in_ok-counter.counter c.loop-number.invariant.0 opened c.in_ok-push-2.ensures.items,
      grown way n c.loop-number.edges.items _ edge c.loop-number.invariant.1 edge_is c.in_ok-push.ensures.items,
    )

pub returns-clause-simulated : goal.returns-clause-simulated
returns-clause-simulated c =
    let all : c.loop-number.number ≡ c.args.counters = omega arith in
    let ring_is : Setting Counter = ring_setting c.args.counters c.args.apart c.args.horizon in
    let sites = c.loop-number.sites.items in
    let edges = c.loop-number.edges.items in
    let made : Setting Counter = record { horizon = c.args.horizon; opening = sites; edges = edges } in
    let is : ring_is ≡ made = grind (arith, c.loop-number.invariant, all) in
    let holds = ring_simulated c.args.counters c.args.apart c.args.horizon c.requires.takes_time in
    subst (IsSimulated ring ring_conditions) is holds

pub returns-clause-ways : goal.returns-clause-ways
returns-clause-ways c =
    let P : List Edge → Type 0 = λ es. All (λ e. (1 ≤ e.least) × (e.least ≤ 900000)) es in
    let numbers = range_with_len 0 c.loop-number.number in
    let ways = ways_in_range c.args.counters c.args.apart numbers c.requires.takes_time c.requires.near in
    subst P (sym c.loop-number.invariant.1) ways

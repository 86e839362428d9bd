-- Processes and ways are added one after another, and the world that they make is simulated.
use Rattle.std.specs.List.{range_with_len}
use Rattle.std.specs.Prelude.{[], ◌++◌}
use Rattle.std.proofs.Common.{ap, arith, subst, sym, All, List, ◌≡◌, ◌≤◌, ◌∙◌}
use Rattle.sim_engine.specs.Setting.{Setting}
use Rattle.sim_engine.specs.Simulated.{IsSimulated}
use Rattle.sim_engine.specs.declared.edge.Edge.{Edge}
use Rattle.sim_phold.specs.declared.process.Process.{Process}
use Rattle.sim_phold.specs.Opening.{opening_process, phold_setting, ways_from}
use Rattle.sim_phold.specs.Phold.{phold, phold_conditions}
use Rattle.sim_phold.proofs.Growing.{grown_behind, joined_more}
use Rattle.sim_phold.proofs.Sound.{phold_simulated}
use Rattle.sim_phold.proofs.Ways.{ways_in_range}
use Rattle.sim_phold.proofs.opening.open_phold.Goals as goal

pub loop-number-preserved : goal.loop-number-preserved
loop-number-preserved c =
    let w = c.args.workload in
    let n = c.loop-number.number in
    let opened : c.in_ok-process.field-0 ≡ opening_process w n = c.in_ok-process.ensures.opened in
    let ways = ways_from w n in (
      grown_behind (opening_process w) n [] c.loop-number.sites.items _ c.in_ok-process.field-0
          c.loop-number.invariant.0 opened c.in_ok-push.ensures.items,
      c.in_ok-add_ways.ensures.added ∙ ap (λ es. es ++ ways) c.loop-number.invariant.1 ∙ sym (joined_more (ways_from w) n),
    )

pub returns-clause-simulated : goal.returns-clause-simulated
returns-clause-simulated c =
    let all : c.loop-number.number ≡ c.args.workload.processes = omega arith in
    let w = c.args.workload in
    let sites = c.loop-number.sites.items in
    let edges = c.loop-number.edges.items in
    let made : Setting Process = record { horizon = c.args.horizon; opening = sites; edges = edges } in
    let is : phold_setting w c.args.horizon ≡ made = grind (arith, c.loop-number.invariant, all) in
    subst (IsSimulated phold phold_conditions) is
    (phold_simulated w c.args.horizon c.requires.some c.requires.takes_time)

pub returns-clause-ways : goal.returns-clause-ways
returns-clause-ways c =
    let P : List Edge → Type 0 = λ es. All (λ e. (1 ≤ e.least) × (e.least ≤ 900000)) es in
    let ways = ways_in_range c.args.workload (range_with_len 0 c.loop-number.number) c.requires.takes_time c.requires.near in
    subst P (sym c.loop-number.invariant.1) ways

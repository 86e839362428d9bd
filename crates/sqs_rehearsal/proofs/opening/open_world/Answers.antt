use Rattle.std.proofs.Common.{subst, sym, ◌≡◌}
use Rattle.sim_engine.specs.Setting.{Setting}
use Rattle.sim_engine.specs.Simulated.{IsSimulated}
use Rattle.sqs_model.proofs.Sites.{sound_simulated}
use Rattle.sqs_model.specs.Conditions.{sqs_conditions}
use Rattle.sqs_model.specs.Progress.{IsSoundScenario}
use Rattle.sqs_model.specs.Run.{setting_of}
use Rattle.sqs_model.specs.Scenario.{Scenario}
use Rattle.sqs_model.specs.Site.{Site}
use Rattle.sqs_model.specs.Sqs.{sqs}
use Rattle.sqs_rehearsal.proofs.opening.open_world.Goals as goal

pub returns-clause-simulated : goal.returns-clause-simulated
returns-clause-simulated c =
    let s : Scenario = c.args.scenario in
    let sound : IsSoundScenario s = subst IsSoundScenario c.scenario.view_is c.scenario.invariant.sound in
    let world : Setting Site = record { horizon = c.horizon-horizon.result; opening = c.in_ok-sites.sites.items; edges = c.in_ok-ways.ways.items } in
    let same : world ≡ setting_of s =
    λ k. record { horizon = c.horizon-horizon.ensures.value k; opening = c.in_ok-sites.ensures.opened k; edges = c.in_ok-ways.ensures.ways k } in
    subst (IsSimulated sqs sqs_conditions) (sym same) (sound_simulated s sound)

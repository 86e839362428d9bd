use Rattle.std.proofs.Common.{subst, sym, ◌∙◌}
use Rattle.std.specs.Arc.{arc_value}
use Rattle.sim_engine.specs.Mapping.{mapped_conditions}
use Rattle.sim_engine.specs.Simulated.{IsSimulated}
use Rattle.sqs_model.specs.Conditions.{sqs_conditions}
use Rattle.sqs_model.specs.Run.{setting_of}
use Rattle.sqs_rehearsal.proofs.PrintedRuns.{made_of, printed_simulated}
use Rattle.sqs_rehearsal.specs.Printed.{printed_sqs}
use Rattle.sqs_rehearsal.proofs.printing.open_printed.Goals as goal

pub returns-clause-setting : goal.returns-clause-setting
returns-clause-setting c =
    made_of (arc_value c.args.names.now) (setting_of c.args.scenario) _ c.horizon-horizon.result c.in_ok-sites.sites.items
    (c.world.view_is ∙ c.in_ok-world.ensures.setting) c.horizon-horizon.ensures.value c.in_ok-sites.ensures

pub returns-clause-simulated : goal.returns-clause-simulated
returns-clause-simulated c =
    let names = arc_value c.args.names.now in
    let same = made_of names (setting_of c.args.scenario) _ c.horizon-horizon.result c.in_ok-sites.sites.items
    (c.world.view_is ∙ c.in_ok-world.ensures.setting) c.horizon-horizon.ensures.value c.in_ok-sites.ensures in
    subst (IsSimulated printed_sqs (mapped_conditions sqs_conditions)) (sym same) (printed_simulated names c.args.scenario c.horizon-horizon.ensures.range.sound)

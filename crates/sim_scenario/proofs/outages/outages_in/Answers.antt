use Rattle.std.proofs.Common.{◌∙◌, ap}
use Rattle.std.proofs.lemmas.List.{take_all}
use Rattle.sqs_formats.specs.Outages.{outages_in}
use Rattle.sim_scenario.proofs.OutagesRead.{one_outage_more}
use Rattle.sim_scenario.proofs.outages.outages_in.Goals as goal

pub loop-place-preserved : goal.loop-place-preserved
loop-place-preserved c =
    rw (c.in_ok-push.ensures.items, c.loop-place.invariant, c.permille_at.ensures) (one_outage_more c.args.permilles.now c.args.stretches.now c.loop-place.place _ c.loop-place-test.true)

pub returns : goal.returns
returns c = c.loop-place.invariant ∙ ap (outages_in c.args.permilles.now) (take_all c.loop-place.place c.args.stretches.now c.loop-place-test.false)

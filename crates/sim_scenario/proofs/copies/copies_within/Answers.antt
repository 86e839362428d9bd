use Rattle.std.proofs.Common.{◌∙◌, ◌≡◌, ap}
use Rattle.toml.specs.View.{view}
use Rattle.sqs_formats.specs.Copies.{copies_asked, fitting}
use Rattle.sim_scenario.proofs.Copying.{fits_room, next_within, none_within}
use Rattle.sim_scenario.proofs.copies.copies_within.Goals as goal

pub overflow_sub-left : goal.overflow_sub-left
overflow_sub-left c = rw c.saturating_sub-left.ensures (fits_room c.loop-actor.left c.copies_asked.result c.fitting-fitting.result c.fitting-fitting.ensures)

pub loop-actor-preserved : goal.loop-actor-preserved
loop-actor-preserved c =
    let is : c.fitting-fitting.result ≡ fitting c.loop-actor.left (copies_asked c.args.version (view c.actor-item.result)) = c.fitting-fitting.ensures ∙ ap (fitting c.loop-actor.left) c.copies_asked.ensures in
    rw (c.in_ok-push.ensures.items, c.saturating_sub-left.ensures)
    (next_within c.args.version c.loop-actor.left c.args.actors.now c.loop-actor.actor-index c.actor-item.result c.fitting-fitting.result _ c.loop-actor.copies.items c.loop-actor-test.true c.actor-item.is is c.loop-actor.invariant)

pub returns : goal.returns
returns c = none_within c.args.version c.loop-actor.left c.args.actors.now c.loop-actor.actor-index _ c.loop-actor.copies.items c.loop-actor-test.false c.loop-actor.invariant

use Rattle.std.proofs.Common.{ap, sym, ◌∙◌}
use Rattle.std.proofs.Math.Seq.{map-set_same}
use Rattle.sim_site.specs.Marked.{wake_mark}
use Rattle.sim_site.proofs.Turning.{numbers_at, polled_as, settings_at}
use Rattle.sim_site.proofs.actors.counted_at.Goals as goal

pub returns-clause-polled : goal.returns-clause-polled
returns-clause-polled c =
    polled_as c.args.number c.args.actors.now.values c.args.place c.requires.place c.value_mut-actor.result.now c.value_mut-actor.ensures.value c.polls-polls.result c.polled.new.self (sym c.polls-polls.ensures) c.in_ok-polled.ensures.counted

pub returns-clause-settings : goal.returns-clause-settings
returns-clause-settings c = settings_at c.args.number c.args.actors.now.values c.args.place c.requires.place c.value_mut-actor.result.now c.value_mut-actor.ensures.value c.polled.new.self c.polled.ensures.framed.settings

pub returns-clause-wakes : goal.returns-clause-wakes
returns-clause-wakes c =
    map-set_same wake_mark c.args.actors.now.values c.args.place c.polled.new.self c.value_mut-actor.result.now (ap wake_mark c.in_ok-polled.ensures.counted ∙ ap wake_mark c.value_mut-actor.ensures.value)

pub returns-clause-numbers : goal.returns-clause-numbers
returns-clause-numbers c = numbers_at c.args.number c.args.actors.now.values c.args.place c.requires.place c.value_mut-actor.result.now c.value_mut-actor.ensures.value c.polled.new.self c.polled.ensures.framed.number

use Rattle.sim_actor.specs.Lives.{answer_of}
use Rattle.sim_site.proofs.Marked.{told_marked}
use Rattle.sim_site.proofs.Turning.{numbers_at, settings_at, followed_if}
use Rattle.sim_site.proofs.actors.answered_at.Goals as goal

pub returns-clause-turned : goal.returns-clause-turned
returns-clause-turned c =
    followed_if c.args.number c.args.actors.now.values c.args.place c.requires.place c.value_mut.result.now c.value_mut.ensures.value c.args.now (answer_of c.args.reply) c.answered.result c.answered.new.self c.answered.ensures.decision c.answered.ensures.framed

pub returns-clause-settings : goal.returns-clause-settings
returns-clause-settings c = settings_at c.args.number c.args.actors.now.values c.args.place c.requires.place c.value_mut.result.now c.value_mut.ensures.value c.answered.new.self c.answered.ensures.framed.settings

pub returns-clause-marked : goal.returns-clause-marked
returns-clause-marked c h = told_marked c.args.actors.now c.args.place c.answered.new.self c.requires.place.within h

pub returns-clause-numbers : goal.returns-clause-numbers
returns-clause-numbers c = numbers_at c.args.number c.args.actors.now.values c.args.place c.requires.place c.value_mut.result.now c.value_mut.ensures.value c.answered.new.self c.answered.ensures.framed.number

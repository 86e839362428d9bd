use Rattle.std.proofs.Common.{ap}
use Rattle.sim_site.specs.Kept.{numbered_settings}
use Rattle.sim_site.specs.Reading.{cancelled_task}
use Rattle.sim_site.proofs.Rewriting.{rewritten_at, settings_at}
use Rattle.sim_site.proofs.state.tasks.cancel_at.Goals as goal

pub returns-clause-cancelled : goal.returns-clause-cancelled
returns-clause-cancelled c =
    λ e. rewritten_at c.args.number c.args.tasks.now.items c.args.place c.requires c.index_mut.result.now c.index_mut.ensures.value cancelled_task c.cancel.new.self c.cancel.ensures

pub returns-clause-settings : goal.returns-clause-settings
returns-clause-settings c =
    settings_at c.args.number c.args.tasks.now.items c.args.place c.requires c.index_mut.result.now c.index_mut.ensures.value c.cancel.new.self (ap numbered_settings c.cancel.ensures)

use Rattle.std.proofs.Common.{ap}
use Rattle.sim_site.specs.Kept.{numbered_settings}
use Rattle.sim_site.specs.Reading.{started_task}
use Rattle.sim_site.proofs.Rewriting.{rewritten_at, settings_at}
use Rattle.sim_site.proofs.state.tasks.start_at.Goals as goal

pub returns-clause-started : goal.returns-clause-started
returns-clause-started c =
    rewritten_at c.args.number c.args.tasks.now.items c.args.place c.requires.place c.index_mut.result.now c.index_mut.ensures.value (started_task c.args.now) c.start.new.self c.start.ensures

pub returns-clause-settings : goal.returns-clause-settings
returns-clause-settings c =
    settings_at c.args.number c.args.tasks.now.items c.args.place c.requires.place c.index_mut.result.now c.index_mut.ensures.value c.start.new.self (ap numbered_settings c.start.ensures)

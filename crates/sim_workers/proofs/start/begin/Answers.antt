use Rattle.sim_windows.proofs.Continued.{begun_none}
use Rattle.sim_workers.proofs.start.begin.Goals as goal

pub returns-then-begins_parted-clause-begun : goal.returns-then-begins_parted-clause-begun
returns-then-begins_parted-clause-begun g c = begun_none g.met.S.Site.laws g.K.RowSink.took c.args.world c.args.sink.now c.args.sink.now (g.met.K.RowSink.unchanged c.args.sink.now)

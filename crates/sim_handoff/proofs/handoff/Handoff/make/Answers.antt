use Rattle.std.proofs.Common.{rules}
use Rattle.sim_handoff.proofs.Comings.{starts}
use Rattle.sim_handoff.proofs.handoff.Handoff.make.Goals as goal

pub new-requires : goal.new-requires
new-requires g c = starts g.W.Work.does c.args.places c.args.places _ _ (search rules) (search rules)

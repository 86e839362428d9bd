use Rattle.std.specs.Prelude.{All, IfOk}
use Rattle.std.proofs.Common.{subst}
use Rattle.sim_engine.specs.World.{world_due}
use Rattle.sim_partition.specs.Sites.{AreOfPast}
use Rattle.sim_partition.proofs.Inbox.{past_accepted, sound_accepted}
use Rattle.sim_partition.proofs.partition.Partition.least_due.Goals as goal

pub returns-clause-moves_on : goal.returns-clause-moves_on
returns-clause-moves_on g c =
    let i = c.self.inside in
    subst (λ v. IfOk v (All g.S.Site.conditions.Sound)) c.self.view_is (sound_accepted g.met.S.Site.laws i.inbox.items i.roster c.least_due-due.ensures.moves_on)

pub returns-clause-past : goal.returns-clause-past
returns-clause-past g c =
    let i = c.self.inside in
    subst (λ v. IfOk v (λ w. AreOfPast g.S.Site.conditions w (world_due g.S.Site.engine w))) c.self.view_is
    (past_accepted g.met.S.Site.laws i.inbox.items i.roster c.least_due-due.ensures.past c.self.invariant.past c.self.invariant.timely)

use Rattle.std.proofs.Common.{sym, ◌∙◌}
use Rattle.sim_partition.proofs.Spent.{due_now}
use Rattle.sim_partition.proofs.roster.Roster.least_due.Goals as goal

pub returns-clause-due : goal.returns-clause-due
returns-clause-due g c =
    c.least.ensures ∙ due_now g.S.Site.engine g.S.Site.conditions c.self.inside.spent c.self.inside.sites c.args.self.now (sym c.is_some.ensures ∙ c.if-is_some.false) c.self.invariant.0 c.self.view_is

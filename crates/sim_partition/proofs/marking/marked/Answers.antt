use Rattle.std.proofs.Common.{rules}
use Rattle.sim_index.proofs.Kept.{made_kept}
use Rattle.sim_partition.specs.Sites.{mark_of}
use Rattle.sim_partition.proofs.marking.marked.Goals as goal

pub returns-clause-marked : goal.returns-clause-marked
returns-clause-marked g c = made_kept (mark_of g.S.Site.engine) _ (λ site mark told. search rules) c.args.sites.items c.of.result c.of.ensures.values c.of.ensures.marks

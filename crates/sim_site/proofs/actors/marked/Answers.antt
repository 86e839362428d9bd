use Rattle.std.proofs.Common.{rules}
use Rattle.sim_index.proofs.Kept.{made_kept}
use Rattle.sim_site.specs.Marked.{wake_mark}
use Rattle.sim_site.proofs.actors.marked.Goals as goal

pub returns-clause-marked : goal.returns-clause-marked
returns-clause-marked c = made_kept wake_mark _ (λ actor mark told. search rules) c.args.actors.items c.of.result c.of.ensures.values c.of.ensures.marks

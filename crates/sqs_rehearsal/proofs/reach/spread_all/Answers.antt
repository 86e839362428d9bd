use Rattle.std.proofs.Common.{◌∙◌}
use Rattle.sqs_rehearsal.proofs.reach.spread_all.Goals as goal

pub loop-preserved : goal.loop-preserved
loop-preserved c = record {
  many = c.spread.ensures.many ∙ c.loop.invariant.many;
  fewer = λ n h. c.loop.invariant.fewer n (c.spread.ensures.fewer n h);
  needed = λ among none all. c.spread.ensures.needed among none (c.loop.invariant.needed among none all);
}

pub returns-clause-needed : goal.returns-clause-needed
returns-clause-needed c = λ among none all. c.spread.ensures.needed among none (c.loop.invariant.needed among none all)

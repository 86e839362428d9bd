use Rattle.sqs_rehearsal.proofs.Counters.{counted_run}
use Rattle.sqs_rehearsal.proofs.outcome.run_counted.Goals as goal

pub returns-clause-whole : goal.returns-clause-whole
returns-clause-whole c =
    counted_run c.args.scenario (λ v. v.items) _ _ _ c.run_alone.result c.requires.fresh c.report-1.given.1 c.run_alone.ensures.whole c.run_alone.ensures.counted

use Rattle.std.proofs.lemmas.Result.{IfOk-weaker}
use Rattle.sqs_rehearsal.proofs.Runs.{stands_alone, stands_once}
use Rattle.sqs_rehearsal.proofs.running.run_alone.Goals as goal

pub returns-clause-places : goal.returns-clause-places
returns-clause-places g c =
    IfOk-weaker c.run_gathered.result _ _
    (λ sites there r is. (stands_once c.args.scenario r there is, stands_alone c.args.scenario r there is))
    c.run_gathered.ensures.has_queues

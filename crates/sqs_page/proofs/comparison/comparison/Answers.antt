use Rattle.std.proofs.Common.{rules}
use Rattle.sim_records.specs.Writers.{has_failed, inner_of}
use Rattle.sqs_page.proofs.Compared.{compared}
use Rattle.sqs_page.proofs.comparison.comparison.Goals as goal

pub returns-in-Ok-clause-written : goal.returns-in-Ok-clause-written
returns-in-Ok-clause-written c =
    rw c.into_inner.ensures (compared c.args.newest c.args.first.now c.args.second.now c.args.scripts.now c.in_ok-first.first c.in_ok-first.second
    c.in_ok-first.ensures.first c.in_ok-first.ensures.second c.in_ok-first-2.first c.in_ok-first-2.second
    c.in_ok-first-2.ensures.first c.in_ok-first-2.ensures.second (inner_of c.new-output.result).items (inner_of c.compare.new.out).items
    (has_failed c.compare.new.out) (search rules) c.in-Ok.ensures.written)

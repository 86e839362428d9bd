use Rattle.std.proofs.Common.{arith, length, rules, tests, ◌+◌}
use Rattle.std.proofs.lemmas.Iterator.{YieldsList-from_range, YieldsList-from_slice, YieldsList-from_zip}
use Rattle.std.proofs.lemmas.Iterator.Consumers.{YieldsList-at, YieldsList-from_filter, map_from_collect}
use Rattle.sqs_rehearsal.proofs.Spreading.{numbered}
use Rattle.sqs_rehearsal.proofs.alike.actors_at.Goals as goal

pub returns : goal.returns
returns c =
    let n = length c.args.scenario.now.queues in
    let xs = c.args.scenario.now.actors in
    rw (← numbered n xs) (map_from_collect _ c.collect.ensures.ran (YieldsList-from_filter _ _ (YieldsList-at c.filter.ensures.source (YieldsList-from_zip (YieldsList-from_range n (n + length xs) (length xs) (search rules) (omega arith)) (YieldsList-from_slice xs (search rules)))) c.filter.ensures.closure (λ x r q k. search (rules, tests))))

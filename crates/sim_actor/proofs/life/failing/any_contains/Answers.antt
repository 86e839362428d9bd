use Rattle.std.proofs.Common.{rules, tests}
use Rattle.std.proofs.lemmas.Iterator.Consumers.{YieldsList-from_deque}
use Rattle.std.proofs.lemmas.Iterator.Search.{any_from_yields_List}
use Rattle.sqs_message.specs.Bodies.{contains}
use Rattle.sim_actor.proofs.life.failing.any_contains.Goals as goal

pub returns : goal.returns
returns c =
    any_from_yields_List (λ g. contains c.args.part.now g.body) _ _ _ c.any.ensures.ran (YieldsList-from_deque _ c.held.ensures.list) (λ x r q k. search (rules, tests))

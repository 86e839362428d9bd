use Rattle.std.proofs.Common.{List, None, [], false, refl, sym, ◌∷◌, ◌≡◌}
use Rattle.std.specs.List.{list_any}
use Rattle.sqs_model.specs.Actor.{at_stake, is_poison}
use Rattle.sqs_redrive.specs.declared.answers.Got.{Got}
use Rattle.sim_actor.proofs.life.failing.fails.Goals as goal

-- without a text no message is one that a consumer fails to serve
none_is_poison : (gs : List Got) → list_any (λ g. is_poison None g.body) gs ≡ false
none_is_poison [] = refl
none_is_poison (g ∷ gs) = none_is_poison gs

pub returns-in_default : goal.returns-in_default
returns-in_default c = rw (c.if-by_chance.false, c.in_default.is) (sym (none_is_poison (at_stake c.args.consumer.now.serving c.args.consumer.now.whole c.args.holding.now.held)))

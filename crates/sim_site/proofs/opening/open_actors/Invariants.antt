use Rattle.std.proofs.Common.{◌≡◌, ◌++◌, map}
use Rattle.std.specs.Prelude.{All}
use Rattle.sim_actor.specs.Lives.{IsRole}
use Rattle.sqs_model.specs.Scenario.{opening_actor}
use Rattle.sim_site.proofs.opening.open_actors.Given as goal

-- those so far, and the rest
abbrev pub invariant-loop-number : goal.invariant-loop-number
invariant-loop-number l = record {
  opened : l.opened.items ≡ map (opening_actor l.seed) l.yielded;
  rest : l.yielded ++ l.number-iterator.rest.items ≡ l.fn.actors.items;
  roles : All (λ x. IsRole x.1.role) l.number-iterator.rest.items;
}

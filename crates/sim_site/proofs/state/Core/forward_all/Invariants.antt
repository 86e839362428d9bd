use Rattle.std.proofs.Common.{◌≡◌}
use Rattle.sqs_model.specs.Actor.{Actor}
use Rattle.sqs_model.specs.Acts.{forwards_made}
use Rattle.sim_site.specs.Effects.{GoesOn, Remains}
use Rattle.sim_site.proofs.state.Core.forward_all.Given as goal

-- those so far are sent
abbrev pub invariant-loop-transfer : goal.invariant-loop-transfer
invariant-loop-transfer l =
    record {
      on : GoesOn l.initial.handling l.handling;
      remains : (a : Actor) → a.number ≡ l.initial.handling.agent → Remains l.initial.handling.effects.now l.handling.effects.now (forwards_made l.initial.handling.key a l.id l.transfer-iterator.rest.items l.self) (forwards_made l.initial.handling.key a l.id l.fn.forwards l.self);
    }

use Rattle.std.proofs.Common.{length, ◌+◌, ◌≡◌}
use Rattle.sqs_model.specs.Site.{Core, number_of}
use Rattle.sqs_model.specs.Step.{moves}
use Rattle.sim_site.specs.Effects.{GoesOn}
use Rattle.sim_site.specs.Steps.{IsKept, MoveRemains}
use Rattle.sim_site.proofs.agents.Task.move_all.Given as goal

-- those so far are moved
abbrev pub invariant-loop-to : goal.invariant-loop-to
invariant-loop-to l =
    record {
      on : GoesOn l.initial.handling l.handling;
      moved : (c : Core) → number_of c ≡ l.site → MoveRemains l.initial.handling.effects.now l.handling.effects.now (moves l.initial.handling.key c l.self l.to-iterator.rest.items) (moves l.initial.handling.key c l.initial.self l.fn.loads.items);
      kept : IsKept l.initial.self l.self;
      counted : l.self.sent + length l.to-iterator.rest.items ≡ l.initial.self.sent + length l.fn.loads.items;
    }

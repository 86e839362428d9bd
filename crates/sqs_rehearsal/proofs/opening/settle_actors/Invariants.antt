use Rattle.sqs_model.specs.declared.agents.ActorSettings.{ActorSettings}
use Rattle.sqs_rehearsal.specs.Homes.{actors_in, tasks_in}
use Rattle.sqs_rehearsal.proofs.Openings.{Settling}
use Rattle.sqs_rehearsal.proofs.opening.settle_actors.Given as goal

abbrev pub invariant-loop-settings : goal.invariant-loop-settings
invariant-loop-settings l =
    Settling (λ (x : ActorSettings). x.home) actors_in tasks_in l.first l.number l.yielded l.settings-iterator.rest.items l.fn.actors.items l.initial.homes.items l.homes.items

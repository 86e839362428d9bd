use Rattle.sqs_redrive.specs.declared.settings.TaskSettings.{TaskSettings}
use Rattle.sqs_rehearsal.specs.Homes.{actors_in, tasks_in}
use Rattle.sqs_rehearsal.proofs.Openings.{Settling}
use Rattle.sqs_rehearsal.proofs.opening.settle_tasks.Given as goal

abbrev pub invariant-loop-settings : goal.invariant-loop-settings
invariant-loop-settings l =
    Settling (λ (x : TaskSettings). x.home) tasks_in actors_in l.first l.number l.yielded l.settings-iterator.rest.items l.fn.tasks.items l.initial.homes.items l.homes.items

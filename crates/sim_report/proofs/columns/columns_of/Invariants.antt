use Rattle.std.proofs.Common.{◌≡◌, List, take}
use Rattle.sqs_model.specs.declared.finals.FinalMessage.{FinalMessage}
use Rattle.sim_report.specs.Left.{lefts}
use Rattle.sim_report.specs.Running.{columns_of_all}
use Rattle.sim_report.proofs.columns.columns_of.Given as goal

abbrev pub invariant-loop-place : goal.invariant-loop-place
invariant-loop-place l = (messages : List FinalMessage) → l.left ≡ lefts l.queues messages → l.all.items ≡ take l.place (columns_of_all l.queues messages)

use Rattle.std.proofs.Common.{◌≡◌, take}
use Rattle.sim_report.specs.Running.{messages_added}
use Rattle.sim_report.proofs.left.count_messages.Given as goal

abbrev pub invariant-loop-message : goal.invariant-loop-message
invariant-loop-message l = l.left ≡ messages_added l.initial.left (take l.message-index l.messages)

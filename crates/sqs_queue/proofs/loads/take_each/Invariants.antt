use Rattle.sqs_model.specs.Task.{take_each}
use Rattle.sqs_queue.specs.Picked.{messages_of}
use Rattle.sqs_queue.proofs.Taking.{IsTaking}
use Rattle.sqs_queue.proofs.loads.take_each.Given as goal

-- what was taken so far, before what is taken
abbrev pub invariant-loop-number : goal.invariant-loop-number
invariant-loop-number l =
    let q = l.initial.messages in
    IsTaking (take_each q l.to (messages_of q.records l.numbers)) q.site l.to l.numbers l.number-index l.messages l.loads.items

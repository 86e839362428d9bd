use Rattle.std.proofs.Common.{arith, ◌∙◌, ap, List}
use Rattle.std.proofs.lemmas.Grind.{common_steps}
use Rattle.sim_report.specs.declared.left.Left.{Left}
use Rattle.sim_report.specs.Running.{messages_added}
use Rattle.sim_report.proofs.Groups.{lefts-append, written_back}
use Rattle.sim_report.proofs.left.MessagesLeft.add.Goals as goal

pub returns : goal.returns
returns c = λ queues before is.
    let messages = c.args.messages.now in
    let left = c.self.inside.queues in
    let all = written_back left.len c.count_messages.new.left left.items (grind (arith, common_steps)) (grind (arith, common_steps)) in
    let start = c.as_mut_slice.ensures.value ∙ c.self.view_is ∙ is in
    let added = ap (λ (ls : List Left). messages_added ls messages) start ∙ lefts-append queues before messages in
    rw all (rw added at c.count_messages.ensures)

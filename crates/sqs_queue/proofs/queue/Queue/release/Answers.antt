use Rattle.std.proofs.Common.{None, ap, sym, ◌∙◌}
use Rattle.sqs_model.specs.Queue.{Queue}
use Rattle.sqs_model.specs.Return.{leaves, released, visible_again}
use Rattle.sqs_messages.specs.Slots.{restated}
use Rattle.sqs_queue.proofs.Coming.{change_as, released_visible}
use Rattle.sqs_queue.proofs.queue.Queue.release.Goals as goal

pub returns-then-not-is_spent-clause-answer : goal.returns-then-not-is_spent-clause-answer
returns-then-not-is_spent-clause-answer c =
    let q : Queue = c.self.inside.messages in
    let before : Queue = record q { entries = c.self.inside.entries } in
    let stays = sym c.is_spent.ensures ∙ c.if-not-is_spent.true in
    let put = c.put.ensures ∙ change_as q c.args.number (restated c.visible_again-state.result) visible_again c.in_ok-message.message.now (sym c.in_ok-message.ensures.found) c.visible_again-state.ensures.state in
    ap (λ (r : Queue). released r c.args.number) (sym c.self.view_is)
    ∙ released_visible before c.args.number c.in_ok-message.message.now (sym c.in_ok-message.ensures.found) (ap (λ s. leaves s.policy c.in_ok-message.message.now) (sym c.settings.ensures.value) ∙ stays)
    ∙ ap (λ (r : Queue). (record r { entries = c.self.inside.entries }, None)) (sym put)

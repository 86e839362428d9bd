use Rattle.std.proofs.Common.{◌≡◌, None, ap, sym, ◌∙◌}
use Rattle.std.proofs.lemmas.Bool.{eq-eqb, ne_eqb}
use Rattle.sqs_model.specs.Queue.{Queue, numbered}
use Rattle.sqs_model.specs.Receive.{received}
use Rattle.sqs_model.specs.Return.{released}
use Rattle.sqs_messages.specs.Slots.{restated}
use Rattle.sqs_queue.specs.Giving.{gives}
use Rattle.sqs_queue.proofs.Coming.{change_as, gives_back, gives_out}
use Rattle.sqs_queue.proofs.Giving.{gives_none}
use Rattle.sqs_queue.proofs.queue.Queue.give.Goals as goal

pub returns-in_err-message-clause-given : goal.returns-in_err-message-clause-given
returns-in_err-message-clause-given c =
    let none : numbered c.args.number c.args.self.now.records ≡ None = ap (λ (q : Queue). numbered c.args.number q.records) (sym c.self.view_is) ∙ sym c.in_err-message.ensures.found in
    gives_none c.args.self.now c.args.now c.args.timeout c.args.number none ∙ ap (λ o. (c.args.self.now, o)) (sym c.from_residual.ensures)

pub returns-then-timeout-eq0-clause-given : goal.returns-then-timeout-eq0-clause-given
returns-then-timeout-eq0-clause-given c =
    let q : Queue = c.self.inside.messages in
    let put = c.put.ensures ∙ change_as q c.args.number (restated c.received-state.result) (received c.args.now c.args.timeout) c.in_ok-message.message.now (sym c.in_ok-message.ensures.found) c.received-state.ensures.state in
    ap (λ (r : Queue). gives r c.args.now c.args.timeout c.args.number) (sym c.self.view_is)
    ∙ gives_back (record q { entries = c.self.inside.entries }) c.args.now c.args.timeout c.args.number (eq-eqb c.args.timeout 0 c.if-timeout-eq0.true)
    ∙ ap (λ (r : Queue). released (record r { entries = c.self.inside.entries }) c.args.number) (sym put)
    ∙ c.release.ensures.answer

pub returns-else-timeout-eq0-clause-given : goal.returns-else-timeout-eq0-clause-given
returns-else-timeout-eq0-clause-given c =
    let q : Queue = c.self.inside.messages in
    let put = c.put.ensures ∙ change_as q c.args.number (restated c.received-state.result) (received c.args.now c.args.timeout) c.in_ok-message.message.now (sym c.in_ok-message.ensures.found) c.received-state.ensures.state in
    ap (λ (r : Queue). gives r c.args.now c.args.timeout c.args.number) (sym c.self.view_is)
    ∙ gives_out (record q { entries = c.self.inside.entries }) c.args.now c.args.timeout c.args.number (ne_eqb c.args.timeout 0 c.if-timeout-eq0.false)
    ∙ ap (λ (r : Queue). (record r { entries = c.self.inside.entries }, None)) (sym put)

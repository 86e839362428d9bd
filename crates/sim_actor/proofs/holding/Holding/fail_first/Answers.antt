use Rattle.std.proofs.Common.{List, [], ap, arith, drop, length, ◌+◌, ◌∙◌, ◌≡◌}
use Rattle.std.proofs.lemmas.List.{length-drop}
use Rattle.sqs_redrive.specs.declared.answers.Got.{Got}
use Rattle.sim_actor.specs.Holdings.{Holding}
use Rattle.sim_actor.proofs.Batches.{one_failed}
use Rattle.sim_actor.proofs.holding.Holding.fail_first.Goals as goal

pub returns-then-self-len-clause-first : goal.returns-then-self-len-clause-first
returns-then-self-len-clause-first c got others held = rw (← c.self.view_is) (one_failed c.self.inside.failed c.self.inside.done c.self.inside.messages.items c.self.invariant got others (rw (← c.self.view_is) at held))

pub returns-then-self-len-clause-none : goal.returns-then-self-len-clause-none
returns-then-self-len-clause-none c none =
    let items : List Got = c.self.inside.messages.items in
    let gone : drop (c.self.inside.failed + c.self.inside.done) items ≡ [] = ap (λ (h : Holding). h.held) c.self.view_is ∙ none in
    absurd (omega (arith, ap length gone, length-drop (c.self.inside.failed + c.self.inside.done) items, c.self.inside.messages.ok.0, c.if-self-len.true))

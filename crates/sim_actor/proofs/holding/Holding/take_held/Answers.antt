use Rattle.std.proofs.Common.{Global, ap, arith, ℕ, ◌+◌, ◌≡◌}
use Rattle.std.specs.declared.collections.VecDeque.{VecDeque}
use Rattle.sqs_redrive.specs.declared.answers.Got.{Got}
use Rattle.sim_actor.proofs.Batches.{held_taken, on_none, popped}
use Rattle.sim_actor.proofs.holding.Holding.take_held.Goals as goal

pub returns-then-index-eq0 : goal.returns-then-index-eq0
returns-then-index-eq0 c =
    let n : ℕ = c.self.inside.failed + c.self.inside.done in
    let zero : n ≡ 0 = omega (arith, c.if-index-eq0.true) in
    let first = popped n c.self.inside.messages.items c.pop_front.result c.pop_front.new.self.items zero c.pop_front.ensures.items in
    rw (← c.self.view_is) (held_taken c.self.inside.failed c.self.inside.done c.self.inside.messages.items c.self.invariant _ c.pop_front.result c.pop_front.new.self.items c.self.inside.messages.ok.0 (rw zero c.pop_front.ensures.variant) first.0 first.1 first.2)

pub returns-else-index-eq0 : goal.returns-else-index-eq0
returns-else-index-eq0 c =
    rw (← c.self.view_is) (held_taken c.self.inside.failed c.self.inside.done c.self.inside.messages.items c.self.invariant _ c.remove.result c.remove.new.self.items c.self.inside.messages.ok.0 c.remove.ensures.variant c.remove.ensures.items c.remove.ensures.value (on_none c.remove.result (ap (λ (d : VecDeque Got Global). d.items)) c.remove.ensures.unchanged))

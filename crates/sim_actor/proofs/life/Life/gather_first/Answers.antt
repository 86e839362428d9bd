use Rattle.std.proofs.Common.{Bool, arith, false, nat_le, refl, true, ◌+◌, ◌||◌, ◌≡◌, ℕ}
use Rattle.sim_actor.proofs.life.Life.gather_first.Goals as goal

-- a time to gather of nothing is over
time_is_over : (now gather : ℕ) → gather ≡ 0 → nat_le (now + gather) now ≡ true
time_is_over now gather e = grind (arith, e)

is_over : (x y : Bool) → ((x || true) || y) ≡ true
is_over true y = refl
is_over false y = refl

pub returns-then-consumer-eq0-clause-decision : goal.returns-then-consumer-eq0-clause-decision
returns-then-consumer-eq0-clause-decision c s =
    let over = time_is_over c.args.now c.args.consumer.now.gather c.if-consumer-eq0.true in
    rw (← c.self.view_is, over, is_over _ _) (rw c.of.ensures at c.serve_batch.ensures.decision s)

pub returns-clause-decision : goal.returns-clause-decision
returns-clause-decision c s = rw (← c.self.view_is) (rw c.of.ensures at c.gather.ensures.decision s)

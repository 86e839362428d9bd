use Rattle.std.proofs.Common.{ap, ◌≡◌}
use Rattle.sim_actor.specs.Lives.{Life, last_act_of}
use Rattle.sim_actor.proofs.life.Life.scaler_wake.Goals as goal

pub returns-in-Some-clause-decision : goal.returns-in-Some-clause-decision
returns-in-Some-clause-decision c s =
    let last : last_act_of c.self.inside.last_act ≡ c.args.self.now.last_act = ap (λ (l : Life). l.last_act) c.self.view_is in
    let read = rw last at c.in-Some.ensures in
    rw (← read) (rw (c.count_wake.ensures, c.copies_by-copies.ensures, c.changed_at-changed.ensures, last) at c.scale_for.ensures.decision s)

pub returns-clause-decision : goal.returns-clause-decision
returns-clause-decision c s =
    let last : last_act_of c.self.inside.last_act ≡ c.args.self.now.last_act = ap (λ (l : Life). l.last_act) c.self.view_is in
    let read = rw last at c.in_default.ensures in
    rw (← read) (rw (c.count_wake.ensures, c.copies_by-copies.ensures, c.changed_at-changed.ensures, last) at c.read_visible.ensures.decision s)

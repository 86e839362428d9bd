use Rattle.std.proofs.Common.{refl}
use Rattle.sim_actor.proofs.life.Life.is_gathered.Goals as goal

pub returns-then-is_ready : goal.returns-then-is_ready
returns-then-is_ready c s =
    let ready = rw c.held_count-held.ensures at c.if-is_ready.ensures in
    rw (← c.self.view_is, ← ready) refl

pub returns : goal.returns
returns c s =
    let ready = rw c.held_count-held.ensures at c.if-is_ready.ensures in
    let again = rw (← c.self.view_is) at c.asks_again.ensures s in
    rw (c.has_come.ensures, ← c.self.view_is, again, ← ready) refl

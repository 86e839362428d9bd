use Rattle.std.proofs.Common.{subst, sym}
use Rattle.std.specs.Prelude.{IfSome}
use Rattle.sim_site.specs.Marked.{IsFirst}
use Rattle.sim_site.proofs.Marked.{marked_alike}
use Rattle.sim_site.proofs.Ordered.{rise_alike}
use Rattle.sim_site.proofs.actors.Actors.polled_at.Goals as goal

pub invariant_of-self : goal.invariant_of-self
invariant_of-self c =
    let told = c.self.inside.told in
    let after = c.counted_at.ensures in
    record {
      order = λ e. rise_alike c.self.inside.list.values c.counted_at.new.actors.values after.numbers (c.self.invariant.order e);
      first = subst (λ ns. IfSome told (IsFirst ns)) (sym after.numbers) c.self.invariant.first;
      marked = λ many. marked_alike told c.self.inside.list c.counted_at.new.actors after.marks after.wakes (c.self.invariant.marked many);
    }

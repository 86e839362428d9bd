use Rattle.std.proofs.Common.{ap, map, subst, sym, ◌∙◌}
use Rattle.sqs_model.specs.Actor.{Actor}
use Rattle.sim_clock.specs.Places.{Stands}
use Rattle.sqs_model.specs.Site.{is_actor}
use Rattle.sim_site.specs.Marked.{IsFirst}
use Rattle.sim_site.proofs.Firsts.{stands_first}
use Rattle.sim_site.proofs.Ordered.{rise_alike}
use Rattle.sim_site.proofs.actors.Actors.answered_at.Goals as goal

pub invariant_of-self : goal.invariant_of-self
invariant_of-self c =
    let old = c.self.inside.list.values in
    let numbers = c.answered_at.ensures.numbers ∙ ap (map (λ (a : Actor). a.number)) c.turn_to.ensures.values in
    let stands = subst (λ xs. Stands (is_actor c.args.number) xs c.args.place) (sym c.self.view_is) c.requires.place in
    record {
      order = λ e. rise_alike old c.answered_at.new.actors.values numbers (c.self.invariant.order e);
      first = subst (λ ns. IsFirst ns c.args.place) (sym numbers) (stands_first c.args.number old c.args.place stands);
      marked = λ many. c.answered_at.ensures.marked (c.turn_to.ensures.marked many);
    }

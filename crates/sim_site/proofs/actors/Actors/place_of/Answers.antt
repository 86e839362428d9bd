use Rattle.std.proofs.Common.{map, subst, sym, ◌∙◌}
use Rattle.std.specs.Prelude.{IfSome, List, MatchOption, Some}
use Rattle.sqs_model.specs.Actor.{Actor}
use Rattle.sim_clock.specs.Places.{IsAbsent, Stands}
use Rattle.sqs_model.specs.Site.{is_actor}
use Rattle.sim_site.specs.Marked.{IsFirst}
use Rattle.sim_site.proofs.Firsts.{first_found}
use Rattle.sim_site.proofs.actors.Actors.place_of.Goals as goal

pub returns-then-number : goal.returns-then-number
returns-then-number c =
    let first = subst (λ o. IfSome o (IsFirst (map (λ (a : Actor). a.number) c.self.inside.list.values))) c.in-Some.is c.self.invariant.first in
    let here = subst (λ xs. IsFirst (map (λ (a : Actor). a.number) xs) c.in-Some.place) (sym c.values.ensures.values) first in
    subst (λ (actors : List Actor). MatchOption (Some c.in-Some.place) (IsAbsent (is_actor c.args.number) actors) (Stands (is_actor c.args.number) actors)) (c.values.ensures.values ∙ c.self.view_is)
    (first_found c.args.number c.values.result.now c.in-Some.place c.index-values-place.result here c.index-values-place.is (sym c.number.ensures ∙ c.if-number.true))

use Rattle.std.proofs.Common.{ap, subst, sym, get_or, ◌-◌, ◌<◌, ◌∙◌, ◌≡◌}
use Rattle.std.proofs.lemmas.Bool.{ltb-true}
use Rattle.std.proofs.lemmas.List.{get_or_default}
use Rattle.sqs_model.specs.Actor.{Actor}
use Rattle.sim_site.proofs.Ordered.{number, number_here}
use Rattle.sim_site.proofs.actors.is_first_with.Goals as goal

pub returns-else-place-eq0 : goal.returns-else-place-eq0
returns-else-place-eq0 c = λ less.
    let xs = c.args.actors.now in
    let place = c.args.place in
    let before : Actor = c.index-actors-place-else-place-eq0.result in
    let below : (get_or xs (place - 1) before).number < c.args.number =
    subst (λ k. k < c.args.number) (c.number-else-place-eq0.ensures ∙ ap number c.index-actors-place-else-place-eq0.is) (ltb-true _ _ less) in
    let same = c.index-actors-place.is ∙ get_or_default xs place c.index-actors-place.result before c.requires.within in
    let here : (get_or xs place before).number ≡ c.args.number = sym (ap number same) ∙ sym c.number.ensures ∙ c.if-number.false in
    number_here c.args.number xs place before c.requires.within c.requires.order (λ e. below) here

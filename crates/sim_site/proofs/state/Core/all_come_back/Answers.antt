use Rattle.std.proofs.Common.{ap, drop, get_or, subst, ◌≡◌, ◌∙◌}
use Rattle.std.proofs.lemmas.List.{get_or_default}
use Rattle.sqs_redrive.specs.declared.answers.Got.{Got}
use Rattle.sqs_model.specs.Acts.{all_came_back, came_back}
use Rattle.sqs_model.specs.Limits.{PassesCount}
use Rattle.sqs_model.specs.Site.{Effect}
use Rattle.sim_site.proofs.Limiting.{back_one_limited}
use Rattle.sim_site.proofs.Passing.{passes_rest, stops_up}
use Rattle.sim_site.proofs.state.Core.all_come_back.Goals as goal

pub returns-in_err-came_back : goal.returns-in_err-came_back
returns-in_err-came_back c =
    let now = c.loop-i in
    let handling = c.args.handling.now in
    let d : Got = c.index-gots-i-in-loop-i.result in
    let g : Got = get_or c.args.gots.now now.i d in
    let whole : Effect = all_came_back handling.key c.args.gots.now c.args.self.now in
    let rest : Effect = all_came_back handling.key (drop now.i c.args.gots.now) now.self in
    let left : c.in_ok-left.left ≡ g.left = c.in_ok-left.ensures ∙ c.load.ensures ∙ ap (λ (x : Got). x.left) (get_or_default c.args.gots.now now.i c.index-gots-i.result d c.loop-i-test.true) in
    stops_up _ _ (PassesCount whole) c.from_residual-in_err-came_back.result c.in_err-came_back.field-0.0 c.from_residual-in_err-came_back.ensures.1
    (λ h. passes_rest handling.effects.now now.handling.effects.now rest whole now.invariant.remains
    (back_one_limited handling.key c.args.gots.now now.i d now.self c.loop-i-test.true
    (subst (λ l. PassesCount (came_back handling.key now.self g.id.number l)) left (subst (λ k. PassesCount (came_back k now.self g.id.number c.in_ok-left.left)) now.invariant.on.key h))))
    c.in_err-came_back.ensures

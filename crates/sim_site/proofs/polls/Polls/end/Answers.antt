use Rattle.std.proofs.Common.{List, ap, subst, ◌∙◌, ◌≡◌}
use Rattle.sim_clock.specs.Firsts.{without}
use Rattle.sqs_model.specs.Site.{Poll}
use Rattle.sqs_model.specs.Step.{ends_at}
use Rattle.sim_site.specs.Marked.{waiting}
use Rattle.sim_site.proofs.Ending.{end_absent, end_leaves, end_one, leaves_waiting, one_counted}
use Rattle.sim_site.proofs.polls.Polls.end.Goals as goal

pub returns-in_default : goal.returns-in_default
returns-in_default c =
    subst (λ (ps : List Poll). ps ≡ without (ends_at c.args.key) ps) c.self.view_is (end_absent c.args.key c.self.inside.places.values c.in_default.ensures)

pub overflow_sub-self : goal.overflow_sub-self
overflow_sub-self c =
    one_counted c.self.inside.places c.in-Some.place c.self.inside.count c.self.invariant (end_one c.args.key c.self.inside.places.values c.in-Some.place c.in-Some.ensures)

pub returns : goal.returns
returns c =
    c.forget_empty.ensures.same ∙ ap waiting c.leave.ensures.left ∙ end_leaves c.args.key c.self.inside.places.values c.in-Some.place c.in-Some.ensures ∙ ap (λ ps. without (ends_at c.args.key) ps) c.self.view_is

pub forget_empty-requires : goal.forget_empty-requires
forget_empty-requires c =
    leaves_waiting c.self.inside.places c.leave.new.places c.in-Some.place c.self.inside.count c.self.invariant (end_one c.args.key c.self.inside.places.values c.in-Some.place c.in-Some.ensures) c.leave.ensures.left c.leave.ensures.marked

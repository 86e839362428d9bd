use Rattle.std.proofs.Common.{ap, drop, ◌∙◌}
use Rattle.sim_site.specs.Marked.{waiting}
use Rattle.sim_site.proofs.Ending.{first_leaves, first_one, leaves_waiting, one_counted}
use Rattle.sim_site.proofs.polls.Polls.drop_first.Goals as goal

pub overflow_sub-self : goal.overflow_sub-self
overflow_sub-self c =
    one_counted c.self.inside.places c.in-Some.place c.self.inside.count c.self.invariant (first_one c.self.inside.places.values c.in-Some.place c.in-Some.ensures)

pub returns : goal.returns
returns c =
    c.forget_empty.ensures.same ∙ ap waiting c.leave.ensures.left ∙ first_leaves c.self.inside.places.values c.in-Some.place c.in-Some.ensures ∙ ap (drop 1) c.self.view_is

pub forget_empty-requires : goal.forget_empty-requires
forget_empty-requires c =
    leaves_waiting c.self.inside.places c.leave.new.places c.in-Some.place c.self.inside.count c.self.invariant (first_one c.self.inside.places.values c.in-Some.place c.in-Some.ensures) c.leave.ensures.left c.leave.ensures.marked

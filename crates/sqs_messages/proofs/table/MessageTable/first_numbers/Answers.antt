use Rattle.std.proofs.Common.{[], ap, arith, filter, map, subst, take, ◌∙◌}
use Rattle.std.specs.Prelude.{min}
use Rattle.std.proofs.Math.Nat.{min-le_left, min-le_right}
use Rattle.sim_index.specs.Marks.{meets}
use Rattle.std.proofs.lemmas.Result.{IfOk-weaker}
use Rattle.sqs_model.specs.Available.{available, by_group, open_from}
use Rattle.sqs_model.specs.Progress.{Ascends}
use Rattle.sqs_model.specs.Queue.{Queue}
use Rattle.sqs_messages.proofs.Few.{few_visible}
use Rattle.sqs_messages.proofs.Grouped.{told_ascends}
use Rattle.sqs_messages.proofs.Orders.{first_by, first_of_groups}
use Rattle.sqs_messages.specs.Heads.{told}
use Rattle.sqs_messages.specs.Orders.{AreInOrder, IsOrderOf}
use Rattle.sqs_messages.specs.Slots.{number_of}
use Rattle.sqs_messages.proofs.table.MessageTable.first_numbers.Goals as goal

pub returns-in-Hosts-clause-numbers : goal.returns-in-Hosts-clause-numbers
returns-in-Hosts-clause-numbers c =
    let inside = c.self.inside in
    IfOk-weaker c.choose.result _ _
    (λ v e. e
    ∙ ap (λ k. map number_of (take k (filter (λ s. meets c.args.hosts s.mark) inside.shelf.items))) (c.min-most.ensures ∙ ap (min c.args.most) c.counts.ensures.visible)
    ∙ first_by inside.settings.kind c.in-Hosts.field-0 c.args.hosts c.args.most inside.shelf.items (subst (IsOrderOf inside.settings.kind) c.in-Hosts.is c.self.invariant.order_of) (subst (AreInOrder inside.shelf.items inside.shelf.next) c.in-Hosts.is c.self.invariant.ordered)
    ∙ ap (λ (q : Queue). map (λ m. m.number) (take c.args.most (available q c.args.hosts))) c.self.view_is)
    c.choose.ensures.numbers

pub returns-in-Hosts-clause-looked : goal.returns-in-Hosts-clause-looked
returns-in-Hosts-clause-looked c =
    IfOk-weaker c.choose.result _ _
    (λ v l. omega (arith, l, c.min-most.ensures, min-le_left c.args.most c.counts.result.visible))
    c.choose.ensures.looked

pub choose-requires-in-Groups-clause-range : goal.choose-requires-in-Groups-clause-range
choose-requires-in-Groups-clause-range c =
    let few = few_visible c.self.inside.shelf.next c.self.inside.shelf.items c.number-next.ensures.ordered c.number-next.ensures.below in
    omega (arith, few, c.counts.ensures.visible, c.min-most.ensures, min-le_right c.args.most c.counts.result.visible, c.self.invariant.arrivals_in_range)

pub returns-in-Groups-clause-numbers : goal.returns-in-Groups-clause-numbers
returns-in-Groups-clause-numbers c =
    let inside = c.self.inside in
    let records = told inside.shelf.items in
    IfOk-weaker c.choose-in-Groups.result _ _
    (λ v e. e
    ∙ ap (λ k. map (λ m. m.number) (take k (by_group (open_from records [] records)))) (c.min-most.ensures ∙ ap (min c.args.most) c.counts.ensures.visible)
    ∙ first_of_groups inside.settings.kind c.in-Groups.groups c.args.hosts c.args.most inside.shelf.items (subst (IsOrderOf inside.settings.kind) c.in-Groups.is c.self.invariant.order_of) c.number-next.ensures.ordered
    ∙ ap (λ (q : Queue). map (λ m. m.number) (take c.args.most (available q c.args.hosts))) c.self.view_is)
    c.choose-in-Groups.ensures.numbers

pub returns-in-Hosts-clause-ordered : goal.returns-in-Hosts-clause-ordered
returns-in-Hosts-clause-ordered c = subst (λ (q : Queue). Ascends (λ m. m.number) 0 q.records) c.self.view_is (told_ascends 0 c.self.inside.shelf.items c.number-next.ensures.ordered)

pub returns-in-Groups-clause-ordered : goal.returns-in-Groups-clause-ordered
returns-in-Groups-clause-ordered c = subst (λ (q : Queue). Ascends (λ m. m.number) 0 q.records) c.self.view_is (told_ascends 0 c.self.inside.shelf.items c.number-next.ensures.ordered)

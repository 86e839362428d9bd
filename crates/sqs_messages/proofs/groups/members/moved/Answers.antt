use Rattle.std.proofs.Common.{◌≡◌, ◌+◌, ◌<◌, ◌≤◌, ◌^◌, ap, get_or, subst, sym, ◌∙◌}
use Rattle.std.specs.Prelude.{All}
use Rattle.sqs_messages.specs.Slots.{held}
use Rattle.sqs_messages.specs.Groups.{Kept, bit, group_at, kept}
use Rattle.sqs_messages.proofs.Places.{group_at_is, group_other, group_same}
use Rattle.sqs_messages.proofs.groups.members.moved.Goals as goal

pub counted-members-requires-clause-less : goal.counted-members-requires-clause-less
counted-members-requires-clause-less c e =
    subst (λ (k : Kept). 1 ≤ k.out) (group_at_is c.args.groups.now c.args.index c.index-groups-index.result c.requires.index) (c.requires.less e)

pub counted-members-requires-clause-room : goal.counted-members-requires-clause-room
counted-members-requires-clause-room c e f =
    subst (λ (k : Kept). k.out + 1 < 2 ^ 64) (group_at_is c.args.groups.now c.args.index c.index-groups-index.result c.requires.index) (c.requires.room e f)

pub returns-clause-others : goal.returns-clause-others
returns-clause-others c j n = group_other c.args.groups.now c.args.index j c.refresh.new.members n

pub returns-clause-out : goal.returns-clause-out
returns-clause-out c =
    ap (λ (k : Kept). k.out + bit c.args.was) (group_same c.args.groups.now c.args.index c.refresh.new.members c.requires.index)
    ∙ ap (λ n. n + bit c.args.was) c.refresh.ensures.out
    ∙ c.counted-members.ensures
    ∙ ap (λ (k : Kept). k.out + bit c.args.is) (sym (group_at_is c.args.groups.now c.args.index c.index-groups-index.result c.requires.index))

pub returns-clause-held : goal.returns-clause-held
returns-clause-held c =
    ap (λ (k : Kept). held c.args.shelf.now.items k.numbers) (group_same c.args.groups.now c.args.index c.refresh.new.members c.requires.index)
    ∙ c.refresh.ensures.held
    ∙ ap (λ (k : Kept). held c.args.shelf.now.items k.numbers) (sym (group_at_is c.args.groups.now c.args.index c.index-groups-index.result c.requires.index))

pub returns-clause-below : goal.returns-clause-below
returns-clause-below c n h =
    subst (λ (k : Kept). All (λ i. i < n) k.numbers) (sym (group_same c.args.groups.now c.args.index c.refresh.new.members c.requires.index))
    (c.refresh.ensures.below n (subst (λ (k : Kept). All (λ i. i < n) k.numbers) (group_at_is c.args.groups.now c.args.index c.index-groups-index.result c.requires.index) h))

pub returns-clause-led : goal.returns-clause-led
returns-clause-led c g led listed count =
    let read : group_at c.args.groups.now c.args.index ≡ kept (get_or c.args.groups.now c.args.index c.index-groups-index.result) = group_at_is c.args.groups.now c.args.index c.index-groups-index.result c.requires.index in
    c.refresh.ensures.led g led (ap (λ (k : Kept). held c.args.shelf.now.items k.numbers) (sym read) ∙ listed)
    (sym c.refresh.ensures.out ∙ ap (λ (k : Kept). k.out) (sym (group_same c.args.groups.now c.args.index c.refresh.new.members c.requires.index)) ∙ count)

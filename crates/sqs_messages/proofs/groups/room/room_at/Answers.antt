use Rattle.std.proofs.Common.{◌<◌, ap, get_or, subst, sym, ◌∙◌}
use Rattle.std.specs.Prelude.{All}
use Rattle.sqs_messages.specs.declared.groups.members.Members.{Members}
use Rattle.sqs_messages.specs.Groups.{Kept}
use Rattle.sqs_messages.specs.Slots.{held}
use Rattle.sqs_messages.proofs.Places.{group_at_is, group_other, group_same}
use Rattle.sqs_messages.proofs.groups.room.room_at.Goals as goal

pub returns-clause-others : goal.returns-clause-others
returns-clause-others c j n =
    let y : Members = record { numbers = c.room_in.new.numbers; out = (get_or c.args.groups.now c.args.place c.index-groups-place.result).out } in
    group_other c.args.groups.now c.args.place j y n

pub returns-clause-out : goal.returns-clause-out
returns-clause-out c =
    let y : Members = record { numbers = c.room_in.new.numbers; out = (get_or c.args.groups.now c.args.place c.index-groups-place.result).out } in
    ap (λ (k : Kept). k.out) (group_same c.args.groups.now c.args.place y c.requires)
    ∙ ap (λ (k : Kept). k.out) (sym (group_at_is c.args.groups.now c.args.place c.index-groups-place.result c.requires))

pub returns-clause-held : goal.returns-clause-held
returns-clause-held c =
    let y : Members = record { numbers = c.room_in.new.numbers; out = (get_or c.args.groups.now c.args.place c.index-groups-place.result).out } in
    ap (λ (k : Kept). held c.args.shelf.now.items k.numbers) (group_same c.args.groups.now c.args.place y c.requires)
    ∙ c.room_in.ensures.held
    ∙ ap (λ (k : Kept). held c.args.shelf.now.items k.numbers) (sym (group_at_is c.args.groups.now c.args.place c.index-groups-place.result c.requires))

pub returns-clause-below : goal.returns-clause-below
returns-clause-below c n h =
    let y : Members = record { numbers = c.room_in.new.numbers; out = (get_or c.args.groups.now c.args.place c.index-groups-place.result).out } in
    subst (λ (k : Kept). All (λ i. i < n) k.numbers) (sym (group_same c.args.groups.now c.args.place y c.requires))
    (c.room_in.ensures.below n (subst (λ (k : Kept). All (λ i. i < n) k.numbers) (group_at_is c.args.groups.now c.args.place c.index-groups-place.result c.requires) h))

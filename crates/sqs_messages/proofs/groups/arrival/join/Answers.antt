use Rattle.std.proofs.Common.{◌≡◌, ◌+◌, ◌<◌, ◌^◌, ap, arith, get_or, refl, set, subst, sym, true, ◌∙◌}
use Rattle.std.specs.Prelude.{All}
use Rattle.sqs_messages.specs.Slots.{held}
use Rattle.sqs_messages.specs.declared.groups.members.Members.{Members}
use Rattle.sqs_messages.specs.Groups.{Kept, bit, group_at}
use Rattle.sqs_messages.proofs.Joined.{numbered_at, with_number}
use Rattle.sqs_messages.proofs.Places.{group_other}
use Rattle.sqs_messages.proofs.groups.arrival.join.Goals as goal

pub moved-requires-clause-room : goal.moved-requires-clause-room
moved-requires-clause-room c e f =
    let y : Members = record { numbers = c.push_back_reserved.new.self; out = (get_or c.args.groups.now c.args.place c.index-groups-place.result).out } in
    let at : group_at (set c.args.groups.now c.args.place y) c.args.place ≡ with_number true c.args.number (group_at c.args.groups.now c.args.place) =
    numbered_at c.args.groups.now c.args.place c.args.number c.index-groups-place.result y c.requires.place c.push_back_reserved.ensures.items refl in
    subst (λ (k : Kept). k.out + 1 < 2 ^ 64) (sym at) (c.requires.count f)

pub returns-clause-others : goal.returns-clause-others
returns-clause-others c j n =
    let y : Members = record { numbers = c.push_back_reserved.new.self; out = (get_or c.args.groups.now c.args.place c.index-groups-place.result).out } in
    c.moved.ensures.others j n ∙ group_other c.args.groups.now c.args.place j y n

pub returns-clause-out : goal.returns-clause-out
returns-clause-out c =
    let y : Members = record { numbers = c.push_back_reserved.new.self; out = (get_or c.args.groups.now c.args.place c.index-groups-place.result).out } in
    let at : group_at (set c.args.groups.now c.args.place y) c.args.place ≡ with_number true c.args.number (group_at c.args.groups.now c.args.place) =
    numbered_at c.args.groups.now c.args.place c.args.number c.index-groups-place.result y c.requires.place c.push_back_reserved.ensures.items refl in
    omega (arith, c.moved.ensures.out, ap (λ (k : Kept). k.out + bit c.args.is_out) at)

pub returns-clause-held : goal.returns-clause-held
returns-clause-held c =
    let y : Members = record { numbers = c.push_back_reserved.new.self; out = (get_or c.args.groups.now c.args.place c.index-groups-place.result).out } in
    let at : group_at (set c.args.groups.now c.args.place y) c.args.place ≡ with_number true c.args.number (group_at c.args.groups.now c.args.place) =
    numbered_at c.args.groups.now c.args.place c.args.number c.index-groups-place.result y c.requires.place c.push_back_reserved.ensures.items refl in
    c.moved.ensures.held ∙ ap (λ (k : Kept). held c.args.shelf.now.items k.numbers) at

pub returns-clause-below : goal.returns-clause-below
returns-clause-below c n h =
    let y : Members = record { numbers = c.push_back_reserved.new.self; out = (get_or c.args.groups.now c.args.place c.index-groups-place.result).out } in
    let at : group_at (set c.args.groups.now c.args.place y) c.args.place ≡ with_number true c.args.number (group_at c.args.groups.now c.args.place) =
    numbered_at c.args.groups.now c.args.place c.args.number c.index-groups-place.result y c.requires.place c.push_back_reserved.ensures.items refl in
    c.moved.ensures.below n (subst (λ (k : Kept). All (λ i. i < n) k.numbers) (sym at) h)

pub returns-clause-led : goal.returns-clause-led
returns-clause-led c g led listed count =
    let y : Members = record { numbers = c.push_back_reserved.new.self; out = (get_or c.args.groups.now c.args.place c.index-groups-place.result).out } in
    let at : group_at (set c.args.groups.now c.args.place y) c.args.place ≡ with_number true c.args.number (group_at c.args.groups.now c.args.place) =
    numbered_at c.args.groups.now c.args.place c.args.number c.index-groups-place.result y c.requires.place c.push_back_reserved.ensures.items refl in
    c.moved.ensures.led g led (ap (λ (k : Kept). held c.args.shelf.now.items k.numbers) at ∙ listed) count

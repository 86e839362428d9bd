use Rattle.std.proofs.Common.{arith}
use Rattle.std.proofs.lemmas.List.{with_items_is}
use Rattle.sqs_messages.proofs.Gone.{relisted_back}
use Rattle.sqs_messages.proofs.Tables.{roomed}
use Rattle.sqs_messages.proofs.groups.room.room_for.Goals as goal

pub returns-in_err-place-clause-grouped : goal.returns-in_err-place-clause-grouped
returns-in_err-place-clause-grouped c = roomed _ _ _ _ _ _ c.requires c.place_for.ensures.same c.place_for.ensures.places c.place_for.ensures.groups

pub returns-in_err-room_at-clause-grouped : goal.returns-in_err-room_at-clause-grouped
returns-in_err-room_at-clause-grouped c =
    relisted_back _ _ _ _ _ _ _ _ (roomed _ _ _ _ _ _ c.requires c.place_for.ensures.same c.place_for.ensures.places c.place_for.ensures.groups) c.as_mut_slice-groups.ensures.value
    (with_items_is c.place_for.new.groups c.room_at.new.groups (omega (arith, c.room_at.ensures.len, c.as_mut_slice-groups.ensures.len))) c.room_at.ensures.len c.room_at.ensures.others c.room_at.ensures.out c.room_at.ensures.held c.room_at.ensures.below

pub returns-clause-grouped : goal.returns-clause-grouped
returns-clause-grouped c =
    relisted_back _ _ _ _ _ _ _ _ (roomed _ _ _ _ _ _ c.requires c.place_for.ensures.same c.place_for.ensures.places c.place_for.ensures.groups) c.as_mut_slice-groups.ensures.value
    (with_items_is c.place_for.new.groups c.room_at.new.groups (omega (arith, c.room_at.ensures.len, c.as_mut_slice-groups.ensures.len))) c.room_at.ensures.len c.room_at.ensures.others c.room_at.ensures.out c.room_at.ensures.held c.room_at.ensures.below

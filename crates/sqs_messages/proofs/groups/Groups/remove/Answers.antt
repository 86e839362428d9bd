use Rattle.std.proofs.Common.{◌≡◌, List, ap, arith, false, subst, sym, ◌∙◌}
use Rattle.std.specs.Prelude.{find}
use Rattle.std.proofs.lemmas.List.{with_items_is}
use Rattle.sim_clock.specs.Firsts.{without}
use Rattle.sim_clock.proofs.Lists.{absent_without}
use Rattle.sqs_model.specs.Queue.{is_in_flight}
use Rattle.sqs_messages.proofs.Calls.{out_some, placed_kept, removed_grouped, removed_led}
use Rattle.sqs_messages.proofs.Firsts.{none_of}
use Rattle.sqs_messages.proofs.Led.{all_without}
use Rattle.sqs_messages.proofs.Moved.{member, settle_here, stood, written_back}
use Rattle.sqs_messages.proofs.Settled.{IsSettled}
use Rattle.sqs_messages.specs.Groups.{AreInGroups, IsPlaceOf, group_by, in_flight_at}
use Rattle.sqs_messages.specs.Slots.{Shelved, is_numbered, message_and_group}
use Rattle.sqs_messages.proofs.groups.Groups.remove.Goals as goal

pub returns-in_err-message-clause-grouped : goal.returns-in_err-message-clause-grouped
returns-in_err-message-clause-grouped c =
    let items = c.args.shelf.now.items in
    let names = c.args.self.now.names.keys in
    let members = c.args.self.now.members.items in
    let same : c.remove.new.self.items ≡ items = c.in_err-message.ensures.items ∙ absent_without (is_numbered c.args.number) items (none_of message_and_group (find (is_numbered c.args.number) items) c.in_err-message.ensures.found) in
    subst (λ n. AreInGroups c.remove.new.self.items n names members) (sym c.in_err-message.ensures.next) (subst (λ (xs : List Shelved). AreInGroups xs c.args.shelf.now.next names members) (sym same) c.requires)

pub moved-requires-clause-index : goal.moved-requires-clause-index
moved-requires-clause-index c =
    (member _ _ _ _ _ _ _ _ c.as_mut_slice-groups.ensures.value c.requires (stood _ _ _ c.in_ok-message.ensures.found)).within

pub moved-requires-clause-less : goal.moved-requires-clause-less
moved-requires-clause-less c e =
    let m = member _ _ _ _ _ _ _ _ c.as_mut_slice-groups.ensures.value c.requires (stood _ _ _ c.in_ok-message.ensures.found) in
    out_some c.args.number c.args.shelf.now.next c.args.shelf.now.items m.shelved _ m.grouped m.found (ap in_flight_at m.is ∙ sym c.in_flight.ensures ∙ e)

pub returns-clause-grouped : goal.returns-clause-grouped
returns-clause-grouped c =
    let items = c.args.shelf.now.items in
    let names = c.args.self.now.names.keys in
    let groups = c.as_mut_slice-groups.result.now in
    let after = c.moved.new.groups in
    let m = member _ _ _ _ _ _ _ _ c.as_mut_slice-groups.ensures.value c.requires (stood _ _ _ c.in_ok-message.ensures.found) in
    let settled : IsSettled (without (is_numbered c.args.number) items) c.moved.new.shelf.items m.shelved.message.group (is_in_flight m.shelved.message) false (group_by names groups) (group_by names after) =
    settle_here _ _ names groups after _ _ _ c.remove.new.self.items _ _ _ _ m c.in_ok-message.ensures.items c.in_flight.ensures c.moved.ensures.kept c.moved.ensures.others c.moved.ensures.out c.moved.ensures.held c.moved.ensures.below c.moved.ensures.led in
    written_back _ _ _ _ _ _ (c.moved.ensures.next ∙ c.in_ok-message.ensures.next) (with_items_is c.args.self.now.members after (omega (arith, c.moved.ensures.len, c.as_mut_slice-groups.ensures.len)))
    (record {
      led = removed_led c.args.number c.args.shelf.now.next items m.shelved (group_by names groups) c.number-next.ensures.ordered m.found c.requires.led m.table.grouped c.moved.new.shelf.items (group_by names after) settled;
      placed = placed_kept names (without (is_numbered c.args.number) items) c.moved.new.shelf.items settled.kept (all_without (λ (x : Shelved). IsPlaceOf names x.message.group x.group) (is_numbered c.args.number) items m.table.placed);
      same = m.table.same ∙ sym c.moved.ensures.len;
      grouped = removed_grouped c.args.number c.args.shelf.now.next items m.shelved (group_by names groups) c.number-next.ensures.ordered m.found c.requires.led m.table.grouped c.moved.new.shelf.items (group_by names after) settled;
    })

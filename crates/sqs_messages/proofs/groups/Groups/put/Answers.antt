use Rattle.std.proofs.Common.{◌≡◌, List, ◌+◌, ◌≤◌, ap, arith, map, refl, subst, sym, ◌∙◌}
use Rattle.std.specs.Prelude.{find}
use Rattle.std.proofs.lemmas.List.{with_items_is}
use Rattle.sim_clock.specs.Firsts.{changed}
use Rattle.sim_index.specs.declared.mark.Mark.{Mark}
use Rattle.sqs_model.proofs.Counts.{changed_none}
use Rattle.sqs_model.specs.Queue.{is_in_flight}
use Rattle.sqs_messages.proofs.Calls.{changed_grouped, changed_led, out_room, out_some, placed_kept}
use Rattle.sqs_messages.proofs.Firsts.{none_of}
use Rattle.sqs_messages.proofs.Leads.{find_has}
use Rattle.sqs_messages.proofs.Led.{all_changed}
use Rattle.sqs_messages.proofs.Moved.{member, settle_here, written_back}
use Rattle.sqs_messages.proofs.Settled.{IsSettled}
use Rattle.sqs_messages.specs.Groups.{AreInGroups, IsPlaceOf, group_at, group_by, in_flight_at}
use Rattle.sqs_messages.specs.Marked.{restamped, unhosted}
use Rattle.sqs_messages.specs.Slots.{Shelved, is_numbered, place_and_group}
use Rattle.sqs_messages.proofs.groups.Groups.put.Goals as goal

pub returns-in_default-clause-grouped : goal.returns-in_default-clause-grouped
returns-in_default-clause-grouped c =
    let items = c.args.shelf.now.items in
    let names = c.args.self.now.names.keys in
    let members = c.args.self.now.members.items in
    let same : c.put.new.self.items ≡ items = c.in_default.ensures.items ∙ changed_none (is_numbered c.args.number) (restamped c.args.state c.args.due) items (none_of place_and_group (find (is_numbered c.args.number) items) c.in_default.ensures.found) in
    subst (λ n. AreInGroups c.put.new.self.items n names members) (sym c.in_default.ensures.next) (subst (λ (xs : List Shelved). AreInGroups xs c.args.shelf.now.next names members) (sym same) c.requires)

pub returns-in_default-clause-changed : goal.returns-in_default-clause-changed
returns-in_default-clause-changed c = ap (map unhosted) c.in_default.ensures.items

pub moved-requires-clause-index : goal.moved-requires-clause-index
moved-requires-clause-index c =
    (member _ _ _ _ _ _ _ _ c.as_mut_slice-groups.ensures.value c.requires c.in-Some.ensures.found).within

pub moved-requires-clause-less : goal.moved-requires-clause-less
moved-requires-clause-less c e =
    let m = member _ _ _ _ _ _ _ _ c.as_mut_slice-groups.ensures.value c.requires c.in-Some.ensures.found in
    out_some c.args.number c.args.shelf.now.next c.args.shelf.now.items m.shelved _ m.grouped m.found (ap in_flight_at m.is ∙ sym c.in_flight.ensures ∙ e)

pub moved-requires-clause-room : goal.moved-requires-clause-room
moved-requires-clause-room c e f =
    let m = member _ _ _ _ _ _ _ _ c.as_mut_slice-groups.ensures.value c.requires c.in-Some.ensures.found in
    let room : (group_at c.as_mut_slice-groups.result.now c.in-Some.place).out + 1 ≤ c.args.shelf.now.next =
    out_room c.args.number c.args.shelf.now.next c.args.shelf.now.items m.shelved c.args.state (record { due = c.args.due; flags = 0 }) _ m.grouped m.found
    (ap in_flight_at m.is ∙ sym c.in_flight.ensures ∙ e) (sym c.in_flight-2.ensures ∙ f) c.number-next.ensures.ordered c.number-next.ensures.below in
    omega (arith, room, c.number-next.ensures.value, c.number-next.type_inv)

pub returns-clause-grouped : goal.returns-clause-grouped
returns-clause-grouped c =
    let items = c.args.shelf.now.items in
    let names = c.args.self.now.names.keys in
    let groups = c.as_mut_slice-groups.result.now in
    let after = c.moved.new.groups in
    let mark : Mark = record { due = c.args.due; flags = 0 } in
    let m = member _ _ _ _ _ _ _ _ c.as_mut_slice-groups.ensures.value c.requires c.in-Some.ensures.found in
    let settled : IsSettled (changed (is_numbered c.args.number) (restamped c.args.state c.args.due) items) c.moved.new.shelf.items m.shelved.message.group (is_in_flight m.shelved.message) (in_flight_at c.args.state.place) (group_by names groups) (group_by names after) =
    subst (λ b. IsSettled (changed (is_numbered c.args.number) (restamped c.args.state c.args.due) items) c.moved.new.shelf.items m.shelved.message.group (is_in_flight m.shelved.message) b (group_by names groups) (group_by names after)) c.in_flight-2.ensures
    (settle_here _ _ names groups after _ _ _ c.put.new.self.items _ _ _ _ m c.in-Some.ensures.items c.in_flight.ensures c.moved.ensures.kept c.moved.ensures.others c.moved.ensures.out c.moved.ensures.held c.moved.ensures.below c.moved.ensures.led) in
    written_back _ _ _ _ _ _ (c.moved.ensures.next ∙ c.in-Some.ensures.next) (with_items_is c.args.self.now.members after (omega (arith, c.moved.ensures.len, c.as_mut_slice-groups.ensures.len)))
    (record {
      led = changed_led c.args.number c.args.shelf.now.next items m.shelved (group_by names groups) c.number-next.ensures.ordered m.found c.requires.led m.table.grouped c.args.state mark c.moved.new.shelf.items (group_by names after) refl settled;
      placed = placed_kept names (changed (is_numbered c.args.number) (restamped c.args.state c.args.due) items) c.moved.new.shelf.items settled.kept
          (all_changed (λ (x : Shelved). IsPlaceOf names x.message.group x.group) (is_numbered c.args.number) (restamped c.args.state c.args.due) items m.shelved m.found (find_has (λ (x : Shelved). IsPlaceOf names x.message.group x.group) (is_numbered c.args.number) items m.shelved m.table.placed m.found) m.table.placed);
      same = m.table.same ∙ sym c.moved.ensures.len;
      grouped = changed_grouped c.args.number c.args.shelf.now.next items m.shelved (group_by names groups) c.number-next.ensures.ordered m.found c.requires.led m.table.grouped c.args.state mark c.moved.new.shelf.items (group_by names after) settled;
    })

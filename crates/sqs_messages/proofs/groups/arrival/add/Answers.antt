use Rattle.std.proofs.Common.{◌≡◌, true, false, ◌++◌, ◌+◌, ◌<◌, ◌≤◌, ◌^◌, ◌∷◌, [], ap, arith, map, subst, sym, ◌∙◌}
use Rattle.std.proofs.lemmas.List.{map-append}
use Rattle.std.proofs.lemmas.List.Elements.{All-push}
use Rattle.sim_index.specs.Marks.{meets}
use Rattle.sqs_model.specs.Queue.{is_in_flight}
use Rattle.sqs_messages.specs.Groups.{AreGrouped, IsGrouped, IsPlaceOf, bit, group_at, group_by}
use Rattle.sqs_messages.specs.Heads.{begins, of_group, told}
use Rattle.sqs_messages.specs.Marked.{unhosted}
use Rattle.sqs_messages.specs.Slots.{Shelved, item_of}
use Rattle.sqs_messages.proofs.Calls.{placed_kept}
use Rattle.sqs_messages.proofs.Joined.{first_come, joined_grouped, joined_led, out_few}
use Rattle.sqs_messages.proofs.groups.arrival.add.Goals as goal

pub join-requires-clause-count : goal.join-requires-clause-count
join-requires-clause-count c t =
    let few : (group_by c.args.names.now.keys c.args.groups.now c.args.message.group).out ≤ c.args.shelf.now.next =
    out_few c.args.message.group c.args.shelf.now.next c.args.shelf.now.items (group_by c.args.names.now.keys c.args.groups.now c.args.message.group) (c.requires.grouped.grouped c.args.message.group) c.number-next.ensures.ordered c.number-next.ensures.below in
    subst (λ j. (group_at c.args.groups.now j).out + 1 < 2 ^ 64) (sym c.requires.place.at) (omega (arith, few, c.requires.range))

pub returns-clause-grouped : goal.returns-clause-grouped
returns-clause-grouped c =
    let s : Shelved = item_of (record { due = c.args.due; flags = c.hosts_at-hosts.result }) c.args.place c.args.message in
    let items = c.args.shelf.now.items in
    let names = c.args.names.now.keys in
    let groups = c.args.groups.now in
    let own : IsGrouped items c.args.shelf.now.next s.message.group (group_at groups c.args.place) =
    subst (λ j. IsGrouped items c.args.shelf.now.next s.message.group (group_at groups j)) (sym c.requires.place.at) (c.requires.grouped.grouped s.message.group) in
    let off : begins (of_group s.message.group (told (items ++ s ∷ []))) s.message ≡ false → meets 1 s.mark ≡ false = λ later.
    ap (λ hosts. meets 1 (item_of (record { due = c.args.due; flags = hosts }) c.args.place c.args.message).mark)
    (c.hosts_at-hosts.ensures (λ empty. let clash : true ≡ false = sym (first_come c.args.shelf.now.next items s (group_at groups c.args.place) own empty) ∙ later in cc)) in
    let out : (group_at c.join.new.groups c.args.place).out ≡ (group_at groups c.args.place).out + bit (is_in_flight s.message) =
    c.join.ensures.out ∙ ap (λ b. (group_at groups c.args.place).out + bit b) c.in_flight-is_out.ensures in
    record {
      led = joined_led names groups c.join.new.groups items c.push.new.self.items c.join.new.shelf.items c.args.shelf.now.next c.args.place s c.in-Ok.ensures.pushed c.requires.number c.requires.place.at c.requires.place.within c.number-next.ensures.below c.requires.grouped.led c.requires.grouped.grouped off
          c.join.ensures.kept c.join.ensures.others out c.join.ensures.held c.join.ensures.below c.join.ensures.led;
      placed = placed_kept names _ c.join.new.shelf.items (c.join.ensures.kept ∙ ap (map unhosted) c.in-Ok.ensures.pushed) (All-push (λ (x : Shelved). IsPlaceOf names x.message.group x.group) items s c.requires.grouped.placed c.requires.place);
      same = c.requires.grouped.same ∙ sym c.join.ensures.len;
      grouped = subst (λ n. AreGrouped c.join.new.shelf.items n names c.join.new.groups) (sym (c.join.ensures.next ∙ c.in-Ok.ensures.next))
          (joined_grouped names groups c.join.new.groups items c.push.new.self.items c.join.new.shelf.items c.args.shelf.now.next c.args.place s c.in-Ok.ensures.pushed c.requires.number c.requires.place.at c.requires.place.within c.number-next.ensures.below c.requires.grouped.led c.requires.grouped.grouped off
          c.join.ensures.kept c.join.ensures.others out c.join.ensures.held c.join.ensures.below c.join.ensures.led);
    }

pub returns-clause-added : goal.returns-clause-added
returns-clause-added c =
    let s : Shelved = item_of (record { due = c.args.due; flags = c.hosts_at-hosts.result }) c.args.place c.args.message in
    c.join.ensures.kept ∙ ap (map unhosted) c.in-Ok.ensures.pushed ∙ map-append unhosted c.args.shelf.now.items (s ∷ [])

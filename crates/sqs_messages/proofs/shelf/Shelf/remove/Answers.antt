use Rattle.std.proofs.Common.{ap, refl, sym, ◌∙◌}
use Rattle.std.specs.Prelude.{find}
use Rattle.std.specs.Option.{option_map}
use Rattle.sim_clock.specs.Firsts.{without}
use Rattle.sim_index.specs.Marks.{node, no_mark}
use Rattle.sqs_message.specs.declared.message.Message.{Message}
use Rattle.sqs_messages.specs.Counted.{counts_of}
use Rattle.sqs_messages.specs.Heads.{told}
use Rattle.sqs_messages.specs.Slots.{Holding, is_numbered, message_and_group, shelved}
use Rattle.sqs_messages.proofs.Counting.{out_is, some_out}
use Rattle.sqs_messages.proofs.Firsts.{none_find, none_without}
use Rattle.sqs_messages.proofs.Marked.{shown_with_group}
use Rattle.sqs_messages.proofs.Shelves.{found, none_numbered, removed_items, removed_shelf}
use Rattle.sqs_messages.proofs.shelf.Shelf.remove.Goals as goal

pub returns-in_err-place-clause-found : goal.returns-in_err-place-clause-found
returns-in_err-place-clause-found c =
    let list = c.self.inside.slots in
    let none = none_find (is_numbered c.args.number) (shelved list.values list.marks) (none_numbered c.self.invariant.places c.in_err-place.ensures c.values.ensures.values) in
    c.from_residual.ensures ∙ ap (option_map message_and_group) (sym none ∙ ap (λ (h : Holding). find (is_numbered c.args.number) h.items) c.self.view_is)

pub returns-in_err-place-clause-items : goal.returns-in_err-place-clause-items
returns-in_err-place-clause-items c =
    let list = c.self.inside.slots in
    let same = none_without (is_numbered c.args.number) (shelved list.values list.marks) (none_numbered c.self.invariant.places c.in_err-place.ensures c.values.ensures.values) in
    ap (λ (h : Holding). h.items) (sym c.self.view_is) ∙ sym same ∙ ap (λ (h : Holding). without (is_numbered c.args.number) h.items) c.self.view_is

pub count_out-requires : goal.count_out-requires
count_out-requires c =
    some_out c.self.invariant.places c.in_ok-place.ensures c.values.ensures.values c.value_mut-slot.ensures.value (ap (option_map (λ (m : Message). m.place)) (sym c.in-Some.is ∙ c.take.ensures.value)) c.self.invariant.counted

pub invariant_of-self : goal.invariant_of-self
invariant_of-self c =
    let h = c.self.invariant.places in
    let items = removed_items h c.in_ok-place.ensures c.values.ensures.values c.value_mut-slot.ensures.value no_mark refl refl c.set_mark.ensures c.take.ensures.after in
    record {
      in_range = c.self.invariant.in_range;
      places = removed_shelf h c.in_ok-place.ensures c.values.ensures.values c.value_mut-slot.ensures.value no_mark refl refl c.set_mark.ensures c.take.ensures.after refl;
      counted =
          out_is h c.in_ok-place.ensures c.values.ensures.values c.value_mut-slot.ensures.value (ap (option_map (λ (m : Message). m.place)) (sym c.in-Some.is ∙ c.take.ensures.value)) c.self.invariant.counted
          c.count_out.new.counts c.count_out.ensures
          ∙ ap (λ items. counts_of (told items)) (sym items);
    }

pub returns-clause-found : goal.returns-clause-found
returns-clause-found c =
    let list = c.self.inside.slots in
    shown_with_group c.value_mut-slot.result.now.message c.in-Some.message (node list.marks c.in_ok-place.place) c.value_mut-slot.result.now.group (sym c.in-Some.is ∙ c.take.ensures.value)
    ∙ ap (option_map message_and_group)
    (sym (found c.self.invariant.places c.in_ok-place.ensures c.values.ensures.values c.value_mut-slot.ensures.value) ∙ ap (λ (h : Holding). find (is_numbered c.args.number) h.items) c.self.view_is)

pub returns-clause-items : goal.returns-clause-items
returns-clause-items c =
    c.forget_empty.ensures.items
    ∙ removed_items c.self.invariant.places c.in_ok-place.ensures c.values.ensures.values c.value_mut-slot.ensures.value no_mark refl refl c.set_mark.ensures c.take.ensures.after
    ∙ ap (λ (h : Holding). without (is_numbered c.args.number) h.items) c.self.view_is

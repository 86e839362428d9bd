use Rattle.std.proofs.Common.{◌<◌, ap, arith, refl, sym, ◌∙◌}
use Rattle.std.specs.Option.{option_map}
use Rattle.std.specs.Prelude.{find}
use Rattle.sim_clock.specs.Firsts.{changed}
use Rattle.sim_index.specs.Marks.{node}
use Rattle.sqs_messages.specs.Counted.{count_at, counts_of}
use Rattle.sqs_messages.specs.Heads.{told}
use Rattle.sqs_messages.specs.Slots.{Holding, Shelved, is_numbered, place_and_group, restated, shelved}
use Rattle.sqs_messages.proofs.Counting.{few_in, in_is, some_out}
use Rattle.sqs_messages.proofs.Firsts.{none_changed, none_find}
use Rattle.sqs_messages.proofs.Marked.{shown_place}
use Rattle.sqs_messages.proofs.Shelves.{changed_items, changed_shelf, found, none_numbered}
use Rattle.sqs_messages.proofs.shelf.Shelf.put.Goals as goal

pub returns-in_err-place-clause-found : goal.returns-in_err-place-clause-found
returns-in_err-place-clause-found c =
    let list = c.self.inside.slots in
    let none = none_find (is_numbered c.args.number) (shelved list.values list.marks) (none_numbered c.self.invariant.places c.in_err-place.ensures c.values.ensures.values) in
    c.from_residual.ensures ∙ ap (option_map place_and_group) (sym none ∙ ap (λ (h : Holding). find (is_numbered c.args.number) h.items) c.self.view_is)

pub returns-in_err-place-clause-items : goal.returns-in_err-place-clause-items
returns-in_err-place-clause-items c =
    let list = c.self.inside.slots in
    let put = λ (s : Shelved). let t : Shelved = record s { message = restated c.args.state s.message; mark = c.args.mark } in t in
    let same = none_changed (is_numbered c.args.number) put (shelved list.values list.marks) (none_numbered c.self.invariant.places c.in_err-place.ensures c.values.ensures.values) in
    ap (λ (h : Holding). h.items) (sym c.self.view_is) ∙ sym same ∙ ap (λ (h : Holding). changed (is_numbered c.args.number) put h.items) c.self.view_is

pub count_out-requires : goal.count_out-requires
count_out-requires c =
    some_out c.self.invariant.places c.in_ok-place.ensures c.values.ensures.values c.value_mut-slot.ensures.value (sym c.in-Some.is ∙ c.write.ensures.was) c.self.invariant.counted

pub count_in-requires : goal.count_in-requires
count_in-requires c =
    let few : count_at c.args.state.place c.count_out.new.counts < c.self.inside.next =
    few_in c.self.invariant.places c.in_ok-place.ensures c.values.ensures.values c.value_mut-slot.ensures.value (sym c.in-Some.is ∙ c.write.ensures.was) c.self.invariant.counted c.count_out.new.counts c.count_out.ensures c.args.state.place in
    omega (arith, few, c.self.invariant.in_range)

pub invariant_of-self : goal.invariant_of-self
invariant_of-self c =
    let h = c.self.invariant.places in
    let state = restated c.args.state in
    let put = λ (s : Shelved). let t : Shelved = record s { message = state s.message; mark = c.args.mark } in t in
    let items = changed_items h c.in_ok-place.ensures c.values.ensures.values c.value_mut-slot.ensures.value c.args.mark c.write.ensures.number c.write.ensures.group c.set_mark.ensures state put (λ o. refl) c.write.ensures.message in
    record {
      in_range = c.self.invariant.in_range;
      places = changed_shelf h c.in_ok-place.ensures c.values.ensures.values c.value_mut-slot.ensures.value c.args.mark c.write.ensures.number c.write.ensures.group c.set_mark.ensures state (λ o. refl) c.write.ensures.message;
      counted =
          in_is h c.in_ok-place.ensures c.values.ensures.values c.value_mut-slot.ensures.value (sym c.in-Some.is ∙ c.write.ensures.was) c.self.invariant.counted c.count_out.new.counts c.count_out.ensures
          c.count_in.new.counts c.args.state.place put (λ s. refl) c.count_in.ensures
          ∙ ap (λ items. counts_of (told items)) (sym items);
    }

pub returns-clause-items : goal.returns-clause-items
returns-clause-items c =
    let state = restated c.args.state in
    let put = λ (s : Shelved). let t : Shelved = record s { message = state s.message; mark = c.args.mark } in t in
    changed_items c.self.invariant.places c.in_ok-place.ensures c.values.ensures.values c.value_mut-slot.ensures.value c.args.mark c.write.ensures.number c.write.ensures.group c.set_mark.ensures state put (λ o. refl) c.write.ensures.message
    ∙ ap (λ (h : Holding). changed (is_numbered c.args.number) put h.items) c.self.view_is

pub returns-clause-found : goal.returns-clause-found
returns-clause-found c =
    let x = c.value_mut-slot.result.now in
    shown_place x.message c.in-Some.was (node c.self.inside.slots.marks c.in_ok-place.place) x.group (sym c.in-Some.is ∙ c.write.ensures.was)
    ∙ ap (option_map place_and_group)
    (sym (found c.self.invariant.places c.in_ok-place.ensures c.values.ensures.values c.value_mut-slot.ensures.value) ∙ ap (λ (h : Holding). find (is_numbered c.args.number) h.items) c.self.view_is)

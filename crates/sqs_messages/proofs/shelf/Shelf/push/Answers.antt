use Rattle.std.proofs.Common.{◌≡◌, ◌≤◌, ◌∷◌, [], ◌++◌, List, Some, arith, ap, length, refl, sym, ◌∙◌}
use Rattle.sqs_messages.specs.declared.slot.Slot.{Slot}
use Rattle.sqs_messages.specs.Counted.{count_at, counts_of, with_one}
use Rattle.sqs_messages.specs.Heads.{told}
use Rattle.sqs_messages.specs.Slots.{Holding, IsNamed, Shelved, item_of, shelved}
use Rattle.sqs_messages.proofs.Counting.{counts_push, few_at, few_shelved}
use Rattle.sqs_messages.proofs.Pushed.{pushed_items, pushed_shelf}
use Rattle.sqs_messages.proofs.shelf.Shelf.push.Goals as goal

pub count_in-requires : goal.count_in-requires
count_in-requires c =
    let items = shelved c.self.inside.slots.values c.self.inside.slots.marks in
    let few : count_at c.args.message.place (counts_of (told items)) ≤ length items = few_at c.args.message.place items in
    let same : count_at c.args.message.place c.self.inside.counts ≡ count_at c.args.message.place (counts_of (told items)) = ap (count_at c.args.message.place) c.self.invariant.counted in
    omega (arith, few, same, few_shelved c.self.inside.slots c.self.inside.next c.self.invariant.places, ap (λ (h : Holding). h.next) c.self.view_is, c.requires.range)

pub invariant_of-self-2 : goal.invariant_of-self-2
invariant_of-self-2 c =
    let list = c.self.inside.slots in
    let slot : Slot = record { number = c.self.inside.next; group = c.args.group; message = Some c.args.message } in
    let item : Shelved = item_of c.args.mark c.args.group c.args.message in
    let next : c.self.inside.next ≡ c.args.self.now.next = ap (λ (h : Holding). h.next) c.self.view_is in
    let named : IsNamed slot c.args.mark = record { number = c.requires.number ∙ sym next; empty = λ e. cc } in
    record {
      in_range = omega (arith, next, c.requires.range);
      places = pushed_shelf list c.push.new.self c.self.inside.next slot c.args.mark c.self.invariant.places c.in_ok-push.ensures.values c.in_ok-push.ensures.marks refl named;
      counted =
          c.count_in.ensures
          ∙ ap (with_one c.args.message.place) c.self.invariant.counted
          ∙ counts_push (shelved list.values list.marks) item
          ∙ ap (λ items. counts_of (told items)) (sym (pushed_items list c.push.new.self c.self.inside.next slot c.args.mark c.self.invariant.places c.in_ok-push.ensures.values c.in_ok-push.ensures.marks));
    }

pub returns-clause-pushed : goal.returns-clause-pushed
returns-clause-pushed c =
    let slot : Slot = record { number = c.self.inside.next; group = c.args.group; message = Some c.args.message } in
    let item : Shelved = item_of c.args.mark c.args.group c.args.message in
    pushed_items c.self.inside.slots c.push.new.self c.self.inside.next slot c.args.mark c.self.invariant.places c.in_ok-push.ensures.values c.in_ok-push.ensures.marks
    ∙ ap (λ (items : List Shelved). items ++ item ∷ []) (ap (λ (h : Holding). h.items) c.self.view_is)

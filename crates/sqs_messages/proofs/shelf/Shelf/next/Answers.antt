use Rattle.std.proofs.Common.{◌<◌, ◌≡◌, List, ap, get_or, length, subst, sym, ◌∙◌}
use Rattle.std.specs.Prelude.{find}
use Rattle.std.specs.Option.{option_map}
use Rattle.sqs_messages.specs.declared.slot.Slot.{Slot}
use Rattle.sqs_messages.specs.Slots.{Holding, number_and_group, number_of}
use Rattle.sqs_messages.proofs.Marked.{next_found, next_none}
use Rattle.sqs_messages.specs.Marked.{wanted}
use Rattle.sqs_messages.proofs.Shelves.{IsFrom}
use Rattle.sqs_model.specs.Progress.{Ascends}
use Rattle.sqs_messages.proofs.Wanted.{shelf_ascends}
use Rattle.sqs_messages.proofs.shelf.Shelf.next.Goals as goal

pub returns-in_err-place-clause-found : goal.returns-in_err-place-clause-found
returns-in_err-place-clause-found c =
    let first : IsFrom c.values-slots.result.now c.args.from c.first_from.result = record { bound = c.first_from.ensures.bound; below = c.first_from.ensures.below; above = c.first_from.ensures.from } in
    let from : IsFrom c.self.inside.slots.values c.args.from c.first_from.result = subst (λ (slots : List Slot). IsFrom slots c.args.from c.first_from.result) c.values-slots.ensures.values first in
    c.from_residual.ensures
    ∙ ap (option_map number_and_group)
    (sym (next_none c.self.inside.slots c.self.inside.next c.args.from c.args.hosts c.first_from.result c.self.invariant.places from c.in_err-place.ensures.first)
    ∙ ap (λ (h : Holding). find (wanted c.args.from c.args.hosts) h.items) c.self.view_is)

pub returns-in_err-place-clause-ordered : goal.returns-in_err-place-clause-ordered
returns-in_err-place-clause-ordered c = subst (λ (h : Holding). Ascends number_of 0 h.items) c.self.view_is (shelf_ascends c.self.inside.slots c.self.inside.next c.self.invariant.places)

pub returns-clause-found : goal.returns-clause-found
returns-clause-found c =
    let list = c.self.inside.slots in
    let x = c.index-slots-place.result in
    let place = c.in_ok-place.place in
    let first : IsFrom c.values-slots.result.now c.args.from c.first_from.result = record { bound = c.first_from.ensures.bound; below = c.first_from.ensures.below; above = c.first_from.ensures.from } in
    let from : IsFrom list.values c.args.from c.first_from.result = subst (λ (slots : List Slot). IsFrom slots c.args.from c.first_from.result) c.values-slots.ensures.values first in
    let read : x ≡ get_or list.values place x = c.index-slots-place.is ∙ ap (λ slots. get_or slots place x) c.values-slots.ensures.values in
    next_found list c.self.inside.next c.args.from c.args.hosts c.first_from.result c.self.invariant.places from place x c.in_ok-place.ensures.first c.in_ok-place.ensures.there read
    ∙ ap (λ (h : Holding). option_map number_and_group (find (wanted c.args.from c.args.hosts) h.items)) c.self.view_is

pub returns-clause-ordered : goal.returns-clause-ordered
returns-clause-ordered c = subst (λ (h : Holding). Ascends number_of 0 h.items) c.self.view_is (shelf_ascends c.self.inside.slots c.self.inside.next c.self.invariant.places)

pub returns-clause-bound : goal.returns-clause-bound
returns-clause-bound c =
    let list = c.self.inside.slots in
    let x = c.index-slots-place.result in
    let place = c.in_ok-place.place in
    let within : place < length list.values = c.in_ok-place.ensures.there in
    let read : x ≡ get_or list.values place x = c.index-slots-place.is ∙ ap (λ slots. get_or slots place x) c.values-slots.ensures.values in
    let less : x.number < c.self.inside.next = subst (λ (s : Slot). s.number < c.self.inside.next) (sym read) (c.self.invariant.places.below place x within) in
    subst (λ (h : Holding). x.number < h.next) c.self.view_is less

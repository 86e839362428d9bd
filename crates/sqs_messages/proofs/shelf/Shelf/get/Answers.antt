use Rattle.std.proofs.Common.{◌≡◌, ap, get_or, sym, ◌∙◌}
use Rattle.std.specs.Prelude.{find}
use Rattle.std.specs.Option.{option_copied, option_map}
use Rattle.sim_index.specs.Marks.{node}
use Rattle.sqs_messages.specs.declared.slot.Slot.{Slot}
use Rattle.sqs_messages.specs.Slots.{Holding, Shelved, is_numbered, shelved}
use Rattle.sqs_messages.proofs.Firsts.{none_find}
use Rattle.sqs_messages.proofs.Marked.{shown_message}
use Rattle.sqs_messages.proofs.Shelves.{found, none_numbered}
use Rattle.sqs_messages.proofs.shelf.Shelf.get.Goals as goal

pub returns-in_err-place_of : goal.returns-in_err-place_of
returns-in_err-place_of c =
    let list = c.self.inside.slots in
    let none = none_find (is_numbered c.args.number) (shelved list.values list.marks) (none_numbered c.self.invariant.places c.in_err-place_of.ensures c.values-slots.ensures.values) in
    ap option_copied c.from_residual.ensures
    ∙ ap (option_map (λ (s : Shelved). s.message)) (sym none ∙ ap (λ (h : Holding). find (is_numbered c.args.number) h.items) c.self.view_is)

pub returns : goal.returns
returns c =
    let list = c.self.inside.slots in
    let x = c.index-slots-branch.result in
    let place = c.in_ok-place_of.field-0 in
    let read : x ≡ get_or list.values place x = c.index-slots-branch.is ∙ ap (λ slots. get_or slots place x) c.values-slots.ensures.values in
    c.as_ref.ensures.value
    ∙ ap (λ (s : Slot). s.message) (sym c.index-slots-branch.is)
    ∙ shown_message x.message (node list.marks place) x.group
    ∙ ap (option_map (λ (s : Shelved). s.message))
    (sym (found c.self.invariant.places c.in_ok-place_of.ensures c.values-slots.ensures.values read) ∙ ap (λ (h : Holding). find (is_numbered c.args.number) h.items) c.self.view_is)

use Rattle.std.proofs.Common.{None, ap, get_or, rules, sym, ◌∙◌, ◌≡◌}
use Rattle.sqs_messages.specs.declared.slot.Slot.{Slot}
use Rattle.sqs_messages.proofs.Shelves.{IsFrom, off_from}
use Rattle.sqs_messages.proofs.slot.place_of.Goals.{else-slot-number-via-then-slot-number+else-is_some, else-slot-number-via-else-slot-number}
use Rattle.sqs_messages.proofs.slot.place_of.Goals as goal

pub returns-else-slot-number : goal.returns-else-slot-number
returns-else-slot-number c =
    let slots = c.args.slots.now in
    let place = c.first_from-place.result in
    let from : IsFrom slots c.args.number place = record { bound = c.first_from-place.ensures.bound; below = c.first_from-place.ensures.below; above = c.first_from-place.ensures.from } in
    off_from slots c.args.number place c.requires from
    (λ d l e.
    let here : get_or slots place d ≡ c.in_ok-slot.slot.now = search rules in
    elim c.else-slot-number.branch [
      | else-slot-number-via-then-slot-number+else-is_some w ↦ let none : c.in_ok-slot.slot.now.message ≡ None = search rules in ap (λ (s : Slot). s.message) here ∙ none
      | else-slot-number-via-else-slot-number w ↦ absurd (w.if-slot-number.false (ap (λ (s : Slot). s.number) (sym here) ∙ e))
    ])

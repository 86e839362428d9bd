use Rattle.std.proofs.Common.{◌≤◌, ◌∷◌, [], ap, arith, length, subst, sym, ◌∙◌}
use Rattle.std.proofs.lemmas.List.{length-append}
use Rattle.sqs_messages.specs.Groups.{IsPlaceOf, place_by}
use Rattle.sqs_messages.proofs.Tables.{entered_last, entered_others, place_short}
use Rattle.sqs_messages.proofs.groups.room.place_for.Goals as goal

pub returns-in_ok-enter-clause-places : goal.returns-in_ok-enter-clause-places
returns-in_ok-enter-clause-places c g i p = subst (λ ns. IsPlaceOf ns g i) (sym c.in_ok-enter.ensures.names) (entered_others c.args.names.now.keys c.args.group.now g i p)

pub returns-in_ok-enter-clause-place : goal.returns-in_ok-enter-clause-place
returns-in_ok-enter-clause-place c =
    let names = c.args.names.now.keys in
    let group = c.args.group.now in
    let past : length names ≤ place_by names group = omega (arith, c.place_of-place.ensures, c.if-len-place.true, c.len.ensures, c.requires) in
    record {
      at = c.place_of-place.ensures ∙ sym (ap (λ ns. place_by ns group) c.in_ok-enter.ensures.names ∙ entered_last names group past);
      within = omega (arith, ap length c.in_ok-enter.ensures.names, length-append names (group ∷ []), place_short names group, c.place_of-place.ensures);
    }

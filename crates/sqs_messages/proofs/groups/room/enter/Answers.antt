use Rattle.std.proofs.Common.{◌≡◌, ◌++◌, ◌∷◌, [], ap, false, if◌then◌else◌, ◌∙◌}
use Rattle.std.specs.List.{list_any}
use Rattle.std.specs.Option.{option_eq}
use Rattle.std.specs.Str.{bytes_eq}
use Rattle.sqs_model.specs.Queue.{same_text}
use Rattle.sqs_messages.proofs.Places.{same_name}
use Rattle.sqs_messages.proofs.Tables.{none_any}
use Rattle.sqs_messages.proofs.groups.room.enter.Goals as goal

pub returns-clause-names : goal.returns-clause-names
returns-clause-names c =
    let names = c.args.names.now.keys in
    let group = c.args.group.now in
    let is : c.in_ok-name.name ≡ group = c.in_ok-name.ensures ∙ c.as_ref.ensures.value in
    let none : list_any (option_eq bytes_eq c.in_ok-name.name) names ≡ false = (λ j. list_any (λ name. same_name (is j) name j) names) ∙ none_any (same_text group) names c.requires.new in
    c.in_ok-insert.ensures.keys
    ∙ ap (λ b. if b then names else names ++ c.in_ok-name.name ∷ []) none
    ∙ ap (λ g. names ++ g ∷ []) is

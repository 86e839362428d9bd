use Rattle.std.proofs.Common.{unwrap_or, ◌∙◌}
use Rattle.std.specs.List.{position_or_len}
use Rattle.std.specs.Option.{option_eq}
use Rattle.std.specs.Str.{bytes_eq}
use Rattle.sim_clock.proofs.Places.{position_unwrapped}
use Rattle.sqs_messages.proofs.Places.{same_name}
use Rattle.sqs_messages.proofs.groups.members.place_of.Goals as goal

pub returns : goal.returns
returns c =
    let group = c.args.group.now in
    c.unwrap_or.ensures
    ∙ (λ j. unwrap_or (c.get_index_of.ensures.index j) (c.len.ensures.len j))
    ∙ position_unwrapped (option_eq bytes_eq group) c.args.names.now.keys
    ∙ (λ j. position_or_len (λ name. same_name group name j) c.args.names.now.keys)

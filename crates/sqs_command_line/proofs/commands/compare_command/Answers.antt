use Rattle.std.proofs.Common.{ap, ◌∙◌}
use Rattle.sqs_command_line.specs.Programs.{with_version_3}
use Rattle.sqs_command_line.proofs.Added.{added_app, added_local}
use Rattle.sqs_command_line.proofs.commands.compare_command.Goals as goal

pub returns-clause-app : goal.returns-clause-app
returns-clause-app c =
    let scripts = added_app c.named-command.result c.option.result c.in_ok-command.command _ _ c.in_ok-command.ensures c.named-command.ensures.app c.option.ensures.rule c.option.ensures.local in
    let reach = added_app c.in_ok-command.command c.flag.result c.in_ok-command-2.command _ _ c.in_ok-command-2.ensures scripts c.flag.ensures.rule c.flag.ensures.local in
    let third = c.in_ok-command-3.ensures.app ∙ ap with_version_3 reach in
    let first = added_app c.in_ok-command-3.command c.place.result c.in_ok-command-4.command _ _ c.in_ok-command-4.ensures third c.place.ensures.rule c.place.ensures.local in
    added_app c.in_ok-command-4.command c.place-2.result c.in_ok-command-5.command _ _ c.in_ok-command-5.ensures first c.place-2.ensures.rule c.place-2.ensures.local

pub returns-clause-local : goal.returns-clause-local
returns-clause-local c =
    let first = added_local c.in_ok-command-3.command c.place.result c.in_ok-command-4.command c.in_ok-command-4.ensures c.in_ok-command-3.ensures.local c.place.ensures.local in
    added_local c.in_ok-command-4.command c.place-2.result c.in_ok-command-5.command c.in_ok-command-5.ensures first c.place-2.ensures.local

use Rattle.std.proofs.Common.{ap, ◌∙◌}
use Rattle.sqs_command_line.specs.Programs.{with_version_3, with_wanted}
use Rattle.sqs_command_line.proofs.Added.{added_app, added_local}
use Rattle.sqs_command_line.proofs.commands.run_command.Goals as goal

pub returns-clause-app : goal.returns-clause-app
returns-clause-app c =
    let figures = added_app c.in_ok-command.command c.flag.result c.in_ok-command-2.command _ _ c.in_ok-command-2.ensures c.in_ok-command.ensures.app c.flag.ensures.rule c.flag.ensures.local in
    let wanted = c.in_ok-command-3.ensures.app ∙ ap with_wanted figures in
    let third = c.in_ok-command-4.ensures.app ∙ ap with_version_3 wanted in
    let quiet = added_app c.in_ok-command-4.command c.flag-2.result c.in_ok-command-5.command _ _ c.in_ok-command-5.ensures third c.flag-2.ensures.rule c.flag-2.ensures.local in
    added_app c.in_ok-command-5.command c.place.result c.in_ok-command-6.command _ _ c.in_ok-command-6.ensures quiet c.place.ensures.rule c.place.ensures.local

pub returns-clause-local : goal.returns-clause-local
returns-clause-local c =
    let quiet = added_local c.in_ok-command-4.command c.flag-2.result c.in_ok-command-5.command c.in_ok-command-5.ensures c.in_ok-command-4.ensures.local c.flag-2.ensures.local in
    added_local c.in_ok-command-5.command c.place.result c.in_ok-command-6.command c.in_ok-command-6.ensures quiet c.place.ensures.local

use Rattle.std.proofs.Common.{refl}
use Rattle.sqs_command_line.proofs.Added.{added_app, added_local}
use Rattle.sqs_command_line.proofs.commands.with_version_3.Goals as goal

pub returns-clause-app : goal.returns-clause-app
returns-clause-app c =
    let v3 = added_app c.args.command c.flag.result c.in_ok-command.command _ _ c.in_ok-command.ensures refl c.flag.ensures.rule c.flag.ensures.local in
    added_app c.in_ok-command.command c.flag-2.result c.in_ok-command-2.command _ _ c.in_ok-command-2.ensures v3 c.flag-2.ensures.rule c.flag-2.ensures.local

pub returns-clause-local : goal.returns-clause-local
returns-clause-local c =
    let v3 = added_local c.args.command c.flag.result c.in_ok-command.command c.in_ok-command.ensures c.requires c.flag.ensures.local in
    added_local c.in_ok-command.command c.flag-2.result c.in_ok-command-2.command c.in_ok-command-2.ensures v3 c.flag-2.ensures.local

use Rattle.std.proofs.Common.{refl}
use Rattle.sqs_command_line.proofs.Added.{added_app, added_local}
use Rattle.sqs_command_line.proofs.commands.with_wanted.Goals as goal

pub returns-clause-app : goal.returns-clause-app
returns-clause-app c =
    let from = added_app c.args.command c.moment.result c.in_ok-command.command _ _ c.in_ok-command.ensures refl c.moment.ensures.rule c.moment.ensures.local in
    let to = added_app c.in_ok-command.command c.moment-2.result c.in_ok-command-2.command _ _ c.in_ok-command-2.ensures from c.moment-2.ensures.rule c.moment-2.ensures.local in
    let backlog = added_app c.in_ok-command-2.command c.moment-3.result c.in_ok-command-3.command _ _ c.in_ok-command-3.ensures to c.moment-3.ensures.rule c.moment-3.ensures.local in
    added_app c.in_ok-command-3.command c.time.result c.in_ok-command-4.command _ _ c.in_ok-command-4.ensures backlog c.time.ensures.rule c.time.ensures.local

pub returns-clause-local : goal.returns-clause-local
returns-clause-local c =
    let from = added_local c.args.command c.moment.result c.in_ok-command.command c.in_ok-command.ensures c.requires c.moment.ensures.local in
    let to = added_local c.in_ok-command.command c.moment-2.result c.in_ok-command-2.command c.in_ok-command-2.ensures from c.moment-2.ensures.local in
    let backlog = added_local c.in_ok-command-2.command c.moment-3.result c.in_ok-command-3.command c.in_ok-command-3.ensures to c.moment-3.ensures.local in
    added_local c.in_ok-command-3.command c.time.result c.in_ok-command-4.command c.in_ok-command-4.ensures backlog c.time.ensures.local

use Rattle.std.proofs.Common.{ap, true, ◌∙◌}
use Rattle.clap.specs.Simple.{app_of_fields}
use Rattle.clap.specs.Words.{App}
use Rattle.sqs_command_line.proofs.Added.{added_command}
use Rattle.sqs_command_line.proofs.commands.command.Goals as goal

pub returns-clause-app : goal.returns-clause-app
returns-clause-app c =
    let bare = ap app_of_fields c.subcommand_required-command.ensures ∙ ap (λ (a : App). record a { top = record a.top { subcommand_required = true } }) c.new.ensures.app in
    let run = added_command c.subcommand_required-command.result c.in_ok-run_command.field-0 c.in_ok-command.command _ _ c.in_ok-command.ensures bare c.in_ok-run_command.ensures.app c.in_ok-run_command.ensures.local in
    let check = added_command c.in_ok-command.command c.in_ok-check_command.field-0 c.in_ok-command-2.command _ _ c.in_ok-command-2.ensures run c.in_ok-check_command.ensures.app c.in_ok-check_command.ensures.local in
    let compare = added_command c.in_ok-command-2.command c.in_ok-compare_command.field-0 c.in_ok-command-3.command _ _ c.in_ok-command-3.ensures check c.in_ok-compare_command.ensures.app c.in_ok-compare_command.ensures.local in
    added_command c.in_ok-command-3.command c.in_ok-figures_command.field-0 c.in_ok-command-4.command _ _ c.in_ok-command-4.ensures compare c.in_ok-figures_command.ensures.app c.in_ok-figures_command.ensures.local

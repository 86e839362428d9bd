-- What a command is with one more argument, or with one more subcommand.
use Rattle.std.proofs.Common.{ap, ap₂, false, ◌∙◌, ◌||◌, ◌≡◌}
use Rattle.clap.specs.Built.{AddsArg, AddsSubcommand}
use Rattle.clap.specs.Words.{App, Rule, app_of, rule_of, with_rule, with_subcommand}
use Rattle.clap.specs.declared.builder.arg.Arg.{Arg}
use Rattle.clap.specs.declared.builder.command.Command.{Command}
use Rattle.clap.specs.declared.builder.command.Command.TheViews.{out-Command}

pub added_app : (old : Command) (a : Arg) (new : Command) (app : App) (rule : Rule) → AddsArg old a new → app_of old ≡ app → rule_of a ≡ rule → a.global ≡ false → app_of new ≡ with_rule app rule
added_app old a new app rule h is of local = h.shape local ∙ ap₂ with_rule is of

pub added_local : (old : Command) (a : Arg) (new : Command) → AddsArg old a new → (out-Command old).has_globals ≡ false → a.global ≡ false → (out-Command new).has_globals ≡ false
added_local old a new h is local = h.globals ∙ ap₂ ◌||◌ is local

pub added_command : (old sub new : Command) (app of : App) → AddsSubcommand old sub new → app_of old ≡ app → app_of sub ≡ of → (out-Command sub).has_globals ≡ false → app_of new ≡ with_subcommand app of.top
added_command old sub new app of h is same local = h.shape local ∙ ap₂ with_subcommand is (ap (λ (a : App). a.top) same)

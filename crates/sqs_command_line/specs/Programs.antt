-- The program's commands and their arguments.
use Rattle.std.specs.Prelude.{Bool, Some, codes, false, pos, true}
use Rattle.clap.specs.Words.{App, Rule, Text, new_app, new_rule, with_rule, with_subcommand}
use Rattle.clap.specs.declared.builder.ArgAction.TheVariants.{Set, SetTrue}
use Rattle.clap.specs.declared.builder.value_parser.ValueParser.TheVariants as parsers

-- an option with a value, as --log FILE
abbrev pub option_rule : Text → Rule
option_rule name = record (new_rule name) { long = Some name; action = Some Set }

-- an option with a number of 32 bits
abbrev pub number_rule : Text → Rule
number_rule name = record (option_rule name) { parser = Some (parsers.Signed (pos 0) (pos 4294967295)) }

-- an option with a time of 1 ms at least
abbrev pub time_rule : Text → Rule
time_rule name = record (option_rule name) { parser = Some (parsers.Unsigned 1 18446744073709551615) }

-- an option with a moment, in milliseconds
abbrev pub moment_rule : Text → Rule
moment_rule name = record (option_rule name) { parser = Some (parsers.Unsigned 0 18446744073709551615) }

-- an option without a value, as --quiet
abbrev pub flag_rule : Text → Rule
flag_rule name = record (new_rule name) { long = Some name; action = Some SetTrue }

-- a word by its place
abbrev pub place_rule : Bool → Text → Rule
place_rule required name = record (new_rule name) { required = required; action = Some Set }

-- run [--window MS] [--parts N] [--map LIST] [--workers N]
abbrev pub run_options : App
run_options =
    with_rule (with_rule (with_rule (with_rule (new_app (codes "run")) (time_rule (codes "window"))) (number_rule (codes "parts"))) (option_rule (codes "map"))) (number_rule (codes "workers"))

-- .. [--log FILE] [--scripts DIR]
abbrev pub run_files : App
run_files = with_rule (with_rule run_options (option_rule (codes "log"))) (option_rule (codes "scripts"))

-- .. [--from MS] [--to MS] [--backlog N] [--window-figures MS]
abbrev pub with_wanted : App → App
with_wanted app =
    with_rule (with_rule (with_rule (with_rule app (moment_rule (codes "from"))) (moment_rule (codes "to"))) (moment_rule (codes "backlog")))
    (time_rule (codes "window-figures"))

-- .. [--v3] [--preview]
abbrev pub with_version_3 : App → App
with_version_3 app = with_rule (with_rule app (flag_rule (codes "v3"))) (flag_rule (codes "preview"))

-- .. [--figures] and what is wanted of them [--v3] [--preview] [--quiet] [SCENARIO]
abbrev pub run_app : App
run_app =
    with_rule (with_rule (with_version_3 (with_wanted (with_rule run_files (flag_rule (codes "figures"))))) (flag_rule (codes "quiet")))
    (place_rule false (codes "scenario"))

-- check [--scripts DIR] [--v3] [--preview] [SCENARIO]
abbrev pub check_app : App
check_app = with_rule (with_version_3 (with_rule (new_app (codes "check")) (option_rule (codes "scripts")))) (place_rule false (codes "scenario"))

-- compare [--scripts DIR] [--reach] [--v3] [--preview] FIRST SECOND
abbrev pub compare_app : App
compare_app =
    with_rule
    (with_rule (with_version_3 (with_rule (with_rule (new_app (codes "compare")) (option_rule (codes "scripts"))) (flag_rule (codes "reach")))) (place_rule true (codes "first")))
    (place_rule true (codes "second"))

-- figures [--scripts DIR] and what is wanted of them [--v3] [--preview] SCENARIO [LOG]
abbrev pub figures_app : App
figures_app =
    with_rule (with_rule (with_version_3 (with_wanted (with_rule (new_app (codes "figures")) (option_rule (codes "scripts"))))) (place_rule true (codes "scenario")))
    (place_rule false (codes "log"))

-- sqs_rehearse, which asks for a subcommand
abbrev pub bare : App
bare = let a = new_app (codes "sqs_rehearse") in record a { top = record a.top { subcommand_required = true } }

-- the whole
abbrev pub program : App
program =
    with_subcommand (with_subcommand (with_subcommand (with_subcommand bare run_app.top) check_app.top) compare_app.top)
    figures_app.top

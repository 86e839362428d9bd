-- What a rehearsal writes beside its log, with figures if they are wanted.
use Rattle.std.specs.Prelude.{ℕ, ◌++◌, List, None, Option, Some}
use Rattle.sim_report.specs.Written.{figures_text}
use Rattle.sim_report.specs.declared.asked.Wanted.{Wanted}
use Rattle.sqs_formats.specs.Output.{ending_of}
use Rattle.sqs_model.specs.Run.{Run}
use Rattle.sqs_model.specs.Scenario.{Scenario}
use Rattle.sqs_rehearsal.specs.Wanted.{figures_of}

-- what the report writer gets: finals, then the report, then the figures that are wanted
abbrev pub ending_with : Scenario → Option Wanted → Run → List ℕ
ending_with s None r = ending_of s r
ending_with s (Some wanted) r = ending_of s r ++ figures_text (figures_of s wanted) r.rows

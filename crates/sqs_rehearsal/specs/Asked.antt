-- What is asked of the report of a scenario.
use Rattle.std.specs.Prelude.{Option, option_map}
use Rattle.sim_report.specs.Reports.{Asked}
use Rattle.sim_report.specs.declared.asked.Wanted.{Wanted}
use Rattle.sqs_formats.specs.Output.{queue_names}
use Rattle.sqs_model.specs.Scenario.{Scenario}
use Rattle.sqs_rehearsal.specs.Wanted.{figures_of}

-- what the report of a scenario is to have
abbrev pub asked_of : Scenario → Option Wanted → Asked
asked_of s wanted = record { queues = queue_names s; figures = option_map (figures_of s) wanted }

-- What a lemma opens to compute these definitions on a literal text.
use Rattle.std.specs.Prelude.{⊤}
use Rattle.std.specs.Str.{is_utf8, chars}
use Rattle.std.specs.Fmt.{digits}
use Rattle.toml.proofs.OnLiterals.{toml_on_literals}
use Rattle.csv.proofs.OnLiterals.{csv_on_literals}
use Rattle.csv.specs.Writing.{escaped, fields_text, is_blank}
use Rattle.hex.specs.Hex.{encode_with}
use Rattle.sqs_formats.specs.Reading.{and_then}
use Rattle.sqs_formats.specs.Keys.{integer, seconds, sized_text, one_of, required, optional, bounds}
use Rattle.sqs_formats.specs.Lists.{sized_list, list_of, pair}
use Rattle.sqs_formats.specs.Distributions.{quantile, time}
use Rattle.sqs_formats.specs.Groups.{group, weighted_group, groups}
use Rattle.sqs_formats.specs.Outline.{name_of, queue_named, kin_named, kins_named, other_kin_named, source_named, scaler_named, dead_letter_named}
use Rattle.sqs_formats.specs.Queues.{latency, kind, policy, queue, dead_letter}
use Rattle.sqs_formats.specs.Script.{script, call_of}
use Rattle.sqs_formats.specs.Actors.{calls, script_file, producer_body, sending, forward, gap, stopping, service, serving, scaling, failing, calls_by, copies, actor}
use Rattle.sqs_formats.specs.Outages.{one_each, one_for_all, one_stretch, outages, permilles, stretch, stretches_by}
use Rattle.sqs_formats.specs.Tasks.{task}
use Rattle.sqs_formats.specs.Scenario.{scenario_upto, scenario_in, agents, top, queue_list, agent_list, script_names}
use Rattle.sqs_formats.specs.Report.{columns_of}
use Rattle.sqs_formats.specs.Comparison.{comparison_records}

-- the reading of a scenario and its scripts
unfoldable pub reading_on_literals : ⊤
unfolding and_then integer seconds sized_text one_of name_of queue_named kin_named kins_named other_kin_named source_named scaler_named dead_letter_named calls script_file producer_body required optional bounds latency kind policy sending forward gap stopping service serving scaling failing stretch one_stretch stretches_by outages sized_list list_of pair quantile time group weighted_group groups copies calls_by queue_list agent_list is_utf8 chars digits toml_on_literals csv_on_literals scenario_upto scenario_in agents top script_names queue dead_letter actor task script call_of one_each one_for_all permilles
reading_on_literals = tt

-- the writing of log, finals, report and comparison
unfoldable pub writing_on_literals : ⊤
unfolding digits encode_with escaped fields_text is_blank columns_of comparison_records
writing_on_literals = tt

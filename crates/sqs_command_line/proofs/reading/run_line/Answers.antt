use Rattle.std.proofs.Common.{codes, ◌∙◌}
use Rattle.clap.specs.Words.{found_of}
use Rattle.clap.proofs.WalkLemmas.{first_value-rows}
use Rattle.sqs_command_line.proofs.Answered.{flag_given}
use Rattle.sqs_command_line.proofs.reading.run_line.Goals as goal

pub returns : goal.returns
returns c =
    let found = found_of c.args.matches.now in
    record {
      window = c.in_ok-window.ensures;
      parts = c.in_ok-parts.ensures;
      map = c.get_str.ensures ∙ first_value-rows found (codes "map");
      workers = c.in_ok-workers.ensures;
      log = c.get_str-2.ensures ∙ first_value-rows found (codes "log");
      scripts = c.get_str-3.ensures ∙ first_value-rows found (codes "scripts");
      figures = flag_given found (codes "figures") c.get_flag.result c.get_flag.ensures.none c.get_flag.ensures.value c.get_flag.ensures.other;
      wanted = c.in_ok-wanted.ensures;
      version_3 = c.version_3.ensures;
      quiet = flag_given found (codes "quiet") c.get_flag-2.result c.get_flag-2.ensures.none c.get_flag-2.ensures.value c.get_flag-2.ensures.other;
      scenario = c.get_str-4.ensures ∙ first_value-rows found (codes "scenario");
    }

use Rattle.std.proofs.Common.{codes, ◌∙◌}
use Rattle.clap.specs.Words.{found_of}
use Rattle.clap.proofs.WalkLemmas.{first_value-rows}
use Rattle.sqs_command_line.proofs.Answered.{flag_given}
use Rattle.sqs_command_line.proofs.reading.compare_line.Goals as goal

pub returns : goal.returns
returns c =
    let found = found_of c.args.matches.now in
    record {
      scripts = c.get_str.ensures ∙ first_value-rows found (codes "scripts");
      reach = flag_given found (codes "reach") c.get_flag.result c.get_flag.ensures.none c.get_flag.ensures.value c.get_flag.ensures.other;
      version_3 = c.version_3.ensures;
      first = c.get_str-2.ensures ∙ first_value-rows found (codes "first");
      second = c.get_str-3.ensures ∙ first_value-rows found (codes "second");
    }

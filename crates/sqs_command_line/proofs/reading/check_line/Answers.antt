use Rattle.std.proofs.Common.{codes, ◌∙◌}
use Rattle.clap.specs.Words.{found_of}
use Rattle.clap.proofs.WalkLemmas.{first_value-rows}
use Rattle.sqs_command_line.proofs.reading.check_line.Goals as goal

pub returns : goal.returns
returns c =
    let found = found_of c.args.matches.now in
    record {
      scripts = c.get_str.ensures ∙ first_value-rows found (codes "scripts");
      version_3 = c.version_3.ensures;
      scenario = c.get_str-2.ensures ∙ first_value-rows found (codes "scenario");
    }

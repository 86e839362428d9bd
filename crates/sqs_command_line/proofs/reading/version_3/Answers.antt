use Rattle.std.proofs.Common.{codes, refl}
use Rattle.clap.specs.Words.{found_of}
use Rattle.sqs_command_line.proofs.Answered.{flag_given}
use Rattle.sqs_command_line.proofs.reading.version_3.Goals as goal

pub returns : goal.returns
returns c =
    let found = found_of c.args.matches.now in
    record {
      v3 = c.get_flag-v3.result;
      preview = c.get_flag-preview.result;
      is_v3 = flag_given found (codes "v3") c.get_flag-v3.result c.get_flag-v3.ensures.none c.get_flag-v3.ensures.value c.get_flag-v3.ensures.other;
      is_preview = flag_given found (codes "preview") c.get_flag-preview.result c.get_flag-preview.ensures.none c.get_flag-preview.ensures.value c.get_flag-preview.ensures.other;
      either = refl;
    }

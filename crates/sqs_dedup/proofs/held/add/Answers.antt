use Rattle.std.proofs.Common.{◌∙◌}
use Rattle.indexmap.proofs.CallerLemmas.{insert_entry-new}
use Rattle.sqs_dedup.specs.Window.{same_key}
use Rattle.sqs_dedup.proofs.held.add.Goals as goal

pub returns-clause-added : goal.returns-clause-added
returns-clause-added c = c.in_ok-insert.ensures.entries ∙ insert_entry-new same_key c.args.entries.now c.args.key c.args.held c.requires

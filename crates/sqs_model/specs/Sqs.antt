-- Sites of SQS as those of an engine: their numbers, what is due, what is done with it, and what is counted.
use Rattle.sim_engine.specs.Engine.{Engine}
use Rattle.sqs_message.specs.declared.row.Row.{Row}
use Rattle.sqs_redrive.specs.declared.transfers.Outbound.{Outbound}
use Rattle.sqs_redrive.specs.Transfers.{transfer_key}
use Rattle.sqs_model.specs.Counts.{receipt_count, site_count}
use Rattle.sqs_model.specs.Dues.{dues}
use Rattle.sqs_model.specs.Site.{Core, Site, accepted, number_of}
use Rattle.sqs_model.specs.Step.{handled}

-- sites of SQS
abbrev pub sqs : Engine Site Row Outbound
sqs =
    record {
      number = λ s. number_of s.core;
      dues = dues;
      handled = handled;
      accepted = accepted;
      transfer_key = transfer_key;
      to = λ o. o.to;
      row_key = λ r. r.key;
      row_site = λ r. r.queue;
      Core = Core;
      core = λ s. s.core;
      site_count = site_count;
      row_count = λ r. receipt_count r.receipt;
    }

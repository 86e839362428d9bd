-- What sites of SQS and their transfers are like at every step of a run.
use Rattle.std.specs.Prelude.{ℕ}
use Rattle.sim_engine.specs.Laws.{Conditions}
use Rattle.sqs_redrive.specs.declared.transfers.Outbound.{Outbound}
use Rattle.sqs_model.specs.Delivery.{IsSorted}
use Rattle.sqs_model.specs.Progress.{AreTimely, IsFilledBy, IsRecent, IsSound, WasEnqueuedBy}
use Rattle.sqs_model.specs.Site.{Site}

-- nothing at a site is from after a moment: no deduplication entry, no message, and no transfer from after its arrival
pub record IsOfPast (now : ℕ) (s : Site) : Type 0 where
  pub recent : IsRecent now s.core.queue
  pub filled : IsFilledBy now s.core.queue
  pub arriving : AreTimely s.arriving

-- sites of SQS
abbrev pub sqs_conditions : Conditions Site Outbound
sqs_conditions =
    record {
      Sorted = IsSorted;
      Sound = λ s. IsSound s.core;
      Past = IsOfPast;
      Timely = λ o. WasEnqueuedBy o.at o.load;
    }

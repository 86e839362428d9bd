-- The settings of a queue of each kind.
use Rattle.sqs_model.specs.Valid.{IsFifo, IsQueueSettings, IsStandard}
use Rattle.sqs_redrive.specs.declared.settings.QueueSettings.{QueueSettings}

-- the settings of a standard queue, in range
pub record IsStandardSettings (s : QueueSettings) : Type 0 where
  pub ranges : IsQueueSettings s
  pub kind : IsStandard s.kind

-- the settings of a FIFO queue, in range
pub record IsFifoSettings (s : QueueSettings) : Type 0 where
  pub ranges : IsQueueSettings s
  pub kind : IsFifo s.kind

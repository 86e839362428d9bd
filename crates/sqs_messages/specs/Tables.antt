-- What a queue's messages keep, and what contracts see of them.
use Rattle.std.specs.Prelude.{All, List, [], ℕ, ◌≤◌}
use Rattle.sqs_model.specs.Answers.{most_count}
use Rattle.sqs_model.specs.Queue.{Queue}
use Rattle.sqs_model.specs.Valid.{IsQueueSettings}
use Rattle.sqs_redrive.specs.declared.settings.QueueSettings.{QueueSettings}
use Rattle.sqs_messages.specs.Heads.{told}
use Rattle.sqs_messages.specs.Marked.{IsDue}
use Rattle.sqs_messages.specs.Orders.{AreInOrder, IsOrderOf}
use Rattle.sqs_messages.specs.Slots.{Shelved}
use Rattle.sqs_messages.specs.declared.order.Order.{Order}
use Rattle.sqs_messages.specs.declared.table.MessageTable.TheInside.{Inside}

-- settings in range, and messages within the limits, whose marks have what is due of them and the order in which the
-- queue gives them
pub record AreKept (site : ℕ) (settings : QueueSettings) (items : List Shelved) (next : ℕ) (order : Order) : Type 0 where
  pub settings_in_range : IsQueueSettings settings
  pub arrivals_in_range : next ≤ most_count
  pub dues : All (IsDue site settings.retention) items
  pub order_of : IsOrderOf settings.kind order
  pub ordered : AreInOrder items next order

-- what every state keeps
abbrev pub IsTable : Inside → Type 0
IsTable t = AreKept t.site t.settings t.shelf.items t.shelf.next t.order

-- a queue without deduplication entries
abbrev pub queue_of : Inside → Queue
queue_of t = record { site = t.site; settings = t.settings; records = told t.shelf.items; entries = []; arrivals = t.shelf.next }

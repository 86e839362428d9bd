-- What an order keeps as a number goes to a message that does not stay.
use Rattle.std.proofs.Common.{◌+◌, ◌<◌, ℕ, List, arith}
use Rattle.std.proofs.lemmas.List.Elements.{All-weaker}
use Rattle.sqs_messages.specs.Groups.{group_by}
use Rattle.sqs_messages.specs.Orders.{AreInOrder}
use Rattle.sqs_messages.specs.Slots.{Shelved}
use Rattle.sqs_messages.specs.declared.order.Order.{Order}
use Rattle.sqs_messages.specs.declared.order.Order.TheVariants as orders

pub skipped : (items : List Shelved) (next : ℕ) (order : Order) → AreInOrder items next order → AreInOrder items (next + 1) order
skipped items next (orders.Hosts hosts) h = h
skipped items next (orders.Groups groups) h =
    record {
      led = h.led;
      placed = h.placed;
      same = h.same;
      grouped = λ g. record {
        listed = (h.grouped g).listed;
        counted = (h.grouped g).counted;
        below = All-weaker (λ n. n < next) (λ n. n < next + 1) (λ n l. omega arith) (group_by groups.names.keys groups.members.items g).numbers (h.grouped g).below;
      };
    }

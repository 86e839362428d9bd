-- What the order keeps in which a queue gives its messages: by their hosts at a standard queue, by their groups at a
-- FIFO queue.
use Rattle.std.specs.Prelude.{◌≡◌, All, List, Option, ℕ, ◌≤◌}
use Rattle.sqs_redrive.specs.declared.settings.Kind.{Kind}
use Rattle.sqs_redrive.specs.declared.settings.Kind.TheVariants as kinds
use Rattle.sqs_messages.specs.Groups.{AreInGroups, HasRoomAt, IsPlaceOf}
use Rattle.sqs_messages.specs.Marked.{IsHosted}
use Rattle.sqs_messages.specs.Slots.{Shelved}
use Rattle.sqs_messages.specs.declared.groups.Groups.{Groups}
use Rattle.sqs_messages.specs.declared.order.Order.{Order}
use Rattle.sqs_messages.specs.declared.order.Order.TheVariants as orders

-- the order of a kind of queue
abbrev pub IsOrderOf : Kind → Order → Type 0
IsOrderOf (kinds.Standard count sampled) (orders.Hosts hosts) = hosts ≡ count
IsOrderOf (kinds.Standard count sampled) (orders.Groups groups) = ⊥
IsOrderOf (kinds.Fifo content_dedup scope) (orders.Hosts hosts) = ⊥
IsOrderOf (kinds.Fifo content_dedup scope) (orders.Groups groups) = Unit {0}

-- messages on hosts, each marked with its own
pub record AreOnHosts (hosts : ℕ) (items : List Shelved) : Type 0 where
  pub some : 1 ≤ hosts
  pub few : hosts ≤ 16
  pub hosted : All (IsHosted hosts) items

-- messages that are marked by an order
abbrev pub AreInOrder : List Shelved → ℕ → Order → Type 0
AreInOrder items next (orders.Hosts hosts) = AreOnHosts hosts items
AreInOrder items next (orders.Groups groups) = AreInGroups items next groups.names.keys groups.members.items

-- the place of a group whose list has room for one more number
pub record IsPlaced (groups : Groups) (group : Option (List ℕ)) (place : ℕ) : Type 0 where
  pub at : IsPlaceOf groups.names.keys group place
  pub room : HasRoomAt groups.members.items place

-- whether there is room for one more message of a group
abbrev pub IsRoomed : Order → Option (List ℕ) → ℕ → Type 0
IsRoomed (orders.Hosts hosts) group place = Unit {0}
IsRoomed (orders.Groups groups) group place = IsPlaced groups group place

-- the hosts in the marks of the messages with which a receive begins that sees some hosts
abbrev pub hosts_by : Order → ℕ → ℕ
hosts_by (orders.Hosts hosts) set = set
hosts_by (orders.Groups groups) set = 1

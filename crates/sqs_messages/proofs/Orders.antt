-- What an order tells of the messages that a queue may give.
use Rattle.std.proofs.Common.{◌≡◌, ℕ, List, [], map, take, filter, not, ap, refl, ◌∙◌}
use Rattle.std.specs.List.{list_any}
use Rattle.std.specs.Prelude.{count_by, find, min}
use Rattle.sim_clock.specs.Firsts.{is_empty}
use Rattle.sim_index.specs.Marks.{meets}
use Rattle.sqs_message.specs.declared.message.Message.{Message}
use Rattle.sqs_model.specs.Available.{available_at, by_group, open_from}
use Rattle.sqs_model.specs.Progress.{Ascends}
use Rattle.sqs_model.specs.Queue.{is_visible}
use Rattle.sqs_redrive.specs.declared.settings.Kind.{Kind}
use Rattle.sqs_redrive.specs.declared.settings.Kind.TheVariants as kinds
use Rattle.sqs_messages.proofs.Few.{given_taken}
use Rattle.sqs_messages.proofs.Grouped.{told_ascends}
use Rattle.sqs_messages.specs.declared.groups.Groups.{Groups}
use Rattle.sqs_messages.proofs.Hosting.{any_seen, first_seen, seen, visible_taken}
use Rattle.sqs_messages.proofs.Leading.{any_given}
use Rattle.sqs_messages.specs.Marked.{wanted}
use Rattle.sqs_messages.proofs.Wanted.{any_wanted}
use Rattle.sqs_messages.specs.declared.order.Order.{Order}
use Rattle.sqs_messages.specs.declared.order.Order.TheVariants as orders
use Rattle.sqs_messages.specs.Heads.{told}
use Rattle.sqs_messages.specs.Orders.{AreInOrder, AreOnHosts, IsOrderOf, hosts_by}
use Rattle.sqs_messages.specs.Slots.{Shelved, number_of}

-- whether a queue may give any
pub any_by : (kind : Kind) (order : Order) (set next : ℕ) (items : List Shelved) → IsOrderOf kind order → AreInOrder items next order → Ascends number_of 0 items
    → list_any (λ s. meets (hosts_by order set) s.mark) items ≡ not (is_empty (available_at kind set (told items)))
any_by (kinds.Standard count sampled) (orders.Hosts hosts) set next items e h a =
    any_wanted set items ∙ any_seen hosts set items h.hosted ∙ ap (λ k. not (is_empty (filter (seen k set) (told items)))) e
any_by (kinds.Standard count sampled) (orders.Groups groups) set next items e h a = absurd e
any_by (kinds.Fifo content_dedup scope) (orders.Hosts hosts) set next items e h a = absurd e
any_by (kinds.Fifo content_dedup scope) (orders.Groups groups) set next items e h a = any_wanted 1 items ∙ any_given items (find (wanted 0 1) items) a h.led refl

-- the first messages that a standard queue may give, of which there are no more than are visible
pub first_by : (kind : Kind) (hosts set most : ℕ) (items : List Shelved) → IsOrderOf kind (orders.Hosts hosts) → AreOnHosts hosts items
    → map number_of (take (min most (count_by is_visible (told items))) (filter (λ s. meets set s.mark) items)) ≡ map (λ m. m.number) (take most (available_at kind set (told items)))
first_by (kinds.Standard count sampled) hosts set most items e h =
    ap (map number_of) (visible_taken hosts set most items h.hosted) ∙ first_seen hosts set most items h.hosted ∙ ap (λ k. map (λ (m : Message). m.number) (take most (filter (seen k set) (told items)))) e
first_by (kinds.Fifo content_dedup scope) hosts set most items e h = absurd e

-- the first messages that a FIFO queue may give, of which there are no more than are visible
pub first_of_groups : (kind : Kind) (groups : Groups) (set most : ℕ) (items : List Shelved) → IsOrderOf kind (orders.Groups groups) → Ascends number_of 0 items
    → map (λ m. m.number) (take (min most (count_by is_visible (told items))) (by_group (open_from (told items) [] (told items)))) ≡ map (λ m. m.number) (take most (available_at kind set (told items)))
first_of_groups (kinds.Standard count sampled) groups set most items e a = absurd e
first_of_groups (kinds.Fifo content_dedup scope) groups set most items e a = ap (map (λ (m : Message). m.number)) (given_taken most (told items) (told_ascends 0 items a))

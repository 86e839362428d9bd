-- Which messages may be received, and in which order.
use Rattle.std.specs.List.{filter_map, list_any}
use Rattle.std.specs.Prelude.{Bool, List, [], filter, flat_map, not, slice_get, ℕ, ◌%◌, ◌&&◌, ◌-◌, ◌/◌, ◌==◌, ◌^◌, ◌∷◌}
use Rattle.sqs_message.specs.declared.message.Message.{Message}
use Rattle.sqs_redrive.specs.declared.settings.Kind.{Kind}
use Rattle.sqs_redrive.specs.declared.settings.Kind.TheVariants.{Fifo, Standard}
use Rattle.sim_clock.specs.Firsts.{kept_when}
use Rattle.sqs_model.specs.Queue.{Queue, is_delayed, is_in_flight, is_visible, same_group}

-- whether a host is one of a set, given by its bits
abbrev pub has_host : ℕ → ℕ → Bool
has_host set host = (set / 2 ^ host) % 2 == 1

-- whether a FIFO queue may give a visible message: none of its group is in flight, and none before it is delayed
abbrev pub is_open : List Message → List Message → Message → Bool
is_open all earlier m =
    is_visible m && not (list_any (λ x. same_group m x && is_in_flight x) all)
    && not (list_any (λ x. same_group m x && is_delayed x) earlier)

-- the messages that a FIFO queue may give, in order of arrival
abbrev pub open_from : List Message → List Message → List Message → List Message
open_from all earlier [] = []
open_from all earlier (m ∷ ms) = kept_when (is_open all earlier m) m (open_from all (m ∷ earlier) ms)

-- the first of each group
abbrev pub firsts : List Message → List Message → List Message
firsts earlier [] = []
firsts earlier (m ∷ ms) = kept_when (not (list_any (same_group m) earlier)) m (firsts (m ∷ earlier) ms)

-- messages group by group, in the order of the groups' first ones
abbrev pub by_group : List Message → List Message
by_group ms = flat_map (λ leader. filter (same_group leader) ms) (firsts [] ms)

-- what a queue of a kind may give: a standard one those on the hosts seen, where message n is on host n modulo hosts
abbrev pub available_at : Kind → ℕ → List Message → List Message
available_at (Standard hosts sampled) set records =
    filter (λ m. is_visible m && has_host set (m.number % hosts)) records
available_at (Fifo content_dedup scope) set records = by_group (open_from records [] records)

-- the set of all hosts
abbrev pub all_hosts : Kind → ℕ
all_hosts (Standard hosts sampled) = 2 ^ hosts - 1
all_hosts (Fifo content_dedup scope) = 1

-- the messages that a receive may give which sees these hosts
abbrev pub available : Queue → ℕ → List Message
available q set = available_at q.settings.kind set q.records

-- the messages that one may give which sees all hosts
abbrev pub all_available : Queue → List Message
all_available q = available q (all_hosts q.settings.kind)

-- the messages at these places, in the order of the places
abbrev pub at_places : List Message → List ℕ → List Message
at_places records places = filter_map (slice_get records) places

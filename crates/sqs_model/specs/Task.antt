-- A move task: what one step takes from its queue, and its states.
use Rattle.std.specs.Prelude.{Bool, List, None, Option, Some, [], false, if◌then◌else◌, max, take, true, ℕ, ◌∷◌}
use Rattle.sqs_message.specs.declared.message.Message.{Message}
use Rattle.sqs_redrive.specs.declared.answers.Rest.{Rest}
use Rattle.sqs_redrive.specs.declared.answers.Rest.TheVariants.{Empty, More, NoSource}
use Rattle.sqs_redrive.specs.declared.transfers.Load.{Load}
use Rattle.sim_clock.specs.Firsts.{is_empty}
use Rattle.sqs_model.specs.Available.{all_available}
use Rattle.sqs_model.specs.Draw.{Draws}
use Rattle.sqs_model.specs.Queue.{Queue, id_of, taken_out}
use Rattle.sqs_redrive.specs.MoveTasks.{MoveTask}
use Rattle.sqs_redrive.specs.declared.transfers.Load.TheVariants as loads

-- where a message goes: to the task's queue, or else back to the queue that it came from
abbrev pub destination : Option ℕ → Message → Option ℕ
destination (Some to) m = Some to
destination None m = m.source

-- what a move carries
abbrev pub move_of : Queue → Message → Load
move_of q m = loads.Move (id_of q m.number) m.group m.origin m.body

-- what a step takes: the queue after it, destinations and loads, and whether it met a message that has nowhere to go
pub record Taken : Type 0 where
  pub queue : Queue
  pub loads : List (ℕ × Load)
  pub stuck : Bool

-- one more taken before the others
abbrev pub taken_one : Queue → Message → ℕ → Taken → Taken
taken_one q m to rest = record rest { loads = (to, move_of q m) ∷ rest.loads }

-- of these messages, those before the first that has nowhere to go
abbrev pub take_each : Queue → Option ℕ → List Message → Taken
take_each q to [] = record { queue = q; loads = []; stuck = false }
take_each q to (m ∷ ms) =
    elim (destination to m) as (λ _. Taken) [
      | None ↦ record { queue = q; loads = []; stuck = true }
      | Some d ↦ taken_one q m d (take_each (taken_out q m.number) to ms)
    ]

-- whether there is anything to receive
abbrev pub rest_of : Queue → Rest
rest_of q = if is_empty (all_available q) then Empty else More

-- what a step leaves
abbrev pub rest_when : Bool → Queue → Rest
rest_when true q = NoSource
rest_when false q = rest_of q

-- what a step took, what it leaves, and the queue after it
abbrev pub taken_answer : Taken → (List (ℕ × Load) × Rest) × Queue
taken_answer t = ((t.loads, rest_when t.stuck t.queue), t.queue)

-- a step of at most `max` messages, of those available now
abbrev pub take_movable : Queue → ℕ → Option ℕ → (List (ℕ × Load) × Rest) × Queue
take_movable q max to = taken_answer (take_each q to (take max (all_available q)))

-- a move task as an agent: its number, the transfers that it sent, and its draws
pub record Task : Type 0 where
  pub number : ℕ
  pub move : MoveTask
  pub sent : ℕ
  pub draws : Draws

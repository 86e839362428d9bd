-- What is left in a world: its messages, transfers under way, and tasks.
use Rattle.std.specs.Ordering.{nat_cmp, on}
use Rattle.std.specs.Prelude.{List, None, Option, Some, [], flat_map, map, ℕ, ◌∷◌}
use Rattle.sqs_message.specs.declared.ids.MessageId.{MessageId}
use Rattle.sqs_message.specs.declared.ids.Origin.{Origin}
use Rattle.sqs_message.specs.declared.message.Message.{Message}
use Rattle.sqs_model.specs.declared.finals.FinalMessage.{FinalMessage}
use Rattle.sqs_model.specs.declared.finals.FinalTask.{FinalTask}
use Rattle.sqs_model.specs.declared.finals.FinalTransfer.{FinalTransfer}
use Rattle.sqs_model.specs.declared.finals.Finals.{Finals}
use Rattle.sqs_model.specs.declared.finals.TransferKind.{TransferKind}
use Rattle.sqs_redrive.specs.declared.transfers.Load.{Load}
use Rattle.sqs_redrive.specs.declared.transfers.Load.TheVariants.{Forward, Move, Redrive}
use Rattle.sqs_redrive.specs.declared.transfers.Outbound.{Outbound}
use Rattle.md5.specs.Md5.{md5}
use Rattle.sim_clock.specs.Order.{inserted_by, key_cmp}
use Rattle.sqs_model.specs.Queue.{Queue, id_of}
use Rattle.sqs_model.specs.Site.{Site}
use Rattle.sqs_model.specs.Task.{Task}
use Rattle.sqs_redrive.specs.Transfers.{transfer_key}
use Rattle.sqs_model.specs.declared.finals.TransferKind.TheVariants as transfers

-- a message of a queue
abbrev pub final_message : Queue → Message → FinalMessage
final_message q m =
    record {
      id = id_of q m.number;
      origin = m.origin;
      place = m.place;
      due = m.release;
      enqueued = m.enqueued;
      receives = m.receives;
      group = m.group;
      md5 = md5 m.body;
    }

-- the messages of a site, in order of arrival
abbrev pub messages_at : Site → List FinalMessage
messages_at s = map (final_message s.core.queue) s.core.queue.records

-- a transfer that carries a message
abbrev pub carried : Outbound → TransferKind → MessageId → Option Origin → List ℕ → FinalTransfer
carried o kind id origin body =
    record { from = o.from; to = o.to; kind = kind; due = o.at; number = o.number; message = id; origin = origin; md5 = md5 body }

-- a transfer by its load
abbrev pub final_load : Outbound → Load → FinalTransfer
final_load o (Redrive id group origin body enqueued) = carried o transfers.Redrive id (Some origin) body
final_load o (Move id group origin body) = carried o transfers.Move id (Some origin) body
final_load o (Forward id group body) = carried o transfers.Forward id None body

-- a transfer under way
abbrev pub final_transfer : Outbound → FinalTransfer
final_transfer o = final_load o o.load

-- transfers in the order of their keys
abbrev pub in_key_order : List Outbound → List Outbound
in_key_order [] = []
in_key_order (o ∷ os) = inserted_by (on transfer_key key_cmp) o (in_key_order os)

-- a move task
abbrev pub final_task : Task → FinalTask
final_task t = record { task = t.number; status = t.move.status; moved = t.move.moved }

-- tasks by number
abbrev pub in_number_order : List Task → List Task
in_number_order [] = []
in_number_order (t ∷ ts) = inserted_by (on (λ x. x.number) nat_cmp) t (in_number_order ts)

-- what is left in a world
unfoldable pub finals_of : List Site → Finals
finals_of sites =
    record {
      messages = flat_map messages_at sites;
      transfers = map final_transfer (in_key_order (flat_map (λ s. s.arriving) sites));
      tasks = map final_task (in_number_order (flat_map (λ s. s.core.tasks) sites));
    }

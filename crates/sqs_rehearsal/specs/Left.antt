-- Parts of what is left in sites, and how their texts are written.
use Rattle.std.specs.Prelude.{List, map, ℕ, ◌++◌, ◌∷◌, Result, flat_map}
use Rattle.sim_clock.specs.declared.key.Key.{Key}
use Rattle.sqs_model.specs.declared.finals.FinalTask.{FinalTask}
use Rattle.sqs_model.specs.declared.finals.FinalTransfer.{FinalTransfer}
use Rattle.sqs_redrive.specs.declared.transfers.Outbound.{Outbound}
use Rattle.sqs_formats.specs.Finals.{message_fields, message_header, task_fields, task_header, transfer_fields, transfer_header}
use Rattle.sqs_formats.specs.Rows.{lines}
use Rattle.sqs_model.specs.declared.finals.Finals.{Finals}
use Rattle.sqs_model.specs.Finals.{final_message, final_task, final_transfer, messages_at}
use Rattle.sqs_model.specs.Site.{Site}
use Rattle.sqs_redrive.specs.Transfers.{transfer_key}
use Rattle.sim_clock.specs.declared.refusal.Refusal.{Refusal}
use Rattle.sim_records.specs.Writes.{WroteSeveral}
use Rattle.sqs_message.specs.declared.message.Message.{Message}
use Rattle.sqs_model.specs.Queue.{Queue}
use Rattle.sqs_model.specs.declared.finals.FinalMessage.{FinalMessage}
use Rattle.sqs_rehearsal.specs.Writers.{Writer}

-- a transfer under way, with its key
abbrev pub keyed : Outbound → Key × FinalTransfer
keyed o = (transfer_key o, final_transfer o)

-- those under way to a site
abbrev pub keyed_at : Site → List (Key × FinalTransfer)
keyed_at s = map keyed s.arriving

-- the move tasks of a site
abbrev pub tasks_at : Site → List FinalTask
tasks_at s = map final_task s.core.tasks

-- the text of the transfers and the move tasks that are left
abbrev pub others_text : List (List ℕ) → Finals → List ℕ
others_text names f =
    lines ((transfer_header ∷ map (transfer_fields names) f.transfers) ++ (task_header ∷ map (task_fields names) f.tasks))

-- some of the messages of a queue, as they are left
abbrev pub finals_in : Queue → List Message → List FinalMessage
finals_in q ms = map (final_message q) ms

-- the lines of messages that are left
abbrev pub message_lines : List (List ℕ) → List FinalMessage → List ℕ
message_lines names ms = lines (map (message_fields names) ms)

-- the text of the messages that are left, under their header
abbrev pub message_part : List (List ℕ) → Finals → List ℕ
message_part names f = lines (message_header ∷ map (message_fields names) f.messages)

-- the lines of a queue's messages, and of those of all sites
abbrev pub queue_text : List (List ℕ) → Queue → List ℕ
queue_text names q = message_lines names (finals_in q q.records)

abbrev pub sites_text : List (List ℕ) → List Site → List ℕ
sites_text names sites = message_lines names (flat_map messages_at sites)

-- how writing a text to a writer ended
abbrev pub Wrote : Writer → List ℕ → Result (Unit {0}) Refusal → Type 0
Wrote w text result = WroteSeveral w.before w.after text result

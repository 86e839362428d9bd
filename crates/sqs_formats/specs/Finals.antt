-- The text of what is left at the end of a run.
use Rattle.std.specs.Prelude.{ℕ, codes, List, [], ◌∷◌, ◌++◌, map}
use Rattle.std.specs.Fmt.{decimal}
use Rattle.hex.specs.Hex.{encode_lower}
use Rattle.sqs_message.specs.declared.message.Place.{Place}
use Rattle.sqs_message.specs.declared.message.Place.TheVariants.{Delayed, Visible, InFlight}
use Rattle.sqs_redrive.specs.declared.settings.TaskStatus.{TaskStatus}
use Rattle.sqs_redrive.specs.declared.settings.TaskStatus.TheVariants as status
use Rattle.sqs_model.specs.declared.finals.Finals.{Finals}
use Rattle.sqs_model.specs.declared.finals.FinalMessage.{FinalMessage}
use Rattle.sqs_model.specs.declared.finals.FinalTransfer.{FinalTransfer}
use Rattle.sqs_model.specs.declared.finals.FinalTask.{FinalTask}
use Rattle.sqs_model.specs.declared.finals.TransferKind.{TransferKind}
use Rattle.sqs_model.specs.declared.finals.TransferKind.TheVariants as transfers
use Rattle.sqs_message.specs.Ids.{id_text, origin_text}
use Rattle.sqs_formats.specs.Rows.{Names, name_at, lines, text_if}

-- the name of a place
abbrev pub place_text : Place → List ℕ
place_text Delayed = codes "delayed"
place_text Visible = codes "visible"
place_text InFlight = codes "inflight"

-- the name of a kind of transfer
abbrev pub transfer_kind_text : TransferKind → List ℕ
transfer_kind_text transfers.Redrive = codes "redrive"
transfer_kind_text transfers.Move = codes "move"
transfer_kind_text transfers.Forward = codes "forward"

-- the name of a task's state
abbrev pub status_text : TaskStatus → List ℕ
status_text status.Idle = codes "Idle"
status_text status.Running = codes "Running"
status_text status.Completed = codes "Completed"
status_text status.Cancelled = codes "Cancelled"
status_text status.Failed = codes "Failed"

-- the header of the messages
abbrev pub message_header : List (List ℕ)
message_header =
    codes "final" ∷ codes "queue" ∷ codes "message" ∷ codes "origin" ∷ codes "place" ∷ codes "due" ∷ codes "enqueued" ∷ codes "receives"
    ∷ codes "group" ∷ codes "md5" ∷ []

-- the fields of a message
abbrev pub message_fields : Names → FinalMessage → List (List ℕ)
message_fields names m =
    codes "final" ∷ name_at names m.id.site ∷ id_text m.id ∷ origin_text m.origin ∷ place_text m.place ∷ text_if decimal m.due
    ∷ decimal m.enqueued ∷ decimal m.receives ∷ text_if (λ g. g) m.group ∷ encode_lower m.md5 ∷ []

-- the header of the transfers
abbrev pub transfer_header : List (List ℕ)
transfer_header =
    codes "transfer" ∷ codes "from" ∷ codes "to" ∷ codes "kind" ∷ codes "due" ∷ codes "number" ∷ codes "message" ∷ codes "origin" ∷ codes "md5" ∷ []

-- the fields of a transfer
abbrev pub transfer_fields : Names → FinalTransfer → List (List ℕ)
transfer_fields names t =
    codes "transfer" ∷ name_at names t.from ∷ name_at names t.to ∷ transfer_kind_text t.kind ∷ decimal t.due ∷ decimal t.number
    ∷ id_text t.message ∷ text_if origin_text t.origin ∷ encode_lower t.md5 ∷ []

-- the header of the tasks
abbrev pub task_header : List (List ℕ)
task_header = codes "task" ∷ codes "name" ∷ codes "status" ∷ codes "moved" ∷ []

-- the fields of a task
abbrev pub task_fields : Names → FinalTask → List (List ℕ)
task_fields names t = codes "task" ∷ name_at names t.task ∷ status_text t.status ∷ decimal t.moved ∷ []

-- the records of the three parts, each a header and what is left
abbrev pub final_records : Names → Finals → List (List (List ℕ))
final_records names f =
    (message_header ∷ map (message_fields names) f.messages)
    ++ ((transfer_header ∷ map (transfer_fields names) f.transfers) ++ (task_header ∷ map (task_fields names) f.tasks))

-- the finals
abbrev pub finals_text : Names → Finals → List ℕ
finals_text names f = lines (final_records names f)

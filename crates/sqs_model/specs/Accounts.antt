-- Where a message is: in a queue, in a transfer, deleted or expired.
use Rattle.std.specs.List.{list_any}
use Rattle.std.specs.Prelude.{Bool, IsTrue, List, None, Option, Some, count_by, false, sum_by, true, ℕ, ◌&&◌, ◌+◌, ◌==◌, ◌≡◌}
use Rattle.sqs_message.specs.declared.ids.MessageId.{MessageId}
use Rattle.sqs_message.specs.declared.ids.Origin.{Origin}
use Rattle.sqs_message.specs.declared.row.Detail.{Detail}
use Rattle.sqs_message.specs.declared.row.Row.{Row}
use Rattle.sqs_message.specs.declared.row.RowAnswer.{RowAnswer}
use Rattle.sqs_redrive.specs.declared.transfers.Load.{Load}
use Rattle.sqs_redrive.specs.declared.transfers.Load.TheVariants.{Forward, Move, Redrive}
use Rattle.sqs_model.specs.Acts.{row}
use Rattle.sqs_model.specs.Run.{after}
use Rattle.sqs_model.specs.Scenario.{HasItsQueues, Scenario, opening}
use Rattle.sqs_model.specs.Site.{Site}
use Rattle.sqs_message.specs.declared.row.RowAnswer.TheVariants as answers
use Rattle.sqs_message.specs.declared.row.Detail.TheVariants as details

-- whether two origins are one
abbrev pub same_origin : Origin → Origin → Bool
same_origin a b = a.site == b.site && a.number == b.number

-- the origin that a row gives to the new id in it: the id's own for a send, the row's detail for an arrival
abbrev pub origin_told : RowAnswer → Detail → MessageId → Option Origin
origin_told answers.New (details.From origin) id = Some origin
origin_told answers.New (details.Digest d) id = Some (record { site = id.site; number = id.number })
origin_told _ _ id = None

-- the same of a whole row
abbrev pub origin_in : Row → Option MessageId → Option Origin
origin_in row None = None
origin_in row (Some id) = origin_told row.answer row.detail id

-- whether an origin that may be absent is this one
abbrev pub is_origin : Origin → Option Origin → Bool
is_origin o None = false
is_origin o (Some p) = same_origin o p

-- whether a row gives its id this origin
abbrev pub tells : Origin → Row → Bool
tells o row = is_origin o (origin_in row row.message)

-- whether two ids that may be absent are there and one
abbrev pub same_id : Option MessageId → Option MessageId → Bool
same_id None b = false
same_id (Some a) None = false
same_id (Some a) (Some b) = a.site == b.site && a.number == b.number

-- whether some row gives the id in this row this origin
abbrev pub is_told : Origin → List Row → Row → Bool
is_told o rows row = list_any (λ r. tells o r && same_id r.message row.message) rows

-- whether a row gives an id its own origin
abbrev pub is_first : Origin → Row → Bool
is_first o row = tells o row && same_id row.message (Some (record { site = o.site; number = o.number }))

-- an origin is accepted if a row gives an id its own origin
abbrev pub IsAccepted : Origin → List Row → Type 0
IsAccepted o rows = IsTrue (list_any (is_first o) rows)

-- whether a load carries the message of an origin; a forward is not accepted yet and has none
abbrev pub carries : Origin → Load → Bool
carries o (Redrive id group origin body enqueued) = same_origin o origin
carries o (Move id group origin body) = same_origin o origin
carries o (Forward id group body) = false

-- whether an answer is that of a delete that removed its message
abbrev pub is_deleted : RowAnswer → Bool
is_deleted answers.Deleted = true
is_deleted _ = false

-- whether an answer is that of an expiry
abbrev pub is_expired : RowAnswer → Bool
is_expired answers.Expired = true
is_expired _ = false

-- the number of messages with an origin that are in queues
abbrev pub queued : Origin → List Site → ℕ
queued o sites = sum_by (λ s. count_by (λ m. same_origin o m.origin) s.core.queue.records) sites

-- how many transfers under way carry the message of an origin
abbrev pub under_way : Origin → List Site → ℕ
under_way o sites = sum_by (λ s. count_by (λ t. carries o t.load) s.arriving) sites

-- how many rows of an answer end a message of an origin
abbrev pub ended_by : (RowAnswer → Bool) → Origin → List Row → ℕ
ended_by is_end o rows = count_by (λ r. is_end r.answer && is_told o rows r) rows

-- the number of places of the message with an origin
abbrev pub places : Origin → List Site → List Row → ℕ
places o sites rows = queued o sites + under_way o sites + ended_by is_deleted o rows + ended_by is_expired o rows

-- every message accepted is in exactly one place: one queue, one transfer, deleted, or expired
abbrev pub EachHasOnePlace : List Site → List Row → Type 0
EachHasOnePlace sites rows = (o : Origin) → IsAccepted o rows → places o sites rows ≡ 1

-- a message that was not accepted is nowhere
abbrev pub NoOtherHasPlace : List Site → List Row → Type 0
NoOtherHasPlace sites rows = (o : Origin) → list_any (is_first o) rows ≡ false → places o sites rows ≡ 0

-- at every step of the one-list run of a scenario that has its queues, every accepted message is in exactly one place
abbrev pub EachKeepsOnePlace : Type 0
EachKeepsOnePlace =
    (s : Scenario) → HasItsQueues s → (n : ℕ)
    → EachHasOnePlace (after s.horizon n (opening s)).sites (after s.horizon n (opening s)).rows

-- no message is anywhere in that run that was not accepted
abbrev pub NoOtherComesIn : Type 0
NoOtherComesIn =
    (s : Scenario) → HasItsQueues s → (n : ℕ)
    → NoOtherHasPlace (after s.horizon n (opening s)).sites (after s.horizon n (opening s)).rows

-- A transfer that arrives, by what the queue answered.
use Rattle.std.proofs.Common.{true, false, [], ◌∷◌, ◌++◌, ◌≡◌, refl}
use Rattle.sqs_message.specs.declared.ids.MessageId.{MessageId}
use Rattle.sqs_redrive.specs.declared.transfers.Load.{Load}
use Rattle.sqs_model.specs.Arrive.{arrived}
use Rattle.sqs_model.specs.Queue.{Queue}
use Rattle.std.specs.Prelude.{Bool}
use Rattle.sim_clock.specs.declared.key.Key.{Key}
use Rattle.sqs_message.specs.declared.row.Row.{Row}
use Rattle.sqs_message.specs.declared.row.RowAnswer.TheVariants as answers
use Rattle.sqs_redrive.specs.declared.answers.Sent.TheVariants.{New, Repeat}
use Rattle.sqs_model.specs.Site.{Core, says, with_queue}
use Rattle.sqs_model.specs.Step.{arrival_done, arrival_row, expiry_row, load_age}
use Rattle.sim_site.specs.Effects.{Did, Effects}
use Rattle.sim_site.proofs.Carried.{did_say, did_then}

-- a message that comes in and stays
pub new_stays :
    (key : Key) (load : Load) (c : Core) (before after : Effects) (q : Queue) (id : MessageId) (x : Row) → arrived c.queue key.at load ≡ ((New id, false), q)
    → after.rows.items ≡ before.rows.items ++ x ∷ [] → after.sent ≡ before.sent → x ≡ arrival_row key c load answers.New id
    → Did before after (with_queue c q) (arrival_done key load c (arrived c.queue key.at load))
new_stays key load c before after q id x h rows sent row = rw h (did_say before after (with_queue c q) (with_queue c q) x (arrival_row key c load answers.New id) rows sent refl row)

-- one that expires as it comes in
pub new_expires :
    (key : Key) (load : Load) (c : Core) (before mid after : Effects) (q : Queue) (id : MessageId) (x y : Row) → arrived c.queue key.at load ≡ ((New id, true), q)
    → mid.rows.items ≡ before.rows.items ++ x ∷ [] → mid.sent ≡ before.sent → x ≡ arrival_row key c load answers.New id
    → after.rows.items ≡ mid.rows.items ++ y ∷ [] → after.sent ≡ mid.sent → y ≡ expiry_row key c id (load_age load key.at)
    → Did before after (with_queue c q) (arrival_done key load c (arrived c.queue key.at load))
new_expires key load c before mid after q id x y h rows sent row more same row_y =
    let d : Core = with_queue c q in
    let first : Did before mid d (says d (arrival_row key c load answers.New id)) = did_say before mid d d x (arrival_row key c load answers.New id) rows sent refl row in
    rw h (did_then before mid after d d (says d (arrival_row key c load answers.New id)) (λ e. says e (expiry_row key c id (load_age load key.at))) first (did_say mid after d d y (expiry_row key c id (load_age load key.at)) more same refl row_y))

-- a repeat
pub repeat_did :
    (key : Key) (load : Load) (c : Core) (before after : Effects) (q : Queue) (id : MessageId) (expired : Bool) (x : Row) → arrived c.queue key.at load ≡ ((Repeat id, expired), q)
    → after.rows.items ≡ before.rows.items ++ x ∷ [] → after.sent ≡ before.sent → x ≡ arrival_row key c load answers.Repeat id
    → Did before after (with_queue c q) (arrival_done key load c (arrived c.queue key.at load))
repeat_did key load c before after q id expired x h rows sent row =
    rw h (did_say before after (with_queue c q) (with_queue c q) x (arrival_row key c load answers.Repeat id) rows sent refl row)

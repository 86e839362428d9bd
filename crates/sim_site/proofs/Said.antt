-- A change of visibility that is refused.
use Rattle.std.proofs.Common.{◌≡◌, ℕ, ◌==◌, ◌+◌, ◌*◌, ◌++◌, ◌∷◌, [], List, Option, Some, None, ap, refl, subst, nat_lt}
use Rattle.std.specs.Prelude.{Err, IfErr, Ok, Result, not, ◌||◌}
use Rattle.sim_clock.specs.declared.refusal.Refusal.{Refusal}
use Rattle.sim_clock.specs.declared.refusal.Refusal.TheVariants as refusals
use Rattle.sqs_message.specs.declared.ids.Receipt.{Receipt}
use Rattle.sqs_message.specs.declared.message.Message.{Message}
use Rattle.sqs_redrive.specs.declared.transfers.Load.{Load}
use Rattle.sqs_model.specs.Calls.{change, change_done, change_found, change_here, in_flight_until, may_be_given, returned}
use Rattle.sim_clock.specs.declared.key.Key.{Key}
use Rattle.sqs_message.specs.declared.row.Detail.TheVariants as details
use Rattle.sqs_message.specs.declared.row.Row.{Row}
use Rattle.sqs_message.specs.declared.row.RowAnswer.TheVariants as answers
use Rattle.sqs_model.specs.Actor.{Actor}
use Rattle.sqs_model.specs.Acts.{change_answered, change_row}
use Rattle.sqs_model.specs.Site.{Core, with_queue}
use Rattle.sim_site.specs.Effects.{Did, Effects}
use Rattle.sim_site.proofs.Carried.{did_say}
use Rattle.sqs_model.specs.Queue.{Queue, is_in_flight, numbered, with_change}
use Rattle.sqs_model.specs.Return.{released}
use Rattle.sqs_model.proofs.Branches.{either}

-- a change that is refused leaves the queue as it was
abbrev SameOnErr : Queue → Result (Option Load) Refusal × Queue → Type 0
SameOnErr q x = IfErr x.0 (λ _. x.1 ≡ q)

done_same : (q : Queue) (now n timeout : ℕ) → SameOnErr q (change_done q now n timeout)
done_same q now n timeout =
    either (SameOnErr q) (timeout == 0) (returned (released q n)) (Ok None, with_change q n (in_flight_until (now + 1000 * timeout))) tt tt

here_same : (q : Queue) (now : ℕ) (r : Receipt) (timeout : ℕ) (m : Message) → SameOnErr q (change_here q now r timeout m)
here_same q now r timeout m =
    either (SameOnErr q) (nat_lt m.receives r.count) (Err refusals.ReceiptHandleIsInvalid, q) _ refl
    (either (SameOnErr q) (not (is_in_flight m) || nat_lt r.count m.receives) (Err refusals.MessageNotInflight, q) _ refl
    (either (SameOnErr q) (nat_lt (m.received + 43200000) (now + 1000 * timeout)) (Err refusals.BadTimeout, q) _ refl (done_same q now r.number timeout)))

found_same : (q : Queue) (now : ℕ) (r : Receipt) (timeout : ℕ) (o : Option Message) → SameOnErr q (change_found q now r timeout o)
found_same q now r timeout None = either (SameOnErr q) (nat_lt r.number q.arrivals) (Err refusals.MessageNotInflight, q) (Err refusals.ReceiptHandleIsInvalid, q) refl refl
found_same q now r timeout (Some m) = here_same q now r timeout m

pub change_same : (q : Queue) (now : ℕ) (r : Receipt) (timeout : ℕ) → SameOnErr q (change q now r timeout)
change_same q now r timeout =
    either (SameOnErr q) (nat_lt 43200 timeout) (Err refusals.BadTimeout, q) _ refl
    (either (SameOnErr q) (may_be_given q r) (change_found q now r timeout (numbered r.number q.records)) (Err refusals.ReceiptHandleIsInvalid, q) (found_same q now r timeout (numbered r.number q.records)) refl)

refused_same : (q new : Queue) (now : ℕ) (r : Receipt) (timeout : ℕ) (e : Refusal) → change q now r timeout ≡ (Err e, new) → new ≡ q
refused_same q new now r timeout e h =
    let same : SameOnErr q (Err e, new) = subst (SameOnErr q) h (change_same q now r timeout) in same

-- so it does nothing at a site but its row
pub change_refused_did :
    (key : Key) (a : Actor) (c : Core) (before after : Effects) (text : List ℕ) (timeout : ℕ) (rc : Receipt) (e : Refusal) (q : Queue) (x : Row)
    → change c.queue key.at rc timeout ≡ (Err e, q)
    → after.rows.items ≡ before.rows.items ++ x ∷ [] → after.sent ≡ before.sent → x ≡ change_row key a c text (answers.Refused e) None details.Absent
    → Did before after (with_queue c q) (change_answered key a c text timeout rc (change c.queue key.at rc timeout)).effect
change_refused_did key a c before after text timeout rc e q x h rows sent row =
    let same : q ≡ c.queue = refused_same c.queue q key.at rc timeout e h in
    rw h (did_say before after (with_queue c q) c x (change_row key a c text (answers.Refused e) None details.Absent) rows sent (ap (with_queue c) same) row)

-- Which answers a receive, a delete and a change of visibility can have: what holds of each of them holds of the call's.
use Rattle.std.specs.Prelude.{Bool, Err, List, None, Ok, Option, Result, Some, false, if◌then◌else◌, nat_le, nat_lt, not, true, ℕ, ◌&&◌, ◌*◌, ◌+◌, ◌==◌, ◌≡◌, ◌||◌}
use Rattle.std.proofs.Common.{refl}
use Rattle.sim_clock.specs.declared.refusal.Refusal.{Refusal}
use Rattle.sim_clock.specs.declared.refusal.Refusal.TheVariants as refusals
use Rattle.sqs_message.specs.declared.ids.Receipt.{Receipt}
use Rattle.sqs_message.specs.declared.message.Message.{Message}
use Rattle.sqs_redrive.specs.declared.answers.Deleted.{Deleted}
use Rattle.sqs_redrive.specs.declared.answers.Deleted.TheVariants.{Gone, Kept}
use Rattle.sqs_redrive.specs.declared.answers.Got.{Got}
use Rattle.sqs_redrive.specs.declared.settings.Kind.{Kind}
use Rattle.sqs_redrive.specs.declared.settings.Kind.TheVariants.{Fifo, Standard}
use Rattle.sqs_redrive.specs.declared.transfers.Load.{Load}
use Rattle.sqs_model.specs.Calls.{change, change_done, change_found, change_here, delete_as, delete_fifo_here, delete_gone, delete_standard_here, in_flight_until, may_be_given, removed, returned}
use Rattle.sqs_model.specs.Queue.{Queue, in_flight, is_in_flight, numbered, with_change}
use Rattle.sqs_model.specs.Receive.{answered, give_most, is_bad_timeout, receive}
use Rattle.sqs_model.specs.Return.{released}
use Rattle.sqs_model.proofs.Branches.{either, either_by}

-- what holds of each refusal of a receive and of what it gives
pub receive_by :
    (P : Result (List Got) Refusal × Queue → Type 0) (q : Queue) (now max : ℕ) (timeout : Option ℕ) (set : ℕ) (short : Bool) → ((e : Refusal) → P (Err e, q))
    → (is_bad_timeout timeout ≡ false → P (answered (give_most q now max timeout set))) → P (receive q now max timeout set short)
receive_by P q now max timeout set short refused given =
    let full : Bool = short && nat_le q.settings.in_flight_limit (in_flight q) in
    let got : Result (List Got) Refusal × Queue = answered (give_most q now max timeout set) in
    either_by P (is_bad_timeout timeout) (Err refusals.BadTimeout, q) (if full then (Err refusals.OverLimit, q) else got) (λ _. refused refusals.BadTimeout)
    (λ e. either P full (Err refusals.OverLimit, q) got (refused refusals.OverLimit) (given e))

-- what holds of each answer of a delete
pub record IsOfDeletes (P : Result Deleted Refusal × Queue → Type 0) (q : Queue) (now : ℕ) (r : Receipt) : Type 0 where
  pub refused : P (Err refusals.ReceiptHandleIsInvalid, q)
  pub gone : numbered r.number q.records ≡ None → nat_lt r.number q.arrivals ≡ true → P (Ok Gone, q)
  pub kept : (m : Message) → numbered r.number q.records ≡ Some m → P (Ok Kept, q)
  pub taken : (m : Message) → numbered r.number q.records ≡ Some m → P (removed q now r m)

module _ (P : Result Deleted Refusal × Queue → Type 0) (q : Queue) (now : ℕ) (r : Receipt) (each : IsOfDeletes P q now r) where
  standard_by : (m : Message) → numbered r.number q.records ≡ Some m → P (delete_standard_here q now r m)
  standard_by m e =
      let newer : Result Deleted Refusal × Queue = if nat_lt r.count m.receives then (Ok Kept, q) else removed q now r m in
      either P (nat_lt m.receives r.count) (Err refusals.ReceiptHandleIsInvalid, q) newer each.refused
      (either P (nat_lt r.count m.receives) (Ok Kept, q) (removed q now r m) (each.kept m e) (each.taken m e))

  fifo_by : (m : Message) → numbered r.number q.records ≡ Some m → P (delete_fifo_here q now r m)
  fifo_by m e = either P (r.count == m.receives && is_in_flight m) (removed q now r m) (Err refusals.ReceiptHandleIsInvalid, q) (each.taken m e) each.refused

  found_by :
      (here : Message → Result Deleted Refusal × Queue) → ((m : Message) → numbered r.number q.records ≡ Some m → P (here m))
      → (o : Option Message) → numbered r.number q.records ≡ o → P (elim o as (λ _. Result Deleted Refusal × Queue) [ None ↦ delete_gone q r | Some m ↦ here m ])
  found_by here there None e = either_by P (nat_lt r.number q.arrivals) (Ok Gone, q) (Err refusals.ReceiptHandleIsInvalid, q) (each.gone e) (λ _. each.refused)
  found_by here there (Some m) e = there m e

  pub delete_by : (k : Kind) → P (delete_as k q now r)
  delete_by (Standard hosts sampled) = either P (may_be_given q r) _ _ (found_by (delete_standard_here q now r) standard_by (numbered r.number q.records) refl) each.refused
  delete_by (Fifo content scope) = either P (may_be_given q r) _ _ (found_by (delete_fifo_here q now r) fifo_by (numbered r.number q.records) refl) each.refused

-- what holds of each answer of a change of visibility
pub record IsOfChanges (P : Result (Option Load) Refusal × Queue → Type 0) (q : Queue) (now : ℕ) (r : Receipt) (timeout : ℕ) : Type 0 where
  pub refused : (e : Refusal) → P (Err e, q)
  pub back : (m : Message) → numbered r.number q.records ≡ Some m → is_in_flight m ≡ true → (timeout == 0) ≡ true → P (returned (released q r.number))
  pub kept : (m : Message) → numbered r.number q.records ≡ Some m → is_in_flight m ≡ true → (timeout == 0) ≡ false → P (Ok None, with_change q r.number (in_flight_until (now + 1000 * timeout)))

module _ (P : Result (Option Load) Refusal × Queue → Type 0) (q : Queue) (now : ℕ) (r : Receipt) (timeout : ℕ) (each : IsOfChanges P q now r timeout) where
  in_flight_by : (x y : Bool) → (not x || y) ≡ false → x ≡ true
  in_flight_by true y e = refl
  in_flight_by false y e = cc

  here_by : (m : Message) → numbered r.number q.records ≡ Some m → P (change_here q now r timeout m)
  here_by m f =
      let done : Result (Option Load) Refusal × Queue = change_done q now r.number timeout in
      let short : Result (Option Load) Refusal × Queue = if nat_lt (m.received + 43200000) (now + 1000 * timeout) then (Err refusals.BadTimeout, q) else done in
      either P (nat_lt m.receives r.count) (Err refusals.ReceiptHandleIsInvalid, q)
      (if not (is_in_flight m) || nat_lt r.count m.receives then (Err refusals.MessageNotInflight, q) else short) (each.refused refusals.ReceiptHandleIsInvalid)
      (either_by P (not (is_in_flight m) || nat_lt r.count m.receives) (Err refusals.MessageNotInflight, q) short (λ _. each.refused refusals.MessageNotInflight)
      (λ n.
      let flies : is_in_flight m ≡ true = in_flight_by (is_in_flight m) (nat_lt r.count m.receives) n in
      either P (nat_lt (m.received + 43200000) (now + 1000 * timeout)) (Err refusals.BadTimeout, q) done (each.refused refusals.BadTimeout)
      (either_by P (timeout == 0) (returned (released q r.number)) (Ok None, with_change q r.number (in_flight_until (now + 1000 * timeout))) (each.back m f flies) (each.kept m f flies))))

  there_by : (o : Option Message) → numbered r.number q.records ≡ o → P (change_found q now r timeout o)
  there_by None f =
      either P (nat_lt r.number q.arrivals) (Err refusals.MessageNotInflight, q) (Err refusals.ReceiptHandleIsInvalid, q)
      (each.refused refusals.MessageNotInflight) (each.refused refusals.ReceiptHandleIsInvalid)
  there_by (Some m) f = here_by m f

  pub change_by : P (change q now r timeout)
  change_by =
      let found : Result (Option Load) Refusal × Queue = change_found q now r timeout (numbered r.number q.records) in
      either P (nat_lt 43200 timeout) (Err refusals.BadTimeout, q) (if may_be_given q r then found else (Err refusals.ReceiptHandleIsInvalid, q)) (each.refused refusals.BadTimeout)
      (either P (may_be_given q r) found (Err refusals.ReceiptHandleIsInvalid, q) (there_by (numbered r.number q.records) refl) (each.refused refusals.ReceiptHandleIsInvalid))

-- What an act sends to other queues, if anything.
use Rattle.std.specs.Prelude.{List, [], ◌∷◌}
use Rattle.sqs_message.specs.declared.calls.Call.{Call}
use Rattle.sqs_message.specs.declared.calls.Call.TheVariants as calls
use Rattle.sqs_model.specs.declared.acts.Act.{Act}
use Rattle.sqs_model.specs.declared.acts.Act.TheVariants as acts
use Rattle.sqs_redrive.specs.declared.transfers.Load.{Load}
use Rattle.sqs_redrive.specs.declared.transfers.Load.TheVariants.{Forward, Move, Redrive}
use Rattle.sqs_redrive.specs.declared.transfers.Outbound.{Outbound}
use Rattle.sqs_model.specs.Actor.{act_of}
use Rattle.sim_engine.specs.Members.{Each}
use Rattle.sim_engine.proofs.Parts.{each_weaker}

-- whether a load is a forward
abbrev pub IsForward : Load → Type 0
IsForward (Redrive id group origin body enqueued) = ⊥
IsForward (Move id group origin body) = ⊥
IsForward (Forward id group body) = Unit {0}

-- each of a list has what all have
pub always_each : {A : Type 0} (P : A → Type 0) → ((x : A) → P x) → (xs : List A) → Each P xs
always_each P h [] = tt
always_each P h (x ∷ xs) = (h x, always_each P h xs)

-- whether an act sends only what has a property
abbrev pub Sends : (Outbound → Type 0) → Act → Type 0
Sends P (acts.Serve id receipt failed forwards) = Each P forwards
Sends P act = Unit {0}

-- an act sends what always has a property
pub always_sends : (P : Outbound → Type 0) → ((o : Outbound) → P o) → (act : Act) → Sends P act
always_sends P h (acts.Serve id receipt failed forwards) = always_each P h forwards
always_sends P h act = tt

-- an act that sends only what has one property sends only what has another that follows
pub sends_as : (P Q : Outbound → Type 0) → ((o : Outbound) → P o → Q o) → (act : Act) → Sends P act → Sends Q act
sends_as P Q f (acts.Serve id receipt failed forwards) h = each_weaker P Q f forwards h
sends_as P Q f act h = tt

-- the call of a script sends nothing
pub call_sends : (P : Outbound → Type 0) (c : Call) → Sends P (act_of c)
call_sends P (calls.Send body delay group id) = tt
call_sends P (calls.Receive max wait timeout) = tt
call_sends P (calls.Delete receipt) = tt
call_sends P (calls.Change receipt timeout) = tt
call_sends P (calls.Start task) = tt
call_sends P (calls.Cancel task) = tt

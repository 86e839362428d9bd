-- What an actor sends carries no message that was accepted: it is a forward.
use Rattle.std.specs.Prelude.{None, Option, Some, ℕ}
use Rattle.sqs_model.specs.declared.acts.Act.{Act}
use Rattle.sqs_model.specs.declared.acts.Answer.{Answer}
use Rattle.sqs_redrive.specs.declared.transfers.Outbound.{Outbound}
use Rattle.sqs_model.specs.Actor.{Actor, next}
use Rattle.sqs_model.specs.declared.agents.Forwarding.{Forwarding}
use Rattle.sqs_model.proofs.ConsumerWakes.{MayForwardBy}
use Rattle.sqs_model.proofs.Decisions.{forward_of, next_decides}
use Rattle.sqs_model.proofs.Sending.{IsForward, Sends, sends_as}

-- whether a transfer carries a forward
abbrev pub CarriesForward : Outbound → Type 0
CarriesForward o = IsForward o.load

-- what an act sends, if anything
abbrev pub SendsForwards : Act → Type 0
SendsForwards act = Sends CarriesForward act

carries_forward : (now : ℕ) (a : Actor) (f : Option Forwarding) (o : Outbound) → MayForwardBy now a f o → CarriesForward o
carries_forward now a None o h = absurd h
carries_forward now a (Some f) o h = h.load

pub next_forwards : (a : Actor) (now : ℕ) (w : Answer) → SendsForwards (next a now w).0
next_forwards a now w = sends_as (MayForwardBy now a (forward_of a.settings.role)) CarriesForward (carries_forward now a (forward_of a.settings.role)) (next a now w).0 (next_decides now a w).sends

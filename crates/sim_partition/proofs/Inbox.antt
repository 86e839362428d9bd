-- What a partition accepts later.
use Rattle.std.specs.Prelude.{All, Err, IfOk, List, Ok, Option, Result, []}
use Rattle.std.proofs.Common.{inl, refl}
use Rattle.std.proofs.lemmas.List.Elements.{All-nil}
use Rattle.sim_clock.specs.declared.key.Key.{Key}
use Rattle.sim_clock.specs.declared.refusal.Refusal.{Refusal}
use Rattle.sim_engine.specs.Engine.{Engine}
use Rattle.sim_engine.specs.Laws.{Conditions, SiteLaws}
use Rattle.sim_engine.specs.World.{arrival, world_due}
use Rattle.sim_engine.proofs.WorldMoves.{delivered_sound}
use Rattle.sim_partition.proofs.Delivered.{past_due_delivered}
use Rattle.sim_partition.specs.Sites.{AreOfPast, IsInbox, accepted_by}

-- nothing is in an inbox
pub none_in_inbox : {Site Row Transfer : Type 0} (engine : Engine Site Row Transfer) (conditions : Conditions Site Transfer) (v : Result (List Site) Refusal) (due : Option Key) → IsInbox engine conditions v [] due
none_in_inbox engine conditions (Ok w) due = record { past = All-nil (λ o. All (conditions.Past (arrival engine o)) w); timely = All-nil conditions.Timely; next = inl refl }
none_in_inbox engine conditions (Err e) due = record { past = tt; timely = All-nil conditions.Timely; next = inl refl }

module _ {Site Row Transfer : Type 0} {engine : Engine Site Row Transfer} {conditions : Conditions Site Transfer} (basics : SiteLaws engine conditions) where
  open conditions use {Sound, Past, Timely}

  -- time moves on in sites that have accepted transfers
  pub sound_accepted : (os : List Transfer) (v : Result (List Site) Refusal) → IfOk v (All Sound) → IfOk (accepted_by engine os v) (All Sound)
  sound_accepted os (Ok w) h = delivered_sound basics os w h
  sound_accepted os (Err e) h = tt

  -- nothing there is from after what is due next
  pub past_accepted :
      (os : List Transfer) (v : Result (List Site) Refusal) → IfOk v (λ w. AreOfPast conditions w (world_due engine w)) → IfOk v (λ w. All (λ o. All (Past (arrival engine o)) w) os) → All Timely os
      → IfOk (accepted_by engine os v) (λ w. AreOfPast conditions w (world_due engine w))
  past_accepted os (Ok w) h p t = past_due_delivered basics os w h p t
  past_accepted os (Err e) h p t = tt

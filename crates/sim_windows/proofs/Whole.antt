-- A world as one partition.
use Rattle.std.specs.Prelude.{All, Err, IfOk, IsOk, List, Ok, None, Option, Result, Some, false, true, ◌<◌, ◌≡◌, ◌≤◌}
use Rattle.std.proofs.Common.{arith, refl, sym, ◌∙◌}
use Rattle.std.proofs.lemmas.List.Elements.{All-nil, All-weaker}
use Rattle.sim_clock.specs.declared.key.Key.{Key}
use Rattle.sim_clock.specs.declared.refusal.Refusal.{Refusal}
use Rattle.sim_engine.specs.Engine.{Engine}
use Rattle.sim_engine.specs.Laws.{Conditions, SiteLaws}
use Rattle.sim_engine.specs.Limits.{most_count}
use Rattle.sim_engine.specs.Setting.{Setting}
use Rattle.sim_engine.specs.Simulated.{IsSimulated}
use Rattle.sim_engine.specs.World.{Stepped, handled_among, world_due}
use Rattle.sim_engine.proofs.Numbered.{numbered_ascends}
use Rattle.sim_engine.proofs.WorldMoves.{among_falls, world_in}
use Rattle.sim_partition.specs.Sites.{AreOfPast, HasDue, IsPart, due_in}
use Rattle.sim_partition.proofs.Handled.{past_sites}
use Rattle.sim_partition.proofs.Moments.{all_later, past_from}
use Rattle.sim_windows.specs.Worlds.{sites_in}
use Rattle.sim_windows.proofs.Later.{from_none}

none_some : {A : Type 0} {a : A} → None ≡ Some a → ⊥
none_some h = cc

-- the sites of a partition that lives
pub items_of : {Site : Type 0} (v : Result (List Site) Refusal) (items : List Site) → IsOk v → IfOk v (λ w. items ≡ w) → items ≡ sites_in v
items_of (Ok w) items l h = h
items_of (Err e) items l h = absurd (let k : false ≡ true = l in cc)

module _ {Site Row Transfer : Type 0} {engine : Engine Site Row Transfer} {conditions : Conditions Site Transfer} (basics : SiteLaws engine conditions) where
  open engine use {transfer_key}
  open conditions use {Sound, Past}

  -- the opening of a setting is a partition
  pub world_part : (s : Setting Site) → IsSimulated engine conditions s → IsPart engine conditions s.opening
  world_part s h =
      record {
        ascends = numbered_ascends engine 0 s.opening h.numbered;
        sound = h.sound;
        past = past_from basics h.begun s.opening (world_due engine s.opening) (from_none h.begun (world_due engine s.opening) h.none) h.past;
      }

  -- what holds of a partition's sites, where something is due
  pub at_sites : (P : List Site → Type 0) (v : Result (List Site) Refusal) (key : Key) → world_due engine (sites_in v) ≡ Some key → IfOk v P → P (sites_in v)
  at_sites P (Ok w) key d h = h
  at_sites P (Err e) key d h = absurd (none_some d)

  pub has_due : (v : Result (List Site) Refusal) (key : Key) → world_due engine (sites_in v) ≡ Some key → key.at ≤ most_count → IfOk v (HasDue engine)
  has_due (Ok w) key d l = record { key = key; due = d; moment = l }
  has_due (Err e) key d l = tt

  -- the transfers that a handling sends come later than what it leaves
  pub sent_later :
      (key : Key) (w : List Site) → All Sound w → world_due engine w ≡ Some key → All (Past key.at) w
      → All (λ o. All (Past (transfer_key o).at) (handled_among engine key w).sites) (handled_among engine key w).sent
  sent_later key w s d h =
      let t : Stepped engine = handled_among engine key w in
      let later : All (λ (o : Transfer). key.at < (transfer_key o).at) t.sent = (among_falls basics key 0 w (omega arith) s (world_in basics key w d)).later in
      All-weaker (λ (o : Transfer). key.at < (transfer_key o).at) (λ (o : Transfer). All (Past (transfer_key o).at) t.sites)
      (λ o l. all_later basics key.at (transfer_key o).at t.sites (omega arith) (past_sites basics key w h)) t.sent later

  -- what a partition tells, of its sites
  due_sites : (v : Result (List Site) Refusal) → due_in engine v ≡ world_due engine (sites_in v)
  due_sites (Ok w) = refl
  due_sites (Err e) = refl

  pub due_told : (v : Result (List Site) Refusal) (told o : Option Key) → told ≡ due_in engine v → told ≡ o → world_due engine (sites_in v) ≡ o
  due_told v told o e f = sym (due_sites v) ∙ sym e ∙ f

  pub sound_told : (v : Result (List Site) Refusal) → IfOk v (All Sound) → All Sound (sites_in v)
  sound_told (Ok w) h = h
  sound_told (Err e) h = All-nil Sound

  pub past_told :
      (v : Result (List Site) Refusal) → IfOk v (λ w. AreOfPast conditions w (world_due engine w)) → AreOfPast conditions (sites_in v) (world_due engine (sites_in v))
  past_told (Ok w) h = h
  past_told (Err e) h = tt

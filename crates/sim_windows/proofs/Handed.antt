-- What a handling makes, by the sites of the partition that it changes.
use Rattle.std.specs.Prelude.{IfOk, List, Ok, Result, Some, [], ◌++◌, ◌≡◌}
use Rattle.std.proofs.Common.{ap, subst, ◌∙◌}
use Rattle.sim_clock.specs.declared.key.Key.{Key}
use Rattle.sim_clock.specs.declared.refusal.Refusal.{Refusal}
use Rattle.sim_engine.specs.Engine.{Engine}
use Rattle.sim_engine.specs.Laws.{Conditions, SiteLaws}
use Rattle.sim_engine.specs.World.{Stepped, delivered, handled_among, world_due}
use Rattle.sim_windows.specs.Worlds.{sites_in}
use Rattle.sim_windows.proofs.Whole.{at_sites}

module _ {Site Row Transfer : Type 0} {engine : Engine Site Row Transfer} {conditions : Conditions Site Transfer} (basics : SiteLaws engine conditions) where
  -- what the step made, by the sites
  pub record Made (key : Key) (v new : Result (List Site) Refusal) (before rows : List Row) (sent : List Transfer) : Type 0 where
    pub left : new ≡ Ok (handled_among engine key (sites_in v)).sites
    pub wrote : rows ≡ before ++ (handled_among engine key (sites_in v)).rows
    pub sent_is : sent ≡ (handled_among engine key (sites_in v)).sent

  pub made :
      (key : Key) (v new : Result (List Site) Refusal) (before rows : List Row) (none sent : List Transfer) → none ≡ [] → world_due engine (sites_in v) ≡ Some key
      → IfOk v (λ w. (k : Key) → world_due engine w ≡ Some k → (new ≡ Ok (handled_among engine k w).sites) × (rows ≡ before ++ (handled_among engine k w).rows) × (sent ≡ none ++ (handled_among engine k w).sent))
      → Made key v new before rows sent
  made key v new before rows none sent empty due h =
      let f =
      at_sites basics
      (λ w. (k : Key) → world_due engine w ≡ Some k → (new ≡ Ok (handled_among engine k w).sites) × (rows ≡ before ++ (handled_among engine k w).rows) × (sent ≡ none ++ (handled_among engine k w).sent))
      v key due h key due in
      record { left = f.0; wrote = f.1; sent_is = f.2 ∙ ap (λ os. os ++ (handled_among engine key (sites_in v)).sent) empty }

  -- what is delivered after it
  pub delivered_after :
      (t : Stepped engine) (stepped new : Result (List Site) Refusal) (sent : List Transfer) → stepped ≡ Ok t.sites → sent ≡ t.sent
      → IfOk stepped (λ w. new ≡ Ok (delivered engine sent w)) → new ≡ Ok (delivered engine t.sent t.sites)
  delivered_after t stepped new sent e f h =
      let P : Result (List Site) Refusal → Type 0 = λ x. IfOk x (λ w. new ≡ Ok (delivered engine sent w)) in
      let here : new ≡ Ok (delivered engine sent t.sites) = subst P e h in
      here ∙ ap (λ (os : List Transfer). let x : Result (List Site) Refusal = Ok (delivered engine os t.sites) in x) f

-- What a sink takes of runs, one after another.
use Rattle.std.specs.Prelude.{IsNone, List, Some, [], suc, zero, ℕ, ◌++◌, ◌+◌, ◌≡◌, ◌≤◌}
use Rattle.std.proofs.Common.{ap, arith, inl, inr, refl, subst, sym, ◌∙◌}
use Rattle.sim_clock.specs.declared.key.Key.{Key}
use Rattle.sim_clock.specs.declared.refusal.Refusal.{Refusal}
use Rattle.sim_engine.specs.Engine.{Engine}
use Rattle.sim_engine.specs.Laws.{Conditions, SiteLaws}
use Rattle.sim_engine.specs.Setting.{Setting}
use Rattle.sim_engine.specs.World.{Run, after, handled_among, next_due, run_on, world_due}
use Rattle.sim_partition.specs.Steps.{StopsStep}
use Rattle.sim_windows.specs.Sinks.{HasHalted, HasRun, HasTaken, IsPrefixOfRun, StopsAt, StopsRun}
use Rattle.sim_windows.specs.Worlds.{sites_after}
use Rattle.sim_windows.proofs.Runs.{joined, one_after, stays}
use Rattle.sim_windows.proofs.Stopping.{stops_at, stops_later}

module _ {Site Row Transfer : Type 0} {engine : Engine Site Row Transfer} {conditions : Conditions Site Transfer} (basics : SiteLaws engine conditions) where
  -- the rows of a run before and after some handlings
  rows_joined : (horizon m n : ℕ) (start w : List Site) → (after engine horizon n start).sites ≡ w → (after engine horizon n start).rows ++ (after engine horizon m w).rows ≡ (after engine horizon (m + n) start).rows
  rows_joined horizon m n start w e =
      let x : Run engine = after engine horizon n start in
      ap (λ (sites : List Site). x.rows ++ (after engine horizon m sites).rows) (sym e) ∙ ap (λ (r : Run engine). r.rows) (sym (joined basics horizon m n start))

  -- a scenario's run begins with the rows of its first handlings
  pub prefix_after : (s : Setting Site) (n : ℕ) → IsPrefixOfRun engine s (after engine s.horizon n s.opening).rows
  prefix_after s n r is =
      let start : List Site = s.opening in
      let x : Run engine = after engine s.horizon n start in
      let k : ℕ = is.steps in
      let ended : IsNone (next_due engine s.horizon (after engine s.horizon k start).sites) = subst (λ (y : Run engine). IsNone (next_due engine s.horizon y.sites)) (sym is.reached) is.ended in
      let swap : k + n ≡ n + k = omega arith in
      let whole : after engine s.horizon (k + n) start ≡ r = ap (λ i. after engine s.horizon i start) swap ∙ stays basics s.horizon n k start ended ∙ is.reached in
      ((after engine s.horizon k x.sites).rows, rows_joined s.horizon k n start x.sites refl ∙ ap (λ (y : Run engine). y.rows) whole)

  module _ {K : Type 0} (took : K → List Row → K → Type 0) (horizon : ℕ) where
    -- one handling
    pub one_run : (key : Key) (w x : List Site) (a b : K) → world_due engine w ≡ Some key → key.at ≤ horizon → x ≡ sites_after engine key w → took a (handled_among engine key w).rows b → HasRun engine took horizon w a x b
    one_run key w x a b d l e taken =
        let one : run_on engine [] (handled_among engine key w) ≡ after engine horizon (suc zero) w = sym (one_after basics horizon key w d l) in
        record {
          steps = suc zero;
          reached = ap (λ (r : Run engine). r.sites) (sym one) ∙ sym e;
          taken = subst (λ (r : Run engine). took a r.rows b) one taken;
        }

    -- some handlings after others
    pub runs_on : ((x y z : K) (xs ys : List Row) → took x xs y → took y ys z → took x (xs ++ ys) z)
        → (start w end : List Site) (a b c : K) → HasRun engine took horizon start a w b → HasRun engine took horizon w b end c → HasRun engine took horizon start a end c
    runs_on took_both start w end a b c p q =
        let both : (after engine horizon p.steps start).rows ++ (after engine horizon q.steps w).rows ≡ (after engine horizon (q.steps + p.steps) start).rows = rows_joined horizon q.steps p.steps start w p.reached in
        record {
          steps = q.steps + p.steps;
          reached = ap (λ (r : Run engine). r.sites) (joined basics horizon q.steps p.steps start) ∙ ap (λ (sites : List Site). (after engine horizon q.steps sites).sites) p.reached ∙ q.reached;
          taken = subst (λ rows. took a rows c) both (took_both a b c _ _ p.taken q.taken);
        }

    module _ (broke : K → List Row → Refusal → K → Type 0) where
      -- a handling is refused, and the sink was handed nothing of it
      pub halts_unhanded : (key : Key) (w : List Site) (a : K) (e : Refusal) → world_due engine w ≡ Some key → key.at ≤ horizon → took a [] a → StopsStep engine (handled_among engine key w) e → HasHalted engine took broke horizon w a e a
      halts_unhanded key w a e d l none stops = record { steps = zero; at_rows = inl (none, stops_at basics horizon key w e d l stops) }

      -- the sink broke at its rows
      pub halts_handed : (key : Key) (w : List Site) (a b : K) (e : Refusal) → world_due engine w ≡ Some key → key.at ≤ horizon → broke a (handled_among engine key w).rows e b → HasHalted engine took broke horizon w a e b
      halts_handed key w a b e d l broken = record { steps = suc zero; at_rows = inr (subst (λ (r : Run engine). broke a r.rows e b) (sym (one_after basics horizon key w d l)) broken) }

      -- a run stops where what it has come to does
      pub halts_on : ((x y z : K) (xs ys : List Row) → took x xs y → took y ys z → took x (xs ++ ys) z)
          → ((x y z : K) (xs ys : List Row) (e : Refusal) → took x xs y → broke y ys e z → broke x (xs ++ ys) e z)
          → (start w : List Site) (a b c : K) (e : Refusal) → HasRun engine took horizon start a w b → HasHalted engine took broke horizon w b e c → HasHalted engine took broke horizon start a e c
      halts_on took_both broke_later start w a b c e p q =
          let first : List Row = (after engine horizon p.steps start).rows in
          let more : List Row = (after engine horizon q.steps w).rows in
          let both : first ++ more ≡ (after engine horizon (q.steps + p.steps) start).rows = rows_joined horizon q.steps p.steps start w p.reached in
          let at_rows : StopsAt engine took broke (StopsRun engine horizon start) (first ++ more) a e c =
          elim q.at_rows as (λ _. StopsAt engine took broke (StopsRun engine horizon start) (first ++ more) a e c) [
            | inl r ↦ inl (took_both a b c first more p.taken r.0, stops_later basics horizon p.steps start w e p.reached r.1)
            | inr r ↦ inr (broke_later a b c first more e p.taken r)
          ] in
          record { steps = q.steps + p.steps; at_rows = subst (λ rows. StopsAt engine took broke (StopsRun engine horizon start) rows a e c) both at_rows }

  module _ {K : Type 0} (took : K → List Row → K → Type 0) (s : Setting Site) where
    -- a scenario's run that has come to its end
    pub taken_whole : (horizon : ℕ) (sites : List Site) (a b : K) → horizon ≡ s.horizon → HasRun engine took horizon s.opening a sites b → IsNone (next_due engine horizon sites) → HasTaken engine took s a b sites
    taken_whole horizon sites a b h ran ended =
        let here : HasRun engine took s.horizon s.opening a sites b = subst (λ n. HasRun engine took n s.opening a sites b) h ran in
        let none : IsNone (next_due engine s.horizon sites) = subst (λ n. IsNone (next_due engine n sites)) h ended in
        record {
          run = after engine s.horizon here.steps s.opening;
          is = record { steps = here.steps; reached = refl; ended = subst (λ w. IsNone (next_due engine s.horizon w)) (sym here.reached) none };
          taken = here.taken;
          sites_are = sym here.reached;
        }

-- A machine at which nothing was done.
use Rattle.std.specs.List.{range_with_len}
use Rattle.std.specs.Prelude.{All, Bool, List, None, Ok, Option, Result, Some, [], cond, false, filter, length, map, suc, true, zero, ℕ, ◌∷◌, ◌≡◌, ◌≤◌}
use Rattle.std.proofs.Common.{ap, arith, inl, inr, refl, subst, ◌∙◌}
use Rattle.std.proofs.lemmas.Bool.{le-ltb}
use Rattle.std.proofs.lemmas.List.Elements.{All-cons, All-head, All-nil, All-tail}
use Rattle.std.proofs.lemmas.List.FromFn.{length-map-range_with_len}
use Rattle.sim_clock.specs.declared.key.Key.{Key}
use Rattle.sim_clock.specs.declared.refusal.Refusal.{Refusal}
use Rattle.sim_clock.specs.Order.{due_before}
use Rattle.sim_engine.specs.Bounds.{AreDistances, bound_by, moment_of, own_bound, reached}
use Rattle.sim_engine.specs.declared.edge.Edge.{Edge}
use Rattle.sim_engine.specs.Engine.{Engine}
use Rattle.sim_engine.specs.Laws.{Conditions, SiteLaws}
use Rattle.sim_engine.specs.Limits.{most_count}
use Rattle.sim_engine.specs.Parts.{is_of, part_due, part_of}
use Rattle.sim_engine.specs.Prefixes.{is_before}
use Rattle.sim_engine.specs.Setting.{Setting}
use Rattle.sim_engine.specs.Simulated.{IsSimulated}
use Rattle.sim_engine.proofs.OneList.{part_none}
use Rattle.sim_engine.proofs.Simulated.{none_at_zero}
use Rattle.sim_engine.proofs.Worlds.{not_before}
use Rattle.sim_exchange.specs.Layout.{IsLayout, Layout, owner_of}
use Rattle.sim_exchange.specs.Table.{Table, distance_in}
use Rattle.sim_partition.proofs.Moments.{all_later}
use Rattle.sim_windows.specs.Stages.{IsForward, Shows, Standing, Stands, TakeTime, bounds_by, machine_in, opened}
use Rattle.sim_windows.proofs.Meetings.{bounds_set}

-- none, or not before a moment
abbrev IsSomeFrom : ℕ → Option ℕ → Type 0
IsSomeFrom now None = Unit {0}
IsSomeFrom now (Some at) = now ≤ at

due_from : (now : ℕ) (d : Option Key) → due_before now d ≡ None → IsSomeFrom now (moment_of d)
due_from now None h = tt
due_from now (Some k) h = not_before now k h

reached_from : (now horizon : ℕ) (due d : Option ℕ) → now ≤ horizon → IsSomeFrom now due → now ≤ reached horizon due d
reached_from now horizon None d l h = omega (arith, l)
reached_from now horizon (Some at) None l h = omega (arith, l)
reached_from now horizon (Some at) (Some d) l h = omega (arith, h)

-- no bound is before a moment that no partition has anything due before
bound_from : (distance : ℕ → ℕ → Option ℕ) (now horizon : ℕ) (due : ℕ → Option ℕ) (p n : ℕ) → now ≤ horizon → ((q : ℕ) → IsSomeFrom now (due q)) → now ≤ bound_by distance horizon due p n
bound_from distance now horizon due p zero l h = omega (arith, l)
bound_from distance now horizon due p (suc q) l h = omega (arith, reached_from now horizon (due q) (distance q p) l (h q), bound_from distance now horizon due p q l h)

pub all_picked : {A : Type 0} (P : A → Type 0) (f : A → Bool) (xs : List A) → All P xs → All P (filter f xs)
all_picked P f [] h = All-nil P
all_picked P f (x ∷ xs) h =
    elim (f x) as (λ b. All P (cond b (x ∷ filter f xs) (filter f xs))) [
      | true ↦ All-cons P x (filter f xs) (All-head P x xs h) (all_picked P f xs (All-tail P x xs h))
      | false ↦ all_picked P f xs (All-tail P x xs h)
    ]

-- ways within their range take time
pub take_time : (edges : List Edge) → All (λ e. (1 ≤ e.least) × (e.least ≤ 900000)) edges → TakeTime edges
take_time [] h e i = absurd i
take_time (x ∷ xs) h e (inl same) = subst (λ (y : Edge). 1 ≤ y.least) same (All-head (λ (y : Edge). (1 ≤ y.least) × (y.least ≤ 900000)) x xs h).0
take_time (x ∷ xs) h e (inr i) = take_time xs (All-tail (λ (y : Edge). (1 ≤ y.least) × (y.least ≤ 900000)) x xs h) e i

module _ {Site Row Transfer : Type 0} {engine : Engine Site Row Transfer} {conditions : Conditions Site Transfer} (basics : SiteLaws engine conditions) where
  open engine use {row_key}
  open conditions use {Past, Timely}

  -- nothing is from before the first moment
  pub none_before_zero : (xs : List Row) → filter (is_before engine 0) xs ≡ []
  none_before_zero [] = refl
  none_before_zero (x ∷ xs) =
      ap (λ b. cond b (x ∷ filter (is_before engine 0) xs) (filter (is_before engine 0) xs)) (le-ltb (row_key x).at 0 (omega arith)) ∙ none_before_zero xs

  -- it stands as the definitions' machine at which nothing was picked
  pub opens :
      (s : Setting Site) → IsSimulated engine conditions s → (layout : Layout) → IsLayout layout → (table : Table) → table.parts ≡ layout.parts → AreDistances (owner_of layout) s.edges (distance_in table)
      → TakeTime s.edges → s.horizon ≤ most_count → (parts : List (Result (List Site) Refusal)) → parts ≡ map (λ p. Ok (part_of engine (owner_of layout) p s.opening)) (range_with_len 0 layout.parts)
      → Stands engine conditions s [] (opened engine layout table s.horizon parts)
  opens s sound layout ok table same distances ways range parts is =
      let n : ℕ = layout.parts in
      let rule : List Site → ℕ → ℕ = own_bound engine (owner_of layout) (distance_in table) n s.horizon in
      let at : Standing Site Row Transfer = opened engine layout table s.horizon parts in
      let many : length parts ≡ n = ap (λ xs. length xs) is ∙ length-map-range_with_len (λ p. let x : Result (List Site) Refusal = Ok (part_of engine (owner_of layout) p s.opening) in x) 0 n in
      let bounds : bounds_by engine table s.horizon parts ≡ map (rule s.opening) (range_with_len 0 n) = bounds_set basics (owner_of layout) table s.horizon n s.opening parts is table.parts same (bounds_by engine table s.horizon parts) refl in
      let shows : Shows engine at (machine_in engine layout table s []) = record {
        parts = is;
        bounds = bounds;
        rows = ap (λ k. let f : ℕ → List Row = λ p. [] in map f (range_with_len 0 k)) many;
        waiting = refl;
      } in
      let forward : IsForward engine conditions layout s.horizon 0 (machine_in engine layout table s []) = record {
        past = λ p l.
            all_later basics sound.begun (rule s.opening p) (part_of engine (owner_of layout) p s.opening)
            (bound_from (distance_in table) sound.begun s.horizon (λ q. moment_of (part_due engine (owner_of layout) q s.opening)) p n sound.by
            (λ q. due_from sound.begun (part_due engine (owner_of layout) q s.opening) (part_none basics (owner_of layout) sound.begun q s.opening sound.none)))
            (all_picked (Past sound.begun) (is_of engine (owner_of layout) p) s.opening sound.past);
        timely = All-nil Timely;
        within = omega arith;
        reached = λ p l. omega arith;
        none = λ p. none_at_zero (part_due engine (owner_of layout) p s.opening);
      } in
      record {
        split = record { sound = sound; layout = ok; horizon = refl; range = range; parts = same; distances = distances; ways = ways };
        shows = shows;
        forward = forward;
      }

-- How a machine stands, read by place.
use Rattle.std.specs.Option.{is_some}
use Rattle.std.specs.Prelude.{List, None, Ok, Result, Some, false, get_or, length, true, ℕ, ◌++◌, ◌+◌, ◌<◌, ◌≡◌, ◌≤◌}
use Rattle.std.proofs.Common.{ap, refl, subst, sym, true≢false, ◌∙◌}
use Rattle.std.proofs.lemmas.List.FromFn.{length-map-range_with_len}
use Rattle.sim_clock.specs.declared.refusal.Refusal.{Refusal}
use Rattle.sim_clock.specs.Order.{due_before}
use Rattle.sim_exchange.specs.Layout.{owner_of}
use Rattle.sim_exchange.specs.Table.{distance_in}
use Rattle.sim_engine.specs.Bounds.{least_bound, own_bound}
use Rattle.sim_engine.specs.Kept.{KeepsBounds}
use Rattle.sim_engine.specs.Machine.{Machine, has_ready, played_all, ready}
use Rattle.sim_engine.specs.Parts.{part_due, part_of}
use Rattle.sim_engine.specs.Theorems.{begun}
use Rattle.sim_engine.specs.declared.picks.Pick.{Pick}
use Rattle.sim_engine.proofs.EarlyRows.{part_empty}
use Rattle.sim_engine.proofs.Keeping.{played_more}
use Rattle.sim_engine.proofs.OneList.{part_none}
use Rattle.sim_engine.proofs.ReadByParts.{by_past, machines_are_read_by_parts, past_by}
use Rattle.sim_partition.specs.Sites.{due_in}
use Rattle.sim_windows.specs.Stages.{IsForward, Shows, Standing, Stands, machine_in}
use Rattle.sim_windows.proofs.Least.{same_least}
use Rattle.sim_windows.proofs.Places.{at_place, below_all}
use Rattle.sim_engine.specs.World.{world_due, due_by, next_due}
use Rattle.sim_engine.specs.Setting.{Setting}
use Rattle.sim_engine.specs.Engine.{Engine}
use Rattle.sim_engine.specs.Laws.{Conditions, SiteLaws}

-- what is shown of the definitions' machine: the partition of each site, how bounds are set, and its state
pub record Shown {Site Row Transfer : Type 0} (engine : Engine Site Row Transfer) : Type 0 where
  pub owner : ℕ → ℕ
  pub rule : List Site → ℕ → ℕ
  pub machine : Machine engine

abbrev pub shown_in : {Site Row Transfer : Type 0} (engine : Engine Site Row Transfer) → Setting Site → List Pick → Standing Site Row Transfer → Shown engine
shown_in engine s done g =
    record {
      owner = owner_of g.layout;
      rule = own_bound engine (owner_of g.layout) (distance_in g.distances) g.layout.parts s.horizon;
      machine = machine_in engine g.layout g.distances s done;
    }

module _ {Site Row Transfer : Type 0} {engine : Engine Site Row Transfer} {conditions : Conditions Site Transfer} (basics : SiteLaws engine conditions) where
  module _ (s : Setting Site) (done : List Pick) (g : Standing Site Row Transfer) (st : Stands engine conditions s done g) where
    -- each site is in one of the partitions
    pub below : (n : ℕ) → owner_of g.layout n < g.layout.parts
    below n = below_all g.layout.owners g.layout.parts n st.layout.some st.layout.below

    -- what it keeps to of bounds
    pub keeps : KeepsBounds engine (owner_of g.layout) s.horizon (own_bound engine (owner_of g.layout) (distance_in g.distances) g.layout.parts s.horizon) (machine_in engine g.layout g.distances s done)
    keeps = st.sound.kept (owner_of g.layout) g.layout.parts below (distance_in g.distances) st.distances done

    -- there are as many partitions, bounds and lists of rows as the layout says
    pub many_parts : length g.parts ≡ g.layout.parts
    many_parts = ap (λ xs. length xs) st.shows.parts ∙ length-map-range_with_len _ 0 g.layout.parts

    pub many_bounds : length g.bounds ≡ g.layout.parts
    many_bounds = ap (λ xs. length xs) st.shows.bounds ∙ length-map-range_with_len _ 0 g.layout.parts

    pub many_rows : length g.rows ≡ g.layout.parts
    many_rows = ap (λ xs. length xs) st.shows.rows ∙ length-map-range_with_len _ 0 g.layout.parts

    -- a partition at its place
    pub part_at : (p : ℕ) (d : Result (List Site) Refusal) → p < g.layout.parts → get_or g.parts p d ≡ Ok (part_of engine (owner_of g.layout) p (machine_in engine g.layout g.distances s done).sites)
    part_at p d l = ap (λ xs. get_or xs p d) st.shows.parts ∙ at_place (λ q. let x : Result (List Site) Refusal = Ok (part_of engine (owner_of g.layout) q (machine_in engine g.layout g.distances s done).sites) in x) g.layout.parts p d l

    pub bound_at : (p d : ℕ) → p < g.layout.parts → get_or g.bounds p d ≡ (machine_in engine g.layout g.distances s done).bounds p
    bound_at p d l = ap (λ xs. get_or xs p d) st.shows.bounds ∙ at_place (machine_in engine g.layout g.distances s done).bounds g.layout.parts p d l

    -- what it may handle
    pub ready_at : (p : ℕ) (d : Result (List Site) Refusal) (e : ℕ) → p < g.layout.parts → due_before (get_or g.bounds p e) (due_in engine (get_or g.parts p d)) ≡ ready engine (owner_of g.layout) p (machine_in engine g.layout g.distances s done)
    ready_at p d e l = ap (λ b. due_before b (due_in engine (get_or g.parts p d))) (bound_at p e l) ∙ ap (λ x. due_before ((machine_in engine g.layout g.distances s done).bounds p) (due_in engine x)) (part_at p d l)

    -- a number past the partitions has nothing to handle
    pub none_past : (p : ℕ) → g.layout.parts ≤ p → ready engine (owner_of g.layout) p (machine_in engine g.layout g.distances s done) ≡ None
    none_past p l =
        let m : Machine engine = machine_in engine g.layout g.distances s done in
        ap (λ w. due_before (m.bounds p) (world_due engine w)) (part_empty basics (owner_of g.layout) g.layout.parts p below l m.sites)

    -- some picks more
    pub more_picks :
        (xs : List Pick)
        → machine_in engine g.layout g.distances s (done ++ xs) ≡ played_all engine (owner_of g.layout) s.horizon (own_bound engine (owner_of g.layout) (distance_in g.distances) g.layout.parts s.horizon) xs (machine_in engine g.layout g.distances s done)
    more_picks xs =
        let rule : List Site → ℕ → ℕ = own_bound engine (owner_of g.layout) (distance_in g.distances) g.layout.parts s.horizon in
        played_more basics (owner_of g.layout) s.horizon rule done xs (begun engine rule s.opening)

    -- picks that change nothing
    pub stands_on : (xs : List Pick) → machine_in engine g.layout g.distances s done ≡ machine_in engine g.layout g.distances s (done ++ xs) → Stands engine conditions s (done ++ xs) g
    stands_on xs e =
        record { split = st.split; shows = subst (Shows engine g) e st.shows; forward = subst (IsForward engine conditions g.layout s.horizon g.settled) e st.forward }

    -- where none of the partitions may handle anything, none may at all, and where one may, one may
    pub none_ready_is : ((p : ℕ) → p < g.layout.parts → ready engine (owner_of g.layout) p (machine_in engine g.layout g.distances s done) ≡ None) → has_ready engine (owner_of g.layout) (machine_in engine g.layout g.distances s done) ≡ false
    none_ready_is h = (machines_are_read_by_parts basics (owner_of g.layout) g.layout.parts s.horizon (machine_in engine g.layout g.distances s done) below).stops h

    -- what a partition has due by the horizon
    pub due_at : (p : ℕ) (d : Result (List Site) Refusal) → p < g.layout.parts → due_by s.horizon (due_in engine (get_or g.parts p d)) ≡ next_due engine s.horizon (part_of engine (owner_of g.layout) p (machine_in engine g.layout g.distances s done).sites)
    due_at p d l = ap (λ x. due_by s.horizon (due_in engine x)) (part_at p d l)

    -- where none has anything, nothing is due by it, and where one has, something is
    pub none_due_is : ((p : ℕ) → p < g.layout.parts → next_due engine s.horizon (part_of engine (owner_of g.layout) p (machine_in engine g.layout g.distances s done).sites) ≡ None) → next_due engine s.horizon (machine_in engine g.layout g.distances s done).sites ≡ None
    none_due_is h = (machines_are_read_by_parts basics (owner_of g.layout) g.layout.parts s.horizon (machine_in engine g.layout g.distances s done) below).ends h

    pub one_due_is : (p : ℕ) → is_some (next_due engine s.horizon (part_of engine (owner_of g.layout) p (machine_in engine g.layout g.distances s done).sites)) ≡ true → is_some (next_due engine s.horizon (machine_in engine g.layout g.distances s done).sites) ≡ true
    one_due_is p e =
        let m : Machine engine = machine_in engine g.layout g.distances s done in
        elim (next_due engine s.horizon m.sites) as (λ d. next_due engine s.horizon m.sites ≡ d → is_some d ≡ true) [
          | Some k ↦ λ f. refl
          | None ↦ λ f.
              let none : next_due engine s.horizon (part_of engine (owner_of g.layout) p m.sites) ≡ None =
              by_past s.horizon (part_due engine (owner_of g.layout) p m.sites) (part_none basics (owner_of g.layout) (s.horizon + 1) p m.sites (past_by s.horizon (world_due engine m.sites) f)) in
              absurd (true≢false (sym e ∙ ap is_some none))
        ] refl

  -- the least of the bounds, read off what is kept
  pub least_then :
      (s : Setting Site) (done : List Pick) (g : Standing Site Row Transfer) (st : Stands engine conditions s done g) (moment : ℕ) (bounds : List ℕ) → bounds ≡ g.bounds → moment ≡ least_bound g.horizon (λ p. get_or bounds p 0) (length bounds)
      → moment ≡ least_bound s.horizon (machine_in engine g.layout g.distances s done).bounds g.layout.parts
  least_then s done g st moment bounds e h =
      h ∙ ap (λ xs. least_bound g.horizon (λ p. get_or xs p 0) (length xs)) e
      ∙ ap (λ k. least_bound k (λ p. get_or g.bounds p 0) (length g.bounds)) st.horizon
      ∙ ap (least_bound s.horizon (λ p. get_or g.bounds p 0)) (many_bounds s done g st)
      ∙ same_least s.horizon (λ p. get_or g.bounds p 0) (machine_in engine g.layout g.distances s done).bounds g.layout.parts (λ p l. bound_at s done g st p 0 l)

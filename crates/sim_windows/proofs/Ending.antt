-- A machine at its end.
use Rattle.std.specs.List.{range_with_len}
use Rattle.std.specs.Prelude.{List, None, Ok, Option, Result, Some, [], false, filter, if◌then◌else◌, map, suc, true, zero, ℕ, ◌++◌, ◌+◌, ◌∷◌, ◌≡◌}
use Rattle.std.proofs.Common.{ap, subst, sym, ◌∙◌}
use Rattle.sim_clock.specs.declared.key.Key.{Key}
use Rattle.sim_clock.specs.declared.refusal.Refusal.{Refusal}
use Rattle.sim_engine.specs.Engine.{Engine}
use Rattle.sim_engine.specs.Laws.{Conditions, SiteLaws}
use Rattle.sim_engine.specs.Machine.{Machine, flushed, is_finished}
use Rattle.sim_engine.specs.Merge.{merged_all, row_cmp}
use Rattle.sim_engine.specs.Parts.{part_of}
use Rattle.sim_engine.specs.Prefixes.{is_before}
use Rattle.sim_engine.specs.Setting.{IsNumbered, IsRunOf, Setting}
use Rattle.sim_engine.specs.Simulated.{IsSimulated}
use Rattle.sim_engine.specs.Theorems.{whole_of}
use Rattle.sim_engine.specs.World.{Run, after, delivered, delivered_one, handled_among, handled_here, handled_there, is_due, least_due, next_due, stepped_at}
use Rattle.sim_engine.specs.declared.picks.Pick.{Pick}
use Rattle.sim_engine.proofs.Numbered.{numbered_after}
use Rattle.sim_exchange.specs.Layout.{Layout, owner_of}
use Rattle.sim_exchange.specs.Table.{distance_in}
use Rattle.sim_windows.specs.Stages.{Standing, Stands, delivered_by, machine_in}
use Rattle.sim_windows.proofs.Meetings.{delivered_in, parts_in}
use Rattle.sim_windows.proofs.Standing.{below}

module _ {Site Row Transfer : Type 0} {engine : Engine Site Row Transfer} {conditions : Conditions Site Transfer} (basics : SiteLaws engine conditions) where
  -- sites that open by their numbers end so
  pub ends_numbered : (s : Setting Site) → IsSimulated engine conditions s → (r : Run engine) → IsRunOf engine s r → IsNumbered engine 0 r.sites
  ends_numbered s sound r w = subst (λ (x : Run engine). IsNumbered engine 0 x.sites) w.reached (numbered_after basics s.horizon w.steps s.opening sound.numbered)

  module _ (s : Setting Site) (done : List Pick) (g : Standing Site Row Transfer) (st : Stands engine conditions s done g) (finished : is_finished engine s.horizon (machine_in engine g.layout g.distances s done) ≡ true) where
    -- the whole of the machine, which is the one-list run
    abbrev pub whole : Run engine
    whole = whole_of engine g.layout.parts (machine_in engine g.layout g.distances s done)

    pub is_whole : IsRunOf engine s (whole_of engine g.layout.parts (machine_in engine g.layout g.distances s done))
    is_whole = st.sound.finished (owner_of g.layout) g.layout.parts (below basics s done g st) (distance_in g.distances) st.distances done finished

    -- what is not settled are the rest of its rows
    pub rows_whole :
        filter (is_before engine g.settled) (whole_of engine g.layout.parts (machine_in engine g.layout g.distances s done)).rows ++ merged_all (row_cmp engine) g.rows
        ≡ (whole_of engine g.layout.parts (machine_in engine g.layout g.distances s done)).rows
    rows_whole =
        ap (λ z. filter (is_before engine g.settled) whole.rows ++ merged_all (row_cmp engine) z) st.shows.rows
        ∙ (st.sound.holds (owner_of g.layout) g.layout.parts (below basics s done g st) (distance_in g.distances) st.distances).last done g.settled whole is_whole finished

    -- the partitions with what waited are its world's
    pub parts_whole :
        (h : Standing Site Row Transfer) → h ≡ delivered_by engine g (parts_in basics s done g st)
        → h.parts ≡ map (λ p. Ok (part_of engine (owner_of h.layout) p (flushed engine (machine_in engine g.layout g.distances s done)))) (range_with_len 0 h.layout.parts)
    parts_whole h e =
        let m : Machine engine = machine_in engine g.layout g.distances s done in
        ap (λ (x : Standing Site Row Transfer). x.parts) e ∙ delivered_in basics s done g st
        ∙ ap (λ (l : Layout). map (λ p. let x : Result (List Site) Refusal = Ok (part_of engine (owner_of l) p (flushed engine m)) in x) (range_with_len 0 l.parts)) (sym (ap (λ (x : Standing Site Row Transfer). x.layout) e))

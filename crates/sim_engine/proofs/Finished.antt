-- The laws on machines that have come to their end.
use Rattle.std.specs.Prelude.{List, true, ℕ, ◌≡◌, Option}
use Rattle.std.proofs.Common.{ap, subst, sym, ◌∙◌}
use Rattle.sim_engine.specs.World.{Run}
use Rattle.sim_engine.specs.Bounds.{AreDistances}
use Rattle.sim_engine.specs.declared.picks.Pick.{Pick}
use Rattle.sim_engine.specs.Machine.{Machine, is_finished}
use Rattle.sim_engine.specs.Parts.{Entry}
use Rattle.sim_engine.specs.Theorems.{begun, machine_of, whole_of, rows_by, rows_of}
use Rattle.sim_engine.proofs.Bounds.{own_rule, bound_rule}
use Rattle.sim_engine.proofs.Machines.{Follows, IsRule, begins, follows}
use Rattle.sim_engine.proofs.Merged.{merged_parts, rows_ordered, told_rows}
use Rattle.sim_engine.proofs.Whole.{HasWhole, finished_whole, leads}
use Rattle.sim_engine.proofs.Worlds.{sound_all}
use Rattle.sim_engine.specs.Setting.{IsRunOf}
use Rattle.sim_engine.specs.Laws.{Conditions}
use Rattle.sim_engine.specs.Engine.{Engine}
use Rattle.sim_engine.proofs.Premises.{Premises}
use Rattle.sim_engine.proofs.OneList.{run_told, whole_turns}
use Rattle.sim_engine.proofs.Ends.{ends}

module _ {Site Row Transfer : Type 0} {engine : Engine Site Row Transfer} {conditions : Conditions Site Transfer} (given : Premises engine conditions) where
  open given use {basics, setting, sound, owner, parts}

  pub a_run : (r : Run engine) × IsRunOf engine setting r
  a_run = ends basics setting.horizon setting.opening (sound_all given setting.opening sound.opens)

  module _ (distance : ℕ → ℕ → Option ℕ) (are : AreDistances owner setting.edges distance) where
    abbrev pub machine : List Pick → Machine engine
    machine picks = machine_of engine owner (bound_rule given distance) setting picks

    pub machine_follows : (picks : List Pick) → Follows given (machine picks)
    machine_follows picks =
        let rule : IsRule given (bound_rule given distance) = own_rule given distance are in
        follows given (bound_rule given distance) rule picks (begun engine (bound_rule given distance) setting.opening) (begins given (bound_rule given distance) rule)

    pub machine_whole : (picks : List Pick) → is_finished engine setting.horizon (machine picks) ≡ true → (r : Run engine) (w : IsRunOf engine setting r) → HasWhole given r (run_told given w.steps) (machine picks)
    machine_whole picks f r w =
        let told : List (ℕ × Entry engine) = run_told given w.steps in
        finished_whole given r told (machine picks) f (leads given r told (machine picks) w.ended (whole_turns given r w) (machine_follows picks))

    pub finished : (picks : List Pick) → is_finished engine setting.horizon (machine picks) ≡ true → IsRunOf engine setting (whole_of engine parts (machine picks))
    finished picks f =
        let m : Machine engine = machine picks in
        let r : Run engine = a_run.0 in
        let told : List (ℕ × Entry engine) = run_told given a_run.1.steps in
        let has : HasWhole given r told m = machine_whole picks f r a_run.1 in
        let rows : (whole_of engine parts m).rows ≡ r.rows =
        merged_parts given r.rows (rows_by engine m.told) (rows_ordered given r a_run.1) (λ p. ap (rows_of engine) (has.parts p) ∙ told_rows given r told (whole_turns given r a_run.1) p) in
        let same : whole_of engine parts m ≡ r = ap (λ (z : List Site). let x : Run engine = record { sites = z; rows = (whole_of engine parts m).rows } in x) has.sites ∙ ap (λ (z : List Row). let x : Run engine = record { sites = r.sites; rows = z } in x) rows in
        subst (IsRunOf engine setting) (sym same) a_run.1

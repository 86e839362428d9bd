-- A machine that is not finished has a pick that takes effect.
use Rattle.std.specs.Option.{is_some}
use Rattle.std.specs.Prelude.{not, true, ℕ, ◌<◌, ◌≡◌, ◌||◌}
use Rattle.std.proofs.Common.{ap, arith, sym, true≢false, ◌∙◌}
use Rattle.std.proofs.lemmas.Bool.{cases_lt}
use Rattle.sim_clock.specs.Order.{due_before}
use Rattle.sim_engine.specs.World.{world_due}
use Rattle.sim_engine.specs.declared.picks.Pick.TheVariants.{Barrier, Part}
use Rattle.sim_engine.specs.Machine.{Machine, has_ready, is_finished, ready}
use Rattle.sim_engine.specs.Prefixes.{MachinesGoOn}
use Rattle.sim_engine.proofs.EarlyRows.{part_empty}
use Rattle.sim_engine.proofs.Progress.{ready_part}
use Rattle.sim_engine.specs.Engine.{Engine}
use Rattle.sim_engine.specs.Laws.{Conditions, SiteLaws}
use Rattle.sim_engine.proofs.Branches.{by_cases, by_either}

module _ {Site Row Transfer : Type 0} {engine : Engine Site Row Transfer} {conditions : Conditions Site Transfer} (basics : SiteLaws engine conditions) where
  -- what may go on is one of the partitions
  one_of : (owner : ℕ → ℕ) (parts p : ℕ) (m : Machine engine) → ((n : ℕ) → owner n < parts) → is_some (ready engine owner p m) ≡ true → p < parts
  one_of owner parts p m below h =
      by_either (cases_lt p parts) (λ l. l)
      (λ k. absurd (true≢false (sym h ∙ ap (λ w. is_some (due_before (m.bounds p) (world_due engine w))) (part_empty basics owner parts p below (omega arith) m.sites))))

  pub machines_go_on : MachinesGoOn engine
  machines_go_on owner parts horizon m below going =
      by_cases (has_ready engine owner m)
      (λ e. let i : (p : ℕ) × (is_some (ready engine owner p m) ≡ true) = ready_part basics owner m.bounds m.sites e in (Part i.0, one_of owner parts i.0 m below i.1, i.1))
      (λ e. (Barrier, tt, ap (λ b. not (b || is_finished engine horizon m)) e ∙ ap not going))

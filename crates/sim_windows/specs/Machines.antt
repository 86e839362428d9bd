-- What is seen of a machine of partitions, and of which setting and picks it is.
use Rattle.std.specs.Prelude.{Bool, Err, IfOk, List, Ok, Result, [], true, ℕ, ◌++◌, ◌≡◌}
use Rattle.sim_clock.specs.declared.refusal.Refusal.{Refusal}
use Rattle.sim_engine.specs.Bounds.{least_bound}
use Rattle.sim_engine.specs.Engine.{Engine}
use Rattle.sim_engine.specs.Laws.{Conditions}
use Rattle.sim_engine.specs.Machine.{is_finished}
use Rattle.sim_engine.specs.Setting.{IsRunOf, Setting}
use Rattle.sim_engine.specs.World.{Run}
use Rattle.sim_engine.specs.declared.picks.Pick.{Pick}
use Rattle.sim_exchange.specs.Layout.{Layout}
use Rattle.sim_windows.specs.Stages.{AreSettled, Standing, Stands, effective_picks_in, ended_in, machine_at}

-- the state of a machine, or the error that spent it; the rows that were settled, and the least of its bounds
pub record Seen (Site Row Transfer : Type 0) : Type 0 where
  pub state : Result (Standing Site Row Transfer) Refusal
  pub rows : List Row
  pub end : ℕ

module _ {Site Row Transfer : Type 0} (engine : Engine Site Row Transfer) where
  -- these are all rows of a setting's one-list run, and the sites of its last world
  pub record HasRun (s : Setting Site) (rows : List Row) (sites : List Site) : Type 0 where
    pub run : Run engine
    pub is : IsRunOf engine s run
    pub rows_are : rows ≡ run.rows
    pub sites_are : sites ≡ run.sites

module _ {Site Row Transfer : Type 0} (engine : Engine Site Row Transfer) (conditions : Conditions Site Transfer) where
  -- it is not spent, is split so, and is in the state of the definitions' machine of a setting after some picks; its
  -- rows are those of the one-list run from before the least bound of the last round that ended at a barrier
  pub record IsMachineOf (layout : Layout) (s : Setting Site) (picks : List Pick) (x : Seen Site Row Transfer) : Type 0 where
    pub standing : Standing Site Row Transfer
    pub lives : x.state ≡ Ok standing
    pub split : standing.layout ≡ layout
    pub stands : Stands engine conditions s picks standing
    pub ended : standing.settled ≡ ended_in engine standing s [] picks 0
    pub settled : AreSettled engine s standing.settled x.rows
    pub end : x.end ≡ least_bound s.horizon (machine_at engine standing s picks).bounds layout.parts

  -- so it does for some layout, setting and picks
  pub record IsMachine (x : Seen Site Row Transfer) : Type 0 where
    pub layout : Layout
    pub setting : Setting Site
    pub picks : List Pick
    pub is : IsMachineOf layout setting picks x

  -- unless an error spent it
  abbrev pub IsMachineUnless : Result (Standing Site Row Transfer) Refusal → Seen Site Row Transfer → Type 0
  IsMachineUnless (Ok g) x = IsMachine x
  IsMachineUnless (Err e) x = Unit {0}

  -- what holds of the setting of a machine
  abbrev pub OfMachine : Seen Site Row Transfer → (Setting Site → Type 0) → Type 0
  OfMachine x P = (layout : Layout) (s : Setting Site) (done : List Pick) → IsMachineOf layout s done x → P s

  -- where that machine has finished
  abbrev pub OfFinished : Seen Site Row Transfer → (Setting Site → Type 0) → Type 0
  OfFinished x P =
      (layout : Layout) (s : Setting Site) (done : List Pick) → (is : IsMachineOf layout s done x)
      → is_finished engine s.horizon (machine_at engine is.standing s done) ≡ true → P s

  -- whether it has finished
  abbrev pub IsFinishedIf : Seen Site Row Transfer → Bool → Type 0
  IsFinishedIf x b =
      (layout : Layout) (s : Setting Site) (done : List Pick) → (is : IsMachineOf layout s done x)
      → b ≡ is_finished engine s.horizon (machine_at engine is.standing s done)

  -- a machine goes on by these picks, and reports how many of them took effect
  abbrev pub PlaysOn : Result ℕ Refusal → Seen Site Row Transfer → List Pick → Seen Site Row Transfer → Type 0
  PlaysOn result old picks new =
      (layout : Layout) (s : Setting Site) (done : List Pick) → (was : IsMachineOf layout s done old)
      → IfOk result (λ count. IsMachineOf layout s (done ++ picks) new × (count ≡ effective_picks_in engine was.standing s done picks))

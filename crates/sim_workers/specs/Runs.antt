-- What a sink has taken of a run, and what comes of the run.
use Rattle.std.specs.Global.{Global}
use Rattle.std.specs.List.{sum_by}
use Rattle.std.specs.Prelude.{Err, List, None, Ok, Option, Result, Some, Vec, [], filter, length, ℕ, ◌++◌, ◌⊎◌, ◌≡◌}
use Rattle.sim_clock.specs.declared.refusal.Refusal.{Refusal}
use Rattle.sim_clock.specs.declared.refusal.Refusal.TheVariants as refusals
use Rattle.sim_engine.specs.Engine.{Engine}
use Rattle.sim_engine.specs.Laws.{Conditions}
use Rattle.sim_engine.specs.Limits.{IsOver, StopsWhere}
use Rattle.sim_engine.specs.Prefixes.{is_before}
use Rattle.sim_engine.specs.Setting.{IsRunOf, Setting}
use Rattle.sim_engine.specs.World.{Run}
use Rattle.sim_windows.specs.Sinks.{HasStopped, HasTaken, StopsAt}
use Rattle.sim_windows.specs.Stages.{AreNext, LeadsTo, Settles, Standing, StandsOn, lower_bound_in, with_parts}
use Rattle.sim_windows.specs.declared.lent.Came.{Came}
use Rattle.sim_workers.specs.Paces.{word_of}
use Rattle.sim_workers.specs.Rounds.{IsRefusedRound}

module _ {Site Row Transfer : Type 0} where
  -- how many rows some partitions made, as far as a word counts
  abbrev pub rows_made : List (Came Site Row Transfer) → ℕ
  rows_made came = word_of (sum_by (λ one. length one.made.rows.items) came)

module _ {Site Row Transfer : Type 0} (engine : Engine Site Row Transfer) where
  -- a sink took the rows of a setting's one-list run from before a moment
  abbrev pub HasTold : {K : Type 0} → (K → List Row → K → Type 0) → Setting Site → ℕ → K → K → Type 0
  HasTold took s moment before now = (r : Run engine) → IsRunOf engine s r → took before (filter (is_before engine moment) r.rows) now

  module _ {K : Type 0} (ready : K → Type 0) (took : K → List Row → K → Type 0) (broke : K → List Row → Refusal → K → Type 0) where
    -- why a run does not reach its end: it stops on its way, or a worker could not be started and the sink took nothing
    abbrev pub StopsAnyhow : Setting Site → K → Refusal → K → Type 0
    StopsAnyhow s before refusal now = HasStopped engine took broke s before refusal now ⊎ ((refusal ≡ refusals.NoWorker) × took before [] now)

    -- what comes of a run, and of the sink
    abbrev pub RanOn : Setting Site → K → Result (Vec Site Global) Refusal → K → Type 0
    RanOn s before (Ok sites) now = ready now × HasTaken engine took s before now sites.items
    RanOn s before (Err refusal) now = StopsAnyhow s before refusal now

module _ {Site Row Transfer : Type 0} (engine : Engine Site Row Transfer) {K : Type 0} (took : K → List Row → K → Type 0) (broke : K → List Row → Refusal → K → Type 0) where
  -- how a run stops while a sink is handed rows: at some that they begin with
  abbrev pub StopsAmong : (Refusal → Type 0) → List Row → K → Refusal → K → Type 0
  StopsAmong Stops all before refusal now =
      (rows : List Row) × ((rest : List Row) × ((rows ++ rest ≡ all) × StopsAt engine took broke Stops rows before refusal now))

module _ {Site Row Transfer : Type 0} (engine : Engine Site Row Transfer) (conditions : Conditions Site Transfer) where
  -- rows that are settled while partitions are lent: none, or those from before a moment before which nothing might
  -- come when they were lent
  abbrev pub AreHanded : Option ℕ → Standing Site Row Transfer → Standing Site Row Transfer → List Row → Type 0
  AreHanded None lent now rows = (now ≡ lent) × (rows ≡ [])
  AreHanded (Some moment) lent now rows =
      (parts : List (Result (List Site) Refusal)) → moment ≡ lower_bound_in engine (with_parts parts lent)
      → Settles engine conditions (with_parts parts lent) (with_parts parts now) rows

  -- it is some picks further, with as many partitions
  pub record GoesFurther (g h : Standing Site Row Transfer) : Type 0 where
    pub on : LeadsTo engine conditions g h
    pub count : length h.parts ≡ length g.parts

  module _ {K : Type 0} (took : K → List Row → K → Type 0) where
    -- a sink takes what is settled while partitions are lent, and its rows are counted
    pub record HandsOn (moment : Option ℕ) (lent : Standing Site Row Transfer) (before : K) (after : Standing Site Row Transfer) (now : K) (count : ℕ) : Type 0 where
      pub rows : List Row
      pub are : AreHanded moment lent after rows
      pub taken : took before rows now
      pub counted : count ≡ word_of (length rows)

    -- a sink takes what is settled at the other and was not at the one
    abbrev pub TellsNext : Standing Site Row Transfer → K → Standing Site Row Transfer → K → Type 0
    TellsNext g before h now =
        (s : Setting Site) → StandsOn engine conditions s g → (rows : List Row) × (AreNext engine s g.settled h.settled rows × took before rows now)

    -- a sink takes what is settled in the second state, for every setting of the first
    abbrev pub Told : Standing Site Row Transfer → K → Standing Site Row Transfer → K → Type 0
    Told g before h now = (s : Setting Site) → StandsOn engine conditions s g → HasTold engine took s h.settled before now

    module _ (broke : K → List Row → Refusal → K → Type 0) where
      -- why a round stops while rows are handed on: before that, or among these rows
      abbrev pub StopsHanding : (Refusal → Type 0) → Option ℕ → Standing Site Row Transfer → K → Refusal → K → Type 0
      StopsHanding Stops moment lent before refusal now =
          (Stops refusal × took before [] now)
          ⊎ ((after : Standing Site Row Transfer) × ((rows : List Row) × (AreHanded moment lent after rows × StopsAmong engine took broke Stops rows before refusal now)))

      -- why a round stops: out of memory, by the outcomes of its partitions, or while rows are handed on
      abbrev pub StopsRound : List ℕ → List (Result (List Site) Refusal) → Option ℕ → Standing Site Row Transfer → K → Refusal → K → Type 0
      StopsRound ends parts = StopsHanding (IsRefusedRound engine conditions ends parts)

      -- why rows are not handed on: out of memory, or among these rows
      abbrev pub StopsByMemory : List Row → K → Refusal → K → Type 0
      StopsByMemory rows = StopsAmong engine took broke (λ e. e ≡ refusals.Memory) rows

      -- why the next round or barrier stops: among rows that follow those that were settled before it
      abbrev pub StopsNext : Standing Site Row Transfer → K → Refusal → K → Type 0
      StopsNext g before refusal now =
          (s : Setting Site) → StandsOn engine conditions s g
          → (to : ℕ) × ((rows : List Row) × (AreNext engine s g.settled to rows × StopsAmong engine took broke (StopsWhere (IsOver engine s)) rows before refusal now))

      -- the run stops so, for every setting of the state
      abbrev pub Stopped : Standing Site Row Transfer → K → Refusal → K → Type 0
      Stopped g before refusal now = (s : Setting Site) → StandsOn engine conditions s g → HasStopped engine took broke s before refusal now

  -- what holds of every setting on which a stage stands
  abbrev pub OfStage : Standing Site Row Transfer → (Setting Site → Type 0) → Type 0
  OfStage g P = (s : Setting Site) → StandsOn engine conditions s g → P s

-- What comes of a run, read off how it came.
use Rattle.std.specs.Global.{Global}
use Rattle.std.specs.Prelude.{Err, IfErr, IfOk, List, Ok, OnOk, Result, Vec, [], ◌≡◌}
use Rattle.std.proofs.Common.{inl, inr, refl, subst, sym}
use Rattle.sim_clock.specs.declared.refusal.Refusal.{Refusal}
use Rattle.sim_clock.specs.declared.refusal.Refusal.TheVariants as refusals
use Rattle.sim_workers.specs.Runs.{RanOn, StopsAnyhow}
use Rattle.sim_windows.specs.Sinks.{HasStopped, HasTaken}
use Rattle.sim_engine.specs.Limits.{IsOver, StopsWhere}
use Rattle.sim_engine.specs.Setting.{Setting}
use Rattle.sim_engine.specs.Engine.{Engine}
use Rattle.sim_engine.specs.Laws.{Conditions, SiteLaws}

module _ {Site Row Transfer : Type 0} {engine : Engine Site Row Transfer} {conditions : Conditions Site Transfer} (basics : SiteLaws engine conditions) where
  module _ {K : Type 0} (ready : K → Type 0) (took : K → List Row → K → Type 0) (broke : K → List Row → Refusal → K → Type 0) (s : Setting Site) (before : K) where
    -- of a stage that was run
    pub ran_so : (o : Result (Vec Site Global) Refusal) (now : K) → OnOk o (ready now) → IfOk o (λ sites. HasTaken engine took s before now sites.items) → IfErr o (λ e. HasStopped engine took broke s before e now) → RanOn engine ready took broke s before o now
    ran_so (Ok sites) now a b c = (a, b)
    ran_so (Err e) now a b c = inl c

    -- of one that was not
    pub ran_not : (o : Result (Vec Site Global) Refusal) (now : K) → o ≡ Err refusals.NoWorker → now ≡ before → took before [] before → RanOn engine ready took broke s before o now
    ran_not o now e same none = subst (λ x. RanOn engine ready took broke s before x now) (sym e) (inr (refl, subst (λ n. took before [] n) (sym same) none))

    -- of one that was not begun, since memory ran out
    pub stopped_none : (e : Refusal) → e ≡ refusals.Memory → took before [] before → HasStopped engine took broke s before e before
    stopped_none e memory none =
        record { rows = []; prefix = λ r w. (r.rows, refl); at_rows = inl (none, subst (StopsWhere (IsOver engine s)) (sym memory) tt) }

    pub ran_none : (e : Refusal) → e ≡ refusals.Memory → took before [] before → StopsAnyhow engine ready took broke s before e before
    ran_none e memory none = inl (stopped_none e memory none)

    -- and the other way round
    pub ran_ready : (o : Result (Vec Site Global) Refusal) (now : K) → RanOn engine ready took broke s before o now → OnOk o (ready now)
    ran_ready (Ok sites) now h = h.0
    ran_ready (Err e) now h = tt

    pub ran_whole : (o : Result (Vec Site Global) Refusal) (now : K) → RanOn engine ready took broke s before o now → IfOk o (λ sites. HasTaken engine took s before now sites.items)
    ran_whole (Ok sites) now h = h.1
    ran_whole (Err e) now h = tt

    pub ran_stops : (o : Result (Vec Site Global) Refusal) (now : K) → RanOn engine ready took broke s before o now → IfErr o (λ e. StopsAnyhow engine ready took broke s before e now)
    ran_stops (Ok sites) now h = tt
    ran_stops (Err e) now h = h

-- How a partition goes on, handling by handling, and when it stops.
use Rattle.std.specs.Prelude.{All, IfOk, List, None, Ok, OnOk, Option, Result, Some, max, suc, zero, ℕ, ◌++◌, ◌<◌, ◌≡◌, ◌≤◌}
use Rattle.sim_clock.specs.declared.key.Key.{Key}
use Rattle.sim_clock.specs.declared.refusal.Refusal.{Refusal}
use Rattle.sim_engine.specs.declared.effects.Effects.{Effects}
use Rattle.sim_engine.specs.Counts.{rows_count, sites_count}
use Rattle.sim_engine.specs.Engine.{Engine}
use Rattle.sim_engine.specs.Laws.{Conditions}
use Rattle.sim_engine.specs.Limits.{StopsWhere, most_count}
use Rattle.sim_engine.specs.Rounds.{HasRunTo, PartRun, part_after, part_on, part_ran}
use Rattle.sim_engine.specs.World.{Stepped, handled_among, world_due}

-- the moment of the next entry due, or a bound if there is none
abbrev pub due_at : ℕ → Option Key → ℕ
due_at bound None = bound
due_at bound (Some key) = key.at

-- from a moment on: if nothing was from after a moment, nothing is now
module _ {Site Transfer : Type 0} (conditions : Conditions Site Transfer) where
  open conditions use {Past, Timely}

  abbrev pub StaysOfPast : ℕ → List Site → List Site → Type 0
  StaysOfPast from before after = (moment : ℕ) → from ≤ moment → All (Past moment) before → All (Past moment) after

  -- the same of a partition before and after a call, while it lives
  abbrev pub KeepsPast : {A : Type 0} → ℕ → Result A Refusal → Result (List Site) Refusal → Result (List Site) Refusal → Type 0
  KeepsPast from result before after =
      IfOk before (λ w. (moment : ℕ) → from ≤ moment → All (Past moment) w → IfOk result (λ _. IfOk after (All (Past moment))))

  -- if the transfers sent before were timely, so are those sent now
  abbrev pub StaysTimely : {A Row : Type 0} → Result A Refusal → Effects Row Transfer → Effects Row Transfer → Type 0
  StaysTimely result before after = All Timely before.sent.items → OnOk result (All Timely after.sent.items)

module _ {Site Row Transfer : Type 0} (engine : Engine Site Row Transfer) where
  -- the greatest count that a handling reaches: in a site, or in its rows
  abbrev pub stepped_count : Stepped engine → ℕ
  stepped_count t = max (sites_count engine t.sites) (rows_count engine t.rows)

  -- that of a partition's run
  abbrev pub ran_count : PartRun engine → ℕ
  ran_count r = max (sites_count engine r.sites) (rows_count engine r.rows)

  -- why a handling stops: out of memory, or a count that it takes past the limit
  abbrev pub StopsStep : Stepped engine → Refusal → Type 0
  StopsStep t = StopsWhere (most_count < stepped_count t)

  -- why a run to a bound stops: out of memory, or a count that it takes past the limit some handlings on
  abbrev pub StopsRun : ℕ → List Site → Refusal → Type 0
  StopsRun bound sites = StopsWhere ((n : ℕ) × (most_count < ran_count (part_after engine bound n sites)))

  -- sites with the rows made and the transfers sent so far
  abbrev pub part_made : List Site → Effects Row Transfer → PartRun engine
  part_made sites made = record { sites = sites; rows = made.rows.items; sent = made.sent.items }

  -- a partition that lives and has run to a bound, with what it did
  pub record RanTo (bound : ℕ) (start : List Site) (end : Result (List Site) Refusal) (made : Effects Row Transfer) : Type 0 where
    pub sites : List Site
    pub lives : end ≡ Ok sites
    pub run : HasRunTo engine bound start (part_made sites made)

  -- a partition after n more handlings of what is due before a bound
  abbrev pub part_more : ℕ → ℕ → PartRun engine → PartRun engine
  part_more bound zero r = r
  part_more bound (suc n) r = part_ran engine bound (part_more bound n r)

  -- a run that another one becomes after some more handlings
  pub record Continues (bound : ℕ) (r x : PartRun engine) : Type 0 where
    pub steps : ℕ
    pub reached : part_more bound steps r ≡ x

  -- why a run that goes on stops
  abbrev pub StopsFrom : ℕ → PartRun engine → Refusal → Type 0
  StopsFrom bound r = StopsWhere ((n : ℕ) × (most_count < ran_count (part_more bound n r)))

  -- what holds of the handling of what is due next at some sites, while they live
  abbrev pub OfNext : Result (List Site) Refusal → (Stepped engine → Type 0) → Type 0
  OfNext sites P = IfOk sites (λ w. (key : Key) → world_due engine w ≡ Some key → P (handled_among engine key w))

  -- sites with what they made, after a handling on
  abbrev pub Adds : Stepped engine → List Site → Effects Row Transfer → List Site → Effects Row Transfer → Type 0
  Adds t old made new made_now = part_made new made_now ≡ part_on engine (part_made old made) t

  -- after some handlings on of what is due before a bound
  abbrev pub RunsOn : ℕ → List Site → Effects Row Transfer → List Site → Effects Row Transfer → Type 0
  RunsOn bound old made new made_now = Continues bound (part_made old made) (part_made new made_now)

  -- a partition after a handling, and what that made
  abbrev pub IsMade : Stepped engine → Result (List Site) Refusal → Effects Row Transfer → Type 0
  IsMade t new made = (new ≡ Ok t.sites) × (made.rows.items ≡ t.rows) × (made.sent.items ≡ t.sent)

  -- the same, added to what was made before
  abbrev pub IsMadeAfter : Stepped engine → Result (List Site) Refusal → Effects Row Transfer → Effects Row Transfer → Type 0
  IsMadeAfter t new made made_now =
      (new ≡ Ok t.sites) × (made_now.rows.items ≡ made.rows.items ++ t.rows) × (made_now.sent.items ≡ made.sent.items ++ t.sent)

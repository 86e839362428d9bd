-- What a machine's partition has handled is what the one-list run handles first at its sites. At a barrier the rows
-- before the least bound are all there.
use Rattle.std.specs.List.{range_with_len}
use Rattle.std.specs.Prelude.{Bool, List, None, Option, Some, [], false, filter, if◌then◌else◌, map, nat_lt, suc, true, zero, ℕ, ◌++◌, ◌<◌, ◌∷◌, ◌≡◌, ◌≤◌, not, ◌&&◌, max}
use Rattle.sim_clock.specs.declared.key.Key.{Key}
use Rattle.sim_clock.specs.Order.{due_before}
use Rattle.sim_engine.specs.World.{least_due, Run, after, handled_among, is_due, next_due}
use Rattle.sim_engine.specs.Counts.{rows_count, run_count, sites_count}
use Rattle.sim_engine.specs.Bounds.{AreDistances, own_bound}
use Rattle.sim_engine.specs.declared.picks.Pick.{Pick}
use Rattle.sim_engine.specs.declared.picks.Pick.TheVariants.{Barrier, Part}
use Rattle.sim_engine.specs.Machine.{Machine, is_finished, of_name, played_all, takes_effect}
use Rattle.sim_engine.specs.Merge.{merged_all, row_cmp}
use Rattle.sim_engine.specs.Parts.{Entry, entry_of, part_due, part_of}
use Rattle.sim_engine.specs.Theorems.{machine_of, rows_by}
use Rattle.sim_engine.specs.Setting.{Setting, IsRunOf}
use Rattle.sim_engine.specs.Engine.{Engine}

-- whether a pick is of one of these partitions, or a barrier
abbrev pub IsPickOf : ℕ → Pick → Type 0
IsPickOf parts (Part p) = p < parts
IsPickOf parts Barrier = Unit {0}

module _ {Site Row Transfer : Type 0} (engine : Engine Site Row Transfer) where
  open engine use {number, to, row_key, Core, core}

  -- the partition of the first site whose least due this key is
  abbrev pub turn_of : (ℕ → ℕ) → Key → List Site → ℕ
  turn_of owner key [] = 0
  turn_of owner key (s ∷ ss) = if is_due key (least_due engine s) then owner (number s) else turn_of owner key ss

  -- what the next handling of the one-list run makes, with its partition
  abbrev pub told_next : (ℕ → ℕ) → List Site → Option Key → List (ℕ × Entry engine)
  told_next owner sites None = []
  told_next owner sites (Some key) = (turn_of owner key sites, entry_of engine key (handled_among engine key sites)) ∷ []

  -- what the first n handlings of the one-list run made, each with its partition
  abbrev pub told_after : (ℕ → ℕ) → ℕ → ℕ → List Site → List (ℕ × Entry engine)
  told_after owner horizon zero sites = []
  told_after owner horizon (suc n) sites =
      told_after owner horizon n sites ++ told_next owner (after engine horizon n sites).sites (next_due engine horizon (after engine horizon n sites).sites)

  -- the sites of a partition, but for what is on its way to them
  abbrev pub cores_of : (ℕ → ℕ) → ℕ → List Site → List Core
  cores_of owner p sites = map core (part_of engine owner p sites)

  -- after some handlings of the one-list run, a partition has handled there what it has handled in a machine; its sites
  -- are the same, except for what is on its way to them
  pub record IsAsAfter (owner : ℕ → ℕ) (horizon : ℕ) (start : List Site) (p : ℕ) (m : Machine engine) : Type 0 where
    pub steps : ℕ
    pub told : of_name p (told_after owner horizon steps start) ≡ of_name p m.told
    pub cores : cores_of owner p (after engine horizon steps start).sites ≡ cores_of owner p m.sites

  -- whether a row is from before a moment
  abbrev pub is_before : ℕ → Row → Bool
  is_before moment r = nat_lt (row_key r).at moment

  -- the rows from before a moment of a machine's partitions, merged
  abbrev pub rows_before : ℕ → ℕ → Machine engine → List Row
  rows_before parts moment m = merged_all (row_cmp engine) (map (λ p. filter (is_before moment) (rows_by engine m.told p)) (range_with_len 0 parts))

  -- whether a row is from before one moment and not from before another
  abbrev pub is_between : ℕ → ℕ → Row → Bool
  is_between from to r = is_before to r && not (is_before from r)

  -- the rows between two moments of a machine's partitions, merged
  abbrev pub rows_between : ℕ → ℕ → ℕ → Machine engine → List Row
  rows_between parts from to m = merged_all (row_cmp engine) (map (λ p. filter (is_between from to) (rows_by engine m.told p)) (range_with_len 0 parts))

  -- the rows from a moment on of a machine's partitions, merged
  abbrev pub rows_from : ℕ → ℕ → Machine engine → List Row
  rows_from parts from m = merged_all (row_cmp engine) (map (λ p. filter (λ r. not (is_before from r)) (rows_by engine m.told p)) (range_with_len 0 parts))

  -- no partition of a machine has anything due before a moment, and no bound is before it
  pub record IsThrough (owner : ℕ → ℕ) (parts moment : ℕ) (m : Machine engine) : Type 0 where
    pub none : (p : ℕ) → p < parts → due_before moment (part_due engine owner p m.sites) ≡ None
    pub bounds : (p : ℕ) → p < parts → moment ≤ m.bounds p

  -- the greatest count that a partition of a machine has reached: in a site, or in the receive count of a row
  abbrev pub part_count : (ℕ → ℕ) → ℕ → Machine engine → ℕ
  part_count owner p m = max (sites_count engine (part_of engine owner p m.sites)) (rows_count engine (rows_by engine m.told p))

  -- what holds of every state of a setting's machine with a rule of bounds
  pub record Holds (s : Setting Site) (owner : ℕ → ℕ) (parts : ℕ) (rule : List Site → ℕ → ℕ) : Type 0 where
    -- each partition has handled what the one-list run handles first at its sites
    pub first : (picks : List Pick) (p : ℕ) → IsAsAfter owner s.horizon s.opening p (machine_of engine owner rule s picks)
    -- if nothing is due before a moment, and no bound is before it, the rows from before it are those of the one-list
    -- run
    pub early : (picks : List Pick) (moment : ℕ) (r : Run engine) → IsRunOf engine s r → IsThrough owner parts moment (machine_of engine owner rule s picks) → rows_before parts moment (machine_of engine owner rule s picks) ≡ filter (is_before moment) r.rows
    -- if its rows from before an earlier moment were handed on, the rows from then up to this one follow them
    pub next : (picks : List Pick) (from to : ℕ) (r : Run engine) → IsRunOf engine s r → from ≤ to → IsThrough owner parts to (machine_of engine owner rule s picks) → filter (is_before from) r.rows ++ rows_between parts from to (machine_of engine owner rule s picks) ≡ filter (is_before to) r.rows
    -- and at the end all rows from then on
    pub last : (picks : List Pick) (from : ℕ) (r : Run engine) → IsRunOf engine s r → is_finished engine s.horizon (machine_of engine owner rule s picks) ≡ true → filter (is_before from) r.rows ++ rows_from parts from (machine_of engine owner rule s picks) ≡ r.rows
    -- no count is greater than the one-list run's
    pub counts : (picks : List Pick) (p : ℕ) → (n : ℕ) × (part_count owner p (machine_of engine owner rule s picks) ≤ run_count engine (after engine s.horizon n s.opening))

  -- and with a bound of each partition's own
  abbrev pub HoldsAtOwnBounds : Setting Site → Type 0
  HoldsAtOwnBounds s =
      (owner : ℕ → ℕ) (parts : ℕ) → ((n : ℕ) → owner n < parts) → (distance : ℕ → ℕ → Option ℕ) → AreDistances owner s.edges distance
      → Holds s owner parts (own_bound engine owner distance parts s.horizon)

  -- whether every state leads to an end
  abbrev pub ComesToEnd : Setting Site → (ℕ → ℕ) → (List Site → ℕ → ℕ) → Type 0
  ComesToEnd s owner rule = (picks : List Pick) → (more : List Pick) × (is_finished engine s.horizon (played_all engine owner s.horizon rule more (machine_of engine owner rule s picks)) ≡ true)

  -- so it does with a bound of each partition's own
  abbrev pub EndsAtOwnBounds : Setting Site → Type 0
  EndsAtOwnBounds s =
      (owner : ℕ → ℕ) (parts : ℕ) → ((n : ℕ) → owner n < parts) → (distance : ℕ → ℕ → Option ℕ) → AreDistances owner s.edges distance
      → ComesToEnd s owner (own_bound engine owner distance parts s.horizon)

  -- a machine that is not finished has a pick that takes effect
  abbrev pub MachinesGoOn : Type 0
  MachinesGoOn =
      (owner : ℕ → ℕ) (parts horizon : ℕ) (m : Machine engine) → ((n : ℕ) → owner n < parts) → is_finished engine horizon m ≡ false
      → (x : Pick) × IsPickOf parts x × (takes_effect engine owner horizon m x ≡ true)

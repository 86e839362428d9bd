-- What is kept of a machine of partitions, and which state of the definitions' machine it shows.
use Rattle.std.specs.List.{list_all, range_with_len}
use Rattle.std.specs.Option.{is_some}
use Rattle.std.specs.Prelude.{All, Bool, List, None, Ok, Option, Result, Some, [], filter, get_or, if◌then◌else◌, length, map, min, nat_le, not, suc, zero, ℕ, ◌&&◌, ◌*◌, ◌++◌, ◌+◌, ◌-◌, ◌<◌, ◌∷◌, ◌≡◌, ◌≤◌}
use Rattle.sim_clock.specs.declared.key.Key.{Key}
use Rattle.sim_clock.specs.declared.refusal.Refusal.{Refusal}
use Rattle.sim_clock.specs.Order.{due_before, lesser}
use Rattle.sim_engine.specs.Bounds.{AreDistances, least_bound, own_bound}
use Rattle.sim_engine.specs.Engine.{Engine}
use Rattle.sim_engine.specs.Exchange.{exchanged}
use Rattle.sim_engine.specs.Kept.{IsAllFrom}
use Rattle.sim_engine.specs.Laws.{Conditions}
use Rattle.sim_engine.specs.Limits.{IsOver, StopsWhere, most_count}
use Rattle.sim_engine.specs.Machine.{Machine, effective_picks, flushed, played, takes_effect}
use Rattle.sim_engine.specs.Members.{In}
use Rattle.sim_engine.specs.Parts.{part_of}
use Rattle.sim_engine.specs.Prefixes.{is_before}
use Rattle.sim_engine.specs.Setting.{IsRunOf, Setting}
use Rattle.sim_engine.specs.Simulated.{IsSimulated}
use Rattle.sim_engine.specs.Theorems.{machine_of, rows_by}
use Rattle.sim_engine.specs.World.{Run, arrival, due_by}
use Rattle.sim_engine.specs.declared.edge.Edge.{Edge}
use Rattle.sim_engine.specs.declared.picks.Pick.{Pick}
use Rattle.sim_engine.specs.declared.picks.Pick.TheVariants.{Barrier, Part}
use Rattle.sim_exchange.specs.Layout.{IsLayout, Layout, owner_of}
use Rattle.sim_exchange.specs.Table.{Table, distance_in}
use Rattle.sim_partition.specs.Sites.{due_in}
use Rattle.sim_windows.specs.Meeting.{bounds_from, delivered_each, due_moments, living_in}
use Rattle.sim_windows.specs.declared.kept.Kept.{Kept}

-- a moment, or that of what is due, whichever is first
abbrev pub up_to : ℕ → Option Key → ℕ
up_to moment None = moment
up_to moment (Some key) = min moment key.at

-- rows that begin with those
abbrev pub BeginWith : {Row : Type 0} → List Row → List Row → Type 0
BeginWith {Row} first rows = (more : List Row) × (rows ≡ first ++ more)

-- how many milliseconds are left from the entry that may be handled next to the end of the horizon; none if there is no
-- such entry
abbrev pub left_from : ℕ → Option Key → ℕ
left_from horizon None = 0
left_from horizon (Some key) = horizon + 1 - key.at

-- each way takes a millisecond at least
abbrev pub TakeTime : List Edge → Type 0
TakeTime edges = (e : Edge) → In edges e → 1 ≤ e.least

-- what is kept of a machine: the partition of each site, the distances, the last moment of the run; the partitions with
-- their bounds, the rows that each made and that are not settled, the waiting transfers; and the moment before which
-- all is settled
pub record Standing (Site Row Transfer : Type 0) : Type 0 where
  pub layout : Layout
  pub distances : Table
  pub horizon : ℕ
  pub parts : List (Result (List Site) Refusal)
  pub bounds : List ℕ
  pub rows : List (List Row)
  pub waiting : List Transfer
  pub settled : ℕ

module _ {Site Row Transfer : Type 0} where
  -- the same of what a stage keeps, and its partitions
  abbrev pub standing_of : Kept Site Row Transfer → List (Result (List Site) Refusal) → Standing Site Row Transfer
  standing_of k parts =
      record {
        layout = k.layout;
        distances = k.distances;
        horizon = k.horizon;
        parts = parts;
        bounds = k.bounds.items;
        rows = k.rows.items;
        waiting = k.waiting;
        settled = k.settled;
      }

  -- with these partitions
  abbrev pub with_parts : List (Result (List Site) Refusal) → Standing Site Row Transfer → Standing Site Row Transfer
  with_parts parts g = record g { parts = parts }

  -- once its bounds are set
  abbrev pub bounded_by : Standing Site Row Transfer → List ℕ → Standing Site Row Transfer
  bounded_by g bounds = record g { bounds = bounds }

  -- it has the same setting, split the same
  pub record IsSame (g h : Standing Site Row Transfer) : Type 0 where
    pub layout : h.layout ≡ g.layout
    pub distances : h.distances ≡ g.distances

  -- the least of its bounds, and of the moment after the horizon
  abbrev pub end_in : Standing Site Row Transfer → ℕ
  end_in g = least_bound g.horizon (λ p. get_or g.bounds p 0) (length g.bounds)

module _ {Site Row Transfer : Type 0} (engine : Engine Site Row Transfer) where
  -- the definitions' machine of a setting, split so, after some picks
  abbrev pub machine_in : Layout → Table → Setting Site → List Pick → Machine engine
  machine_in layout table s picks = machine_of engine (owner_of layout) (own_bound engine (owner_of layout) (distance_in table) layout.parts s.horizon) s picks

  abbrev pub machine_at : Standing Site Row Transfer → Setting Site → List Pick → Machine engine
  machine_at g s picks = machine_in g.layout g.distances s picks

  -- what a partition has due before its bound
  abbrev pub ready_in : Standing Site Row Transfer → ℕ → Option Key
  ready_in g p = due_before (get_or g.bounds p 0) (due_in engine (get_or g.parts p (Ok [])))

  -- the least of what the first p partitions may handle next, and of what all may handle next
  abbrev pub next_of : Standing Site Row Transfer → ℕ → Option Key
  next_of g zero = None
  next_of g (suc p) = lesser (ready_in g p) (next_of g p)

  abbrev pub next_in : Standing Site Row Transfer → Option Key
  next_in g = next_of g (length g.parts)

  -- the work that is left in a run: it falls at each barrier, because the least bound grows, and with each round,
  -- because the entry that may be handled next is later
  abbrev pub left_in : Standing Site Row Transfer → ℕ
  left_in g = (g.horizon + 1 - end_in g) * (g.horizon + 2) + left_from g.horizon (next_in g)

  -- the lower bound on the moments of all that is still handled: that of what may be handled next, or the least bound,
  -- whichever is earlier
  abbrev pub lower_bound_in : Standing Site Row Transfer → ℕ
  lower_bound_in g = up_to (end_in g) (next_in g)

  -- whether nothing is left by the horizon, due or waiting
  abbrev pub is_finished_in : Standing Site Row Transfer → Bool
  is_finished_in g =
      list_all (λ part. not (is_some (due_by g.horizon (due_in engine part)))) g.parts
      && list_all (λ o. not (nat_le (arrival engine o) g.horizon)) g.waiting

  -- a row that is not from before a moment
  abbrev pub is_from : ℕ → Row → Bool
  is_from moment r = not (is_before engine moment r)

  -- so much of a machine is shown: its partitions, bounds, rows from a moment on, and waiting transfers
  pub record Shows (g : Standing Site Row Transfer) (m : Machine engine) : Type 0 where
    pub parts : g.parts ≡ living_in engine g.layout m.sites
    pub bounds : g.bounds ≡ map m.bounds (range_with_len 0 g.layout.parts)
    pub rows : g.rows ≡ map (λ p. filter (is_from g.settled) (rows_by engine m.told p)) (range_with_len 0 g.layout.parts)
    pub waiting : g.waiting ≡ m.waiting

  -- the state of a machine once the rows from before a moment are settled
  abbrev pub settled_by : Standing Site Row Transfer → ℕ → Standing Site Row Transfer
  settled_by g moment =
      record g {
        rows = map (filter (is_from moment)) g.rows;
        settled = moment;
      }

  -- once each partition, of these sites, has got what waited for it
  abbrev pub delivered_by : Standing Site Row Transfer → List (List Site) → Standing Site Row Transfer
  delivered_by g ws = record g { parts = map (λ w. Ok w) (delivered_each engine (exchanged engine (owner_of g.layout) g.layout.parts g.waiting) ws); waiting = [] }

  -- the rows of a setting's one-list run from before a moment
  abbrev pub AreSettled : Setting Site → ℕ → List Row → Type 0
  AreSettled s moment rows = (r : Run engine) → IsRunOf engine s r → rows ≡ filter (is_before engine moment) r.rows

  -- those that follow the ones from before a moment, up to a later one
  abbrev pub AreNext : Setting Site → ℕ → ℕ → List Row → Type 0
  AreNext s from to rows = (r : Run engine) → IsRunOf engine s r → filter (is_before engine from) r.rows ++ rows ≡ filter (is_before engine to) r.rows

  -- whether a pick takes effect in this state of a machine
  abbrev pub takes_effect_in : Standing Site Row Transfer → Setting Site → List Pick → Pick → Bool
  takes_effect_in g s picks x = takes_effect engine (owner_of g.layout) s.horizon (machine_in g.layout g.distances s picks) x

  -- how many of some picks do
  abbrev pub effective_picks_in : Standing Site Row Transfer → Setting Site → List Pick → List Pick → ℕ
  effective_picks_in g s picks more = effective_picks engine (owner_of g.layout) s.horizon (own_bound engine (owner_of g.layout) (distance_in g.distances) g.layout.parts s.horizon) more (machine_in g.layout g.distances s picks)

  -- the least bound of the round that a pick ends; if it ends none, that of the round before
  abbrev pub ended_by : Layout → ℕ → Machine engine → Pick → ℕ → ℕ
  ended_by layout horizon m (Part p) before = before
  ended_by layout horizon m Barrier before =
      if takes_effect engine (owner_of layout) horizon m Barrier then least_bound horizon m.bounds layout.parts else before

  -- the least bound of the last round that some picks end
  abbrev pub ended_after : Layout → ℕ → (List Site → ℕ → ℕ) → List Pick → Machine engine → ℕ → ℕ
  ended_after layout horizon rule [] m before = before
  ended_after layout horizon rule (x ∷ xs) m before =
      ended_after layout horizon rule xs (played engine (owner_of layout) horizon rule m x) (ended_by layout horizon m x before)

  -- the same from the state of a machine after some picks
  abbrev pub ended_in : Standing Site Row Transfer → Setting Site → List Pick → List Pick → ℕ → ℕ
  ended_in g s picks more before =
      ended_after g.layout s.horizon (own_bound engine (owner_of g.layout) (distance_in g.distances) g.layout.parts s.horizon) more
      (machine_in g.layout g.distances s picks) before

  -- the bounds that are set by what is due in some partitions
  abbrev pub bounds_by : Table → ℕ → List (Result (List Site) Refusal) → List ℕ
  bounds_by table horizon parts = bounds_from table horizon (due_moments engine parts)

  -- these are the rows of a setting's one-list run that are left once those from before a moment are settled, and the
  -- sites of its last world
  pub record HasRest (s : Setting Site) (moment : ℕ) (rows : List Row) (sites : List Site) : Type 0 where
    pub run : Run engine
    pub is : IsRunOf engine s run
    pub rows_are : filter (is_before engine moment) run.rows ++ rows ≡ run.rows
    pub sites_are : sites ≡ run.sites

  -- the state of new partitions
  abbrev pub opened : Layout → Table → ℕ → List (Result (List Site) Refusal) → Standing Site Row Transfer
  opened layout table horizon parts =
      record {
        layout = layout;
        distances = table;
        horizon = horizon;
        parts = parts;
        bounds = bounds_by table horizon parts;
        rows = map (λ p. []) (range_with_len 0 (length parts));
        waiting = [];
        settled = 0;
      }

module _ {Site Row Transfer : Type 0} (engine : Engine Site Row Transfer) (conditions : Conditions Site Transfer) where
  open conditions use {Past, Timely}

  -- nothing in a machine is from after the moment at which it may go on, and nothing comes before what is settled
  pub record IsForward (layout : Layout) (horizon settled : ℕ) (m : Machine engine) : Type 0 where
    pub past : (p : ℕ) → p < layout.parts → All (Past (m.bounds p)) (part_of engine (owner_of layout) p m.sites)
    pub timely : All Timely m.waiting
    pub within : settled ≤ horizon + 1
    pub reached : (p : ℕ) → p < layout.parts → settled ≤ m.bounds p
    pub none : IsAllFrom engine (owner_of layout) settled (flushed engine m)

  -- a setting that is split so: what a pick leaves as it is
  pub record IsSplit (s : Setting Site) (split : Layout) (table : Table) (last : ℕ) : Type 0 where
    pub sound : IsSimulated engine conditions s
    pub layout : IsLayout split
    pub horizon : last ≡ s.horizon
    pub range : last ≤ most_count
    pub parts : table.parts ≡ split.parts
    pub distances : AreDistances (owner_of split) s.edges (distance_in table)
    pub ways : TakeTime s.edges

  -- the state of a machine of a setting after these picks
  pub record Stands (s : Setting Site) (picks : List Pick) (g : Standing Site Row Transfer) : Type 0 where
    pub split : IsSplit s g.layout g.distances g.horizon
    pub open split use *
    pub shows : Shows engine g (machine_in engine g.layout g.distances s picks)
    pub forward : IsForward g.layout s.horizon g.settled (machine_in engine g.layout g.distances s picks)

  -- the state of a machine of a setting after some picks
  pub record StandsOn (s : Setting Site) (g : Standing Site Row Transfer) : Type 0 where
    pub picks : List Pick
    pub stands : Stands s picks g

  -- the state of some machine
  pub record IsStanding (g : Standing Site Row Transfer) : Type 0 where
    pub setting : Setting Site
    pub picks : List Pick
    pub stands : Stands setting picks g

  -- what comes of one pick more: whether it took effect, and how much is settled
  pub record Took (g h : Standing Site Row Transfer) (s : Setting Site) (picks : List Pick) (x : Pick) (took : Bool) : Type 0 where
    pub stands : Stands s (picks ++ x ∷ []) h
    pub same : IsSame g h
    pub effect : took ≡ takes_effect_in engine g s picks x
    pub settled : h.settled ≡ ended_by engine g.layout s.horizon (machine_at engine g s picks) x g.settled

  -- what comes of some picks more: how many took effect, and how much is settled
  pub record Played (g h : Standing Site Row Transfer) (s : Setting Site) (picks more : List Pick) (count : ℕ) : Type 0 where
    pub stands : Stands s (picks ++ more) h
    pub same : IsSame g h
    pub effects : count ≡ effective_picks_in engine g s picks more
    pub settled : h.settled ≡ ended_in engine g s picks more g.settled

  -- if the first is a machine's state after some picks, the second is its state after more of them
  pub record Follows (g h : Standing Site Row Transfer) (more : List Pick) : Type 0 where
    pub stands : (s : Setting Site) (picks : List Pick) → Stands s picks g → Stands s (picks ++ more) h
    pub same : IsSame g h
    pub count : length h.parts ≡ length g.parts

  -- the same, some picks on
  abbrev pub LeadsTo : Standing Site Row Transfer → Standing Site Row Transfer → Type 0
  LeadsTo g h = (s : Setting Site) → StandsOn s g → StandsOn s h

  -- and no more is settled
  pub record GoesOn (g h : Standing Site Row Transfer) : Type 0 where
    pub on : LeadsTo g h
    pub same : IsSame g h
    pub count : length h.parts ≡ length g.parts
    pub settled : h.settled ≡ g.settled
    pub horizon : h.horizon ≡ g.horizon
    pub bounds : h.bounds ≡ g.bounds

  -- the result of one more pick, and of some, for every machine in that state
  abbrev pub Takes : Standing Site Row Transfer → Standing Site Row Transfer → Pick → Bool → Type 0
  Takes g h x took = (s : Setting Site) (picks : List Pick) → Stands s picks g → Took g h s picks x took

  abbrev pub Plays : Standing Site Row Transfer → Standing Site Row Transfer → List Pick → ℕ → Type 0
  Plays g h more count = (s : Setting Site) (picks : List Pick) → Stands s picks g → Played g h s picks more count

  -- if the first rows are those settled in the first state, the others are those settled in the second
  abbrev pub Tells : Standing Site Row Transfer → List Row → Standing Site Row Transfer → List Row → Type 0
  Tells g first h others = (s : Setting Site) → StandsOn s g → AreSettled engine s g.settled first → AreSettled engine s h.settled others

  -- why the next step is not done: out of memory, or a count that is past its limit in the run on one list, too
  abbrev pub StopsAt : Standing Site Row Transfer → Refusal → Type 0
  StopsAt g refusal = (s : Setting Site) → StandsOn s g → StopsWhere (IsOver engine s) refusal

  -- the rows before which nothing can come any more are settled, and nothing else changes
  pub record Settles (g h : Standing Site Row Transfer) (rows : List Row) : Type 0 where
    pub follows : Follows g h []
    pub is : h ≡ settled_by engine g (lower_bound_in engine g)
    pub next : (s : Setting Site) → StandsOn s g → AreNext engine s g.settled h.settled rows

  -- these rows are left, and these are the sites of the last world
  abbrev pub EndsAs : Standing Site Row Transfer → List Row → List Site → Type 0
  EndsAs g rows sites = (s : Setting Site) → StandsOn s g → HasRest engine s g.settled rows sites

  -- it has lent its partitions, each to run to its bound, or to a cut if that is sooner
  pub record IsLent (g : Standing Site Row Transfer) (cut : ℕ) (lent : Standing Site Row Transfer) (parts : List (Result (List Site) Refusal)) (ends : List ℕ) : Type 0 where
    pub stands : IsStanding g
    pub lent_is : lent ≡ with_parts [] g
    pub parts_are : parts ≡ g.parts
    pub ends_are : ends ≡ map (λ bound. min bound cut) g.bounds
    pub range : All (λ end. end ≤ most_count + 1) ends

  -- the rows of what is lent are settled as those of the stage with its partitions
  abbrev pub SettlesParts : List (Result (List Site) Refusal) → Standing Site Row Transfer → Standing Site Row Transfer → List Row → Type 0
  SettlesParts parts g h rows = Settles (with_parts parts g) (with_parts parts h) rows

  -- what holds of the partitions of what is lent, if nothing can come to them before a moment
  abbrev pub OfLowerBound : ℕ → Standing Site Row Transfer → (List (Result (List Site) Refusal) → Type 0) → Type 0
  OfLowerBound moment g P = (parts : List (Result (List Site) Refusal)) → moment ≡ lower_bound_in engine (with_parts parts g) → P parts

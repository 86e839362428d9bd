-- Sites in the order of their numbers, until an error spends them.
use Rattle.std.specs.Prelude.{All, Bool, Err, IfOk, List, None, Ok, Option, Result, Some, [], map, ℕ, ◌<◌, ◌≡◌, ◌≤◌, ◌⊎◌}
use Rattle.sim_clock.specs.declared.key.Key.{Key}
use Rattle.sim_clock.specs.declared.refusal.Refusal.{Refusal}
use Rattle.sim_engine.specs.Engine.{Engine}
use Rattle.sim_engine.specs.Laws.{Conditions}
use Rattle.sim_engine.specs.Limits.{most_count}
use Rattle.sim_engine.specs.Members.{Ascends}
use Rattle.sim_engine.specs.World.{arrival, delivered, is_due, least_due, world_due}
use Rattle.sim_index.specs.declared.mark.Mark.{Mark}
use Rattle.sim_index.specs.Marked.{AreMarked, Marked}

-- nothing, or later than a moment
abbrev pub IsLater : ℕ → Option Key → Type 0
IsLater moment None = Unit {0}
IsLater moment (Some k) = moment < k.at

-- nothing, or not before a moment
abbrev pub IsFrom : ℕ → Option Key → Type 0
IsFrom moment None = Unit {0}
IsFrom moment (Some k) = moment ≤ k.at

-- what a partition holds, unless an error spent it
abbrev pub spent_or : {A : Type 0} → Option Refusal → A → Result A Refusal
spent_or None a = Ok a
spent_or (Some e) a = Err e

-- the error that spent it, if one did
abbrev pub refusal_in : {A : Type 0} → Result A Refusal → Option Refusal
refusal_in (Ok a) = None
refusal_in (Err e) = Some e

-- nothing at some sites is from after what is due next
module _ {Site Transfer : Type 0} (conditions : Conditions Site Transfer) where
  open conditions use {Past}

  abbrev pub AreOfPast : List Site → Option Key → Type 0
  AreOfPast sites None = Unit {0}
  AreOfPast sites (Some key) = All (Past key.at) sites

module _ {Site Row Transfer : Type 0} (engine : Engine Site Row Transfer) where
  open engine use {number}

  -- the numbers of a partition's sites, unless an error spent it
  abbrev pub AreNumbersUnless : Option Refusal → List ℕ → Marked Site → Type 0
  AreNumbersUnless None numbers sites = numbers ≡ map number sites.values
  AreNumbersUnless (Some e) numbers sites = Unit {0}

  -- whether a key is due next at a site
  abbrev pub is_due_there : Key → Site → Bool
  is_due_there key s = is_due key (least_due engine s)

  -- the least due of a partition, while it lives
  abbrev pub due_in : Result (List Site) Refusal → Option Key
  due_in (Ok sites) = world_due engine sites
  due_in (Err e) = None

  -- something is due at some sites, at a moment that counts reach
  pub record HasDue (sites : List Site) : Type 0 where
    pub key : Key
    pub due : world_due engine sites ≡ Some key
    pub moment : key.at ≤ most_count

  -- what is kept of a site: what is due next
  abbrev pub mark_of : Site → Mark
  mark_of s = record { due = least_due engine s; flags = 0 }

module _ {Site Row Transfer : Type 0} (engine : Engine Site Row Transfer) (conditions : Conditions Site Transfer) where
  open engine use {number}
  open conditions use {Sound}

  -- sites that form a partition: their numbers ascend, time moves on in them, and nothing is from after the next entry
  -- due
  pub record IsPart (sites : List Site) : Type 0 where
    pub ascends : Ascends number 0 sites
    pub sound : All Sound sites
    pub past : AreOfPast conditions sites (world_due engine sites)

  -- a partition that lives, with the marks of its sites
  pub record IsKept (sites : Marked Site) : Type 0 where
    pub part : IsPart sites.values
    pub marked : AreMarked (mark_of engine) sites

  -- the same, unless an error spent it
  abbrev pub IsKeptUnless : Option Refusal → Marked Site → Type 0
  IsKeptUnless None sites = IsKept sites
  IsKeptUnless (Some e) sites = Unit {0}

module _ {Site Row Transfer : Type 0} (engine : Engine Site Row Transfer) where
  -- sites that have accepted transfers, unless an error spent them
  abbrev pub accepted_by : List Transfer → Result (List Site) Refusal → Result (List Site) Refusal
  accepted_by transfers (Ok sites) = Ok (delivered engine transfers sites)
  accepted_by transfers (Err e) = Err e

  module _ (conditions : Conditions Site Transfer) where
    -- transfers that sites may accept: nothing there is from after their arrival, and what they carry is from no later.
    -- If there are any, this is due next once they are accepted.
    pub record IsInbox (sites : Result (List Site) Refusal) (transfers : List Transfer) (due : Option Key) : Type 0 where
      pub past : IfOk sites (λ w. All (λ o. All (conditions.Past (arrival engine o)) w) transfers)
      pub timely : All conditions.Timely transfers
      pub next : (transfers ≡ []) ⊎ (due ≡ due_in engine (accepted_by transfers sites))

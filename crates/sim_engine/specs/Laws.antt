-- What the engine requires of sites: laws of every site, and laws of the sites that one run reaches.
use Rattle.std.specs.Ordering.{is_lt}
use Rattle.std.specs.Prelude.{All, List, Some, false, ℕ, ◌+◌, ◌<◌, ◌≡◌, ◌≤◌, ◌⊎◌}
use Rattle.sim_clock.specs.declared.key.Key.{Key}
use Rattle.sim_clock.specs.Order.{key_cmp, lesser, same_key}
use Rattle.sim_engine.specs.declared.edge.Edge.{Edge}
use Rattle.sim_engine.specs.Engine.{Engine, Handled}
use Rattle.sim_engine.specs.Members.{Each, In, count_due}
use Rattle.sim_engine.specs.Setting.{IsNumbered, Setting}
use Rattle.sim_engine.specs.World.{has_key, least_due}

-- what sites and transfers are like at every step of a run
pub record Conditions (Site Transfer : Type 0) : Type 1 where
  -- whether a site holds what is on its way in order
  pub Sorted : Site → Type 0
  -- whether time moves on at a site
  pub Sound : Site → Type 0
  -- whether nothing at a site is from after a moment
  pub Past : ℕ → Site → Type 0
  -- whether what a transfer carries is from no later than its arrival
  pub Timely : Transfer → Type 0

module _ {Site Row Transfer : Type 0} (engine : Engine Site Row Transfer) where
  open engine use {accepted, transfer_key, row_key, row_site}

  -- a handling at a site that has one more transfer on its way to it afterwards
  abbrev pub with_accepted : Transfer → Handled Site Row Transfer → Handled Site Row Transfer
  with_accepted o h = record h { site = accepted o h.site }

  -- a transfer that the handling of a key sends from a site: along a way, taking at least the way's latency, from a
  -- sender of that site
  pub record IsSentBy (edges : List Edge) (home : ℕ → ℕ) (key : Key) (site : ℕ) (o : Transfer) : Type 0 where
    pub sender : home (transfer_key o).agent ≡ site
    pub way : Edge
    pub there : In edges way
    pub from : way.from ≡ site
    pub to : way.to ≡ engine.to o
    pub late : key.at + way.least ≤ (transfer_key o).at

  -- a row of the handling of a key at a site
  pub record IsRowOf (key : Key) (site : ℕ) (r : Row) : Type 0 where
    pub key_is : row_key r ≡ key
    pub site_is : row_site r ≡ site

module _ {Site Row Transfer : Type 0} (engine : Engine Site Row Transfer) (conditions : Conditions Site Transfer) where
  open engine use {number, dues, handled, accepted, transfer_key, to, core}
  open conditions use {Sorted, Sound, Past, Timely}

  -- what a handling of a key does that is due at a sound site
  pub record MovesOn (key : Key) (s : Site) : Type 0 where
    -- the site stays sound
    pub sound : Sound (handled key s).site
    -- by no earlier moment is more due there than before
    pub before : (moment : ℕ) → moment < key.at → count_due moment (dues (handled key s).site) ≤ count_due moment (dues s)
    -- by its own moment less is
    pub falls : count_due key.at (dues (handled key s).site) < count_due key.at (dues s)
    -- what is sent arrives later
    pub sent_later : All (λ o. key.at < (transfer_key o).at) (handled key s).sent

  -- laws of every site
  pub record SiteLaws : Type 0 where
    -- a site keeps its number
    pub number_handled : (key : Key) (s : Site) → number (handled key s).site ≡ number s
    pub number_accepted : (o : Transfer) (s : Site) → number (accepted o s) ≡ number s
    -- a sorted site stays so
    pub sorted_handled : (key : Key) (s : Site) → Sorted s → Sorted (handled key s).site
    pub sorted_accepted : (o : Transfer) (s : Site) → Sorted s → Sorted (accepted o s)
    -- two transfers of different keys are accepted in either order
    pub swapped : (o p : Transfer) (s : Site) → same_key (transfer_key o) (transfer_key p) ≡ false → accepted o (accepted p s) ≡ accepted p (accepted o s)
    -- a transfer may be accepted before the handling of another key or after it
    pub handled_apart : (key : Key) (o : Transfer) (s : Site) → has_key engine key o ≡ false → Sorted s → handled key (accepted o s) ≡ with_accepted engine o (handled key s)
    -- what is due after a transfer is accepted: its key, and what was due before
    pub due_accepted : (o : Transfer) (s : Site) → least_due engine (accepted o s) ≡ lesser (Some (transfer_key o)) (least_due engine s)
    pub in_accepted : (o : Transfer) (s : Site) (j : Key) → In (dues (accepted o s)) j → (transfer_key o ≡ j) ⊎ In (dues s) j
    pub count_accepted : (e : ℕ) (o : Transfer) (s : Site) → e < (transfer_key o).at → count_due e (dues (accepted o s)) ≤ count_due e (dues s)
    -- a site that accepts a transfer is otherwise as it was
    pub kept_core : (o : Transfer) (s : Site) → core (accepted o s) ≡ core s
    -- time moves on
    pub moving : (key : Key) (s : Site) → Sound s → In (dues s) key → MovesOn key s
    pub sound_accepted : (o : Transfer) (s : Site) → Sound s → Sound (accepted o s)
    -- what is from no later than a moment is from no later than one after it
    pub past_later : (a b : ℕ) (s : Site) → a ≤ b → Past a s → Past b s
    -- a handling leaves nothing from after its moment, and sends nothing from after its arrival
    pub past_handled : (key : Key) (s : Site) → Past key.at s → Past key.at (handled key s).site
    pub sent_timely : (key : Key) (s : Site) → Past key.at s → All Timely (handled key s).sent
    pub past_accepted : (now : ℕ) (o : Transfer) (s : Site) → Timely o → Past now s → Past now (accepted o s)

  -- laws of the sites that a run over some ways reaches, which are fine, and of the transfers that fit them
  pub record RunLaws (edges : List Edge) (home : ℕ → ℕ) (Fine : Site → Type 0) (Fits : Transfer → Type 0) : Type 0 where
    pub sorted : (s : Site) → Fine s → Sorted s
    pub sound : (s : Site) → Fine s → Sound s
    -- handlings and deliveries keep it so
    pub handling : (key : Key) (s : Site) → Fine s → In (dues s) key → Fine (handled key s).site
    pub accepting : (o : Transfer) (s : Site) → Fine s → Fits o → to o ≡ number s → Fine (accepted o s)
    -- what is sent goes along ways, and fits
    pub sending : (key : Key) (s : Site) → Fine s → In (dues s) key → Each (IsSentBy engine edges home key (number s)) (handled key s).sent
    pub fitting : (key : Key) (s : Site) → Fine s → In (dues s) key → Each Fits (handled key s).sent
    -- rows carry the handled key and the site's number
    pub rows : (key : Key) (s : Site) → Fine s → Each (IsRowOf engine key (number s)) (handled key s).rows
    -- if nothing due comes before a key, nothing does after its handling
    pub remaining : (key : Key) (s : Site) → Fine s → ((j : Key) → In (dues s) j → is_lt (key_cmp j key) ≡ false) → (j : Key) → In (dues (handled key s).site) j → is_lt (key_cmp j key) ≡ false
    -- each way takes a millisecond at least
    pub takes_time : (e : Edge) → In edges e → 1 ≤ e.least

  -- a setting whose sites are fine and numbered 0, 1, 2, ..; nothing there is from after the beginning
  pub record IsSoundSetting (home : ℕ → ℕ) (Fine : Site → Type 0) (Fits : Transfer → Type 0) (s : Setting Site) : Type 0 where
    pub laws : RunLaws s.edges home Fine Fits
    pub opens : Each Fine s.opening
    pub numbered : IsNumbered engine 0 s.opening
    pub past : All (Past 0) s.opening

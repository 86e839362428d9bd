-- The handling of the least due of a world, and the delivery of what it sends, make nothing due by the present.
use Rattle.std.specs.Prelude.{All, Bool, List, None, Option, Some, [], false, if◌then◌else◌, map, true, ℕ, ◌+◌, ◌<◌, ◌==◌, ◌∷◌, ◌≡◌, ◌≤◌, ◌⊎◌}
use Rattle.std.proofs.Common.{ap, arith, inl, inr, refl, sym, ◌∙◌, subst}
use Rattle.std.proofs.lemmas.List.Elements.{All-cons, All-head, All-map, All-tail, All-weaker}
use Rattle.std.specs.Ordering.{is_lt}
use Rattle.sim_clock.specs.declared.key.Key.{Key}
use Rattle.sim_clock.specs.Order.{key_cmp, least, lesser}
use Rattle.sim_clock.proofs.Least.{key_tied}
use Rattle.sim_engine.specs.World.{least_due, world_due, Stepped, delivered, delivered_one, handled_among, handled_here, handled_there, is_due}
use Rattle.sim_engine.specs.Members.{count_due, In}
use Rattle.sim_engine.proofs.Counts.{count_is, tick_less, tick_now, tick_past, total, tick}
use Rattle.sim_engine.proofs.Branches.{either, by_cases, by_either}
use Rattle.sim_engine.specs.Laws.{SiteLaws, MovesOn, Conditions}
use Rattle.sim_engine.specs.Engine.{Engine, Handled}
use Rattle.std.proofs.lemmas.Bool.{cases_lt}
use Rattle.sim_clock.proofs.Orderings.{key_less, key_not_less, key_self}

-- 1 for a due that has come by a moment, else 0
abbrev pub tick_key : ℕ → Option Key → ℕ
tick_key e None = 0
tick_key e (Some k) = tick e k.at

both_ticks : (e : ℕ) (a b : Key) (c : Bool) → is_lt (key_cmp b a) ≡ c → (tick e a.at ≤ tick_key e (if c then Some b else Some a)) × (tick e b.at ≤ tick_key e (if c then Some b else Some a))
both_ticks e a b true h = (tick_less e b.at a.at (key_less b a h), omega arith)
both_ticks e a b false h = (omega arith, tick_less e a.at b.at (key_not_less b a h))

lesser_ticks : (e : ℕ) (a b : Option Key) → (tick_key e a ≤ tick_key e (lesser a b)) × (tick_key e b ≤ tick_key e (lesser a b))
lesser_ticks e None b = (omega arith, omega arith)
lesser_ticks e (Some a) None = (omega arith, omega arith)
lesser_ticks e (Some a) (Some b) = both_ticks e a b (is_lt (key_cmp b a)) refl

-- where the least has not come by a moment, none has
least_none : (e : ℕ) (ks : List Key) → tick_key e (least ks) ≡ 0 → total (λ k. tick e k.at) ks ≡ 0
least_none e [] h = refl
least_none e (k ∷ ks) h =
    let t : (tick e k.at ≤ tick_key e (lesser (Some k) (least ks))) × (tick_key e (least ks) ≤ tick_key e (lesser (Some k) (least ks))) = lesser_ticks e (Some k) (least ks) in
    let a : tick e k.at ≤ tick_key e (lesser (Some k) (least ks)) = t.0 in
    let b : tick_key e (least ks) ≤ tick_key e (lesser (Some k) (least ks)) = t.1 in
    let g : tick_key e (lesser (Some k) (least ks)) ≡ 0 = h in
    let i : total (λ x. tick e x.at) ks ≡ 0 = least_none e ks (omega arith) in omega arith

none_some : {A : Type 0} (a : A) → None ≡ Some a → ⊥
none_some a h = cc

-- the lesser is one of the two
lesser_is : (a b : Option Key) → (lesser a b ≡ a) ⊎ (lesser a b ≡ b)
lesser_is None b = inr refl
lesser_is (Some a) None = inl refl
lesser_is (Some a) (Some b) =
    elim (is_lt (key_cmp b a)) as (λ c. ((if c then Some b else Some a) ≡ Some a) ⊎ ((if c then Some b else Some a) ≡ Some b)) [ true ↦ inr refl | false ↦ inl refl ]

pub least_in : (ks : List Key) (k : Key) → least ks ≡ Some k → In ks k
least_in [] k h = absurd (none_some k h)
least_in (x ∷ xs) k h =
    by_either (lesser_is (Some x) (least xs)) (λ i. let j : Some x ≡ Some k = sym i ∙ h in let n : x ≡ k = cc in inl n) (λ i. inr (least_in xs k (sym i ∙ h)))

pub is_due_least : (key : Key) (o : Option Key) → is_due key o ≡ true → o ≡ Some key
is_due_least key None h = cc
is_due_least key (Some k) h = let t : key ≡ k = key_tied key k h in ap (λ (x : Key). Some x) (sym t)

module _ {Site Row Transfer : Type 0} {engine : Engine Site Row Transfer} {conditions : Conditions Site Transfer} (basics : SiteLaws engine conditions) where
  open engine use {number, dues, handled, accepted, transfer_key, to}
  open conditions use {Sound}
  open basics use {moving, sound_accepted, count_accepted}

  -- dues by a moment of a world
  abbrev pub world_count : ℕ → List Site → ℕ
  world_count e sites = total (λ s. count_due e (dues s)) sites

  -- whether the sites of a world are sound
  abbrev pub IsSoundWorld : List Site → Type 0
  IsSoundWorld sites = All Sound sites

  pub world_none : (e : ℕ) (sites : List Site) → tick_key e (world_due engine sites) ≡ 0 → world_count e sites ≡ 0
  world_none e [] h = refl
  world_none e (s ∷ ss) h =
      let t : (tick_key e (least_due engine s) ≤ tick_key e (lesser (least_due engine s) (world_due engine ss))) × (tick_key e (world_due engine ss) ≤ tick_key e (lesser (least_due engine s) (world_due engine ss))) = lesser_ticks e (least_due engine s) (world_due engine ss) in
      let a : tick_key e (least_due engine s) ≤ tick_key e (lesser (least_due engine s) (world_due engine ss)) = t.0 in
      let b : tick_key e (world_due engine ss) ≤ tick_key e (lesser (least_due engine s) (world_due engine ss)) = t.1 in
      let g : tick_key e (lesser (least_due engine s) (world_due engine ss)) ≡ 0 = h in
      let n : tick_key e (least (dues s)) ≡ 0 = omega arith in
      let i : world_count e ss ≡ 0 = world_none e ss (omega arith) in
      omega (arith, count_is e (dues s), least_none e (dues s) n)

  -- whether a key is the least due of one of some sites
  abbrev pub DueIn : Key → List Site → Type 0
  DueIn key [] = ⊥
  DueIn key (s ∷ ss) = (least_due engine s ≡ Some key) ⊎ DueIn key ss

  pub world_in : (key : Key) (sites : List Site) → world_due engine sites ≡ Some key → DueIn key sites
  world_in key [] h = none_some key h
  world_in key (s ∷ ss) h =
      by_either (lesser_is (least_due engine s) (world_due engine ss)) (λ i. inl (sym i ∙ h)) (λ i. inr (world_in key ss (sym i ∙ h)))

  -- a handling that takes its key away, by a moment
  record Falls (key : Key) (e : ℕ) (s : Site) (h : Handled Site Row Transfer) : Type 0 where
    pub sound : Sound h.site
    pub fewer : count_due e (dues h.site) + tick e key.at ≤ count_due e (dues s)
    pub later : All (λ o. key.at < (transfer_key o).at) h.sent

  site_from : (s : Site) (key : Key) → Sound s → In (dues s) key → (e : ℕ) → e ≤ key.at → Falls key e s (handled key s)
  site_from s key h i e l =
      let m : MovesOn engine conditions key s = moving key s h i in
      by_either (cases_lt e key.at) (λ k. record { sound = m.sound; fewer = omega (arith, m.before e k, tick_past e key.at k); later = m.sent_later })
      (λ k.
      let same : key.at ≡ e = omega arith in
      let f : count_due e (dues (handled key s).site) < count_due e (dues s) = subst (λ (n : ℕ). count_due n (dues (handled key s).site) < count_due n (dues s)) same m.falls in
      record { sound = m.sound; fewer = omega (arith, f, tick_now e key.at (omega arith)); later = m.sent_later })

  -- a world whose least due is handled
  pub record FallsAmong (key : Key) (e : ℕ) (sites : List Site) (t : Stepped engine) : Type 0 where
    pub sound : IsSoundWorld t.sites
    pub fewer : world_count e t.sites + tick e key.at ≤ world_count e sites
    pub later : All (λ o. key.at < (transfer_key o).at) t.sent

  here_falls : (key : Key) (e : ℕ) (s : Site) (ss : List Site) → e ≤ key.at → IsSoundWorld (s ∷ ss) → least_due engine s ≡ Some key → FallsAmong key e (s ∷ ss) (handled_here engine (handled key s) ss)
  here_falls key e s ss l h k =
      let f : Falls key e s (handled key s) = site_from s key (All-head Sound s ss h) (least_in (dues s) key k) e l in
      record { sound = All-cons Sound (handled key s).site ss f.sound (All-tail Sound s ss h); fewer = omega (arith, f.fewer); later = f.later }

  there_falls : (key : Key) (e : ℕ) (s : Site) (ss : List Site) (t : Stepped engine) → IsSoundWorld (s ∷ ss) → FallsAmong key e ss t → FallsAmong key e (s ∷ ss) (handled_there engine s t)
  there_falls key e s ss t h f = record { sound = All-cons Sound s t.sites (All-head Sound s ss h) f.sound; fewer = omega (arith, f.fewer); later = f.later }

  not_due : (key : Key) (s : Site) → is_due key (least_due engine s) ≡ false → least_due engine s ≡ Some key → ⊥
  not_due key s h k =
      let t : is_due key (least_due engine s) ≡ true = ap (is_due key) k ∙ key_self key in cc

  pub among_falls : (key : Key) (e : ℕ) (sites : List Site) → e ≤ key.at → IsSoundWorld sites → DueIn key sites → FallsAmong key e sites (handled_among engine key sites)
  among_falls key e [] l h d = elim d [ ]
  among_falls key e (s ∷ ss) l h d =
      by_cases (is_due key (least_due engine s)) (λ i. rw i (here_falls key e s ss l h (is_due_least key (least_due engine s) i)))
      (λ i. rw i (by_either d (λ k. absurd (not_due key s i k)) (λ k. there_falls key e s ss (handled_among engine key ss) h (among_falls key e ss l (All-tail Sound s ss h) k))))

  -- delivery
  one_count : (e : ℕ) (o : Transfer) (s : Site) → e < (transfer_key o).at → count_due e (dues (delivered_one engine o s)) ≤ count_due e (dues s)
  one_count e o s l =
      either (λ (x : Site). count_due e (dues x) ≤ count_due e (dues s)) ((to o) == number s) (accepted o s) s (count_accepted e o s l) (omega arith)

  one_sound : (o : Transfer) (s : Site) → Sound s → Sound (delivered_one engine o s)
  one_sound o s h = either Sound ((to o) == number s) (accepted o s) s (sound_accepted o s h) h

  map_count : (e : ℕ) (o : Transfer) (sites : List Site) → e < (transfer_key o).at → world_count e (map (delivered_one engine o) sites) ≤ world_count e sites
  map_count e o [] l = omega arith
  map_count e o (s ∷ ss) l = omega (arith, one_count e o s l, map_count e o ss l)

  pub delivered_count : (e : ℕ) (os : List Transfer) (sites : List Site) → All (λ o. e < (transfer_key o).at) os → world_count e (delivered engine os sites) ≤ world_count e sites
  delivered_count e [] sites h = omega arith
  delivered_count e (o ∷ os) sites h =
      let l : e < (transfer_key o).at = All-head (λ (o : Transfer). e < (transfer_key o).at) o os h in
      omega (arith, map_count e o sites l, delivered_count e os (map (delivered_one engine o) sites) (All-tail (λ (o : Transfer). e < (transfer_key o).at) o os h))

  pub delivered_sound : (os : List Transfer) (sites : List Site) → IsSoundWorld sites → IsSoundWorld (delivered engine os sites)
  delivered_sound [] sites h = h
  delivered_sound (o ∷ os) sites h =
      delivered_sound os (map (delivered_one engine o) sites)
      (All-map Sound (delivered_one engine o) sites (All-weaker Sound (λ s. Sound (delivered_one engine o s)) (one_sound o) sites h))

-- Worlds in which partitions handle what is due before bounds that are safe: two such handlings in different partitions lead to one world in either order.
use Rattle.std.specs.Prelude.{Bool, List, None, Option, Some, [], false, if◌then◌else◌, map, true, ℕ, ◌+◌, ◌-◌, ◌<◌, ◌==◌, ◌∷◌, ◌≡◌, ◌≤◌}
use Rattle.std.proofs.Common.{ap, arith, refl, subst, sym, ◌∙◌}
use Rattle.std.proofs.lemmas.Bool.{eqb-false, eqb-true, lt-ltb, cases_lt}
use Rattle.std.proofs.lemmas.List.Elements.{All-cons, All-nil}
use Rattle.sim_clock.specs.declared.key.Key.{Key}
use Rattle.sim_clock.specs.Order.{due_before, same_key}
use Rattle.sim_clock.proofs.Least.{key_tied}
use Rattle.sim_engine.specs.declared.edge.Edge.{Edge}
use Rattle.sim_engine.specs.World.{least_due, world_due, Stepped, delivered, delivered_one, handled_among, handled_here, handled_there}
use Rattle.sim_engine.proofs.Counts.{tick_past}
use Rattle.sim_engine.proofs.Ends.{least_counts}
use Rattle.sim_engine.specs.Members.{In, Each}
use Rattle.sim_engine.proofs.WorldMoves.{FallsAmong, IsSoundWorld, among_falls, is_due_least, least_in, tick_key, world_count, world_in, world_none}
use Rattle.sim_engine.specs.Parts.{Entry, entry_of, handled_in, has_due, is_of, part_due, part_of}
use Rattle.sim_engine.proofs.Landing.{HoldsOff, IsWithin, landed, part_stepped, part_stepped_at, told_at, told_by}
use Rattle.sim_engine.specs.Laws.{Conditions, IsSentBy, SiteLaws}
use Rattle.sim_engine.proofs.Confluence.{Apart, Joined, joined, turned}
use Rattle.sim_engine.proofs.Runs.{IsRun, log, play}
use Rattle.sim_engine.proofs.Parts.{Beside, ComesAfter, ComesBy, Differs, Own, before_delivered, beside, delivered_either, each_weaker, has_is, has_of, landed_beside, own, with_landed, others}
use Rattle.sim_engine.specs.Engine.{Engine}
use Rattle.sim_engine.proofs.Premises.{Premises}
use Rattle.sim_engine.proofs.Branches.{by_either, by_cases}

-- nothing is due before a moment
pub to_none : (m l : ℕ) (d : Option Key) → HoldsOff m l d → due_before (m - l) d ≡ None
to_none m l None h = refl
to_none m l (Some k) h = let x : m ≤ k.at + l = h in grind arith

pub from_none : (m l : ℕ) (d : Option Key) → due_before (m - l) d ≡ None → HoldsOff m l d
from_none m l None h = tt
from_none m l (Some k) h = grind (arith, h)

-- what is due before a moment is due
pub before_some : (e : ℕ) (d : Option Key) (k : Key) → due_before e d ≡ Some k → d ≡ Some k
before_some e None k h = h
before_some e (Some j) k h = grind (arith, h)

pub before_now : (e : ℕ) (k : Key) → k.at < e → due_before e (Some k) ≡ Some k
before_now e k l = ap (λ b. if b then Some k else None) (lt-ltb k.at e l)

pub not_before : (e : ℕ) (k : Key) → due_before e (Some k) ≡ None → e ≤ k.at
not_before e k h = grind (arith, h)

module _ {Site Row Transfer : Type 0} {engine : Engine Site Row Transfer} {conditions : Conditions Site Transfer} (basics : SiteLaws engine conditions) where
  open engine use {number, dues, handled, accepted, transfer_key, to}
  open conditions use {Sorted, Sound}

  -- a handling among some sites makes nothing due before it
  later_by : (e : ℕ) (k : Key) (ss : List Site) (d : Option Key) → IsSoundWorld basics ss → world_due engine ss ≡ Some k → e ≤ k.at → world_due engine (handled_among engine k ss).sites ≡ d → due_before e d ≡ None
  later_by e k ss None h i l g = refl
  later_by e k ss (Some j) h i l g =
      let x : e ≤ j.at → due_before e (Some j) ≡ None = λ y. grind (arith, y) in
      x
      (by_either (cases_lt j.at e)
      (λ b.
      let f : FallsAmong basics k j.at ss (handled_among engine k ss) = among_falls basics k j.at ss (omega arith) h (world_in basics k ss i) in
      let z : world_count basics j.at ss ≡ 0 = world_none basics j.at ss (ap (tick_key j.at) i ∙ tick_past j.at k.at (omega arith)) in
      let o : 1 ≤ world_count basics j.at (handled_among engine k ss).sites = least_counts basics j (handled_among engine k ss).sites f.sound g in absurd (omega (arith, f.fewer)))
      (λ b. b))

module _ {Site Row Transfer : Type 0} {engine : Engine Site Row Transfer} {conditions : Conditions Site Transfer} (given : Premises engine conditions) where
  open engine use {number, dues, handled, accepted, transfer_key, to}
  open conditions use {Sorted, Sound}
  open given use {basics, setting, home, Fine, Fits, sound, owner}

  -- bounds that are safe in a world
  abbrev pub AreSafe : (ℕ → ℕ) → List Site → Type 0
  AreSafe bounds w = (e : Edge) → In setting.edges e → IsWithin basics owner bounds w e

  -- a transfer sent by a handling in a partition
  pub record SentFrom (q : ℕ) (k : Key) (o : Transfer) : Type 0 where
    pub site : ℕ
    pub owned : (owner site == q) ≡ true
    pub sent : IsSentBy engine setting.edges home k site o

  -- what a handling in a partition leaves and sends
  pub record GoesOn (q : ℕ) (k : Key) (t : Stepped engine) : Type 0 where
    pub fine : Each Fine t.sites
    pub sent : Each (SentFrom q k) t.sent
    pub fits : Each Fits t.sent

  sent_from : (q : ℕ) (k : Key) (s : Site) → is_of engine owner q s ≡ true → (os : List Transfer) → Each (IsSentBy engine setting.edges home k (number s)) os → Each (SentFrom q k) os
  sent_from q k s h os i = each_weaker (IsSentBy engine setting.edges home k (number s)) (SentFrom q k) (λ o x. record { site = number s; owned = h; sent = x }) os i

  pub goes_on : (q : ℕ) (k : Key) (w : List Site) → Each Fine w → GoesOn q k (handled_in engine owner q k w)
  goes_on q k [] h = record { fine = tt; sent = tt; fits = tt }
  goes_on q k (s ∷ ss) h =
      by_cases (has_due engine owner q k s)
      (λ e.
      let i : In (dues s) k = least_in (dues s) k (is_due_least k (least_due engine s) (has_is basics owner q k s e)) in
      let g : GoesOn q k (handled_here engine (handled k s) ss) = record { fine = (sound.laws.handling k s h.0 i, h.1); sent = sent_from q k s (has_of basics owner q k s e) (handled k s).sent (sound.laws.sending k s h.0 i); fits = sound.laws.fitting k s h.0 i } in
      rw e g)
      (λ e. let g : GoesOn q k (handled_in engine owner q k ss) = goes_on q k ss h.1 in let x : GoesOn q k (handled_there engine s (handled_in engine owner q k ss)) = record { fine = (h.0, g.fine); sent = g.sent; fits = g.fits } in rw e x)

  one_fine : (o : Transfer) (s : Site) (b : Bool) → ((to o) == number s) ≡ b → Fits o → Fine s → Fine (if b then accepted o s else s)
  one_fine o s true e f h = sound.laws.accepting o s h f (eqb-true (to o) (number s) e)
  one_fine o s false e f h = h

  map_fine : (o : Transfer) (w : List Site) → Fits o → Each Fine w → Each Fine (map (delivered_one engine o) w)
  map_fine o [] f h = tt
  map_fine o (s ∷ ss) f h = (one_fine o s _ refl f h.0, map_fine o ss f h.1)

  pub delivered_fine : (os : List Transfer) (w : List Site) → Each Fits os → Each Fine w → Each Fine (delivered engine os w)
  delivered_fine [] w f h = h
  delivered_fine (o ∷ os) w f h = delivered_fine os (map (delivered_one engine o) w) f.1 (map_fine o w f.0 h)

  pub sound_all : (w : List Site) → Each Fine w → IsSoundWorld basics w
  sound_all [] h = All-nil Sound
  sound_all (s ∷ ss) h = All-cons Sound s ss (sound.laws.sound s h.0) (sound_all ss h.1)

  pub sorted_all : (w : List Site) → Each Fine w → Each Sorted w
  sorted_all w h = each_weaker Fine Sorted sound.laws.sorted w h

  part_cons : (q : ℕ) (s : Site) (ss : List Site) (b : Bool) → Fine s → Each Fine (part_of engine owner q ss) → Each Fine (if b then s ∷ part_of engine owner q ss else part_of engine owner q ss)
  part_cons q s ss true h i = (h, i)
  part_cons q s ss false h i = i

  pub part_fine : (q : ℕ) (w : List Site) → Each Fine w → Each Fine (part_of engine owner q w)
  part_fine q [] h = tt
  part_fine q (s ∷ ss) h = part_cons q s ss _ h.0 (part_fine q ss h.1)

  -- what is sent comes at safe bounds or later
  sent_late : (bounds : ℕ → ℕ) (w : List Site) (q : ℕ) (k : Key) (o : Transfer) → AreSafe bounds w → part_due engine owner q w ≡ Some k → SentFrom q k o → bounds (owner (to o)) ≤ (transfer_key o).at
  sent_late bounds w q k o safe d f =
      let e : Edge = f.sent.way in
      let same : owner e.from ≡ q = ap owner f.sent.from ∙ eqb-true (owner f.site) q f.owned in
      let due : HoldsOff (bounds (owner e.to)) e.least (part_due engine owner (owner e.from) w) = (safe e f.sent.there).due in
      let at : bounds (owner e.to) ≤ k.at + e.least = subst (HoldsOff (bounds (owner e.to)) e.least) (ap (λ r. part_due engine owner r w) same ∙ d) due in
      let to : bounds (owner e.to) ≡ bounds (owner (to o)) = ap (λ n. bounds (owner n)) f.sent.to in
      omega (arith, f.sent.late)

  pub all_late : (bounds : ℕ → ℕ) (w : List Site) (q : ℕ) (k : Key) (os : List Transfer) → AreSafe bounds w → part_due engine owner q w ≡ Some k → Each (SentFrom q k) os → Each (λ o. bounds (owner (to o)) ≤ (transfer_key o).at) os
  all_late bounds w q k os safe d h = each_weaker (SentFrom q k) (λ o. bounds (owner (to o)) ≤ (transfer_key o).at) (λ o f. sent_late bounds w q k o safe d f) os h

  -- late for one partition
  pub comes_by : (bounds : ℕ → ℕ) (r e : ℕ) (os : List Transfer) → e ≤ bounds r → Each (λ o. bounds (owner (to o)) ≤ (transfer_key o).at) os → Each (ComesBy basics owner r e) os
  comes_by bounds r e os l h =
      each_weaker (λ o. bounds (owner (to o)) ≤ (transfer_key o).at) (ComesBy basics owner r e) (λ o x y. let z : bounds (owner (to o)) ≡ bounds r = ap bounds (eqb-true (owner (to o)) r y) in omega (arith, x, l)) os h

  -- a handling leaves safe bounds safe
  own_later : (q e : ℕ) (k : Key) (w : List Site) → Each Fine w → part_due engine owner q w ≡ Some k → e ≤ k.at → due_before e (part_due engine owner q (handled_in engine owner q k w).sites) ≡ None
  own_later q e k w h d l =
      let o : Own basics owner q k w = own basics owner q k w in
      ap (λ z. due_before e (world_due engine z)) o.sites ∙ later_by basics e k (part_of engine owner q w) _ (sound_all (part_of engine owner q w) (part_fine q w h)) d l refl

  pub left_later : (q r e : ℕ) (k : Key) (w : List Site) (b : Bool) → (q == r) ≡ b → Each Fine w → part_due engine owner q w ≡ Some k → due_before e (part_due engine owner r w) ≡ None → due_before e (part_due engine owner r (handled_in engine owner q k w).sites) ≡ None
  left_later q r e k w true n h d g =
      let i : q ≡ r = eqb-true q r n in
      let g' : due_before e (part_due engine owner q w) ≡ None = subst (λ x. due_before e (part_due engine owner x w) ≡ None) (sym i) g in
      let l : e ≤ k.at = not_before e k (ap (due_before e) (sym d) ∙ g') in
      subst (λ x. due_before e (part_due engine owner x (handled_in engine owner q k w).sites) ≡ None) i (own_later q e k w h d l)
  left_later q r e k w false n h d g = ap (λ z. due_before e (world_due engine z)) (others basics owner q r k w n) ∙ g

  pub stepped_is : (q : ℕ) (k : Key) (w : List Site) → part_due engine owner q w ≡ Some k → part_stepped basics owner q w ≡ landed basics (handled_in engine owner q k w)
  stepped_is q k w d = ap (part_stepped_at basics owner q w) d

  pub stays_safe : (bounds : ℕ → ℕ) (q : ℕ) (k : Key) (w : List Site) → Each Fine w → part_due engine owner q w ≡ Some k → AreSafe bounds w → AreSafe bounds (landed basics (handled_in engine owner q k w))
  stays_safe bounds q k w h d safe e i =
      let r = owner e.from in
      let m = bounds (owner e.to) - e.least in
      let t : Stepped engine = handled_in engine owner q k w in
      let old : IsWithin basics owner bounds w e = safe e i in
      let late : Each (λ o. bounds (owner (to o)) ≤ (transfer_key o).at) t.sent = all_late bounds w q k t.sent safe d (goes_on q k w h).sent in
      let a : due_before m (part_due engine owner r (delivered engine t.sent t.sites)) ≡ due_before m (part_due engine owner r t.sites) =
      before_delivered basics owner r m t.sent t.sites (comes_by bounds r m t.sent (omega (arith, old.later)) late) in
      let b : due_before m (part_due engine owner r t.sites) ≡ None = left_later q r m k w (q == r) refl h d (to_none (bounds (owner e.to)) e.least (part_due engine owner r w) old.due) in
      record { due = from_none (bounds (owner e.to)) e.least (part_due engine owner r (landed basics t)) (a ∙ b); later = old.later }

  -- whether a partition's next handling may come now: it is due by the horizon, and before its bound for some bounds that are safe
  pub record May (p : ℕ) (w : List Site) : Type 0 where
    pub fine : Each Fine w
    pub key : Key
    pub due : part_due engine owner p w ≡ Some key
    pub early : key.at ≤ setting.horizon
    pub bounds : ℕ → ℕ
    pub safe : AreSafe bounds w
    pub before : key.at < bounds p

  -- what another partition sends comes after it
  comes_after : (p q : ℕ) (w : List Site) (m : May p w) (n : May q w) → Each (ComesAfter basics owner p m.key.at) (handled_in engine owner q n.key w).sent
  comes_after p q w m n =
      let os : List Transfer = (handled_in engine owner q n.key w).sent in
      each_weaker (λ o. m.bounds (owner (to o)) ≤ (transfer_key o).at) (ComesAfter basics owner p m.key.at)
      (λ o x y. let z : m.bounds (owner (to o)) ≡ m.bounds p = ap m.bounds (eqb-true (owner (to o)) p y) in omega (arith, x, m.before)) os
      (all_late m.bounds w q n.key os m.safe n.due (goes_on q n.key w n.fine).sent)

  senders_differ : (p q : ℕ) (k j : Key) (o x : Transfer) → (p == q) ≡ false → SentFrom p k o → SentFrom q j x → Differs basics o x
  senders_differ p q k j o x n f g =
      by_cases (same_key (transfer_key o) (transfer_key x))
      (λ e.
      let s : (transfer_key o).agent ≡ (transfer_key x).agent = ap (λ (y : Key). y.agent) (key_tied (transfer_key o) (transfer_key x) e) in
      let u : f.site ≡ g.site = sym f.sent.sender ∙ ap home s ∙ g.sent.sender in
      let v : p ≡ q = sym (eqb-true (owner f.site) p f.owned) ∙ ap owner u ∙ eqb-true (owner g.site) q g.owned in absurd (grind (arith, eqb-false p q n, v)))
      (λ e. e)

  all_differ : (p q : ℕ) (k j : Key) (os xs : List Transfer) → (p == q) ≡ false → Each (SentFrom p k) os → Each (SentFrom q j) xs → Each (λ o. Each (Differs basics o) xs) os
  all_differ p q k j os xs n h i =
      each_weaker (SentFrom p k) (λ o. Each (Differs basics o) xs) (λ o f. each_weaker (SentFrom q j) (Differs basics o) (λ x g. senders_differ p q k j o x n f g) xs i) os h

  -- the due is still the same after another partition's handling
  still_due : (p q : ℕ) (w : List Site) (m : May p w) (n : May q w) → (q == p) ≡ false → part_due engine owner p (landed basics (handled_in engine owner q n.key w)) ≡ Some m.key
  still_due p q w m n d =
      let t : Stepped engine = handled_in engine owner q n.key w in
      let e = m.key.at + 1 in
      let by : Each (ComesBy basics owner p e) t.sent = each_weaker (ComesAfter basics owner p m.key.at) (ComesBy basics owner p e) (λ o x y. omega (arith, x y)) t.sent (comes_after p q w m n) in
      before_some e (part_due engine owner p (landed basics t)) m.key
      (before_delivered basics owner p e t.sent t.sites by
      ∙ ap (λ z. due_before e (world_due engine z)) (others basics owner q p n.key w d)
      ∙ ap (due_before e) m.due
      ∙ before_now e m.key (omega arith))

  still_may : (p q : ℕ) (w : List Site) (m : May p w) (n : May q w) → (q == p) ≡ false → May p (part_stepped basics owner q w)
  still_may p q w m n d =
      let t : Stepped engine = handled_in engine owner q n.key w in
      let g : GoesOn q n.key t = goes_on q n.key w n.fine in
      subst (May p) (sym (stepped_is q n.key w n.due))
      (record {
        fine = delivered_fine t.sent t.sites g.fits g.fine;
        key = m.key;
        due = still_due p q w m n d;
        early = m.early;
        bounds = m.bounds;
        safe = stays_safe m.bounds q n.key w m.fine n.due m.safe;
        before = m.before;
      })

  -- a partition's handling after another's
  after_other : (p q : ℕ) (w : List Site) (m : May p w) (n : May q w) → handled_in engine owner p m.key (landed basics (handled_in engine owner q n.key w)) ≡ with_landed basics owner (handled_in engine owner q n.key w).sent (handled_in engine owner p m.key (handled_in engine owner q n.key w).sites)
  after_other p q w m n =
      let t : Stepped engine = handled_in engine owner q n.key w in
      landed_beside basics owner p m.key t.sent t.sites (sorted_all t.sites (goes_on q n.key w n.fine).fine) (comes_after p q w m n)

  -- what a handling told is its key, rows and transfers
  pub entry_same : (k : Key) (t u : Stepped engine) → t.rows ≡ u.rows → t.sent ≡ u.sent → entry_of engine k t ≡ entry_of engine k u
  entry_same k t u r s =
      let a : entry_of engine k t ≡ (record { key = Some k; rows = u.rows; sent = t.sent }) = ap (λ (x : List Row). let e : Entry engine = record { key = Some k; rows = x; sent = t.sent } in e) r in
      let b : (record { key = Some k; rows = u.rows; sent = t.sent }) ≡ entry_of engine k u = ap (λ (x : List Transfer). let e : Entry engine = record { key = Some k; rows = u.rows; sent = x } in e) s in
      a ∙ b

  told_same : (p q : ℕ) (w : List Site) (m : May p w) (n : May q w) → (p == q) ≡ false → (q == p) ≡ false → told_by basics owner p (part_stepped basics owner q w) ≡ told_by basics owner p w
  told_same p q w m n d f =
      let t : Stepped engine = handled_in engine owner q n.key w in
      let b : Beside basics owner q p n.key m.key w = beside basics owner q p n.key m.key w f d in
      let a : handled_in engine owner p m.key (landed basics t) ≡ with_landed basics owner t.sent (handled_in engine owner p m.key t.sites) = after_other p q w m n in
      ap (told_by basics owner p) (stepped_is q n.key w n.due)
      ∙ ap (told_at basics owner p (landed basics t)) (still_due p q w m n f)
      ∙ entry_same m.key (handled_in engine owner p m.key (landed basics t)) (handled_in engine owner p m.key w) (ap (λ (x : Stepped engine). x.rows) a ∙ b.rows) (ap (λ (x : Stepped engine). x.sent) a ∙ b.sent)
      ∙ sym (ap (told_at basics owner p w) m.due)

  -- two handlings, one after the other
  both_are : (p q : ℕ) (w : List Site) (m : May p w) (n : May q w) → (p == q) ≡ false → (q == p) ≡ false
      → part_stepped basics owner p (part_stepped basics owner q w) ≡ delivered engine (handled_in engine owner p m.key w).sent (delivered engine (handled_in engine owner q n.key w).sent (handled_in engine owner p m.key (handled_in engine owner q n.key w).sites).sites)
  both_are p q w m n d f =
      let t : Stepped engine = handled_in engine owner q n.key w in
      let b : Beside basics owner q p n.key m.key w = beside basics owner q p n.key m.key w f d in
      let a : handled_in engine owner p m.key (landed basics t) ≡ with_landed basics owner t.sent (handled_in engine owner p m.key t.sites) = after_other p q w m n in
      ap (part_stepped basics owner p) (stepped_is q n.key w n.due)
      ∙ stepped_is p m.key (landed basics t) (still_due p q w m n f)
      ∙ ap (λ (x : Stepped engine). landed basics x) a
      ∙ ap (λ os. delivered engine os (delivered engine t.sent (handled_in engine owner p m.key t.sites).sites)) b.sent

  either_order : (p q : ℕ) (w : List Site) → May p w → May q w → (p == q) ≡ false → (q == p) ≡ false → part_stepped basics owner p (part_stepped basics owner q w) ≡ part_stepped basics owner q (part_stepped basics owner p w)
  either_order p q w m n d f =
      let t : Stepped engine = handled_in engine owner q n.key w in
      let u : Stepped engine = handled_in engine owner p m.key w in
      let b : Beside basics owner q p n.key m.key w = beside basics owner q p n.key m.key w f d in
      both_are p q w m n d f
      ∙ delivered_either basics u.sent t.sent (handled_in engine owner p m.key t.sites).sites (all_differ p q m.key n.key u.sent t.sent d (goes_on p m.key w m.fine).sent (goes_on q n.key w n.fine).sent)
      ∙ ap (λ z. delivered engine t.sent (delivered engine u.sent z)) b.sites
      ∙ sym (both_are q p w n m f d)

  -- handlings in different partitions that may both come, in either order
  pub apart : (p q : ℕ) (w : List Site) → (p == q) ≡ false → May p w → May q w → Apart (part_stepped basics owner) (told_by basics owner) May p q w
  apart p q w d m n =
      let f : (q == p) ≡ false = turned p q d in
      record { may = still_may p q w m n f; same = either_order p q w m n d f; told = told_same p q w m n d f }

  -- runs of handlings that may come at their turns: what they told, and the world that they lead to
  abbrev pub IsRunBy : List ℕ → List Site → Type 0
  IsRunBy ps w = IsRun (part_stepped basics owner) May ps w

  abbrev pub run_log : List ℕ → List Site → List (ℕ × Entry engine)
  run_log ps w = log (part_stepped basics owner) (told_by basics owner) ps w

  abbrev pub run_world : List ℕ → List Site → List Site
  run_world ps w = play (part_stepped basics owner) ps w

  -- two such runs from one world can be gone on with to one world
  pub meet : (ps gs : List ℕ) (w : List Site) → IsRunBy ps w → IsRunBy gs w → Joined (part_stepped basics owner) (told_by basics owner) May apart ps gs w
  meet ps gs w h k = joined (part_stepped basics owner) (told_by basics owner) May apart gs ps w k h

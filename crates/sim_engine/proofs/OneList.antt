-- The one-list run is a run of partitions' handlings that may come: the least due of the world is that of one partition.
use Rattle.std.specs.Prelude.{Bool, IsNone, List, None, Option, Some, [], cond, false, if◌then◌else◌, not, suc, true, zero, ℕ, ◌&&◌, ◌+◌, ◌++◌, ◌∷◌, ◌≡◌, ◌≤◌}
use Rattle.std.proofs.Common.{Equal, Greater, Less, ap, append-nil, append_assoc, arith, inl, inr, refl, subst, sym, ◌∙◌}
use Rattle.std.proofs.lemmas.Bool.{eq-eqb, le-ltb}
use Rattle.std.specs.Ordering.{is_eq, is_lt}
use Rattle.std.specs.declared.cmp.Ordering.{Ordering}
use Rattle.sim_clock.specs.declared.key.Key.{Key}
use Rattle.sim_clock.specs.Order.{due_before, key_cmp, key_cmp_total, lesser}
use Rattle.sim_clock.proofs.Inserted.{exactly, upto_before}
use Rattle.sim_clock.proofs.Least.{key_tied}
use Rattle.sim_clock.proofs.Orderings.{key_self, less_not_back}
use Rattle.sim_engine.specs.World.{least_due, world_due, Run, Stepped, after, due_by, handled_among, handled_there, is_due, next_due, run_on, stepped_at}
use Rattle.sim_engine.proofs.Branches.{either, by_cases}
use Rattle.sim_engine.proofs.WorldMoves.{DueIn, is_due_least, world_in}
use Rattle.sim_engine.specs.Parts.{Entry, entry_of, handled_in, is_of, part_due, part_of}
use Rattle.sim_engine.proofs.Landing.{HoldsOff, landed, part_stepped, part_stepped_at, told_at, told_by}
use Rattle.sim_engine.proofs.Runs.{IsRun, log, play}
use Rattle.sim_engine.specs.Prefixes.{told_after, told_next, turn_of}
use Rattle.sim_engine.specs.Members.{Each}
use Rattle.sim_engine.proofs.Parts.{before_lesser}
use Rattle.sim_engine.proofs.Worlds.{GoesOn, IsRunBy, May, run_log, run_world, delivered_fine, goes_on, not_before, stepped_is}
use Rattle.sim_engine.specs.Laws.{Conditions, SiteLaws}
use Rattle.sim_engine.specs.Engine.{Engine}
use Rattle.sim_engine.specs.Setting.{IsRunOf}
use Rattle.sim_engine.proofs.Premises.{Premises}
use Rattle.sim_engine.specs.Theorems.{rows_of}
pub use Rattle.sim_engine.specs.Theorems.{rows_of}

-- whether a due, if there is one, does not come before a key
abbrev pub NotLess : Key → Option Key → Type 0
NotLess key None = Unit {0}
NotLess key (Some j) = is_lt (key_cmp j key) ≡ false

less_back : (a b : Key) → is_lt (key_cmp b a) ≡ true → is_lt (key_cmp a b) ≡ false
less_back a b h = ap is_lt (key_cmp_total.antisymm a b) ∙ less_not_back (key_cmp b a) h

eq_not : (o : Ordering) → is_eq o ≡ true → is_lt o ≡ false
eq_not Less h = cc
eq_not Equal h = refl
eq_not Greater h = cc

pub not_self : (k : Key) → is_lt (key_cmp k k) ≡ false
not_self k = eq_not (key_cmp k k) (key_self k)

parts_by : (key a b : Key) (c : Bool) → is_lt (key_cmp b a) ≡ c → NotLess key (if c then Some b else Some a) → NotLess key (Some a) × NotLess key (Some b)
parts_by key a b true e h = (upto_before key_cmp_total key b a h (less_back a b e), h)
parts_by key a b false e h = (h, upto_before key_cmp_total key a b h e)

pub parts : (key : Key) (a b : Option Key) → NotLess key (lesser a b) → NotLess key a × NotLess key b
parts key None b h = (tt, h)
parts key (Some a) None h = (h, tt)
parts key (Some a) (Some b) h = parts_by key a b _ refl h

pub joined : (key : Key) (a b : Option Key) → NotLess key a → NotLess key b → NotLess key (lesser a b)
joined key None b h k = k
joined key (Some a) None h k = h
joined key (Some a) (Some b) h k = either (NotLess key) (is_lt (key_cmp b a)) (Some b) (Some a) k h

pub first_least : (key : Key) (b : Option Key) → NotLess key b → lesser (Some key) b ≡ Some key
first_least key None h = refl
first_least key (Some j) h = ap (λ c. if c then Some j else Some key) h

tied_by : (key a : Key) (b : Bool) → is_eq (key_cmp a key) ≡ b → is_lt (key_cmp key a) ≡ false → is_lt (key_cmp a key) ≡ false → a ≡ key
tied_by key a true e h k = key_tied a key e
tied_by key a false e h k = absurd (let x : is_lt (key_cmp key a) ≡ true = exactly key_cmp_total a key e ∙ ap not k in cc)

second_by : (key a : Key) (c : Bool) → is_lt (key_cmp key a) ≡ c → NotLess key (Some a) → (if c then Some key else Some a) ≡ Some key
second_by key a true e h = refl
second_by key a false e h = ap (λ (x : Key). Some x) (tied_by key a _ refl e h)

pub second_least : (key : Key) (a : Option Key) → NotLess key a → lesser a (Some key) ≡ Some key
second_least key None h = refl
second_least key (Some a) h = second_by key a _ refl h

-- one more step
module _ {S E : Type 0} (step : ℕ → S → S) (event : ℕ → S → E) (Can : ℕ → S → Type 0) where
  pub play_push : (ps : List ℕ) (p : ℕ) (s : S) → play step (ps ++ p ∷ []) s ≡ step p (play step ps s)
  play_push [] p s = refl
  play_push (x ∷ xs) p s = play_push xs p (step x s)

  pub log_push : (ps : List ℕ) (p : ℕ) (s : S) → log step event (ps ++ p ∷ []) s ≡ log step event ps s ++ (p, event p (play step ps s)) ∷ []
  log_push [] p s = refl
  log_push (x ∷ xs) p s = ap (λ z. (x, event x s) ∷ z) (log_push xs p (step x s))

  pub run_push : (ps : List ℕ) (p : ℕ) (s : S) → IsRun step Can ps s → Can p (play step ps s) → IsRun step Can (ps ++ p ∷ []) s
  run_push [] p s h m = (m, tt)
  run_push (x ∷ xs) p s h m = (h.0, run_push xs p (step x s) h.1 m)

after_key : (d : Option Key) (at l : ℕ) → due_before at d ≡ None → 1 ≤ l → HoldsOff (at + 1) l d
after_key None at l h k = tt
after_key (Some j) at l h k = let x : at ≤ j.at = not_before at j h in omega arith

module _ {Site Row Transfer : Type 0} {engine : Engine Site Row Transfer} {conditions : Conditions Site Transfer} (basics : SiteLaws engine conditions) where
  open engine use {number, handled}

  -- the least due of a world is not less than a key exactly where no site's is
  pub all_not_less : (key : Key) (w : List Site) → NotLess key (world_due engine w) → Each (λ s. NotLess key (least_due engine s)) w
  all_not_less key [] h = tt
  all_not_less key (s ∷ ss) h =
      let p : NotLess key (least_due engine s) × NotLess key (world_due engine ss) = parts key (least_due engine s) (world_due engine ss) h in (p.0, all_not_less key ss p.1)

  world_not_less : (key : Key) (w : List Site) → Each (λ s. NotLess key (least_due engine s)) w → NotLess key (world_due engine w)
  world_not_less key [] h = tt
  world_not_less key (s ∷ ss) h = joined key (least_due engine s) (world_due engine ss) h.0 (world_not_less key ss h.1)

  -- a due of one of some sites, of which none comes before it, is their least
  least_is : (key : Key) (w : List Site) → Each (λ s. NotLess key (least_due engine s)) w → DueIn basics key w → world_due engine w ≡ Some key
  least_is key [] h d = elim d [ ]
  least_is key (s ∷ ss) h (inl e) = ap (λ o. lesser o (world_due engine ss)) e ∙ first_least key (world_due engine ss) (world_not_less key ss h.1)
  least_is key (s ∷ ss) h (inr d) = ap (lesser (least_due engine s)) (least_is key ss h.1 d) ∙ second_least key (least_due engine s) h.0

  module _ (owner : ℕ → ℕ) where
    each_part : (P : Site → Type 0) (p : ℕ) (w : List Site) → Each P w → Each P (part_of engine owner p w)
    each_part P p [] h = tt
    each_part P p (s ∷ ss) h = either (Each P) (is_of engine owner p s) (s ∷ part_of engine owner p ss) (part_of engine owner p ss) (h.0, each_part P p ss h.1) (each_part P p ss h.1)

    -- the partition of the first site that has the due
    record First (key : Key) (w : List Site) : Type 0 where
      pub part : ℕ
      pub is_turn : part ≡ turn_of engine owner key w
      pub within : DueIn basics key (part_of engine owner part w)
      pub same : handled_in engine owner part key w ≡ handled_among engine key w

    due_skipped : (key : Key) (s : Site) (ss : List Site) (p : ℕ) (b : Bool) → DueIn basics key (part_of engine owner p ss) → DueIn basics key (cond b (s ∷ part_of engine owner p ss) (part_of engine owner p ss))
    due_skipped key s ss p true h = inr h
    due_skipped key s ss p false h = h

    and_off : (a b : Bool) → b ≡ false → (a && b) ≡ false
    and_off true b h = h
    and_off false b h = refl

    first_due : (key : Key) (w : List Site) → DueIn basics key w → First key w
    first_due key [] d = elim d [ ]
    first_due key (s ∷ ss) d =
        elim (is_due key (least_due engine s)) as (λ b. is_due key (least_due engine s) ≡ b → First key (s ∷ ss)) [
          | true ↦ λ e.
              let p = owner (number s) in
              let o : is_of engine owner p s ≡ true = eq-eqb p p refl in
              record { part = p; is_turn = rw e refl; within = rw o (inl (is_due_least key (least_due engine s) e)); same = rw (o, e) refl }
          | false ↦ λ e.
              elim d as (λ _. First key (s ∷ ss)) [
                | inl k ↦ absurd (let t : is_due key (least_due engine s) ≡ true = ap (is_due key) k ∙ key_self key in let x : true ≡ false = sym t ∙ e in cc)
                | inr k ↦
                    let f : First key ss = first_due key ss k in
                    record {
                      part = f.part;
                      is_turn = rw e f.is_turn;
                      within = due_skipped key s ss f.part (is_of engine owner f.part s) f.within;
                      same = rw (and_off (is_of engine owner f.part s) (is_due key (least_due engine s)) e, e) (ap (handled_there engine s) f.same);
                    }
              ]
        ] refl

    -- the partition whose turn it is in the one-list run
    pub record Turn (key : Key) (w : List Site) : Type 0 where
      pub part : ℕ
      pub is_turn : part ≡ turn_of engine owner key w
      pub due : part_due engine owner part w ≡ Some key
      pub same : handled_in engine owner part key w ≡ handled_among engine key w

    pub turn : (key : Key) (w : List Site) → world_due engine w ≡ Some key → Turn key w
    turn key w d =
        let f : First key w = first_due key w (world_in basics key w d) in
        let n : Each (λ s. NotLess key (least_due engine s)) w = all_not_less key w (subst (NotLess key) (sym d) (not_self key)) in
        record { part = f.part; is_turn = f.is_turn; due = least_is key (part_of engine owner f.part w) (each_part (λ s. NotLess key (least_due engine s)) f.part w n) f.within; same = f.same }

    -- where nothing of a world is due before a moment, nothing of a partition is
    some_by : (c : Bool) (a b : Key) → (if c then Some b else Some a) ≡ None → ⊥
    some_by true a b h = let x : Some b ≡ None = h in cc
    some_by false a b h = let x : Some a ≡ None = h in cc

    pub both_none : (a b : Option Key) → lesser a b ≡ None → (a ≡ None) × (b ≡ None)
    both_none None b h = (refl, h)
    both_none (Some a) None h = (h, refl)
    both_none (Some a) (Some b) h = absurd (some_by (is_lt (key_cmp b a)) a b h)

    pub part_none : (e p : ℕ) (w : List Site) → due_before e (world_due engine w) ≡ None → due_before e (part_due engine owner p w) ≡ None
    part_none e p [] h = refl
    part_none e p (s ∷ ss) h =
        let b : (due_before e (least_due engine s) ≡ None) × (due_before e (world_due engine ss) ≡ None) = both_none (due_before e (least_due engine s)) (due_before e (world_due engine ss)) (sym (before_lesser basics e (least_due engine s) (world_due engine ss)) ∙ h) in
        let i : due_before e (part_due engine owner p ss) ≡ None = part_none e p ss b.1 in
        by_cases (is_of engine owner p s) (λ f. rw (f, before_lesser basics e (least_due engine s) (part_due engine owner p ss), b.0) i) (λ f. rw f i)

    -- and the other way round
    pub world_none_of : (e : ℕ) (w : List Site) → ((p : ℕ) → due_before e (part_due engine owner p w) ≡ None) → (d : Option Key) → world_due engine w ≡ d → due_before e d ≡ None
    world_none_of e w h None i = refl
    world_none_of e w h (Some k) i = let t : Turn k w = turn k w i in sym (ap (due_before e) t.due) ∙ h t.part

  pub rows_push : (l : List (ℕ × Entry engine)) (x : ℕ × Entry engine) → rows_of engine (l ++ x ∷ []) ≡ rows_of engine l ++ x.1.rows
  rows_push [] x = append-nil x.1.rows
  rows_push (y ∷ ys) x = ap (λ z. y.1.rows ++ z) (rows_push ys x) ∙ sym (append_assoc y.1.rows (rows_of engine ys) x.1.rows)

  pub due_is : (horizon : ℕ) (d : Option Key) (key : Key) → due_by horizon d ≡ Some key → (d ≡ Some key) × (key.at ≤ horizon)
  due_is horizon None key h = grind (arith, h)
  due_is horizon (Some k) key h = grind (arith, h)

module _ {Site Row Transfer : Type 0} {engine : Engine Site Row Transfer} {conditions : Conditions Site Transfer} (given : Premises engine conditions) where
  open engine use {number, handled}
  open given use {basics, setting, Fine, sound, owner}

  -- the one-list run of the setting after n handlings, and what they told
  abbrev pub run_after : ℕ → Run engine
  run_after n = after engine setting.horizon n setting.opening

  abbrev pub run_told : ℕ → List (ℕ × Entry engine)
  run_told n = told_after engine owner setting.horizon n setting.opening

  -- the least due of a world may be handled
  pub turn_may : (key : Key) (w : List Site) (t : Turn basics owner key w) → Each Fine w → world_due engine w ≡ Some key → key.at ≤ setting.horizon → May given t.part w
  turn_may key w t h d l =
      let z : due_before key.at (world_due engine w) ≡ None = ap (due_before key.at) d ∙ ap (λ b. if b then Some key else None) (le-ltb key.at key.at (omega arith)) in
      record {
        fine = h;
        key = key;
        due = t.due;
        early = l;
        bounds = λ _. key.at + 1;
        safe = λ e i.
            let n : due_before key.at (part_due engine owner (owner e.from) w) ≡ None = part_none basics owner key.at (owner e.from) w z in
            let k : 1 ≤ e.least = sound.laws.takes_time e i in
            record { due = after_key (part_due engine owner (owner e.from) w) key.at e.least n k; later = omega arith };
        before = omega arith;
      }

  -- a run of handlings from the opening that led to a world, made its rows and told this
  pub record IsTurns (l : List (ℕ × Entry engine)) (r : Run engine) : Type 0 where
    pub names : List ℕ
    pub runs : IsRunBy given names setting.opening
    pub sites : run_world given names setting.opening ≡ r.sites
    pub rows : rows_of engine (run_log given names setting.opening) ≡ r.rows
    pub told : run_log given names setting.opening ≡ l
    pub fine : Each Fine r.sites

  turn_fine : (p : ℕ) (w : List Site) → May given p w → Each Fine (part_stepped basics owner p w)
  turn_fine p w m =
      let t : Stepped engine = handled_in engine owner p m.key w in
      let g : GoesOn given p m.key t = goes_on given p m.key w m.fine in
      subst (Each Fine) (sym (stepped_is given p m.key w m.due)) (delivered_fine given t.sent t.sites g.fits g.fine)

  next_turn : (key : Key) (n : List (ℕ × Entry engine)) (r : Run engine) → IsTurns n r → world_due engine r.sites ≡ Some key → key.at ≤ setting.horizon → IsTurns (n ++ told_next engine owner r.sites (Some key)) (run_on engine r.rows (handled_among engine key r.sites))
  next_turn key n r i d l =
      let step = part_stepped basics owner in
      let event = told_by basics owner in
      let w : List Site = setting.opening in
      let t : Turn basics owner key r.sites = turn basics owner key r.sites d in
      let p = t.part in
      let m : May given p r.sites = turn_may key r.sites t i.fine d l in
      let s : step p r.sites ≡ landed basics (handled_among engine key r.sites) = ap (part_stepped_at basics owner p r.sites) t.due ∙ ap (landed basics) t.same in
      let e : event p r.sites ≡ entry_of engine key (handled_among engine key r.sites) = ap (told_at basics owner p r.sites) t.due ∙ ap (entry_of engine key) t.same in
      record {
        names = i.names ++ p ∷ [];
        runs = run_push step event (May given) i.names p w i.runs (subst (May given p) (sym i.sites) m);
        sites = play_push step event (May given) i.names p w ∙ ap (step p) i.sites ∙ s;
        rows =
            ap (rows_of engine) (log_push step event (May given) i.names p w)
            ∙ rows_push basics (run_log given i.names w) (p, event p (run_world given i.names w))
            ∙ ap (λ z. z ++ (event p (run_world given i.names w)).rows) i.rows
            ∙ ap (λ z. r.rows ++ (event p z).rows) i.sites
            ∙ ap (λ (x : Entry engine). r.rows ++ x.rows) e;
        told =
            log_push step event (May given) i.names p w
            ∙ ap (λ z. z ++ (p, event p (run_world given i.names w)) ∷ []) i.told
            ∙ ap (λ z. n ++ (p, event p z) ∷ []) i.sites
            ∙ ap (λ (x : Entry engine). n ++ (p, x) ∷ []) e
            ∙ ap (λ k. n ++ (k, entry_of engine key (handled_among engine key r.sites)) ∷ []) t.is_turn;
        fine = subst (Each Fine) s (turn_fine p r.sites m);
      }

  step_turns : (n : List (ℕ × Entry engine)) (r : Run engine) (d : Option Key) → IsTurns n r → next_due engine setting.horizon r.sites ≡ d → IsTurns (n ++ told_next engine owner r.sites d) (stepped_at engine r d)
  step_turns n r None i e = subst (λ l. IsTurns l r) (sym (append-nil n)) i
  step_turns n r (Some key) i e =
      let x : (world_due engine r.sites ≡ Some key) × (key.at ≤ setting.horizon) = due_is basics setting.horizon (world_due engine r.sites) key e in
      next_turn key n r i x.0 x.1

  -- the one-list run is such a run
  pub turns : (n : ℕ) → IsTurns (run_told n) (run_after n)
  turns zero = record { names = []; runs = tt; sites = refl; rows = refl; told = refl; fine = sound.opens }
  turns (suc n) = step_turns (run_told n) (run_after n) _ (turns n) refl

  pub whole_turns : (r : Run engine) (w : IsRunOf engine setting r) → IsTurns (run_told w.steps) r
  whole_turns r w = subst (IsTurns (run_told w.steps)) w.reached (turns w.steps)

  -- nothing may be handled in a world with nothing due by the horizon
  before_by_none : (d : Option Key) → IsNone (due_by setting.horizon d) → due_before (setting.horizon + 1) d ≡ None
  before_by_none None h = refl
  before_by_none (Some key) h = grind (arith, h)

  pub ended_before : (w : List Site) → IsNone (next_due engine setting.horizon w) → due_before (setting.horizon + 1) (world_due engine w) ≡ None
  ended_before w h = before_by_none (world_due engine w) h

  pub ended_may : (p : ℕ) (w : List Site) → IsNone (next_due engine setting.horizon w) → May given p w → ⊥
  ended_may p w h m =
      let n : due_before (setting.horizon + 1) (part_due engine owner p w) ≡ None = part_none basics owner (setting.horizon + 1) p w (ended_before w h) in
      let l : setting.horizon + 1 ≤ m.key.at = not_before (setting.horizon + 1) m.key (ap (due_before (setting.horizon + 1)) (sym m.due) ∙ n) in
      let e : m.key.at ≤ setting.horizon = m.early in absurd (omega arith)

  pub ended_run : (ps : List ℕ) (w : List Site) → IsNone (next_due engine setting.horizon w) → IsRunBy given ps w → ps ≡ []
  ended_run [] w h r = refl
  ended_run (p ∷ ps) w h r = absurd (ended_may p w h r.0)

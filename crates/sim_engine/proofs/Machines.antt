-- A machine after any picks: its world, with what waits delivered, is that of a run of handlings that may come, and its handlings told the same.
use Rattle.std.specs.List.{list_any}
use Rattle.std.specs.Option.{is_some}
use Rattle.std.specs.Prelude.{Bool, List, None, Option, Some, [], false, if◌then◌else◌, true, ℕ, ◌||◌, ◌+◌, ◌++◌, ◌<◌, ◌==◌, ◌∷◌, ◌≡◌, ◌≤◌}
use Rattle.std.proofs.Common.{ap, arith, refl, subst, sym, ◌∙◌}
use Rattle.std.proofs.lemmas.Bool.{eqb-true, or_parts}
use Rattle.sim_clock.specs.declared.key.Key.{Key}
use Rattle.sim_clock.specs.Order.{due_before}
use Rattle.sim_engine.specs.World.{least_due, Stepped, delivered}
use Rattle.sim_engine.specs.declared.picks.Pick.{Pick}
use Rattle.sim_engine.specs.declared.picks.Pick.TheVariants.{Barrier, Part}
use Rattle.sim_engine.specs.Machine.{Machine, flushed, has_ready, is_finished, is_ready, part_played, played, played_all, ready, with_barrier, with_handled}
use Rattle.sim_engine.specs.Parts.{Entry, entry_of, handled_in, part_due}
use Rattle.sim_engine.proofs.Landing.{landed, part_stepped, told_at, told_by}
use Rattle.sim_engine.proofs.OneList.{log_push, play_push, run_push}
use Rattle.sim_engine.proofs.Parts.{ComesAfter, ComesBy, before_delivered, before_lesser, delivered_append, each_append, each_weaker, landed_beside, with_landed}
use Rattle.sim_engine.specs.Members.{Each}
use Rattle.sim_engine.proofs.Worlds.{AreSafe, GoesOn, IsRunBy, May, entry_same, run_log, run_world, all_late, before_some, comes_by, delivered_fine, goes_on, sorted_all, stays_safe, stepped_is}
use Rattle.sim_engine.specs.Laws.{Conditions, SiteLaws}
use Rattle.sim_engine.specs.Theorems.{begun}
use Rattle.sim_engine.specs.Engine.{Engine}
use Rattle.sim_engine.proofs.Premises.{Premises}
use Rattle.sim_engine.proofs.Branches.{by_cases}

-- what is due before a moment is before it
pub before_at : (e : ℕ) (d : Option Key) (k : Key) → due_before e d ≡ Some k → k.at < e
before_at e None k h = grind (arith, h)
before_at e (Some j) k h = grind (arith, h)

pub not_some : (d : Option Key) → is_some d ≡ false → d ≡ None
not_some None h = refl
not_some (Some k) h = cc

module _ {Site Row Transfer : Type 0} {engine : Engine Site Row Transfer} {conditions : Conditions Site Transfer} (basics : SiteLaws engine conditions) where
  open engine use {number, transfer_key, to}

  -- where no site has anything ready, no partition has
  pub none_ready_of : (owner : ℕ → ℕ) (bounds : ℕ → ℕ) (p : ℕ) (w : List Site) → list_any (is_ready engine owner bounds) w ≡ false → due_before (bounds p) (part_due engine owner p w) ≡ None
  none_ready_of owner bounds p [] h = refl
  none_ready_of owner bounds p (s ∷ ss) h =
      let b : (is_ready engine owner bounds s ≡ false) × (list_any (is_ready engine owner bounds) ss ≡ false) = or_parts (is_ready engine owner bounds s) (list_any (is_ready engine owner bounds) ss) h in
      let i : due_before (bounds p) (part_due engine owner p ss) ≡ None = none_ready_of owner bounds p ss b.1 in
      by_cases (owner (number s) == p)
      (λ e.
      let z : due_before (bounds p) (least_due engine s) ≡ None = subst (λ q. due_before (bounds q) (least_due engine s) ≡ None) (eqb-true (owner (number s)) p e) (not_some (due_before (bounds (owner (number s))) (least_due engine s)) b.0) in
      rw (e, before_lesser basics (bounds p) (least_due engine s) (part_due engine owner p ss), z) i)
      (λ e. rw e i)

module _ {Site Row Transfer : Type 0} {engine : Engine Site Row Transfer} {conditions : Conditions Site Transfer} (given : Premises engine conditions) where
  open engine use {number, transfer_key, to}
  open given use {basics, setting, Fine, Fits, sound, owner}

  abbrev pub Safe : (ℕ → ℕ) → List Site → Type 0
  Safe bounds w = AreSafe given bounds w

  -- whether a transfer comes at the bound of its partition or later
  abbrev pub IsLate : (ℕ → ℕ) → Transfer → Type 0
  IsLate bounds o = bounds (owner (to o)) ≤ (transfer_key o).at

  -- a machine that some picks made of the opening
  pub record Follows (m : Machine engine) : Type 0 where
    pub names : List ℕ
    pub runs : IsRunBy given names setting.opening
    pub sites : run_world given names setting.opening ≡ flushed engine m
    pub told : run_log given names setting.opening ≡ m.told
    pub fine : Each Fine m.sites
    pub fits : Each Fits m.waiting
    pub late : Each (IsLate m.bounds) m.waiting
    pub safe : Safe m.bounds (flushed engine m)
    pub capped : (p : ℕ) → m.bounds p ≤ setting.horizon + 1

  -- a rule by which barriers set bounds: they are safe, and none is past the horizon's end
  pub record IsRule (rule : List Site → ℕ → ℕ) : Type 0 where
    pub safe : (w : List Site) → Each Fine w → Safe (rule w) w
    pub capped : (w : List Site) (p : ℕ) → rule w p ≤ setting.horizon + 1

  -- what a partition has due before a moment that its bound is not before, it has in the flushed world
  pub early_before : (m : Machine engine) (p moment : ℕ) → moment ≤ m.bounds p → Each (IsLate m.bounds) m.waiting → due_before moment (part_due engine owner p (flushed engine m)) ≡ due_before moment (part_due engine owner p m.sites)
  early_before m p moment l h = before_delivered basics owner p moment m.waiting m.sites (comes_by given m.bounds p moment m.waiting l h)

  -- what a partition may handle, it may handle in the flushed world
  pub same_before : (m : Machine engine) (p : ℕ) → Each (IsLate m.bounds) m.waiting → due_before (m.bounds p) (part_due engine owner p (flushed engine m)) ≡ ready engine owner p m
  same_before m p h = early_before m p (m.bounds p) (omega arith) h

  -- what a partition may handle may be handled in the flushed world
  pub may_now : (m : Machine engine) (p : ℕ) (k : Key) → Follows m → ready engine owner p m ≡ Some k → May given p (flushed engine m)
  may_now m p k f r =
      let lt : k.at < m.bounds p = before_at (m.bounds p) (part_due engine owner p m.sites) k r in
      let cap : m.bounds p ≤ setting.horizon + 1 = f.capped p in
      record {
        fine = delivered_fine given m.waiting m.sites f.fits f.fine;
        key = k;
        due = before_some (m.bounds p) (part_due engine owner p (flushed engine m)) k (same_before m p f.late ∙ r);
        early = omega arith;
        bounds = m.bounds;
        safe = f.safe;
        before = lt;
      }

  -- a handling in the flushed world is that in the machine's, with what waits delivered
  beside_waiting : (m : Machine engine) (p : ℕ) (k : Key) → Follows m → ready engine owner p m ≡ Some k → handled_in engine owner p k (flushed engine m) ≡ with_landed basics owner m.waiting (handled_in engine owner p k m.sites)
  beside_waiting m p k f r =
      let lt : k.at < m.bounds p = before_at (m.bounds p) (part_due engine owner p m.sites) k r in
      let by : Each (ComesBy basics owner p (k.at + 1)) m.waiting = comes_by given m.bounds p (k.at + 1) m.waiting (omega arith) f.late in
      let after : Each (ComesAfter basics owner p k.at) m.waiting = each_weaker (ComesBy basics owner p (k.at + 1)) (ComesAfter basics owner p k.at) (λ o y z. omega (arith, y z)) m.waiting by in
      landed_beside basics owner p k m.waiting m.sites (sorted_all given m.sites f.fine) after

  -- so the flushed world is one handling on
  pub flushed_next : (m : Machine engine) (p : ℕ) (k : Key) → Follows m → ready engine owner p m ≡ Some k → part_stepped basics owner p (flushed engine m) ≡ flushed engine (with_handled engine p k m (handled_in engine owner p k m.sites))
  flushed_next m p k f r =
      let t : Stepped engine = handled_in engine owner p k m.sites in
      let due : part_due engine owner p (flushed engine m) ≡ Some k = before_some (m.bounds p) (part_due engine owner p (flushed engine m)) k (same_before m p f.late ∙ r) in
      stepped_is given p k (flushed engine m) due ∙ ap (λ (z : Stepped engine). landed basics z) (beside_waiting m p k f r) ∙ sym (delivered_append basics m.waiting t.sent t.sites)

  -- a handling
  pub part_follows : (m : Machine engine) (p : ℕ) (k : Key) → Follows m → ready engine owner p m ≡ Some k → Follows (with_handled engine p k m (handled_in engine owner p k m.sites))
  part_follows m p k f r =
      let step = part_stepped basics owner in
      let t : Stepped engine = handled_in engine owner p k m.sites in
      let x : List Site = flushed engine m in
      let due : part_due engine owner p x ≡ Some k = before_some (m.bounds p) (part_due engine owner p x) k (same_before m p f.late ∙ r) in
      let whole : Each Fine x = delivered_fine given m.waiting m.sites f.fits f.fine in
      let may : May given p x = may_now m p k f r in
      let both : handled_in engine owner p k x ≡ with_landed basics owner m.waiting t = beside_waiting m p k f r in
      let next : step p x ≡ delivered engine (m.waiting ++ t.sent) t.sites = flushed_next m p k f r in
      let entry : told_by basics owner p x ≡ entry_of engine k t =
      ap (told_at basics owner p x) due ∙ entry_same given k (handled_in engine owner p k x) t (ap (λ (z : Stepped engine). z.rows) both) (ap (λ (z : Stepped engine). z.sent) both) in
      let g : GoesOn given p k t = goes_on given p k m.sites f.fine in
      let stays : Safe m.bounds (step p x) = subst (Safe m.bounds) (sym (stepped_is given p k x due)) (stays_safe given m.bounds p k x whole due f.safe) in
      record {
        names = f.names ++ p ∷ [];
        runs = run_push step (told_by basics owner) (May given) f.names p setting.opening f.runs (subst (May given p) (sym f.sites) may);
        sites = play_push step (told_by basics owner) (May given) f.names p setting.opening ∙ ap (step p) f.sites ∙ next;
        told =
            log_push step (told_by basics owner) (May given) f.names p setting.opening
            ∙ ap (λ l. l ++ (p, told_by basics owner p (run_world given f.names setting.opening)) ∷ []) f.told
            ∙ ap (λ z. m.told ++ (p, told_by basics owner p z) ∷ []) f.sites
            ∙ ap (λ (e : Entry engine). m.told ++ (p, e) ∷ []) entry;
        fine = g.fine;
        fits = each_append Fits m.waiting t.sent f.fits g.fits;
        late = each_append (IsLate m.bounds) m.waiting t.sent f.late (all_late given m.bounds x p k t.sent f.safe due g.sent);
        safe = subst (Safe m.bounds) next stays;
        capped = f.capped;
      }

  part_by : (m : Machine engine) (p : ℕ) (d : Option Key) → Follows m → ready engine owner p m ≡ d → Follows (part_played engine owner p m d)
  part_by m p None f r = f
  part_by m p (Some k) f r = part_follows m p k f r

  module _ (rule : List Site → ℕ → ℕ) (ruled : IsRule rule) where
    pub barrier_follows : (m : Machine engine) → Follows m → has_ready engine owner m ≡ false → Follows (with_barrier engine rule m)
    barrier_follows m f h =
        let x : List Site = flushed engine m in
        let whole : Each Fine x = delivered_fine given m.waiting m.sites f.fits f.fine in
        record {
          names = f.names;
          runs = f.runs;
          sites = f.sites;
          told = f.told;
          fine = whole;
          fits = tt;
          late = tt;
          safe = ruled.safe x whole;
          capped = ruled.capped x;
        }

    barrier_by : (m : Machine engine) (a b : Bool) → Follows m → has_ready engine owner m ≡ a → Follows (if a || b then m else with_barrier engine rule m)
    barrier_by m true b f h = f
    barrier_by m false true f h = f
    barrier_by m false false f h = barrier_follows m f h

    pub pick_follows : (m : Machine engine) (x : Pick) → Follows m → Follows (played engine owner setting.horizon rule m x)
    pick_follows m (Part p) f = part_by m p _ f refl
    pick_follows m Barrier f = barrier_by m _ (is_finished engine setting.horizon m) f refl

    -- whatever is picked
    pub follows : (xs : List Pick) (m : Machine engine) → Follows m → Follows (played_all engine owner setting.horizon rule xs m)
    follows [] m f = f
    follows (x ∷ xs) m f = follows xs (played engine owner setting.horizon rule m x) (pick_follows m x f)

    -- a machine that begins with the bounds that the rule sets
    pub begins : Follows (begun engine rule setting.opening)
    begins =
        record {
          names = [];
          runs = tt;
          sites = refl;
          told = refl;
          fine = sound.opens;
          fits = tt;
          late = tt;
          safe = ruled.safe setting.opening sound.opens;
          capped = ruled.capped setting.opening;
        }

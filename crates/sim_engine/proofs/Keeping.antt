-- What every machine keeps.
use Rattle.std.specs.Prelude.{Bool, List, None, Option, Some, [], false, if◌then◌else◌, true, ℕ, ◌++◌, ◌+◌, ◌∷◌, ◌≡◌, ◌≤◌, ◌||◌}
use Rattle.std.proofs.Common.{ap, refl, subst, sym, ◌∙◌}
use Rattle.sim_clock.specs.Order.{due_before}
use Rattle.sim_clock.specs.declared.key.Key.{Key}
use Rattle.sim_engine.specs.World.{Stepped}
use Rattle.sim_engine.proofs.Members.{all_each}
use Rattle.sim_engine.specs.declared.picks.Pick.{Pick}
use Rattle.sim_engine.specs.declared.picks.Pick.TheVariants.{Barrier, Part}
use Rattle.sim_engine.specs.Bounds.{AreDistances}
use Rattle.sim_engine.specs.Kept.{IsAllFrom, KeepsBounds, StaysFrom}
use Rattle.sim_engine.specs.Machine.{Machine, flushed, has_ready, is_finished, part_played, played, played_all, ready, with_barrier, with_handled}
use Rattle.sim_engine.specs.Parts.{handled_in, part_due}
use Rattle.sim_engine.specs.Prefixes.{is_before}
use Rattle.sim_engine.specs.Theorems.{begun}
use Rattle.sim_engine.proofs.Bounds.{bound_apart, bound_grows, bound_rule}
use Rattle.sim_engine.proofs.Finished.{machine_follows, machine}
use Rattle.sim_engine.proofs.EarlyRows.{rows_keyed, step_from}
use Rattle.sim_engine.proofs.Machines.{early_before, flushed_next, may_now, same_before, Follows, none_ready_of}
use Rattle.sim_engine.proofs.Worlds.{May, before_some, not_before}
use Rattle.sim_engine.specs.Laws.{SiteLaws, Conditions}
use Rattle.sim_engine.specs.Engine.{Engine}
use Rattle.sim_engine.proofs.Premises.{Premises}

module _ {Site Row Transfer : Type 0} {engine : Engine Site Row Transfer} {conditions : Conditions Site Transfer} (basics : SiteLaws engine conditions) where
  open engine use {transfer_key, to}

  module _ (owner : ℕ → ℕ) (horizon : ℕ) (rule : List Site → ℕ → ℕ) where
    -- the bounds of a machine are those that a rule set in some world
    abbrev AreSet : Machine engine → Type 0
    AreSet m = (w : List Site) × (m.bounds ≡ rule w)

    part_set : (m : Machine engine) (p : ℕ) (d : Option Key) → AreSet m → AreSet (part_played engine owner p m d)
    part_set m p None h = h
    part_set m p (Some key) h = h

    barrier_set : (m : Machine engine) (b : Bool) → AreSet m → AreSet (if b then m else with_barrier engine rule m)
    barrier_set m true h = h
    barrier_set m false h = (flushed engine m, refl)

    pick_set : (m : Machine engine) (x : Pick) → AreSet m → AreSet (played engine owner horizon rule m x)
    pick_set m (Part p) h = part_set m p (ready engine owner p m) h
    pick_set m Barrier h = barrier_set m (has_ready engine owner m || is_finished engine horizon m) h

    all_set : (xs : List Pick) (m : Machine engine) → AreSet m → AreSet (played_all engine owner horizon rule xs m)
    all_set [] m h = h
    all_set (x ∷ xs) m h = all_set xs (played engine owner horizon rule m x) (pick_set m x h)

  -- picks one after another
  pub played_more : (owner : ℕ → ℕ) (horizon : ℕ) (rule : List Site → ℕ → ℕ) (xs ys : List Pick) (m : Machine engine) → played_all engine owner horizon rule (xs ++ ys) m ≡ played_all engine owner horizon rule ys (played_all engine owner horizon rule xs m)
  played_more owner horizon rule [] ys m = refl
  played_more owner horizon rule (x ∷ xs) ys m = played_more owner horizon rule xs ys (played engine owner horizon rule m x)

module _ {Site Row Transfer : Type 0} {engine : Engine Site Row Transfer} {conditions : Conditions Site Transfer} (given : Premises engine conditions) where
  open engine use {transfer_key, to}
  open given use {basics, setting, owner, parts}

  module _ (distance : ℕ → ℕ → Option ℕ) (are : AreDistances owner setting.edges distance) (picks : List Pick) where
    pub keeps_bounds : KeepsBounds engine owner setting.horizon (bound_rule given distance) (machine given distance are picks)
    keeps_bounds =
        let m : Machine engine = machine given distance are picks in
        let f : Follows given m = machine_follows given distance are picks in
        let set : AreSet basics owner setting.horizon (bound_rule given distance) m = all_set basics owner setting.horizon (bound_rule given distance) picks (begun engine (bound_rule given distance) setting.opening) (setting.opening, refl) in
        let none : has_ready engine owner m ≡ false → (q : ℕ) → due_before (m.bounds q) (part_due engine owner q (flushed engine m)) ≡ None =
        λ h q. same_before given m q f.late ∙ none_ready_of basics owner m.bounds q m.sites h in
        record {
          capped = f.capped;
          late = all_each (λ (o : Transfer). m.bounds (owner (to o)) ≤ (transfer_key o).at) (λ (o : Transfer). m.bounds (owner (to o)) ≤ (transfer_key o).at) (λ x h. h) m.waiting f.late;
          early = λ p moment l. early_before given m p moment l f.late;
          grows = λ h p.
              bound_grows given distance m.bounds (flushed engine m) p parts (f.capped p) (none h)
              (λ q l e. subst (λ (b : ℕ → ℕ). b p ≤ b q + l) (sym set.1) (bound_apart given distance are set.0 q p l e));
        }

    pub stays_from :
        (moment p : ℕ) (key : Key) → IsAllFrom engine owner moment (flushed engine (machine given distance are picks)) → ready engine owner p (machine given distance are picks) ≡ Some key
        → StaysFrom engine owner moment (machine given distance are (picks ++ Part p ∷ [])) (handled_in engine owner p key (machine given distance are picks).sites)
    stays_from moment p key none ready_is =
        let m : Machine engine = machine given distance are picks in
        let t : Stepped engine = handled_in engine owner p key m.sites in
        let x : Machine engine = with_handled engine p key m t in
        let f : Follows given m = machine_follows given distance are picks in
        let may : May given p (flushed engine m) = may_now given m p key f ready_is in
        let same : machine given distance are (picks ++ Part p ∷ []) ≡ x =
        played_more basics owner setting.horizon (bound_rule given distance) picks (Part p ∷ []) (begun engine (bound_rule given distance) setting.opening) ∙ ap (part_played engine owner p m) ready_is in
        let after : IsAllFrom engine owner moment (flushed engine x) = subst (IsAllFrom engine owner moment) (flushed_next given m p key f ready_is) (step_from given moment p (flushed engine m) may none) in
        let due : part_due engine owner p (flushed engine m) ≡ Some key = before_some (m.bounds p) (part_due engine owner p (flushed engine m)) key (same_before given m p f.late ∙ ready_is) in
        record {
          none = subst (λ (y : Machine engine). IsAllFrom engine owner moment (flushed engine y)) (sym same) after;
          rows = all_each (λ (r : Row). is_before engine moment r ≡ false) (λ (r : Row). is_before engine moment r ≡ false) (λ r h. h) t.rows (rows_keyed given moment p key m.sites (not_before moment key (ap (due_before moment) (sym due) ∙ none p)) f.fine);
        }

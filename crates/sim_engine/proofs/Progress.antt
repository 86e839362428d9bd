-- Every machine that is not finished has a pick that takes effect, and some picks bring it to its end.
use Rattle.std.specs.List.{list_any}
use Rattle.std.specs.Option.{is_some}
use Rattle.std.specs.Prelude.{List, None, Option, Some, [], false, if◌then◌else◌, length, not, suc, true, zero, ℕ, ◌&&◌, ◌+◌, ◌<◌, ◌==◌, ◌∷◌, ◌≡◌, ◌≤◌, ◌||◌, ◌⊎◌}
use Rattle.std.proofs.Common.{ap, arith, inl, inr, length-append, refl, sym, true≢false, ◌∙◌}
use Rattle.std.proofs.lemmas.Bool.{eq-eqb, le-ltb}
use Rattle.sim_clock.specs.declared.key.Key.{Key}
use Rattle.sim_clock.specs.Order.{due_before, lesser, key_cmp}
use Rattle.sim_engine.specs.World.{least_due, world_due, Run, next_due}
use Rattle.sim_engine.specs.Bounds.{AreDistances, moment_of, reached}
use Rattle.sim_engine.proofs.Bounds.{bound_among, TakesOne, takes_one, bound_rule}
use Rattle.sim_engine.specs.declared.picks.Pick.{Pick}
use Rattle.sim_engine.specs.declared.picks.Pick.TheVariants.{Barrier, Part}
use Rattle.sim_engine.specs.Machine.{Machine, flushed, has_ready, is_finished, is_ready, part_played, played, played_all, ready, with_barrier, with_handled}
use Rattle.sim_engine.specs.Parts.{Entry, entry_of, handled_in, part_due, part_of}
use Rattle.sim_engine.proofs.Machines.{none_ready_of, Follows, IsRule, barrier_follows, part_follows}
use Rattle.sim_engine.proofs.OneList.{Turn, due_is, part_none, turn, run_told, whole_turns}
use Rattle.sim_engine.proofs.Parts.{before_lesser}
use Rattle.sim_engine.proofs.Whole.{Leads, leads}
use Rattle.sim_engine.proofs.Worlds.{not_before}
use Rattle.sim_engine.specs.Laws.{Conditions, SiteLaws}
use Rattle.sim_engine.specs.Engine.{Engine}
use Rattle.sim_engine.proofs.Premises.{Premises}
use Rattle.sim_engine.specs.Setting.{IsRunOf}
use Rattle.sim_engine.proofs.Counts.{total}
use Rattle.sim_engine.proofs.Branches.{by_either, by_cases, either}
use Rattle.std.specs.Ordering.{is_lt}

is_some_left : (a b : Option Key) → is_some a ≡ true → is_some (lesser a b) ≡ true
is_some_left None b h = grind (arith, h)
is_some_left (Some a) None h = refl
is_some_left (Some a) (Some b) h = either (λ (d : Option Key). is_some d ≡ true) (is_lt (key_cmp b a)) (Some b) (Some a) refl refl

is_some_right : (a b : Option Key) → is_some b ≡ true → is_some (lesser a b) ≡ true
is_some_right None b h = h
is_some_right (Some a) None h = refl
is_some_right (Some a) (Some b) h = either (λ (d : Option Key). is_some d ≡ true) (is_lt (key_cmp b a)) (Some b) (Some a) refl refl

pub some_of : (d : Option Key) → is_some d ≡ true → (k : Key) × (d ≡ Some k)
some_of None h = absurd (grind (arith, h))
some_of (Some k) h = (k, refl)

module _ {Site Row Transfer : Type 0} {engine : Engine Site Row Transfer} {conditions : Conditions Site Transfer} (basics : SiteLaws engine conditions) where
  open engine use {number}

  module _ (owner : ℕ → ℕ) where
    -- a partition that may go on, where any site is ready
    pub ready_part : (bounds : ℕ → ℕ) (w : List Site) → list_any (is_ready engine owner bounds) w ≡ true → (p : ℕ) × (is_some (due_before (bounds p) (part_due engine owner p w)) ≡ true)
    ready_part bounds [] h = absurd (true≢false (sym h))
    ready_part bounds (s ∷ ss) h =
        by_cases (is_ready engine owner bounds s)
        (λ e.
        let p = owner (number s) in
        (p, rw (eq-eqb p p refl, before_lesser basics (bounds p) (least_due engine s) (part_due engine owner p ss)) (is_some_left (due_before (bounds p) (least_due engine s)) (due_before (bounds p) (part_due engine owner p ss)) e)))
        (λ e.
        let i : (p : ℕ) × (is_some (due_before (bounds p) (part_due engine owner p ss)) ≡ true) = ready_part bounds ss (sym (ap (λ b. b || list_any (is_ready engine owner bounds) ss) e) ∙ h) in (
          i.0,
          either (λ (w : List Site). is_some (due_before (bounds i.0) (world_due engine w)) ≡ true) (owner (number s) == i.0) (s ∷ part_of engine owner i.0 ss) (part_of engine owner i.0 ss)
              (rw (before_lesser basics (bounds i.0) (least_due engine s) (part_due engine owner i.0 ss)) (is_some_right (due_before (bounds i.0) (least_due engine s)) (due_before (bounds i.0) (part_due engine owner i.0 ss)) i.1)) i.1,
        ))

module _ {Site Row Transfer : Type 0} {engine : Engine Site Row Transfer} {conditions : Conditions Site Transfer} (given : Premises engine conditions) where
  open engine use {number}
  open given use {basics, setting, owner, parts}

  -- a rule that lets the least due of the world be handled
  abbrev pub IsLive : (List Site → ℕ → ℕ) → Type 0
  IsLive rule = (w : List Site) (key : Key) (p : ℕ) → world_due engine w ≡ Some key → key.at ≤ setting.horizon → part_due engine owner p w ≡ Some key → key.at < rule w p

  module _ (rule : List Site → ℕ → ℕ) (ruled : IsRule given rule) (live : IsLive rule) where
    abbrev plays : List Pick → Machine engine → Machine engine
    plays xs m = played_all engine owner setting.horizon rule xs m

    -- some picks that bring a machine to its end
    abbrev pub Ends : Machine engine → Type 0
    Ends m = (more : List Pick) × (is_finished engine setting.horizon (plays more m) ≡ true)

    one_more : (m : Machine engine) (p : ℕ) (k : Key) → length (with_handled engine p k m (handled_in engine owner p k m.sites)).told ≡ length m.told + 1
    one_more m p k = length-append m.told ((p, entry_of engine k (handled_in engine owner p k m.sites)) ∷ [])

    -- a partition goes on
    part_on : (m : Machine engine) → Follows given m → has_ready engine owner m ≡ true → ((x : Machine engine) → Follows given x → length x.told ≡ length m.told + 1 → Ends x) → Ends m
    part_on m f h again =
        let i : (p : ℕ) × (is_some (due_before (m.bounds p) (part_due engine owner p m.sites)) ≡ true) = ready_part basics owner m.bounds m.sites h in
        let s : (k : Key) × (ready engine owner i.0 m ≡ Some k) = some_of (ready engine owner i.0 m) i.1 in
        let x : Machine engine = with_handled engine i.0 s.0 m (handled_in engine owner i.0 s.0 m.sites) in
        let e : Ends x = again x (part_follows given m i.0 s.0 f s.1) (one_more m i.0 s.0) in
        let same : played engine owner setting.horizon rule m (Part i.0) ≡ x = ap (part_played engine owner i.0 m) s.1 in
        (Part i.0 ∷ e.0, ap (λ (y : Machine engine). is_finished engine setting.horizon (plays e.0 y)) same ∙ e.1)

    -- after a barrier a machine is finished, or a partition may go on
    barrier_ready : (m : Machine engine) (d : Option Key) → next_due engine setting.horizon (flushed engine m) ≡ d → (is_finished engine setting.horizon (with_barrier engine rule m) ≡ true) ⊎ (has_ready engine owner (with_barrier engine rule m) ≡ true)
    barrier_ready m None e = inl (ap (λ (d : Option Key). not (is_some d) && true) e)
    barrier_ready m (Some key) e =
        let w : List Site = flushed engine m in
        let x : (world_due engine w ≡ Some key) × (key.at ≤ setting.horizon) = due_is basics setting.horizon (world_due engine w) key e in
        let t : Turn basics owner key w = turn basics owner key w x.0 in
        let l : key.at < rule w t.part = live w key t.part x.0 x.1 t.due in
        by_cases (has_ready engine owner (with_barrier engine rule m)) (λ g. inr g)
        (λ g.
        let n : due_before (rule w t.part) (part_due engine owner t.part w) ≡ None = none_ready_of basics owner (rule w) t.part w g in
        let z : rule w t.part ≤ key.at = not_before (rule w t.part) key (ap (due_before (rule w t.part)) (sym t.due) ∙ n) in
        absurd (omega arith))

    -- a barrier
    barrier_on : (m : Machine engine) → Follows given m → has_ready engine owner m ≡ false → is_finished engine setting.horizon m ≡ false → ((x : Machine engine) → Follows given x → length x.told ≡ length m.told + 1 → Ends x) → Ends m
    barrier_on m f h n again =
        let x : Machine engine = with_barrier engine rule m in
        let same : played engine owner setting.horizon rule m Barrier ≡ x = ap (λ b. if b || is_finished engine setting.horizon m then m else x) h ∙ ap (λ b. if b then m else x) n in
        let g : Follows given x = barrier_follows given rule ruled m f h in
        let e : Ends x = by_either (barrier_ready m (next_due engine setting.horizon (flushed engine m)) refl) (λ y. ([], y)) (λ y. part_on x g y again) in
        (Barrier ∷ e.0, ap (λ (y : Machine engine). is_finished engine setting.horizon (plays e.0 y)) same ∙ e.1)

    go_on : (m : Machine engine) → Follows given m → ((x : Machine engine) → Follows given x → length x.told ≡ length m.told + 1 → Ends x) → Ends m
    go_on m f again =
        by_cases (is_finished engine setting.horizon m) (λ e. ([], e))
        (λ e. by_cases (has_ready engine owner m) (λ h. part_on m f h again) (λ h. barrier_on m f h e again))

    ends_by : (total n : ℕ) (m : Machine engine) → ((x : Machine engine) → Follows given x → length x.told ≤ total) → Follows given m → total ≤ length m.told + n → Ends m
    ends_by total zero m most f l = go_on m f (λ x g e. absurd (let a : length x.told ≤ total = most x g in omega arith))
    ends_by total (suc n) m most f l = go_on m f (λ x g e. ends_by total n x most g (omega arith))

    -- every machine that some picks made comes to its end: it has handled no more than the whole run
    pub comes_to_end : (r : Run engine) → IsRunOf engine setting r → (m : Machine engine) → Follows given m → Ends m
    comes_to_end r w m f =
        let told : List (ℕ × Entry engine) = run_told given w.steps in
        ends_by (length told) (length told) m (λ x g. let l : Leads given r told x = leads given r told x w.ended (whole_turns given r w) g in omega (arith, l.count)) f (omega arith)

  -- bounds of each partition's own let it
  reached_past : (at : ℕ) (d : Option Key) (x : Option ℕ) → at ≤ setting.horizon → due_before at d ≡ None → TakesOne x → at < reached setting.horizon (moment_of d) x
  reached_past at None x l h t = omega arith
  reached_past at (Some k) None l h t = omega arith
  reached_past at (Some k) (Some y) l h t = let n : at ≤ k.at = not_before at k h in omega (arith, t)

  among_past : (distance : ℕ → ℕ → Option ℕ) → ((q p : ℕ) → TakesOne (distance q p)) → (at : ℕ) (w : List Site) (p n : ℕ) → at ≤ setting.horizon → due_before at (world_due engine w) ≡ None → at < bound_among given distance w p n
  among_past distance t at w p zero l h = omega arith
  among_past distance t at w p (suc q) l h =
      let a : at < reached setting.horizon (moment_of (part_due engine owner q w)) (distance q p) = reached_past at (part_due engine owner q w) (distance q p) l (part_none basics owner at q w h) (t q p) in
      let b : at < bound_among given distance w p q = among_past distance t at w p q l h in omega arith

  pub own_live : (distance : ℕ → ℕ → Option ℕ) → AreDistances owner setting.edges distance → IsLive (bound_rule given distance)
  own_live distance t w key p d h e =
      let z : due_before key.at (world_due engine w) ≡ None = ap (due_before key.at) d ∙ ap (λ b. if b then Some key else None) (le-ltb key.at key.at (omega arith)) in
      among_past distance (λ q r. takes_one given q r (distance q r) (t q r)) key.at w p parts h z

-- Runs of partitions by themselves are picks of the machine.
use Rattle.std.specs.Prelude.{List, None, Option, Some, [], cond, false, flat_map, suc, zero, ℕ, ◌+◌, ◌++◌, ◌<◌, ◌==◌, ◌∷◌, ◌≡◌, ◌≤◌}
use Rattle.std.proofs.Common.{ap, append-nil, append_assoc, arith, refl, subst, sym, ◌∙◌}
use Rattle.std.proofs.lemmas.Bool.{eq-eqb, lt-ltb, ne_eqb}
use Rattle.std.proofs.lemmas.List.Elements.{filter-append}
use Rattle.std.proofs.Math.Numerals.{suc-eq-add-one}
use Rattle.sim_clock.specs.declared.key.Key.{Key}
use Rattle.sim_clock.specs.Order.{due_before}
use Rattle.sim_engine.specs.World.{world_due, Stepped, handled_among}
use Rattle.sim_engine.specs.declared.picks.Pick.{Pick}
use Rattle.sim_engine.specs.declared.picks.Pick.TheVariants.{Part}
use Rattle.sim_engine.specs.Machine.{Machine, part_played, played, played_all, ready, of_name}
use Rattle.sim_engine.specs.Parts.{Entry, entry_of, handled_in, part_of}
use Rattle.sim_engine.specs.Rounds.{AreApart, HasParts, HaveRun, IsApart, IsRound, PartRun, RoundsArePicks, part_after, part_ran, part_ran_at, picks_of}
use Rattle.sim_engine.specs.Theorems.{rows_by, rows_of}
use Rattle.sim_engine.proofs.Confluence.{turned}
use Rattle.sim_engine.proofs.EarlyRows.{rows_append}
use Rattle.sim_engine.proofs.Machines.{before_at}
use Rattle.sim_engine.proofs.Parts.{Own, others, own}
use Rattle.sim_engine.proofs.Worlds.{before_some}
use Rattle.sim_engine.specs.Engine.{Engine}
use Rattle.sim_engine.specs.Laws.{Conditions}
use Rattle.sim_engine.specs.Laws.{SiteLaws}

-- what is due before a moment is due before a later one
pub some_later : (early late : ℕ) (d : Option Key) (key : Key) → early ≤ late → due_before early d ≡ Some key → due_before late d ≡ Some key
some_later early late d key l e =
    let is : d ≡ Some key = before_some early d key e in
    let at : key.at < early = before_at early d key e in
    ap (due_before late) is ∙ rw (lt-ltb key.at late (omega arith)) refl

module _ {Site Row Transfer : Type 0} {engine : Engine Site Row Transfer} {conditions : Conditions Site Transfer} (basics : SiteLaws engine conditions) where
  module _ (owner : ℕ → ℕ) (horizon : ℕ) (rule : List Site → ℕ → ℕ) where
    abbrev plays : List Pick → Machine engine → Machine engine
    plays xs m = played_all engine owner horizon rule xs m

    -- a machine in which one partition has run from another machine on
    pub record HasRun (p : ℕ) (m : Machine engine) (r : PartRun engine) (x : Machine engine) : Type 0 where
      pub sites : part_of engine owner p x.sites ≡ r.sites
      pub others : (q : ℕ) → (p == q) ≡ false → part_of engine owner q x.sites ≡ part_of engine owner q m.sites
      pub waiting : x.waiting ≡ m.waiting ++ r.sent
      pub rows : rows_by engine x.told p ≡ rows_by engine m.told p ++ r.rows
      pub rows_others : (q : ℕ) → (p == q) ≡ false → rows_by engine x.told q ≡ rows_by engine m.told q
      pub bounds : x.bounds ≡ m.bounds

    rows_more : (l : List (ℕ × Entry engine)) (p : ℕ) (e : Entry engine) → rows_by engine (l ++ (p, e) ∷ []) p ≡ rows_by engine l p ++ e.rows
    rows_more l p e =
        ap (rows_of engine) (filter-append (λ x. x.0 == p) l ((p, e) ∷ []))
        ∙ rows_append basics (of_name p l) (of_name p ((p, e) ∷ []))
        ∙ ap (λ z. rows_by engine l p ++ rows_of engine z) (ap (λ b. cond b ((p, e) ∷ []) []) (eq-eqb p p refl))
        ∙ ap (λ z. rows_by engine l p ++ z) (append-nil e.rows)

    rows_same : (l : List (ℕ × Entry engine)) (p q : ℕ) (e : Entry engine) → (p == q) ≡ false → rows_by engine (l ++ (p, e) ∷ []) q ≡ rows_by engine l q
    rows_same l p q e n =
        ap (rows_of engine) (filter-append (λ x. x.0 == q) l ((p, e) ∷ []) ∙ ap (λ b. of_name q l ++ cond b ((p, e) ∷ []) []) n ∙ append-nil (of_name q l))

    step_run : (p : ℕ) (m x : Machine engine) (r : PartRun engine) (d : Option Key) → HasRun p m r x → ready engine owner p x ≡ d → HasRun p m (part_ran_at engine r d) (part_played engine owner p x d)
    step_run p m x r None h e = h
    step_run p m x r (Some k) h e =
        let t : Stepped engine = handled_in engine owner p k x.sites in
        let o : Own basics owner p k x.sites = own basics owner p k x.sites in
        let g : handled_among engine k (part_of engine owner p x.sites) ≡ handled_among engine k r.sites = ap (handled_among engine k) h.sites in
        record {
          sites = o.sites ∙ ap (λ (z : Stepped engine). z.sites) g;
          others = λ q n. others basics owner p q k x.sites n ∙ h.others q n;
          waiting = ap (λ z. z ++ t.sent) h.waiting ∙ append_assoc m.waiting r.sent t.sent ∙ ap (λ z. m.waiting ++ (r.sent ++ z)) (o.sent ∙ ap (λ (z : Stepped engine). z.sent) g);
          rows =
              rows_more x.told p (entry_of engine k t) ∙ ap (λ z. z ++ t.rows) h.rows ∙ append_assoc (rows_by engine m.told p) r.rows t.rows
              ∙ ap (λ z. rows_by engine m.told p ++ (r.rows ++ z)) (o.rows ∙ ap (λ (z : Stepped engine). z.rows) g);
          rows_others = λ q n. rows_same x.told p q (entry_of engine k t) n ∙ h.rows_others q n;
          bounds = h.bounds;
        }

    pick_last : (p n : ℕ) (m : Machine engine) → plays (picks_of p (suc n)) m ≡ played engine owner horizon rule (plays (picks_of p n) m) (Part p)
    pick_last p zero m = refl
    pick_last p (suc n) m = pick_last p n (played engine owner horizon rule m (Part p))

    -- a partition that runs by itself to its bound makes what so many picks of it make
    pub part_runs : (p n : ℕ) (m : Machine engine) → HasRun p m (part_after engine (m.bounds p) n (part_of engine owner p m.sites)) (plays (picks_of p n) m)
    part_runs p zero m =
        record { sites = refl; others = λ q e. refl; waiting = sym (append-nil m.waiting); rows = sym (append-nil (rows_by engine m.told p)); rows_others = λ q e. refl; bounds = refl }
    part_runs p (suc n) m =
        let x : Machine engine = plays (picks_of p n) m in
        let r : PartRun engine = part_after engine (m.bounds p) n (part_of engine owner p m.sites) in
        let h : HasRun p m r x = part_runs p n m in
        let same : ready engine owner p x ≡ due_before (m.bounds p) (world_due engine r.sites) = ap (λ b. due_before (b p) (world_due engine (part_of engine owner p x.sites))) h.bounds ∙ ap (λ z. due_before (m.bounds p) (world_due engine z)) h.sites in
        let s : HasRun p m (part_ran engine (m.bounds p) r) (part_played engine owner p x (due_before (m.bounds p) (world_due engine r.sites))) = step_run p m x r (due_before (m.bounds p) (world_due engine r.sites)) h same in
        subst (HasRun p m (part_ran engine (m.bounds p) r)) (sym (pick_last p n m ∙ ap (part_played engine owner p x) same)) s

    -- one that runs less far makes what some picks of it make
    pub part_runs_to : (p bound n : ℕ) (m : Machine engine) → bound ≤ m.bounds p → (k : ℕ) × HasRun p m (part_after engine bound n (part_of engine owner p m.sites)) (plays (picks_of p k) m)
    part_runs_to p bound zero m l = (0, part_runs p 0 m)
    part_runs_to p bound (suc n) m l =
        let r : PartRun engine = part_after engine bound n (part_of engine owner p m.sites) in
        let so : (k : ℕ) × HasRun p m r (plays (picks_of p k) m) = part_runs_to p bound n m l in
        let x : Machine engine = plays (picks_of p so.0) m in
        elim (due_before bound (world_due engine r.sites)) as (λ d. due_before bound (world_due engine r.sites) ≡ d → (k : ℕ) × HasRun p m (part_ran_at engine r d) (plays (picks_of p k) m)) [
          | None ↦ λ e. so
          | Some key ↦ λ e.
              let ready_is : ready engine owner p x ≡ Some key =
              ap (λ b. due_before (b p) (world_due engine (part_of engine owner p x.sites))) so.1.bounds
              ∙ ap (λ z. due_before (m.bounds p) (world_due engine z)) so.1.sites
              ∙ some_later bound (m.bounds p) (world_due engine r.sites) key l e in
              let one : HasRun p m (part_ran_at engine r (Some key)) (part_played engine owner p x (Some key)) = step_run p m x r (Some key) so.1 ready_is in (
                so.0 + 1,
                subst (λ k. HasRun p m (part_ran_at engine r (Some key)) (plays (picks_of p k) m)) (suc-eq-add-one so.0)
                    (subst (HasRun p m (part_ran_at engine r (Some key))) (sym (pick_last p so.0 m ∙ ap (part_played engine owner p x) ready_is)) one),
              )
        ] refl

    plays_append : (xs ys : List Pick) (m : Machine engine) → plays (xs ++ ys) m ≡ plays ys (plays xs m)
    plays_append [] ys m = refl
    plays_append (x ∷ xs) ys m = plays_append xs ys (played engine owner horizon rule m x)

    -- partitions that run after one that is none of them
    apart_first : (p low : ℕ) (runs : List (ℕ × PartRun engine)) → p < low → AreApart engine low runs → IsApart engine p runs
    apart_first p low [] l h = tt
    apart_first p low (y ∷ ys) l h = let k : low ≤ y.0 = h.0 in (ne_eqb y.0 p (λ e. absurd (omega arith)), apart_first p (y.0 + 1) ys (omega arith) h.1)

    still_run : (p : ℕ) (r : PartRun engine) (m x : Machine engine) (runs : List (ℕ × PartRun engine)) → HasRun p m r x → IsApart engine p runs → HaveRun engine owner m runs → HaveRun engine owner x runs
    still_run p r m x [] h a k = tt
    still_run p r m x (y ∷ ys) h a k =
        let o : part_of engine owner y.0 x.sites ≡ part_of engine owner y.0 m.sites = h.others y.0 (turned y.0 p a.0) in (
          record {
            steps = k.0.steps;
            reached = ap (λ b. part_after engine (b y.0) k.0.steps (part_of engine owner y.0 x.sites)) h.bounds ∙ ap (λ z. part_after engine (m.bounds y.0) k.0.steps z) o ∙ k.0.reached;
            done = ap (λ b. due_before (b y.0) (world_due engine y.1.sites)) h.bounds ∙ k.0.done;
          },
          still_run p r m x ys h a.1 k.1,
        )

    from_before : (p : ℕ) (r : PartRun engine) (m x z : Machine engine) (runs : List (ℕ × PartRun engine)) → HasRun p m r x → IsApart engine p runs → HasParts engine owner x runs z → HasParts engine owner m runs z
    from_before p r m x z [] h a k = tt
    from_before p r m x z (y ∷ ys) h a k = ((k.0.0, k.0.1 ∙ ap (λ w. w ++ y.1.rows) (h.rows_others y.0 (turned y.0 p a.0))), from_before p r m x z ys h a.1 k.1)

    -- partitions that have run to their bounds by themselves make what some picks make
    pub record Round (m : Machine engine) (runs : List (ℕ × PartRun engine)) : Type 0 where
      pub picks : List Pick
      pub round : IsRound engine owner m runs (plays picks m)

    pub rounds : (low : ℕ) (runs : List (ℕ × PartRun engine)) (m : Machine engine) → AreApart engine low runs → HaveRun engine owner m runs → Round m runs
    rounds low [] m a h = record { picks = []; round = record { parts = tt; others = λ q n. (refl, refl); waiting = sym (append-nil m.waiting); bounds = refl } }
    rounds low (y ∷ ys) m a h =
        let p : ℕ = y.0 in
        let x : Machine engine = plays (picks_of p h.0.steps) m in
        let one : HasRun p m y.1 x = subst (λ r. HasRun p m r x) h.0.reached (part_runs p h.0.steps m) in
        let apart : IsApart engine p ys = apart_first p (p + 1) ys (omega arith) a.1 in
        let rest : Round x ys = rounds (p + 1) ys x a.1 (still_run p y.1 m x ys one apart h.1) in
        let z : Machine engine = plays rest.picks x in
        let k : IsRound engine owner x ys z = rest.round in
        let mine : (part_of engine owner p z.sites ≡ part_of engine owner p x.sites) × (rows_by engine z.told p ≡ rows_by engine x.told p) = k.others p apart in
        let round : IsRound engine owner m (y ∷ ys) z =
        record {
          parts = ((mine.0 ∙ one.sites, mine.1 ∙ one.rows), from_before p y.1 m x z ys one apart k.parts);
          others = λ q n. let o : (part_of engine owner q z.sites ≡ part_of engine owner q x.sites) × (rows_by engine z.told q ≡ rows_by engine x.told q) = k.others q n.1 in (o.0 ∙ one.others q n.0, o.1 ∙ one.rows_others q n.0);
          waiting = k.waiting ∙ ap (λ w. w ++ flat_map (λ v. v.1.sent) ys) one.waiting ∙ append_assoc m.waiting y.1.sent (flat_map (λ v. v.1.sent) ys);
          bounds = k.bounds ∙ one.bounds;
        } in
        record { picks = picks_of p h.0.steps ++ rest.picks; round = subst (IsRound engine owner m (y ∷ ys)) (sym (plays_append (picks_of p h.0.steps) rest.picks m)) round }

  pub rounds_are_picks : RoundsArePicks engine
  rounds_are_picks owner horizon rule m runs a h = let r : Round owner horizon rule m runs = rounds owner horizon rule 0 runs m a h in (r.picks, r.round)

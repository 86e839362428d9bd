-- What a partition has handled is what the one-list run handles first at its sites.
use Rattle.std.specs.Prelude.{Bool, List, None, Option, Some, [], cond, false, length, map, suc, true, zero, ℕ, ◌+◌, ◌++◌, ◌==◌, ◌∷◌, ◌≡◌, ◌≤◌, ◌⊎◌}
use Rattle.std.proofs.Common.{ap, append-nil, arith, inl, inr, length-append, refl, sym, ◌∙◌}
use Rattle.std.proofs.lemmas.Bool.{cases_lt}
use Rattle.std.proofs.lemmas.List.Elements.{filter-append}
use Rattle.sim_clock.specs.declared.key.Key.{Key}
use Rattle.std.proofs.lemmas.List.{nil_from_length}
use Rattle.sim_engine.specs.World.{Stepped, handled_among, delivered, delivered_one, next_due, Run}
use Rattle.sim_engine.proofs.Branches.{either, by_either}
use Rattle.sim_engine.specs.Machine.{Machine, of_name, flushed}
use Rattle.sim_engine.specs.Parts.{Entry, entry_of, handled_in, part_of}
use Rattle.sim_engine.proofs.Landing.{part_stepped, told_by}
use Rattle.sim_engine.specs.Prefixes.{IsAsAfter, told_next, turn_of, cores_of}
use Rattle.sim_engine.proofs.Confluence.{Joined, cons_none}
use Rattle.sim_engine.proofs.Machines.{Follows}
use Rattle.sim_engine.proofs.OneList.{IsTurns, turns, run_after, run_told, whole_turns}
use Rattle.sim_engine.proofs.Parts.{part_delivered, others}
use Rattle.sim_engine.proofs.Worlds.{apart, stepped_is, IsRunBy, May, meet, run_log, run_world}
use Rattle.sim_engine.specs.Laws.{Conditions, SiteLaws}
use Rattle.sim_engine.specs.Engine.{Engine}
use Rattle.sim_engine.proofs.Premises.{Premises}
use Rattle.sim_engine.specs.Setting.{IsRunOf}
use Rattle.sim_engine.proofs.Whole.{Leads, leads}

module _ {Site Row Transfer : Type 0} {engine : Engine Site Row Transfer} {conditions : Conditions Site Transfer} (basics : SiteLaws engine conditions) where
  open engine use {number, accepted, to, Core, core}
  open basics use {kept_core}

  -- delivery leaves the cores of sites as they are
  map_cores : (o : Transfer) (w : List Site) → map core (map (delivered_one engine o) w) ≡ map core w
  map_cores o [] = refl
  map_cores o (s ∷ ss) =
      let e : core (delivered_one engine o s) ≡ core s = either (λ (x : Site). core x ≡ core s) ((to o) == number s) (accepted o s) s (kept_core o s) refl in
      ap (λ (c : Core). c ∷ map core (map (delivered_one engine o) ss)) e ∙ ap (λ z. core s ∷ z) (map_cores o ss)

  pub delivered_cores : (os : List Transfer) (w : List Site) → map core (delivered engine os w) ≡ map core w
  delivered_cores [] w = refl
  delivered_cores (o ∷ os) w = delivered_cores os (map (delivered_one engine o) w) ∙ map_cores o w

  pub part_cores : (owner : ℕ → ℕ) (p : ℕ) (os : List Transfer) (w : List Site) → cores_of engine owner p (delivered engine os w) ≡ cores_of engine owner p w
  part_cores owner p os w = ap (map core) (part_delivered basics owner p os w) ∙ delivered_cores os (part_of engine owner p w)

module _ {Site Row Transfer : Type 0} {engine : Engine Site Row Transfer} {conditions : Conditions Site Transfer} (given : Premises engine conditions) where
  open engine use {number, accepted, to, Core, core}
  open given use {basics, setting, Fine, owner}

  -- a run without a partition leaves its cores
  step_cores : (p q : ℕ) (w : List Site) → May given q w → (q == p) ≡ false → cores_of engine owner p (part_stepped basics owner q w) ≡ cores_of engine owner p w
  step_cores p q w m n =
      let t : Stepped engine = handled_in engine owner q m.key w in
      ap (cores_of engine owner p) (stepped_is given q m.key w m.due)
      ∙ part_cores basics owner p t.sent t.sites
      ∙ ap (map core) (others basics owner q p m.key w n)

  run_cores : (p : ℕ) (ps : List ℕ) (w : List Site) → IsRunBy given ps w → of_name p (run_log given ps w) ≡ [] → cores_of engine owner p (run_world given ps w) ≡ cores_of engine owner p w
  run_cores p [] w r z = refl
  run_cores p (q ∷ qs) w r z =
      elim (q == p) as (λ b. (q == p) ≡ b → cond b ((q, told_by basics owner q w) ∷ of_name p (run_log given qs (part_stepped basics owner q w))) (of_name p (run_log given qs (part_stepped basics owner q w))) ≡ [] → cores_of engine owner p (run_world given (q ∷ qs) w) ≡ cores_of engine owner p w) [
        | true ↦ λ e y. absurd (cons_none _ _ y)
        | false ↦ λ e y. run_cores p qs (part_stepped basics owner q w) r.1 y ∙ step_cores p q w r.0 e
      ] refl z

  -- two runs with as many handlings of a partition
  record Alike (p : ℕ) (ps gs : List ℕ) (w : List Site) : Type 0 where
    pub told : of_name p (run_log given ps w) ≡ of_name p (run_log given gs w)
    pub cores : cores_of engine owner p (run_world given ps w) ≡ cores_of engine owner p (run_world given gs w)

  empty_both : {A : Type 0} (a b x y : List A) → a ++ x ≡ b ++ y → length a ≡ length b → ((x ≡ []) ⊎ (y ≡ [])) → (x ≡ []) × (y ≡ [])
  empty_both a b x y h l (inl e) =
      let n : length (a ++ x) ≡ length (b ++ y) = ap (λ z. length z) h in
      let z : length x ≡ 0 = ap (λ v. length v) e in
      (e, nil_from_length y (omega (arith, length-append a x, length-append b y)))
  empty_both a b x y h l (inr e) =
      let n : length (a ++ x) ≡ length (b ++ y) = ap (λ z. length z) h in
      let z : length y ≡ 0 = ap (λ v. length v) e in
      (nil_from_length x (omega (arith, length-append a x, length-append b y)), e)

  alike : (p : ℕ) (ps gs : List ℕ) (w : List Site) → IsRunBy given ps w → IsRunBy given gs w → length (of_name p (run_log given ps w)) ≡ length (of_name p (run_log given gs w)) → Alike p ps gs w
  alike p ps gs w h k l =
      let j : Joined (part_stepped basics owner) (told_by basics owner) (May given) (apart given) ps gs w = meet given ps gs w h k in
      let b : (of_name p (run_log given j.first (run_world given ps w)) ≡ []) × (of_name p (run_log given j.second (run_world given gs w)) ≡ []) =
      empty_both (of_name p (run_log given ps w)) (of_name p (run_log given gs w)) (of_name p (run_log given j.first (run_world given ps w))) (of_name p (run_log given j.second (run_world given gs w))) (j.tells p) l (j.either_none p) in
      record {
        told =
            sym (append-nil (of_name p (run_log given ps w))) ∙ ap (λ z. of_name p (run_log given ps w) ++ z) (sym b.0)
            ∙ j.tells p
            ∙ ap (λ z. of_name p (run_log given gs w) ++ z) b.1 ∙ append-nil (of_name p (run_log given gs w));
        cores =
            sym (run_cores p j.first (run_world given ps w) j.first_runs b.0)
            ∙ ap (cores_of engine owner p) j.meets
            ∙ run_cores p j.second (run_world given gs w) j.second_runs b.1;
      }

  -- the one-list run comes by each number of a partition's handlings
  one_long : (b : Bool) (x : ℕ × Entry engine) → length (cond b (x ∷ []) []) ≤ 1
  one_long true x = omega arith
  one_long false x = omega arith

  next_long : (p : ℕ) (w : List Site) (d : Option Key) → length (of_name p (told_next engine owner w d)) ≤ 1
  next_long p w None = omega arith
  next_long p w (Some key) = one_long (turn_of engine owner key w == p) (turn_of engine owner key w, entry_of engine key (handled_among engine key w))

  comes_by_count : (p n k : ℕ) → k ≤ length (of_name p (run_told given n)) → (i : ℕ) × (length (of_name p (run_told given i)) ≡ k)
  comes_by_count p zero k l = (0, omega arith)
  comes_by_count p (suc n) k l =
      let old : List (ℕ × Entry engine) = run_told given n in
      let w : List Site = (run_after given n).sites in
      let new : List (ℕ × Entry engine) = told_next engine owner w (next_due engine setting.horizon w) in
      by_either (cases_lt (length (of_name p old)) k)
      (λ g.
      let f : length (of_name p (old ++ new)) ≡ length (of_name p old) + length (of_name p new) = ap (λ z. length z) (filter-append (λ x. x.0 == p) old new) ∙ length-append (of_name p old) (of_name p new) in
      (suc n, omega (arith, next_long p w (next_due engine setting.horizon w))))
      (λ g. comes_by_count p n k g)

  -- the theorem
  pub as_after : (r : Run engine) → IsRunOf engine setting r → (m : Machine engine) → Follows given m → (p : ℕ) → IsAsAfter engine owner setting.horizon setting.opening p m
  as_after r w m f p =
      let l : Leads given r (run_told given w.steps) m = leads given r (run_told given w.steps) m w.ended (whole_turns given r w) f in
      let rest : List (ℕ × Entry engine) = of_name p (run_log given l.names (flushed engine m)) in
      let all : length (of_name p m.told ++ rest) ≡ length (of_name p (run_told given w.steps)) = ap (λ z. length z) (l.tells p) in
      let i : (i : ℕ) × (length (of_name p (run_told given i)) ≡ length (of_name p m.told)) = comes_by_count p w.steps (length (of_name p m.told)) (omega (arith, length-append (of_name p m.told) rest)) in
      let u : IsTurns given (run_told given i.0) (run_after given i.0) = turns given i.0 in
      let same : length (of_name p (run_log given f.names setting.opening)) ≡ length (of_name p (run_log given u.names setting.opening)) = ap (λ z. length (of_name p z)) f.told ∙ sym i.1 ∙ ap (λ z. length (of_name p z)) (sym u.told) in
      let a : Alike p f.names u.names setting.opening = alike p f.names u.names setting.opening f.runs u.runs same in
      record {
        steps = i.0;
        told = ap (of_name p) (sym u.told) ∙ sym a.told ∙ ap (of_name p) f.told;
        cores = ap (cores_of engine owner p) (sym u.sites) ∙ sym a.cores ∙ ap (cores_of engine owner p) f.sites ∙ part_cores basics owner p m.waiting m.sites;
      }

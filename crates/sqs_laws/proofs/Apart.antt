-- The sites of a run that no way leads to from any other site run alone: what happens there is their own one-list run.
use Rattle.std.specs.Prelude.{Bool, IsNone, List, None, Option, Some, [], false, filter, map, suc, true, zero, ℕ, ◌+◌, ◌++◌, ◌==◌, ◌∷◌, ◌≡◌, ◌⊎◌}
use Rattle.std.proofs.Common.{ap, append-nil, arith, inl, inr, refl, subst, sym, ◌∙◌}
use Rattle.sqs_laws.proofs.Terms.{Conditions, due_before, Edge, eqb-true, filter-append, IsRowOf, Key}
use Rattle.sim_engine.specs.Engine.{Engine}
use Rattle.sim_engine.specs.Members.{Each, In}
use Rattle.sim_engine.specs.Parts.{handled_in, has_due, is_of, part_due, part_of}
use Rattle.sim_engine.specs.Setting.{IsRunOf}
use Rattle.sim_engine.specs.World.{IsWholeRun, Run, Stepped, after, delivered, delivered_one, due_by, handled_among, handled_here, handled_there, next_due, stepped, stepped_at, world_due}
use Rattle.sim_engine.proofs.Branches.{by_cases}
use Rattle.sim_engine.proofs.OneList.{Turn, due_is, part_none, turn}
use Rattle.sim_engine.proofs.Parts.{Own, each_weaker, goes, has_of, others, own, part_delivered}
use Rattle.sim_engine.proofs.Premises.{Premises}
use Rattle.sim_engine.proofs.ReadByParts.{by_past, past_by}
use Rattle.sim_engine.proofs.Worlds.{GoesOn, SentFrom, delivered_fine, goes_on}

none_is : (d : Option Key) → IsNone d → d ≡ None
none_is None h = refl
none_is (Some k) h = cc

is_none : (d : Option Key) → d ≡ None → IsNone d
is_none d e = rw e refl

-- an opening has one whole run
module _ {Site Row Transfer : Type 0} (engine : Engine Site Row Transfer) (horizon : ℕ) (start : List Site) where
  stays : (k n : ℕ) → next_due engine horizon (after engine horizon n start).sites ≡ None → after engine horizon (k + n) start ≡ after engine horizon n start
  stays zero n e = let same : 0 + n ≡ n = omega arith in ap (λ m. after engine horizon m start) same
  stays (suc k) n e =
      let same : suc k + n ≡ suc (k + n) = omega arith in
      ap (λ m. after engine horizon m start) same ∙ ap (stepped engine horizon) (stays k n e) ∙ ap (stepped_at engine (after engine horizon n start)) e

  pub one_whole : (r x : Run engine) → IsWholeRun engine horizon start r → IsWholeRun engine horizon start x → r ≡ x
  one_whole r x a b =
      let ended_a : next_due engine horizon (after engine horizon a.steps start).sites ≡ None = ap (λ (y : Run engine). next_due engine horizon y.sites) a.reached ∙ none_is (next_due engine horizon r.sites) a.ended in
      let ended_b : next_due engine horizon (after engine horizon b.steps start).sites ≡ None = ap (λ (y : Run engine). next_due engine horizon y.sites) b.reached ∙ none_is (next_due engine horizon x.sites) b.ended in
      let swap : b.steps + a.steps ≡ a.steps + b.steps = omega arith in
      sym a.reached ∙ sym (stays b.steps a.steps ended_a) ∙ ap (λ n. after engine horizon n start) swap ∙ stays a.steps b.steps ended_b ∙ b.reached

pub filter_all : {A : Type 0} (p : A → Bool) (xs : List A) → Each (λ x. p x ≡ true) xs → filter p xs ≡ xs
filter_all p [] h = refl
filter_all p (x ∷ xs) h = rw (h.0, filter_all p xs h.1) refl

pub filter_none : {A : Type 0} (p : A → Bool) (xs : List A) → Each (λ x. p x ≡ false) xs → filter p xs ≡ []
filter_none p [] h = refl
filter_none p (x ∷ xs) h = rw h.0 (filter_none p xs h.1)

module _ {Site Row Transfer : Type 0} {engine : Engine Site Row Transfer} {conditions : Conditions Site Transfer} (given : Premises engine conditions) where
  open engine use {number, handled, to, row_site}
  open given use {basics, setting, home, Fine, Fits, sound, owner}

  -- whether a number is in the partition 0
  abbrev pub kept : ℕ → Bool
  kept n = owner n == 0

  -- the sites and rows of a run there
  abbrev pub part_run : Run engine → Run engine
  part_run r = record { sites = part_of engine owner 0 r.sites; rows = filter (λ x. kept (row_site x)) r.rows }

  -- rows of a handling in a partition
  row_of : (p : ℕ) (key : Key) (s : Site) → is_of engine owner p s ≡ true → (rows : List Row) → Each (IsRowOf engine key (number s)) rows → Each (λ r. (owner (row_site r) == p) ≡ true) rows
  row_of p key s e rows h =
      each_weaker (IsRowOf engine key (number s)) (λ r. (owner (row_site r) == p) ≡ true) (λ r x. ap (λ n. owner n == p) x.site_is ∙ e) rows h

  rows_in : (p : ℕ) (key : Key) (w : List Site) → Each Fine w → Each (λ r. (owner (row_site r) == p) ≡ true) (handled_in engine owner p key w).rows
  rows_in p key [] h = tt
  rows_in p key (s ∷ ss) h =
      by_cases (has_due engine owner p key s)
      (λ e.
      let x : Each (λ r. (owner (row_site r) == p) ≡ true) (handled_here engine (handled key s) ss).rows = row_of p key s (has_of basics owner p key s e) (handled key s).rows (sound.laws.rows key s h.0) in
      rw e x)
      (λ e. let x : Each (λ r. (owner (row_site r) == p) ≡ true) (handled_there engine s (handled_in engine owner p key ss)).rows = rows_in p key ss h.1 in rw e x)

  -- what goes elsewhere changes nothing there
  one_elsewhere : (o : Transfer) (w : List Site) → kept (to o) ≡ false → map (delivered_one engine o) (part_of engine owner 0 w) ≡ part_of engine owner 0 w
  one_elsewhere o [] h = refl
  one_elsewhere o (s ∷ ss) h =
      by_cases (is_of engine owner 0 s)
      (λ e.
      let off : ((to o) == number s) ≡ false = by_cases ((to o) == number s) (λ f. let t : kept (to o) ≡ true = goes basics owner 0 o s f e in cc) (λ f. f) in
      rw e (rw off (ap (λ z. s ∷ z) (one_elsewhere o ss h))))
      (λ e. rw e (one_elsewhere o ss h))

  all_elsewhere : (os : List Transfer) (w : List Site) → Each (λ o. kept (to o) ≡ false) os → delivered engine os (part_of engine owner 0 w) ≡ part_of engine owner 0 w
  all_elsewhere [] w h = refl
  all_elsewhere (o ∷ os) w h = ap (delivered engine os) (one_elsewhere o w h.0) ∙ all_elsewhere os w h.1

  module _ (closed : (e : Edge) → In setting.edges e → kept e.from ≡ false → kept e.to ≡ false) where
    other : (p n : ℕ) → (p == 0) ≡ false → (owner n == p) ≡ true → kept n ≡ false
    other p n h e = let is : owner n ≡ p = eqb-true (owner n) p e in ap (λ x. x == 0) is ∙ h

    sent_elsewhere : (p : ℕ) (key : Key) (os : List Transfer) → (p == 0) ≡ false → Each (SentFrom given p key) os → Each (λ o. kept (to o) ≡ false) os
    sent_elsewhere p key os h s =
        each_weaker (SentFrom given p key) (λ o. kept (to o) ≡ false)
        (λ o x.
        let from : kept x.sent.way.from ≡ false = ap kept x.sent.from ∙ other p x.site h x.owned in
        ap kept (sym x.sent.to) ∙ closed x.sent.way x.sent.there from) os s

    -- one handling of a world of fine sites: one there, or none
    record Steps (r : Run engine) (key : Key) : Type 0 where
      pub fine : Each Fine (stepped_at engine r (Some key)).sites
      pub steps : (stepped_at engine (part_run r) (next_due engine setting.horizon (part_run r).sites) ≡ part_run (stepped_at engine r (Some key))) ⊎ (part_run r ≡ part_run (stepped_at engine r (Some key)))

    abbrev run_with : List Site → List Row → Run engine
    run_with sites rows = record { sites = sites; rows = rows }

    run_is : (a b : List Site) (x y : List Row) → a ≡ b → x ≡ y → run_with a x ≡ run_with b y
    run_is a b x y e f = ap (λ s. run_with s x) e ∙ ap (run_with b) f

    -- the handling is there
    own_step : (r : Run engine) (key : Key) → Each Fine r.sites → next_due engine setting.horizon r.sites ≡ Some key → part_due engine owner 0 r.sites ≡ Some key → handled_in engine owner 0 key r.sites ≡ handled_among engine key r.sites
        → stepped_at engine (part_run r) (next_due engine setting.horizon (part_run r).sites) ≡ part_run (stepped_at engine r (Some key))
    own_step r key fine e due same =
        let w : List Site = r.sites in
        let k : Row → Bool = λ x. kept (row_site x) in
        let h : Stepped engine = handled_among engine key w in
        let x : Stepped engine = handled_among engine key (part_of engine owner 0 w) in
        let o : Own basics owner 0 key w = own basics owner 0 key w in
        let d : world_due engine w ≡ Some key = (due_is basics setting.horizon (world_due engine w) key e).0 in
        let next : next_due engine setting.horizon (part_of engine owner 0 w) ≡ Some key = ap (due_by setting.horizon) due ∙ ap (due_by setting.horizon) (sym d) ∙ e in
        let sent_same : h.sent ≡ x.sent = sym (ap (λ (t : Stepped engine). t.sent) same) ∙ o.sent in
        let sites_same : part_of engine owner 0 h.sites ≡ x.sites = sym (ap (λ (t : Stepped engine). part_of engine owner 0 t.sites) same) ∙ o.sites in
        let rows_same : h.rows ≡ x.rows = sym (ap (λ (t : Stepped engine). t.rows) same) ∙ o.rows in
        let there : Each (λ y. k y ≡ true) h.rows = subst (λ (t : Stepped engine). Each (λ y. k y ≡ true) t.rows) same (rows_in 0 key w fine) in
        let sites : part_of engine owner 0 (delivered engine h.sent h.sites) ≡ delivered engine x.sent x.sites =
        part_delivered basics owner 0 h.sent h.sites ∙ ap (delivered engine h.sent) sites_same ∙ ap (λ os. delivered engine os x.sites) sent_same in
        let rows : filter k (r.rows ++ h.rows) ≡ filter k r.rows ++ x.rows = filter-append k r.rows h.rows ∙ ap (λ z. filter k r.rows ++ z) (filter_all k h.rows there ∙ rows_same) in
        ap (stepped_at engine (part_run r)) next
        ∙ sym (run_is (part_of engine owner 0 (delivered engine h.sent h.sites)) (delivered engine x.sent x.sites) (filter k (r.rows ++ h.rows)) (filter k r.rows ++ x.rows) sites rows)

    -- it is elsewhere
    other_step : (r : Run engine) (key : Key) (p : ℕ) → Each Fine r.sites → (p == 0) ≡ false → handled_in engine owner p key r.sites ≡ handled_among engine key r.sites → Each (SentFrom given p key) (handled_among engine key r.sites).sent
        → part_run r ≡ part_run (stepped_at engine r (Some key))
    other_step r key p fine far same sent =
        let w : List Site = r.sites in
        let k : Row → Bool = λ x. kept (row_site x) in
        let h : Stepped engine = handled_among engine key w in
        let away : Each (λ o. kept (to o) ≡ false) h.sent = sent_elsewhere p key h.sent far sent in
        let there : Each (λ r. (owner (row_site r) == p) ≡ true) h.rows = subst (λ (t : Stepped engine). Each (λ r. (owner (row_site r) == p) ≡ true) t.rows) same (rows_in p key w fine) in
        let off : Each (λ y. k y ≡ false) h.rows = each_weaker (λ r. (owner (row_site r) == p) ≡ true) (λ y. k y ≡ false) (λ y e. other p (row_site y) far e) h.rows there in
        let sites : part_of engine owner 0 (delivered engine h.sent h.sites) ≡ part_of engine owner 0 w =
        part_delivered basics owner 0 h.sent h.sites
        ∙ ap (delivered engine h.sent) (sym (ap (λ (t : Stepped engine). part_of engine owner 0 t.sites) same) ∙ others basics owner p 0 key w far)
        ∙ all_elsewhere h.sent w away in
        let rows : filter k (r.rows ++ h.rows) ≡ filter k r.rows = filter-append k r.rows h.rows ∙ ap (λ z. filter k r.rows ++ z) (filter_none k h.rows off) ∙ append-nil (filter k r.rows) in
        sym (run_is (part_of engine owner 0 (delivered engine h.sent h.sites)) (part_of engine owner 0 w) (filter k (r.rows ++ h.rows)) (filter k r.rows) sites rows)

    step_of : (r : Run engine) (key : Key) → Each Fine r.sites → next_due engine setting.horizon r.sites ≡ Some key → Steps r key
    step_of r key fine e =
        let w : List Site = r.sites in
        let h : Stepped engine = handled_among engine key w in
        let d : world_due engine w ≡ Some key = (due_is basics setting.horizon (world_due engine w) key e).0 in
        let t : Turn basics owner key w = turn basics owner key w d in
        let g : GoesOn given t.part key h = subst (GoesOn given t.part key) t.same (goes_on given t.part key w fine) in
        record {
          fine = delivered_fine given h.sent h.sites g.fits g.fine;
          steps =
              by_cases (t.part == 0)
              (λ f.
              let is : t.part ≡ 0 = eqb-true t.part 0 f in
              inl (own_step r key fine e (subst (λ p. part_due engine owner p w ≡ Some key) is t.due) (subst (λ p. handled_in engine owner p key w ≡ h) is t.same)))
              (λ f. inr (other_step r key t.part fine f t.same g.sent));
        }

    -- the sites there after some handlings of the whole run, and after some of their own
    pub record Projected (r : Run engine) : Type 0 where
      pub fine : Each Fine r.sites
      pub steps : ℕ
      pub same : after engine setting.horizon steps (part_of engine owner 0 setting.opening) ≡ part_run r

    projected_by : (r : Run engine) (d : Option Key) → Projected r → next_due engine setting.horizon r.sites ≡ d → Projected (stepped_at engine r d)
    projected_by r None p e = p
    projected_by r (Some key) p e =
        let s : Steps r key = step_of r key p.fine e in
        elim s.steps as (λ _. Projected (stepped_at engine r (Some key))) [
          | inl x ↦ record { fine = s.fine; steps = suc p.steps; same = ap (stepped engine setting.horizon) p.same ∙ x }
          | inr x ↦ record { fine = s.fine; steps = p.steps; same = p.same ∙ x }
        ]

    pub projected : (n : ℕ) → Projected (after engine setting.horizon n setting.opening)
    projected zero = record { fine = sound.opens; steps = 0; same = refl }
    projected (suc n) =
        let r : Run engine = after engine setting.horizon n setting.opening in projected_by r (next_due engine setting.horizon r.sites) (projected n) refl

    -- so what happens there is their own run
    pub part_is_run : (r : Run engine) → IsRunOf engine setting r → IsWholeRun engine setting.horizon (part_of engine owner 0 setting.opening) (part_run r)
    part_is_run r is =
        let p : Projected (after engine setting.horizon is.steps setting.opening) = projected is.steps in
        let none : due_before (setting.horizon + 1) (part_due engine owner 0 r.sites) ≡ None =
        part_none basics owner (setting.horizon + 1) 0 r.sites (past_by setting.horizon (world_due engine r.sites) (none_is (next_due engine setting.horizon r.sites) is.ended)) in
        record {
          steps = p.steps;
          reached = p.same ∙ ap part_run is.reached;
          ended = is_none (next_due engine setting.horizon (part_of engine owner 0 r.sites)) (by_past setting.horizon (part_due engine owner 0 r.sites) none);
        }

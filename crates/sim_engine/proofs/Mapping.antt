-- Sites whose rows are mapped keep the laws of the sites, and their runs are the mapped runs.
use Rattle.std.specs.Prelude.{IsNone, List, None, Option, Some, [], map, max, suc, zero, ℕ, ◌+◌, ◌++◌, ◌<◌, ◌==◌, ◌∷◌, ◌≡◌}
use Rattle.std.proofs.Common.{ap, refl, subst, sym, ◌∙◌}
use Rattle.std.proofs.lemmas.List.{map-append}
use Rattle.std.proofs.lemmas.List.Elements.{All-map}
use Rattle.sim_clock.specs.declared.key.Key.{Key}
use Rattle.sim_clock.specs.declared.refusal.Refusal.{Refusal}
use Rattle.sim_clock.specs.Order.{lesser}
use Rattle.sim_engine.specs.declared.edge.Edge.{Edge}
use Rattle.sim_engine.specs.Counts.{rows_count, run_count, sites_count}
use Rattle.sim_engine.specs.Engine.{Engine, Handled}
use Rattle.sim_engine.specs.Laws.{Conditions, IsRowOf, IsSentBy, IsSoundSetting, RunLaws, SiteLaws}
use Rattle.sim_engine.specs.Limits.{Stops, StopsWhere, most_count}
use Rattle.sim_engine.specs.MappingLaws.{mapped_laws}
use Rattle.sim_engine.specs.Mapping.{KeepsRows, MappedSite, Mapping, RunsAreMapped, mapped, mapped_conditions, mapped_handled, mapped_run, mapped_setting, with_mapper}
use Rattle.sim_engine.specs.Members.{Each}
use Rattle.sim_engine.specs.Setting.{IsNumbered, Setting}
use Rattle.sim_engine.specs.Simulated.{IsSimulated}
use Rattle.sim_engine.specs.World.{Run, Stepped, after, delivered, delivered_one, due_by, handled_among, handled_there, is_due, least_due, next_due, run_on, stepped, stepped_at, world_due}
use Rattle.sim_engine.proofs.Parts.{each_weaker}
use Rattle.sim_engine.proofs.Simulated.{simulated}
use Rattle.sim_engine.proofs.Branches.{by_cases}

-- a site that is fine, whatever its mapper
abbrev IsFine : {Site Mapper : Type 0} → (Site → Type 0) → MappedSite Site Mapper → Type 0
IsFine Fine s = Fine s.site

-- each of a mapped list
each_map : {A B : Type 0} (P : A → Type 0) (Q : B → Type 0) (f : A → B) → ((x : A) → P x → Q (f x)) → (xs : List A) → Each P xs → Each Q (map f xs)
each_map P Q f h [] e = tt
each_map P Q f h (x ∷ xs) e = (h x e.0, each_map P Q f h xs e.1)

module _ {Site Row Transfer Mapper New : Type 0} (engine : Engine Site Row Transfer) (mapping : Mapping Mapper Row New) (mapper : Mapper) where
  open engine use {to, number, handled}

  -- a site with the mapper, and the engine of such sites
  abbrev with : Site → MappedSite Site Mapper
  with s = with_mapper mapper s

  abbrev its_engine : Engine (MappedSite Site Mapper) New Transfer
  its_engine = mapped engine mapping

  -- a step with its sites and rows mapped
  abbrev mapped_step : Stepped engine → Stepped its_engine
  mapped_step t = record { sites = map with t.sites; rows = map (mapping.made mapper) t.rows; sent = t.sent }

  due_mapped : (w : List Site) → world_due its_engine (map with w) ≡ world_due engine w
  due_mapped [] = refl
  due_mapped (s ∷ ss) = ap (lesser (least_due engine s)) (due_mapped ss)

  among_mapped : (key : Key) (w : List Site) → handled_among its_engine key (map with w) ≡ mapped_step (handled_among engine key w)
  among_mapped key [] = refl
  among_mapped key (s ∷ ss) =
      by_cases (is_due key (least_due engine s)) (λ e. rw e refl) (λ e. rw e (ap (handled_there its_engine (with s)) (among_mapped key ss)))

  one_mapped : (o : Transfer) (s : Site) → delivered_one its_engine o (with s) ≡ with (delivered_one engine o s)
  one_mapped o s =
      by_cases (to o == number s) (λ e. rw e refl) (λ e. rw e refl)

  ones_mapped : (o : Transfer) (w : List Site) → map (delivered_one its_engine o) (map with w) ≡ map with (map (delivered_one engine o) w)
  ones_mapped o [] = refl
  ones_mapped o (s ∷ ss) =
      ap (λ x. x ∷ map (delivered_one its_engine o) (map with ss)) (one_mapped o s) ∙ ap (λ xs. with (delivered_one engine o s) ∷ xs) (ones_mapped o ss)

  delivered_mapped : (os : List Transfer) (w : List Site) → delivered its_engine os (map with w) ≡ map with (delivered engine os w)
  delivered_mapped [] w = refl
  delivered_mapped (o ∷ os) w = ap (delivered its_engine os) (ones_mapped o w) ∙ delivered_mapped os (map (delivered_one engine o) w)

  -- sites and rows as a run
  abbrev run_of : List (MappedSite Site Mapper) → List New → Run its_engine
  run_of sites rows = record { sites = sites; rows = rows }

  on_mapped : (rows : List Row) (t : Stepped engine) → run_on its_engine (map (mapping.made mapper) rows) (mapped_step t) ≡ mapped_run engine mapping mapper (run_on engine rows t)
  on_mapped rows t =
      let f : Row → New = mapping.made mapper in
      ap (λ w. run_of w (map f rows ++ map f t.rows)) (delivered_mapped t.sent t.sites) ∙ ap (run_of (map with (delivered engine t.sent t.sites))) (sym (map-append f rows t.rows))

  stepped_mapped : (r : Run engine) (due : Option Key) → stepped_at its_engine (mapped_run engine mapping mapper r) due ≡ mapped_run engine mapping mapper (stepped_at engine r due)
  stepped_mapped r None = refl
  stepped_mapped r (Some key) =
      ap (run_on its_engine (map (mapping.made mapper) r.rows)) (among_mapped key r.sites) ∙ on_mapped r.rows (handled_among engine key r.sites)

  -- some handlings of sites with the mapper are the mapped handlings
  after_mapped : (horizon n : ℕ) (start : List Site) → after its_engine horizon n (map with start) ≡ mapped_run engine mapping mapper (after engine horizon n start)
  after_mapped horizon zero start = refl
  after_mapped horizon (suc n) start =
      let r : Run engine = after engine horizon n start in
      ap (stepped its_engine horizon) (after_mapped horizon n start)
      ∙ ap (λ due. stepped_at its_engine (mapped_run engine mapping mapper r) (due_by horizon due)) (due_mapped r.sites)
      ∙ stepped_mapped r (next_due engine horizon r.sites)

  ended_there : (horizon : ℕ) (w : List Site) → IsNone (next_due engine horizon w) → IsNone (next_due its_engine horizon (map with w))
  ended_there horizon w h = subst (λ due. IsNone (due_by horizon due)) (sym (due_mapped w)) h

  ended_back : (horizon : ℕ) (w : List Site) → IsNone (next_due its_engine horizon (map with w)) → IsNone (next_due engine horizon w)
  ended_back horizon w h = subst (λ due. IsNone (due_by horizon due)) (due_mapped w) h

  sites_counted : (w : List Site) → sites_count its_engine (map with w) ≡ sites_count engine w
  sites_counted [] = refl
  sites_counted (s ∷ ss) = ap (max (engine.site_count (engine.core s))) (sites_counted ss)

  numbered_mapped : (n : ℕ) (w : List Site) → IsNumbered engine n w → IsNumbered its_engine n (map with w)
  numbered_mapped n [] h = tt
  numbered_mapped n (s ∷ ss) h = (h.0, numbered_mapped (n + 1) ss h.1)

  module _ (keeps : KeepsRows engine mapping) where
    rows_counted : (rows : List Row) → rows_count its_engine (map (mapping.made mapper) rows) ≡ rows_count engine rows
    rows_counted [] = refl
    rows_counted (r ∷ rs) =
        ap (λ n. max n (rows_count its_engine (map (mapping.made mapper) rs))) (keeps.count mapper r) ∙ ap (max (engine.row_count r)) (rows_counted rs)

    run_counted : (r : Run engine) → run_count its_engine (mapped_run engine mapping mapper r) ≡ run_count engine r
    run_counted r =
        ap (λ n. max n (rows_count its_engine (map (mapping.made mapper) r.rows))) (sites_counted r.sites) ∙ ap (max (sites_count engine r.sites)) (rows_counted r.rows)

    -- a handling stops for the same reasons
    pub stops_mapped : (h : Handled Site Row Transfer) (e : Refusal) → Stops engine h e → Stops its_engine (mapped_handled engine mapping mapper h) e
    stops_mapped h e s = subst (λ n. StopsWhere (most_count < max (engine.site_count (engine.core h.site)) n) e) (sym (rows_counted h.rows)) s

    pub runs_are_mapped : (s : Setting Site) → RunsAreMapped engine mapping mapper s
    runs_are_mapped s =
        record {
          there = λ r is.
              record {
                steps = is.steps;
                reached = after_mapped s.horizon is.steps s.opening ∙ ap (mapped_run engine mapping mapper) is.reached;
                ended = ended_there s.horizon r.sites is.ended;
              };
          back = λ x is.
              let r : Run engine = after engine s.horizon is.steps s.opening in
              let same : x ≡ mapped_run engine mapping mapper r = sym is.reached ∙ after_mapped s.horizon is.steps s.opening in
              let ended : IsNone (next_due its_engine s.horizon (map with r.sites)) = subst (λ (y : Run its_engine). IsNone (next_due its_engine s.horizon y.sites)) same is.ended in
              (r, (record { steps = is.steps; reached = refl; ended = ended_back s.horizon r.sites ended }, same));
          over = λ o.
              let count : run_count its_engine (after its_engine s.horizon o.0 (map with s.opening)) ≡ run_count engine (after engine s.horizon o.0 s.opening) =
              ap (run_count its_engine) (after_mapped s.horizon o.0 s.opening) ∙ run_counted (after engine s.horizon o.0 s.opening) in
              (o.0, subst (λ n. most_count < n) count o.1);
        }

module _ {Site Row Transfer Mapper New : Type 0} {engine : Engine Site Row Transfer} {conditions : Conditions Site Transfer} (mapping : Mapping Mapper Row New) where
  module _ (keeps : KeepsRows engine mapping) (home : ℕ → ℕ) (Fine : Site → Type 0) (Fits : Transfer → Type 0) where
    run_laws : (edges : List Edge) → RunLaws engine conditions edges home Fine Fits → RunLaws (mapped engine mapping) (mapped_conditions conditions) edges home (IsFine Fine) Fits
    run_laws edges laws =
        record {
          sorted = λ s. laws.sorted s.site;
          sound = λ s. laws.sound s.site;
          handling = λ key s. laws.handling key s.site;
          accepting = λ o s. laws.accepting o s.site;
          sending = λ key s f i.
              each_weaker (IsSentBy engine edges home key (engine.number s.site)) (IsSentBy (mapped engine mapping) edges home key (engine.number s.site))
              (λ o x. record { sender = x.sender; way = x.way; there = x.there; from = x.from; to = x.to; late = x.late }) (engine.handled key s.site).sent
              (laws.sending key s.site f i);
          fitting = λ key s. laws.fitting key s.site;
          rows = λ key s f.
              each_map (IsRowOf engine key (engine.number s.site)) (IsRowOf (mapped engine mapping) key (engine.number s.site)) (mapping.made s.mapper)
              (λ r x. record { key_is = keeps.key s.mapper r ∙ x.key_is; site_is = keeps.site s.mapper r ∙ x.site_is }) (engine.handled key s.site).rows
              (laws.rows key s.site f);
          remaining = λ key s. laws.remaining key s.site;
          takes_time = laws.takes_time;
        }

    -- a sound setting stays sound with a mapper
    pub mapped_sound : (mapper : Mapper) (s : Setting Site) → IsSoundSetting engine conditions home Fine Fits s
        → IsSoundSetting (mapped engine mapping) (mapped_conditions conditions) home (IsFine Fine) Fits (mapped_setting mapper s)
    mapped_sound mapper s h =
        record {
          laws = run_laws s.edges h.laws;
          opens = each_map Fine (IsFine Fine) (with_mapper mapper) (λ x f. f) s.opening h.opens;
          numbered = numbered_mapped engine mapping mapper 0 s.opening h.numbered;
          past = All-map (λ (x : MappedSite Site Mapper). conditions.Past 0 x.site) (with_mapper mapper) s.opening h.past;
        }

    -- so it is simulated
    pub mapped_simulated : SiteLaws engine conditions → (mapper : Mapper) (s : Setting Site) → IsSoundSetting engine conditions home Fine Fits s
        → IsSimulated (mapped engine mapping) (mapped_conditions conditions) (mapped_setting mapper s)
    mapped_simulated laws mapper s h = simulated (mapped_laws mapping laws) (mapped_setting mapper s) home (IsFine Fine) Fits (mapped_sound mapper s h)

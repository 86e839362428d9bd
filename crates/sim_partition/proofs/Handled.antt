-- The handling of the first site that a key is due at.
use Rattle.std.specs.Prelude.{All, Bool, List, None, Option, Some, [], cond, false, find, if◌then◌else◌, map, set, get_or, true, ℕ, ◌+◌, ◌∷◌, ◌≡◌, ◌≤◌}
use Rattle.std.proofs.Common.{ap, arith, refl, subst, sym, ◌∙◌}
use Rattle.std.proofs.lemmas.List.Elements.{All-cons, All-head, All-nil, All-tail}
use Rattle.std.proofs.Math.Nat.{le-max_left, le-max_right}
use Rattle.sim_clock.specs.declared.key.Key.{Key}
use Rattle.sim_clock.specs.Firsts.{changed}
use Rattle.sim_clock.proofs.Least.{key_tied}
use Rattle.sim_engine.specs.Counts.{sites_count}
use Rattle.sim_engine.specs.Engine.{Engine}
use Rattle.sim_engine.specs.Laws.{Conditions, SiteLaws}
use Rattle.sim_engine.specs.Members.{Ascends}
use Rattle.sim_clock.specs.Places.{Stands}
use Rattle.sim_engine.specs.World.{handled_among, handled_here, handled_there, is_due, least_due, world_due}
use Rattle.sim_partition.specs.Sites.{AreOfPast, IsPart}
use Rattle.sim_partition.proofs.Moments.{from_handled, past_from}

module _ {Site Row Transfer : Type 0} {engine : Engine Site Row Transfer} {conditions : Conditions Site Transfer} (basics : SiteLaws engine conditions) where
  open engine use {number, handled, core, site_count}
  open conditions use {Sound, Past, Timely}
  open basics use {number_handled, past_handled, sent_timely}

  -- the handling of the first site that a key is due at
  module _ (key : Key) where
    -- whether it is due at a site
    abbrev pub due_here : Site → Bool
    due_here s = is_due key (least_due engine s)

    -- the site after the handling
    abbrev pub site_after : Site → Site
    site_after s = (handled key s).site

    among_found :
        (w : List Site) (s : Site) → find due_here w ≡ Some s
        → handled_among engine key w ≡ record { sites = changed due_here site_after w; rows = (handled key s).rows; sent = (handled key s).sent }
    among_found [] s h = cc
    among_found (x ∷ xs) s h =
        elim (due_here x) as
        (λ b. cond b (Some x) (find due_here xs) ≡ Some s →
        (if b then handled_here engine (handled key x) xs else handled_there engine x (handled_among engine key xs))
        ≡ record { sites = (if b then site_after x ∷ xs else x ∷ changed due_here site_after xs); rows = (handled key s).rows; sent = (handled key s).sent }) [
          | true ↦ λ e. let same : x ≡ s = cc in ap (λ y. record { sites = site_after x ∷ xs; rows = (handled key y).rows; sent = (handled key y).sent }) same
          | false ↦ λ e. ap (handled_there engine x) (among_found xs s e)
        ] h

    -- the counts of the site that handles it are among those of all
    counted_found : (w : List Site) (s : Site) → find due_here w ≡ Some s → site_count (core (site_after s)) ≤ sites_count engine (changed due_here site_after w)
    counted_found [] s h = cc
    counted_found (x ∷ xs) s h =
        elim (due_here x) as
        (λ b. cond b (Some x) (find due_here xs) ≡ Some s → site_count (core (site_after s)) ≤ sites_count engine (if b then site_after x ∷ xs else x ∷ changed due_here site_after xs)) [
          | true ↦ λ e. let is : x ≡ s = cc in rw (← is) (le-max_left (site_count (core (site_after x))) (sites_count engine xs))
          | false ↦ λ e.
              let rest : site_count (core (site_after s)) ≤ sites_count engine (changed due_here site_after xs) = counted_found xs s e in
              omega (arith, rest, le-max_right (site_count (core x)) (sites_count engine (changed due_here site_after xs)))
        ] h

    -- the site that handles it, at its place
    pub record Handles (w : List Site) (i : ℕ) (s : Site) : Type 0 where
      pub among : handled_among engine key w ≡ record { sites = changed due_here site_after w; rows = (handled key s).rows; sent = (handled key s).sent }
      pub after : set w i (site_after s) ≡ (handled_among engine key w).sites
      pub counted : site_count (core (site_after s)) ≤ sites_count engine (changed due_here site_after w)

    pub handles_at : (w : List Site) (i : ℕ) (s : Site) → Stands due_here w i → s ≡ get_or w i s → Handles w i s
    handles_at w i s t is =
        let f : find due_here w ≡ Some s = t.found s ∙ ap (λ (x : Site). Some x) (sym is) in
        let a : handled_among engine key w ≡ record { sites = changed due_here site_after w; rows = (handled key s).rows; sent = (handled key s).sent } = among_found w s f in
        record {
          among = a;
          after = ap (λ x. set w i (site_after x)) is ∙ sym (t.change site_after s) ∙ sym (λ k. (a k).sites);
          counted = counted_found w s f;
        }

    -- a place where it is due
    find_is : (xs : List Site) (y : Site) → find due_here xs ≡ Some y → due_here y ≡ true
    find_is [] y h = cc
    find_is (x ∷ xs) y h =
        elim (due_here x) as (λ b. due_here x ≡ b → cond b (Some x) (find due_here xs) ≡ Some y → due_here y ≡ true) [
          | true ↦ λ k e. let same : x ≡ y = cc in ap due_here (sym same) ∙ k
          | false ↦ λ k e. find_is xs y e
        ] refl h

    due_key : (o : Option Key) → is_due key o ≡ true → o ≡ Some key
    due_key None h = cc
    due_key (Some k) h = let t : key ≡ k = key_tied key k h in ap (λ (x : Key). Some x) (sym t)

    pub due_at_place : (xs : List Site) (i : ℕ) (s : Site) → Stands due_here xs i → s ≡ get_or xs i s → least_due engine s ≡ Some key
    due_at_place xs i s t is = due_key (least_due engine s) (find_is xs s (t.found s ∙ ap (λ (x : Site). Some x) (sym is)))

    -- numbers stay as they are
    pub ascends_among : (n : ℕ) (w : List Site) → Ascends number n w → Ascends number n (handled_among engine key w).sites
    ascends_among n [] h = tt
    ascends_among n (x ∷ xs) h =
        elim (due_here x) as (λ b. Ascends number n (if b then handled_here engine (handled key x) xs else handled_there engine x (handled_among engine key xs)).sites) [
          | true ↦ subst (λ k. (n ≤ k) × Ascends number (k + 1) xs) (sym (number_handled key x)) h
          | false ↦ (h.0, ascends_among (number x + 1) xs h.1)
        ]

    pub numbers_among : (w : List Site) → map number (handled_among engine key w).sites ≡ map number w
    numbers_among [] = refl
    numbers_among (x ∷ xs) =
        elim (due_here x) as (λ b. map number (if b then handled_here engine (handled key x) xs else handled_there engine x (handled_among engine key xs)).sites ≡ number x ∷ map number xs) [
          | true ↦ ap (λ k. k ∷ map number xs) (number_handled key x)
          | false ↦ ap (λ ks. number x ∷ ks) (numbers_among xs)
        ]

    -- a handling at a moment leaves nothing from after it
    pub past_sites : (w : List Site) → All (Past key.at) w → All (Past key.at) (handled_among engine key w).sites
    past_sites [] h = All-nil (Past key.at)
    past_sites (x ∷ xs) h =
        elim (due_here x) as (λ b. All (Past key.at) (if b then handled_here engine (handled key x) xs else handled_there engine x (handled_among engine key xs)).sites) [
          | true ↦ All-cons (Past key.at) (site_after x) xs (past_handled key x (All-head (Past key.at) x xs h)) (All-tail (Past key.at) x xs h)
          | false ↦ All-cons (Past key.at) x (handled_among engine key xs).sites (All-head (Past key.at) x xs h) (past_sites xs (All-tail (Past key.at) x xs h))
        ]

    -- and sends nothing from after its arrival
    pub sent_among : (w : List Site) → All (Past key.at) w → All Timely (handled_among engine key w).sent
    sent_among [] h = All-nil Timely
    sent_among (x ∷ xs) h =
        elim (due_here x) as (λ b. All Timely (if b then handled_here engine (handled key x) xs else handled_there engine x (handled_among engine key xs)).sent) [
          | true ↦ sent_timely key x (All-head (Past key.at) x xs h)
          | false ↦ sent_among xs (All-tail (Past key.at) x xs h)
        ]

    -- what is left is a partition again
    pub part_handled : (w : List Site) → IsPart engine conditions w → world_due engine w ≡ Some key → IsPart engine conditions (handled_among engine key w).sites
    part_handled w p d =
        let v : List Site = (handled_among engine key w).sites in
        let now : AreOfPast conditions w (Some key) = subst (AreOfPast conditions w) d p.past in
        let from = from_handled basics key w p.sound d in
        record { ascends = ascends_among 0 w p.ascends; sound = from.sound; past = past_from basics key.at v (world_due engine v) from.from (past_sites w now) }

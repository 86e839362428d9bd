-- A machine at a barrier.
use Rattle.std.specs.List.{range_with_len}
use Rattle.std.specs.Ordering.{is_lt, on}
use Rattle.std.specs.Prelude.{All, Bool, List, None, Ok, Option, Result, [], false, get_or, if◌then◌else◌, length, map, not, true, ℕ, ◌++◌, ◌<◌, ◌==◌, ◌∷◌, ◌≡◌, ◌≤◌, ◌||◌}
use Rattle.std.specs.declared.cmp.Ordering.{Ordering}
use Rattle.std.proofs.Common.{ap, arith, refl, subst, sym, true≢false, ◌∙◌}
use Rattle.std.proofs.lemmas.Bool.{eqb-true}
use Rattle.std.proofs.lemmas.List.FromFn.{length-map-range_with_len}
use Rattle.std.proofs.lemmas.List.Elements.{All-cons, All-head, All-nil, All-tail, All-weaker}
use Rattle.sim_clock.specs.declared.refusal.Refusal.{Refusal}
use Rattle.sim_clock.specs.Order.{inserted_by, key_cmp}
use Rattle.sim_exchange.specs.Layout.{owner_of}
use Rattle.sim_exchange.specs.Table.{Table, distance_in}
use Rattle.sim_engine.specs.Bounds.{bound_by, least_bound, moment_of, own_bound}
use Rattle.sim_engine.specs.Exchange.{exchanged, sorted, sorted_into, to_part}
use Rattle.sim_engine.specs.Machine.{Machine, flushed, has_ready, is_finished, with_barrier}
use Rattle.sim_engine.specs.Parts.{part_due, part_of}
use Rattle.sim_engine.specs.declared.picks.Pick.{Pick}
use Rattle.sim_engine.specs.declared.picks.Pick.TheVariants.{Barrier}
use Rattle.sim_engine.proofs.Exchange.{parts_get_sorted}
use Rattle.sim_partition.specs.Sites.{due_in}
use Rattle.sim_partition.proofs.Delivered.{past_delivered}
use Rattle.sim_partition.proofs.Moments.{all_later}
use Rattle.sim_windows.specs.Meeting.{AreReached, delivered_each, due_moments}
use Rattle.sim_windows.specs.Stages.{IsForward, Shows, Standing, Stands, Took, bounded_by, delivered_by, machine_in}
use Rattle.sim_windows.proofs.Least.{same_bounds}
use Rattle.sim_windows.proofs.Places.{at_place, delivered_places, over, reached_places, same_from}
use Rattle.sim_windows.proofs.Standing.{keeps, more_picks, shown_in, stands_on}
use Rattle.sim_engine.specs.World.{delivered}
use Rattle.sim_engine.specs.Setting.{Setting}
use Rattle.sim_engine.specs.Engine.{Engine}
use Rattle.sim_engine.specs.Laws.{Conditions, SiteLaws}

module _ {A : Type 0} (P : A → Type 0) (R : A → A → Ordering) where
  all_inserted : (x : A) (xs : List A) → P x → All P xs → All P (inserted_by R x xs)
  all_inserted x [] p h = All-cons P x [] p (All-nil P)
  all_inserted x (y ∷ ys) p h =
      elim (is_lt (R x y)) as (λ b. All P (if b then x ∷ (y ∷ ys) else y ∷ inserted_by R x ys)) [
        | true ↦ All-cons P x (y ∷ ys) p h
        | false ↦ All-cons P y (inserted_by R x ys) (All-head P y ys h) (all_inserted x ys p (All-tail P y ys h))
      ]

-- what takes effect at a barrier
pub goes_on : (a b : Bool) → not (a || b) ≡ true → (a ≡ false) × (b ≡ false)
goes_on true b h = absurd (true≢false (sym h))
goes_on false true h = absurd (true≢false (sym h))
goes_on false false h = (refl, refl)

module _ {Site Row Transfer : Type 0} {engine : Engine Site Row Transfer} {conditions : Conditions Site Transfer} (basics : SiteLaws engine conditions) where
  open engine use {dues, transfer_key, to}
  open conditions use {Past, Timely}

  module _ (P : Transfer → Type 0) where
    all_into : (done os : List Transfer) → All P done → All P os → All P (sorted_into engine done os)
    all_into done [] h k = h
    all_into done (x ∷ xs) h k = all_into (inserted_by (on transfer_key key_cmp) x done) xs (all_inserted P (on transfer_key key_cmp) x done (All-head P x xs k) h) (All-tail P x xs k)

    -- what holds of those to a partition holds of them sorted
    all_to : (owner : ℕ → ℕ) (p : ℕ) (os : List Transfer) → All (λ x. owner (to x) ≡ p → P x) os → All P (to_part engine owner p os)
    all_to owner p [] h = All-nil P
    all_to owner p (x ∷ xs) h =
        elim (owner (to x) == p) as (λ b. (owner (to x) == p) ≡ b → All P (if b then x ∷ to_part engine owner p xs else to_part engine owner p xs)) [
          | true ↦ λ e. All-cons P x (to_part engine owner p xs) (All-head (λ (y : Transfer). owner (to y) ≡ p → P y) x xs h (eqb-true (owner (to x)) p e)) (all_to owner p xs (All-tail (λ (y : Transfer). owner (to y) ≡ p → P y) x xs h))
          | false ↦ λ e. all_to owner p xs (All-tail (λ (y : Transfer). owner (to y) ≡ p → P y) x xs h)
        ] refl

    pub all_sent : (owner : ℕ → ℕ) (p : ℕ) (os : List Transfer) → All (λ x. owner (to x) ≡ p → P x) os → All P (sorted engine (to_part engine owner p os))
    all_sent owner p os h = all_into [] (to_part engine owner p os) (All-nil P) (all_to owner p os h)

  -- bounds that are set by what is due in the partitions of a world
  pub bounds_set :
      (owner : ℕ → ℕ) (table : Table) (horizon n : ℕ) (sites : List Site) (live : List (Result (List Site) Refusal)) → live ≡ map (λ p. Ok (part_of engine owner p sites)) (range_with_len 0 n)
      → (parts : ℕ) → parts ≡ n → (bounds : List ℕ)
      → bounds ≡ map (λ p. bound_by (distance_in table) horizon (λ q. get_or (due_moments engine live) q None) p parts) (range_with_len 0 parts)
      → bounds ≡ map (own_bound engine owner (distance_in table) n horizon sites) (range_with_len 0 n)
  bounds_set owner table horizon n sites live is parts e bounds h =
      let dues : List (Option ℕ) = due_moments engine live in
      let due_is : dues ≡ map (λ p. moment_of (part_due engine owner p sites)) (range_with_len 0 n) =
      ap (map (λ (p : Result (List Site) Refusal). moment_of (due_in engine p))) is
      ∙ over (λ (p : Result (List Site) Refusal). moment_of (due_in engine p)) (λ p. Ok (part_of engine owner p sites)) 0 n in
      let at : (q : ℕ) → q < n → get_or dues q None ≡ moment_of (part_due engine owner q sites) =
      λ q l. ap (λ xs. get_or xs q None) due_is ∙ at_place (λ p. moment_of (part_due engine owner p sites)) n q None l in
      h ∙ ap (λ k. map (λ p. bound_by (distance_in table) horizon (λ q. get_or dues q None) p k) (range_with_len 0 k)) e
      ∙ same_from (λ p. bound_by (distance_in table) horizon (λ q. get_or dues q None) p n) (own_bound engine owner (distance_in table) n horizon sites) 0 n
      (λ p l k. same_bounds (distance_in table) horizon (λ q. get_or dues q None) (λ q. moment_of (part_due engine owner q sites)) p n at)

  module _ (s : Setting Site) (done : List Pick) (g : Standing Site Row Transfer) (st : Stands engine conditions s done g) where
    open shown_in engine s done g use {owner as o, rule, machine as m}

    abbrev n : ℕ
    n = g.layout.parts

    -- the sites of the partitions
    abbrev pub parts_in : List (List Site)
    parts_in = map (λ p. part_of engine (owner_of g.layout) p (machine_in engine g.layout g.distances s done).sites) (range_with_len 0 g.layout.parts)

    pub live : g.parts ≡ map (λ w. Ok w) parts_in
    live = st.shows.parts ∙ sym (over (λ (w : List Site). let x : Result (List Site) Refusal = Ok w in x) (λ p. part_of engine o p m.sites) 0 n)

    abbrev sent_to : ℕ → List Transfer
    sent_to p = sorted engine (to_part engine (owner_of g.layout) p (machine_in engine g.layout g.distances s done).waiting)

    timely_to : (p : ℕ) → All Timely (sent_to p)
    timely_to p = all_sent Timely o p m.waiting (All-weaker Timely (λ (x : Transfer). o (to x) ≡ p → Timely x) (λ x h e. h) m.waiting st.forward.timely)

    reached_to : (p : ℕ) → p < n → All (λ x. All (Past (transfer_key x).at) (part_of engine o p m.sites)) (sent_to p)
    reached_to p l =
        all_sent (λ (x : Transfer). All (Past (transfer_key x).at) (part_of engine o p m.sites)) o p m.waiting
        (All-weaker (λ (x : Transfer). m.bounds (o (to x)) ≤ (transfer_key x).at) (λ (x : Transfer). o (to x) ≡ p → All (Past (transfer_key x).at) (part_of engine o p m.sites))
        (λ x h e. all_later basics (m.bounds p) (transfer_key x).at (part_of engine o p m.sites) (subst (λ q. m.bounds q ≤ (transfer_key x).at) e h) (st.forward.past p l)) m.waiting (keeps basics s done g st).late)

    -- what waits may be delivered
    pub are_reached : AreReached engine conditions g.parts (exchanged engine (owner_of g.layout) g.layout.parts g.waiting)
    are_reached =
        let all : AreReached engine conditions (map (λ p. let x : Result (List Site) Refusal = Ok (part_of engine o p m.sites) in x) (range_with_len 0 n)) (map sent_to (range_with_len 0 n)) =
        reached_places basics (λ p. Ok (part_of engine o p m.sites)) sent_to 0 n (λ p l k. record { past = reached_to p (omega arith); timely = timely_to p }) in
        subst (λ os. AreReached engine conditions g.parts (exchanged engine o n os)) (sym st.shows.waiting) (subst (λ ps. AreReached engine conditions ps (map sent_to (range_with_len 0 n))) (sym st.shows.parts) all)

    -- the partitions with what waited
    pub delivered_in : map (λ w. let x : Result (List Site) Refusal = Ok w in x) (delivered_each engine (exchanged engine o n g.waiting) parts_in) ≡ map (λ p. Ok (part_of engine o p (flushed engine m))) (range_with_len 0 n)
    delivered_in =
        ap (λ os. map (λ w. let x : Result (List Site) Refusal = Ok w in x) (delivered_each engine (exchanged engine o n os) parts_in)) st.shows.waiting
        ∙ ap (map (λ w. let x : Result (List Site) Refusal = Ok w in x)) (delivered_places basics sent_to (λ p. part_of engine o p m.sites) 0 n)
        ∙ over (λ w. let x : Result (List Site) Refusal = Ok w in x) (λ p. delivered engine (sent_to p) (part_of engine o p m.sites)) 0 n
        ∙ same_from (λ p. let x : Result (List Site) Refusal = Ok (delivered engine (sent_to p) (part_of engine o p m.sites)) in x) (λ p. Ok (part_of engine o p (flushed engine m))) 0 n
        (λ p l k. ap (λ w. let x : Result (List Site) Refusal = Ok w in x) (sym (parts_get_sorted basics o p m.waiting m.sites)))

    pub many_delivered : length (delivered_by engine g parts_in).parts ≡ g.layout.parts
    many_delivered = ap (λ xs. length xs) delivered_in ∙ length-map-range_with_len (λ p. let x : Result (List Site) Refusal = Ok (part_of engine o p (flushed engine m)) in x) 0 n

    -- the bounds that are set by what is due then
    pub bounds_in :
        (parts : ℕ) → parts ≡ n → (bounds : List ℕ)
        → bounds ≡ map (λ p. bound_by (distance_in g.distances) s.horizon (λ q. get_or (due_moments engine (delivered_by engine g parts_in).parts) q None) p parts) (range_with_len 0 parts)
        → bounds ≡ map (rule (flushed engine m)) (range_with_len 0 n)
    bounds_in = bounds_set o g.distances s.horizon n (flushed engine m) (delivered_by engine g parts_in).parts delivered_in

    module _ (stopped : has_ready engine (owner_of g.layout) (machine_in engine g.layout g.distances s done) ≡ false) (going : is_finished engine s.horizon (machine_in engine g.layout g.distances s done) ≡ false) where
      pub at_barrier : machine_in engine g.layout g.distances s (done ++ Barrier ∷ []) ≡ with_barrier engine rule m
      at_barrier =
          more_picks basics s done g st (Barrier ∷ [])
          ∙ ap (λ b. if b || is_finished engine s.horizon m then m else with_barrier engine rule m) stopped
          ∙ ap (λ b. if b then m else with_barrier engine rule m) going

      past_in : (p : ℕ) → p < n → All (Past (rule (flushed engine m) p)) (part_of engine o p (flushed engine m))
      past_in p l =
          subst (All (Past (rule (flushed engine m) p))) (sym (parts_get_sorted basics o p m.waiting m.sites))
          (all_later basics (m.bounds p) (rule (flushed engine m) p) (delivered engine (sent_to p) (part_of engine o p m.sites)) ((keeps basics s done g st).grows stopped p)
          (past_delivered basics (m.bounds p) (sent_to p) (part_of engine o p m.sites) (timely_to p) (st.forward.past p l)))

      -- it stands as the definitions' machine does after the barrier
      pub meets : (bounds : List ℕ) → bounds ≡ map (rule (flushed engine m)) (range_with_len 0 n) → Stands engine conditions s (done ++ Barrier ∷ []) (bounded_by (delivered_by engine g parts_in) bounds)
      meets bounds h =
          let g' : Standing Site Row Transfer = bounded_by (delivered_by engine g parts_in) bounds in
          let shows : Shows engine g' (with_barrier engine rule m) = record { parts = delivered_in; bounds = h; rows = st.shows.rows; waiting = refl } in
          let forward : IsForward engine conditions g.layout s.horizon g.settled (with_barrier engine rule m) = record {
            past = past_in;
            timely = All-nil Timely;
            within = st.forward.within;
            reached = λ p l. let a : g.settled ≤ m.bounds p = st.forward.reached p l in let b : m.bounds p ≤ rule (flushed engine m) p = (keeps basics s done g st).grows stopped p in omega arith;
            none = st.forward.none;
          } in
          record {
            split = st.split;
            shows = subst (Shows engine g') (sym at_barrier) shows;
            forward = subst (IsForward engine conditions g.layout s.horizon g.settled) (sym at_barrier) forward;
          }

  -- a barrier that is none
  pub barrier_none :
      (s : Setting Site) (done : List Pick) (g : Standing Site Row Transfer) (st : Stands engine conditions s done g)
      → (has_ready engine (owner_of g.layout) (machine_in engine g.layout g.distances s done) || is_finished engine s.horizon (machine_in engine g.layout g.distances s done)) ≡ true
      → Took engine conditions g g s done Barrier false
  barrier_none s done g st h =
      let m : Machine engine = machine_in engine g.layout g.distances s done in
      let rule : List Site → ℕ → ℕ = own_bound engine (owner_of g.layout) (distance_in g.distances) g.layout.parts s.horizon in
      record {
        stands = stands_on basics s done g st (Barrier ∷ []) (sym (more_picks basics s done g st (Barrier ∷ []) ∙ ap (λ b. if b then m else with_barrier engine rule m) h));
        same = record { layout = refl; distances = refl };
        effect = sym (ap (λ b. not b) h);
        settled = sym (ap (λ b. if not b then least_bound s.horizon m.bounds g.layout.parts else g.settled) h);
      }

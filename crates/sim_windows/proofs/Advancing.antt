-- A barrier brings the least bound on, and a round what may be handled next, so that less is left.
use Rattle.std.specs.List.{list_all, range_with_len}
use Rattle.std.specs.Option.{is_some}
use Rattle.std.specs.Ordering.{is_lt}
use Rattle.std.specs.Prelude.{All, Err, List, None, Ok, Option, Result, Some, [], false, get_or, if◌then◌else◌, length, map, min, nat_le, nat_lt, not, suc, true, zero, ℕ, ◌&&◌, ◌*◌, ◌++◌, ◌+◌, ◌-◌, ◌<◌, ◌∷◌, ◌≡◌, ◌≤◌, ◌⊎◌}
use Rattle.std.proofs.Common.{ap, arith, inl, inr, refl, subst, sym, true≢false, ◌∙◌}
use Rattle.std.proofs.lemmas.Bool.{cases_lt, le-ltb, lt-leb, ltb-true}
use Rattle.std.proofs.lemmas.List.{get_or-map, length-map}
use Rattle.std.proofs.lemmas.List.Elements.{All-head, All-tail}
use Rattle.sim_clock.specs.declared.key.Key.{Key}
use Rattle.sim_clock.specs.declared.refusal.Refusal.{Refusal}
use Rattle.sim_clock.specs.Order.{due_before, key_cmp, lesser}
use Rattle.sim_engine.specs.Bounds.{IsDistance, IsWalk, bound_by, latency_of, least_bound, moment_of, own_bound, reached}
use Rattle.sim_engine.specs.declared.edge.Edge.{Edge}
use Rattle.sim_engine.specs.declared.picks.Pick.{Pick}
use Rattle.sim_engine.specs.declared.picks.Pick.TheVariants.{Barrier}
use Rattle.sim_engine.specs.Engine.{Engine}
use Rattle.sim_engine.specs.Kept.{IsAllFrom}
use Rattle.sim_engine.specs.Laws.{Conditions, SiteLaws}
use Rattle.sim_engine.specs.Machine.{Machine, flushed, has_ready, is_finished}
use Rattle.sim_engine.specs.Parts.{part_due}
use Rattle.sim_engine.specs.Setting.{Setting}
use Rattle.sim_engine.specs.World.{next_due}
use Rattle.sim_engine.proofs.Machines.{before_at}
use Rattle.sim_engine.proofs.ReadByParts.{by_past, machines_are_read_by_parts}
use Rattle.sim_engine.proofs.Worlds.{not_before}
use Rattle.sim_exchange.specs.Layout.{owner_of}
use Rattle.sim_exchange.specs.Table.{distance_in}
use Rattle.sim_partition.specs.Sites.{due_in}
use Rattle.sim_windows.specs.Rounds.{Comes, HaveCome}
use Rattle.sim_windows.specs.Stages.{Standing, Stands, TakeTime, bounded_by, delivered_by, end_in, is_finished_in, left_from, left_in, machine_at, next_in, next_of, ready_in, up_to}
use Rattle.sim_windows.specs.declared.lent.Came.{Came}
use Rattle.sim_windows.proofs.LowerBounds.{settles}
use Rattle.sim_windows.proofs.Least.{least_from, least_of_all, least_within, none_earlier}
use Rattle.sim_windows.proofs.Meetings.{at_barrier, meets, parts_in}
use Rattle.sim_windows.proofs.Reading.{end_is, finished_is, lower_bound_is, has_next}
use Rattle.sim_windows.proofs.Standing.{below, bound_at, keeps, many_parts, none_due_is, shown_in}

-- a walk over ways that take time takes time
walk_long : (owner : ℕ → ℕ) (edges : List Edge) → TakeTime edges → (q p : ℕ) (es : List Edge) → IsWalk owner edges q p es → 1 ≤ latency_of es
walk_long owner edges ways q p [] h = absurd h
walk_long owner edges ways q p (x ∷ []) h = let l : 1 ≤ x.least = ways x h.0 in omega arith
walk_long owner edges ways q p (x ∷ (y ∷ ys)) h = let l : 1 ≤ x.least = ways x h.0 in omega arith

-- what is due from a moment on reaches a partition later than at that moment
reached_past : (owner : ℕ → ℕ) (edges : List Edge) → TakeTime edges → (q p horizon at : ℕ) (d : Option Key) (x : Option ℕ) → at ≤ horizon → due_before at d ≡ None → IsDistance owner edges q p x → at < reached horizon (moment_of d) x
reached_past owner edges ways q p horizon at None x l h is = omega arith
reached_past owner edges ways q p horizon at (Some k) None l h is = omega arith
reached_past owner edges ways q p horizon at (Some k) (Some y) l h is =
    let n : at ≤ k.at = not_before at k h in
    let one : 1 ≤ latency_of is.0.0 = walk_long owner edges ways q p is.0.0 is.0.1 in
    let same : latency_of is.0.0 ≡ y = is.0.2 in omega arith

-- of two keys the lesser is one
either_is : (a b : Option Key) (k : Key) → lesser a b ≡ Some k → (a ≡ Some k) ⊎ (b ≡ Some k)
either_is None b k h = inr h
either_is (Some x) None k h = inl h
either_is (Some x) (Some y) k h =
    elim (is_lt (key_cmp y x)) as (λ c. (if c then Some y else Some x) ≡ Some k → (Some x ≡ Some k) ⊎ (Some y ≡ Some k)) [
      | true ↦ λ e. inr e
      | false ↦ λ e. inl e
    ] h

-- of two that are not due before a moment the lesser is not
none_of_both : (moment : ℕ) (a b : Option Key) → due_before moment a ≡ None → due_before moment b ≡ None → due_before moment (lesser a b) ≡ None
none_of_both moment None b h k = k
none_of_both moment (Some x) None h k = h
none_of_both moment (Some x) (Some y) h k =
    elim (is_lt (key_cmp y x)) as (λ c. due_before moment (if c then Some y else Some x) ≡ None) [ true ↦ k | false ↦ h ]

-- what is not due before a bound, nor before a cut if that is sooner, may not be handled before the cut
none_by_cut : (bound cut : ℕ) (d : Option Key) → due_before (min bound cut) d ≡ None → due_before cut (due_before bound d) ≡ None
none_by_cut bound cut None h = refl
none_by_cut bound cut (Some k) h =
    let n : min bound cut ≤ k.at = not_before (min bound cut) k h in
    elim (nat_lt k.at bound) as (λ b. nat_lt k.at bound ≡ b → due_before cut (if b then Some k else None) ≡ None) [
      | true ↦ λ e. let l : k.at < bound = ltb-true k.at bound e in rw (le-ltb k.at cut (omega arith)) refl
      | false ↦ λ e. refl
    ] refl

-- what is left from a moment is less than from an earlier one
less_left : (horizon cut : ℕ) (next : Key) (d : Option Key) → next.at < cut → next.at ≤ horizon → due_before cut d ≡ None → left_from horizon d < horizon + 1 - next.at
less_left horizon cut next None l w h = omega arith
less_left horizon cut next (Some k) l w h = let n : cut ≤ k.at = not_before cut k h in omega arith

-- a lesser part of a whole that is no greater
less_in_all : (a b c d m : ℕ) → a ≡ b → c < d → a * m + c < b * m + d
less_in_all a b c d m e l = subst (λ x. a * m + c < x * m + d) e (omega arith)

times_more : (x y k : ℕ) → x ≤ y → x * k ≤ y * k
times_more zero y k l = omega arith
times_more (suc x) zero k l = absurd (omega arith)
times_more (suc x) (suc y) k l = let i : x * k ≤ y * k = times_more x y k (omega arith) in omega (arith, i)

-- a lesser whole, whatever the part that is no more than the horizon
less_whole : (horizon a b c d : ℕ) → a < b → b ≤ horizon + 1 → c ≤ horizon + 1 → (horizon + 1 - b) * (horizon + 2) + c < (horizon + 1 - a) * (horizon + 2) + d
less_whole horizon a b c d l w within =
    let x : ℕ = horizon + 1 - b in
    let y : ℕ = horizon + 1 - a in
    let one : x + 1 ≤ y = omega arith in
    let step : suc x * (horizon + 2) ≤ y * (horizon + 2) = times_more (suc x) y (horizon + 2) (omega (arith, one)) in omega (arith, step)

left_within : (horizon : ℕ) (d : Option Key) → left_from horizon d ≤ horizon + 1
left_within horizon None = omega arith
left_within horizon (Some k) = omega arith

module _ {Site Row Transfer : Type 0} {engine : Engine Site Row Transfer} {conditions : Conditions Site Transfer} (basics : SiteLaws engine conditions) where
  open engine use {transfer_key, to}

  -- the bound of a partition comes after a moment before which nothing is due in any
  bound_past :
      (owner : ℕ → ℕ) (edges : List Edge) → TakeTime edges → (distance : ℕ → ℕ → Option ℕ) → ((q p : ℕ) → IsDistance owner edges q p (distance q p)) → (horizon at : ℕ) → at ≤ horizon → (w : List Site) → IsAllFrom engine owner at w → (p n : ℕ)
      → at < bound_by distance horizon (λ q. moment_of (part_due engine owner q w)) p n
  bound_past owner edges ways distance are horizon at l w none p zero = omega arith
  bound_past owner edges ways distance are horizon at l w none p (suc q) =
      let a : at < reached horizon (moment_of (part_due engine owner q w)) (distance q p) = reached_past owner edges ways q p horizon at (part_due engine owner q w) (distance q p) l (none q) (are q p) in
      let b : at < bound_by distance horizon (λ r. moment_of (part_due engine owner r w)) p q = bound_past owner edges ways distance are horizon at l w none p q in omega arith

  -- what arrives no sooner than bounds that are past the horizon arrives past it
  waits_past :
      (owner : ℕ → ℕ) (bounds : ℕ → ℕ) (horizon : ℕ) → ((n : ℕ) → horizon < bounds (owner n)) → (os : List Transfer) → All (λ o. bounds (owner (to o)) ≤ (transfer_key o).at) os
      → list_all (λ o. not (nat_le (transfer_key o).at horizon)) os ≡ true
  waits_past owner bounds horizon past [] h = refl
  waits_past owner bounds horizon past (x ∷ xs) h =
      let a : bounds (owner (to x)) ≤ (transfer_key x).at = All-head (λ (o : Transfer). bounds (owner (to o)) ≤ (transfer_key o).at) x xs h in
      let b : horizon < bounds (owner (to x)) = past (to x) in
      rw (lt-leb (transfer_key x).at horizon (omega arith)) (waits_past owner bounds horizon past xs (All-tail (λ (o : Transfer). bounds (owner (to o)) ≤ (transfer_key o).at) x xs h))

  module _ (s : Setting Site) (done : List Pick) (g : Standing Site Row Transfer) (st : Stands engine conditions s done g) where
    open shown_in engine s done g use {owner as o, rule, machine as m}

    abbrev n : ℕ
    n = g.layout.parts

    -- what may be handled next comes by the horizon
    next_within_of : (k : ℕ) (key : Key) → k ≤ n → next_of engine g k ≡ Some key → key.at ≤ s.horizon
    next_within_of zero key l h = absurd (let x : None ≡ Some key = h in cc)
    next_within_of (suc p) key l h =
        elim (either_is (ready_in engine g p) (next_of engine g p) key h) as (λ _. key.at ≤ s.horizon) [
          | inl e ↦
              let a : key.at < get_or g.bounds p 0 = before_at (get_or g.bounds p 0) (due_in engine (get_or g.parts p (Ok []))) key e in
              let b : get_or g.bounds p 0 ≡ m.bounds p = bound_at basics s done g st p 0 (omega arith) in
              let c : m.bounds p ≤ s.horizon + 1 = (keeps basics s done g st).capped p in omega arith
          | inr e ↦ next_within_of p key (omega arith) e
        ]

    pub next_within : (key : Key) → next_in engine g ≡ Some key → key.at ≤ g.horizon
    next_within key h = let a : key.at ≤ s.horizon = next_within_of (length g.parts) key (omega (arith, many_parts basics s done g st)) h in omega (arith, a, st.horizon)

    module _ (rests : next_in engine g ≡ None) (left : is_finished_in engine g ≡ false) where
      stopped : has_ready engine o m ≡ false
      stopped = sym (has_next basics s done g st) ∙ ap is_some rests

      least : ℕ
      least = least_bound s.horizon m.bounds n

      -- nothing in any partition comes before the least bound
      none_before : IsAllFrom engine o (end_in g) (flushed engine m)
      none_before = (settles basics s done g st (end_in g) (sym (ap (up_to (end_in g)) rests) ∙ lower_bound_is basics s done g st)).forward.none

      -- which is not past the horizon, since something is left
      before_end : end_in g ≤ s.horizon
      before_end =
          elim (cases_lt s.horizon (end_in g)) as (λ _. end_in g ≤ s.horizon) [
            | inl l ↦
                let past : (p : ℕ) → p < n → s.horizon + 1 ≤ m.bounds p = λ p k.
                let b : least_bound s.horizon m.bounds n ≤ m.bounds p = least_of_all s.horizon m.bounds n p k in omega (arith, end_is basics s done g st) in
                let none : next_due engine s.horizon m.sites ≡ None =
                none_due_is basics s done g st
                (λ p k.
                by_past s.horizon (part_due engine o p m.sites)
                (none_earlier (s.horizon + 1) (m.bounds p) (part_due engine o p m.sites) (past p k) ((machines_are_read_by_parts basics o n s.horizon m (below basics s done g st)).stopped stopped p))) in
                let waits : list_all (λ x. not (nat_le (transfer_key x).at s.horizon)) m.waiting ≡ true =
                waits_past o m.bounds s.horizon (λ k. let b : s.horizon + 1 ≤ m.bounds (o k) = past (o k) (below basics s done g st k) in omega arith) m.waiting (keeps basics s done g st).late in
                let over : is_finished engine s.horizon m ≡ true = ap (λ (d : Option Key). not (is_some d) && list_all (λ x. not (nat_le (transfer_key x).at s.horizon)) m.waiting) none ∙ waits in
                absurd (true≢false (sym over ∙ sym (finished_is basics s done g st) ∙ left))
            | inr l ↦ l
          ]

      -- a barrier sets it later
      end_grows :
          (bounds : List ℕ) → bounds ≡ map (own_bound engine (owner_of g.layout) (distance_in g.distances) g.layout.parts s.horizon (flushed engine (machine_at engine g s done))) (range_with_len 0 g.layout.parts)
          → end_in g < end_in (bounded_by (delivered_by engine g (parts_in basics s done g st)) bounds)
      end_grows bounds is =
          let w : List Site = flushed engine m in
          let going : is_finished engine s.horizon m ≡ false = sym (finished_is basics s done g st) ∙ left in
          let after : Standing Site Row Transfer = bounded_by (delivered_by engine g (parts_in basics s done g st)) bounds in
          let on : Stands engine conditions s (done ++ Barrier ∷ []) after = meets basics s done g st stopped going bounds is in
          let end_then : end_in after ≡ least_bound s.horizon (rule w) n =
          end_is basics s (done ++ Barrier ∷ []) after on ∙ ap (λ (y : Machine engine). least_bound s.horizon y.bounds n) (at_barrier basics s done g st stopped going) in
          let grows : end_in g + 1 ≤ least_bound s.horizon (rule w) n =
          least_from (end_in g + 1) s.horizon (rule w) n (omega (arith, before_end))
          (λ p l. let past : end_in g < rule w p = bound_past o s.edges st.ways (distance_in g.distances) st.distances s.horizon (end_in g) before_end w none_before p n in omega arith) in
          omega (arith, end_then, grows)

      -- so less is left
      pub barrier_less :
          (bounds : List ℕ) → bounds ≡ map (own_bound engine (owner_of g.layout) (distance_in g.distances) g.layout.parts s.horizon (flushed engine (machine_at engine g s done))) (range_with_len 0 g.layout.parts)
          → left_in engine (bounded_by (delivered_by engine g (parts_in basics s done g st)) bounds) < left_in engine g
      barrier_less bounds is =
          let after : Standing Site Row Transfer = bounded_by (delivered_by engine g (parts_in basics s done g st)) bounds in
          less_whole g.horizon (end_in g) (end_in after) (left_from g.horizon (next_in engine after)) (left_from g.horizon (next_in engine g)) (end_grows bounds is)
          (least_within g.horizon (λ p. get_or bounds p 0) (length bounds)) (left_within g.horizon (next_in engine after))

  -- a partition that came back has nothing due before the end to which it ran
  none_come : (bound : ℕ) (part : Result (List Site) Refusal) (one : Came Site Row Transfer) → Comes engine conditions bound part (Ok one) → due_before bound (due_in engine one.part) ≡ None
  none_come bound (Ok w) one h = ap (λ d. due_before bound (due_in engine d)) h.ran.lives ∙ h.ran.run.done
  none_come bound (Err e) one h = absurd h

  none_came :
      (ends : List ℕ) (parts : List (Result (List Site) Refusal)) (came : List (Came Site Row Transfer)) → HaveCome engine conditions ends parts came → (p : ℕ) → p < length came
      → due_before (get_or ends p 0) (due_in engine (get_or (map (λ one. one.part) came) p (Ok []))) ≡ None
  none_came ends parts [] h p l = absurd (omega arith)
  none_came [] [] (c ∷ cs) h p l = absurd h
  none_came [] (x ∷ xs) (c ∷ cs) h p l = absurd h
  none_came (b ∷ bs) [] (c ∷ cs) h p l = absurd h
  none_came (b ∷ bs) (x ∷ xs) (c ∷ cs) h zero l = none_come b x c h.0
  none_came (b ∷ bs) (x ∷ xs) (c ∷ cs) h (suc p) l = none_came bs xs cs h.1 p (omega arith)

  -- where partitions ran to their bounds, or to a cut if that is sooner, what may be handled next does not come before the cut
  none_next :
      (h : Standing Site Row Transfer) (cut k : ℕ) → ((p : ℕ) → p < k → due_before (min (get_or h.bounds p 0) cut) (due_in engine (get_or h.parts p (Ok []))) ≡ None)
      → due_before cut (next_of engine h k) ≡ None
  none_next h cut zero none = refl
  none_next h cut (suc p) none =
      none_of_both cut (ready_in engine h p) (next_of engine h p) (none_by_cut (get_or h.bounds p 0) cut (due_in engine (get_or h.parts p (Ok []))) (none p (omega arith)))
      (none_next h cut p (λ q l. none q (omega arith)))

  -- so a round that is cut later than what may be handled next leaves less
  pub round_less :
      (g h : Standing Site Row Transfer) (cut : ℕ) (ends : List ℕ) (parts : List (Result (List Site) Refusal)) (came : List (Came Site Row Transfer)) → h.horizon ≡ g.horizon → h.bounds ≡ g.bounds
      → h.parts ≡ map (λ one. one.part) came → length came ≡ length g.bounds → ends ≡ map (λ bound. min bound cut) g.bounds → HaveCome engine conditions ends parts came
      → (next : Key) → next_in engine g ≡ Some next → next.at < cut → next.at ≤ g.horizon → left_in engine h < left_in engine g
  round_less g h cut ends parts came horizon bounds back many are have next is before within =
      let count : length h.parts ≡ length came = ap (λ xs. length xs) back ∙ length-map came _ in
      let none : due_before cut (next_in engine h) ≡ None =
      none_next h cut (length h.parts)
      (λ p l.
      let there : p < length g.bounds = omega (arith, count, many) in
      let end : get_or ends p 0 ≡ min (get_or h.bounds p 0) cut =
      ap (λ xs. get_or xs p 0) are ∙ get_or-map (λ bound. min bound cut) g.bounds p 0 0 there ∙ ap (λ xs. min (get_or xs p 0) cut) (sym bounds) in
      subst (λ e. due_before e (due_in engine (get_or h.parts p (Ok []))) ≡ None) end
      (subst (λ ps. due_before (get_or ends p 0) (due_in engine (get_or ps p (Ok []))) ≡ None) (sym back) (none_came ends parts came have p (omega (arith, count, l))))) in
      let same : end_in h ≡ end_in g =
      ap (λ k. least_bound k (λ p. get_or h.bounds p 0) (length h.bounds)) horizon ∙ ap (λ (xs : List ℕ). least_bound g.horizon (λ p. get_or xs p 0) (length xs)) bounds in
      let less : left_from g.horizon (next_in engine h) < left_from g.horizon (next_in engine g) =
      subst (λ d. left_from g.horizon (next_in engine h) < left_from g.horizon d) (sym is) (less_left g.horizon cut next (next_in engine h) before within none) in
      subst (λ k. (k + 1 - end_in h) * (k + 2) + left_from k (next_in engine h) < left_in engine g) (sym horizon)
      (less_in_all (g.horizon + 1 - end_in h) (g.horizon + 1 - end_in g) (left_from g.horizon (next_in engine h)) (left_from g.horizon (next_in engine g)) (g.horizon + 2) (ap (λ e. g.horizon + 1 - e) same) less)

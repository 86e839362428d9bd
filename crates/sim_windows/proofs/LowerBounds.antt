-- What is settled: the rows from before the moment that nothing may come before any more.
use Rattle.std.specs.List.{range_with_len}
use Rattle.std.specs.Option.{is_some}
use Rattle.std.specs.Prelude.{List, None, Option, Some, false, filter, map, if◌then◌else◌, min, nat_lt, suc, true, zero, ℕ, ◌++◌, ◌+◌, ◌<◌, ◌≡◌, ◌≤◌}
use Rattle.std.proofs.Common.{ap, arith, inl, inr, refl, subst, sym, true≢false, ◌∙◌}
use Rattle.std.proofs.lemmas.Bool.{cases_lt, le-ltb, ltb-false}
use Rattle.sim_clock.specs.declared.key.Key.{Key}
use Rattle.sim_clock.specs.Order.{due_before, lesser}
use Rattle.sim_exchange.specs.Layout.{owner_of}
use Rattle.sim_exchange.specs.Table.{distance_in}
use Rattle.sim_engine.specs.Bounds.{least_bound}
use Rattle.sim_engine.specs.Kept.{IsAllFrom}
use Rattle.sim_engine.specs.Machine.{Machine, flushed, has_ready, ready}
use Rattle.sim_engine.specs.Merge.{merged_all, row_cmp}
use Rattle.sim_engine.specs.Parts.{part_due}
use Rattle.sim_engine.specs.Prefixes.{Holds, IsThrough, is_before, is_between}
use Rattle.sim_engine.specs.Theorems.{rows_by}
use Rattle.sim_engine.specs.declared.picks.Pick.{Pick}
use Rattle.sim_engine.proofs.EarlyRows.{part_empty}
use Rattle.sim_engine.proofs.OneList.{both_none}
use Rattle.sim_engine.proofs.Parts.{before_lesser}
use Rattle.sim_engine.proofs.ReadByParts.{machines_are_read_by_parts}
use Rattle.sim_engine.proofs.Worlds.{not_before}
use Rattle.sim_windows.specs.Stages.{AreNext, IsForward, Shows, Standing, Stands, is_from, machine_in, settled_by, up_to}
use Rattle.sim_windows.proofs.Least.{least_from, least_of_all, least_within}
use Rattle.sim_windows.proofs.Picked.{filter_both, from_later}
use Rattle.sim_windows.proofs.Places.{over, same_from}
use Rattle.sim_windows.proofs.Standing.{below, keeps, none_ready_is, shown_in}
use Rattle.sim_engine.specs.World.{world_due}
use Rattle.sim_engine.specs.Setting.{Setting}
use Rattle.sim_engine.specs.Engine.{Engine}
use Rattle.sim_engine.specs.Laws.{Conditions, SiteLaws}

-- of two of which neither is due, none is
none_of_none : (a b : Option Key) → a ≡ None → b ≡ None → lesser a b ≡ None
none_of_none a b e f = ap (λ x. lesser x b) e ∙ f

-- nothing is due before a moment up to it
none_up_to : (moment : ℕ) (d : Option Key) → due_before (up_to moment d) d ≡ None
none_up_to moment None = refl
none_up_to moment (Some k) = rw (le-ltb k.at (min moment k.at) (omega arith)) refl

up_to_first : (moment : ℕ) (d : Option Key) → up_to moment d ≤ moment
up_to_first moment None = omega arith
up_to_first moment (Some k) = omega arith

from_up_to : (early moment : ℕ) (d : Option Key) → early ≤ moment → due_before early d ≡ None → early ≤ up_to moment d
from_up_to early moment None l h = l
from_up_to early moment (Some k) l h = let n : early ≤ k.at = not_before early k h in omega arith

-- what is not due before a moment is not among what is due before a bound and before that moment, and the other way round
none_under : (early bound : ℕ) (d : Option Key) → due_before early d ≡ None → due_before early (due_before bound d) ≡ None
none_under early bound None h = refl
none_under early bound (Some k) h =
    elim (nat_lt k.at bound) as (λ b. due_before early (if b then Some k else None) ≡ None) [ true ↦ h | false ↦ refl ]

none_over : (early bound : ℕ) (d : Option Key) → early ≤ bound → due_before early (due_before bound d) ≡ None → due_before early d ≡ None
none_over early bound None l h = refl
none_over early bound (Some k) l h =
    elim (nat_lt k.at bound) as (λ b. nat_lt k.at bound ≡ b → due_before early (if b then Some k else None) ≡ None → due_before early (Some k) ≡ None) [
      | true ↦ λ e g. g
      | false ↦ λ e g. let n : bound ≤ k.at = ltb-false k.at bound e in rw (le-ltb k.at early (omega arith)) refl
    ] refl h

module _ {Site Row Transfer : Type 0} (engine : Engine Site Row Transfer) where
  -- the least of what so many partitions of a machine may handle
  abbrev pub next_ready : (ℕ → ℕ) → ℕ → Machine engine → Option Key
  next_ready owner zero m = None
  next_ready owner (suc p) m = lesser (ready engine owner p m) (next_ready owner p m)

  -- the moment that nothing may come before any more: that of what a partition may handle next, or the least bound
  abbrev pub lower_bound : (ℕ → ℕ) → ℕ → ℕ → Machine engine → ℕ
  lower_bound owner parts horizon m = up_to (least_bound horizon m.bounds parts) (next_ready owner parts m)

module _ {Site Row Transfer : Type 0} {engine : Engine Site Row Transfer} {conditions : Conditions Site Transfer} (basics : SiteLaws engine conditions) where
  module _ (owner : ℕ → ℕ) (m : Machine engine) where
    -- where none of what so many partitions may handle is due before a moment, the least is not, and the other way round
    none_least : (moment n : ℕ) → ((p : ℕ) → p < n → due_before moment (ready engine owner p m) ≡ None) → due_before moment (next_ready engine owner n m) ≡ None
    none_least moment zero h = refl
    none_least moment (suc p) h =
        before_lesser basics moment (ready engine owner p m) (next_ready engine owner p m)
        ∙ none_of_none (due_before moment (ready engine owner p m)) (due_before moment (next_ready engine owner p m)) (h p (omega arith)) (none_least moment p (λ q l. h q (omega arith)))

    none_of_least : (moment n : ℕ) → due_before moment (next_ready engine owner n m) ≡ None → (p : ℕ) → p < n → due_before moment (ready engine owner p m) ≡ None
    none_of_least moment zero h p l = absurd (omega arith)
    none_of_least moment (suc q) h p l =
        let both : (due_before moment (ready engine owner q m) ≡ None) × (due_before moment (next_ready engine owner q m) ≡ None) =
        both_none basics owner (due_before moment (ready engine owner q m)) (due_before moment (next_ready engine owner q m)) (sym (before_lesser basics moment (ready engine owner q m) (next_ready engine owner q m)) ∙ h) in
        elim (cases_lt p q) as (λ _. due_before moment (ready engine owner p m) ≡ None) [
          | inl k ↦ none_of_least moment q both.1 p k
          | inr k ↦ let e : q ≡ p = omega arith in subst (λ x. due_before moment (ready engine owner x m) ≡ None) e both.0
        ]

    -- so where none of them may handle anything
    all_none : (n : ℕ) → ((p : ℕ) → p < n → ready engine owner p m ≡ None) → next_ready engine owner n m ≡ None
    all_none zero h = refl
    all_none (suc p) h = none_of_none (ready engine owner p m) (next_ready engine owner p m) (h p (omega arith)) (all_none p (λ q l. h q (omega arith)))

    none_of_all : (n : ℕ) → next_ready engine owner n m ≡ None → (p : ℕ) → p < n → ready engine owner p m ≡ None
    none_of_all zero h p l = absurd (omega arith)
    none_of_all (suc q) h p l =
        let both : (ready engine owner q m ≡ None) × (next_ready engine owner q m ≡ None) = both_none basics owner (ready engine owner q m) (next_ready engine owner q m) h in
        elim (cases_lt p q) as (λ _. ready engine owner p m ≡ None) [
          | inl k ↦ none_of_all q both.1 p k
          | inr k ↦ let e : q ≡ p = omega arith in subst (λ x. ready engine owner x m ≡ None) e both.0
        ]

    module _ (parts horizon : ℕ) where
      -- nothing is due before the lower_bound, and no bound is before it
      through : IsThrough engine owner parts (lower_bound engine owner parts horizon m) m
      through =
          let least : ℕ = least_bound horizon m.bounds parts in
          let at : ℕ = lower_bound engine owner parts horizon m in
          let under : (p : ℕ) → p < parts → at ≤ m.bounds p =
          λ p l. let a : at ≤ least = up_to_first least (next_ready engine owner parts m) in let b : least ≤ m.bounds p = least_of_all horizon m.bounds parts p l in omega arith in
          record {
            none = λ p l. none_over at (m.bounds p) (part_due engine owner p m.sites) (under p l) (none_of_least at parts (none_up_to least (next_ready engine owner parts m)) p l);
            bounds = under;
          }

      -- nor is it before a moment from before which nothing is due
      lower_bound_from : (moment : ℕ) → moment ≤ horizon + 1 → IsThrough engine owner parts moment m → moment ≤ lower_bound engine owner parts horizon m
      lower_bound_from moment c h =
          from_up_to moment (least_bound horizon m.bounds parts) (next_ready engine owner parts m) (least_from moment horizon m.bounds parts c h.bounds)
          (none_least moment parts (λ p l. none_under moment (m.bounds p) (part_due engine owner p m.sites) (h.none p l)))

  module _ (s : Setting Site) (done : List Pick) (g : Standing Site Row Transfer) (st : Stands engine conditions s done g) where
    open shown_in engine s done g use {owner as o, rule, machine as m}

    abbrev n : ℕ
    n = g.layout.parts

    -- whether a partition may go on is whether there is a least of what they may handle
    pub going_is : is_some (next_ready engine (owner_of g.layout) g.layout.parts (machine_in engine g.layout g.distances s done)) ≡ has_ready engine (owner_of g.layout) (machine_in engine g.layout g.distances s done)
    going_is =
        elim (has_ready engine o m) as (λ b. has_ready engine o m ≡ b → is_some (next_ready engine o n m) ≡ b) [
          | false ↦ λ e. ap is_some (all_none o m n (λ p l. (machines_are_read_by_parts basics o n s.horizon m (below basics s done g st)).stopped e p))
          | true ↦ λ e.
              elim (next_ready engine o n m) as (λ d. next_ready engine o n m ≡ d → is_some d ≡ true) [
                | Some k ↦ λ f. refl
                | None ↦ λ f. absurd (true≢false (sym e ∙ none_ready_is basics s done g st (none_of_all o m n f)))
              ] refl
        ] refl

    module _ (moment : ℕ) (is : moment ≡ lower_bound engine (owner_of g.layout) g.layout.parts s.horizon (machine_in engine g.layout g.distances s done)) where
      through_it : IsThrough engine o n moment m
      through_it = subst (λ k. IsThrough engine o n k m) (sym is) (through o m n s.horizon)

      -- all that was settled is from before it
      forward_to : g.settled ≤ moment
      forward_to =
          let early : (p : ℕ) → p < n → due_before g.settled (part_due engine o p m.sites) ≡ None = λ p l. sym ((keeps basics s done g st).early p g.settled (st.forward.reached p l)) ∙ st.forward.none p in
          subst (λ k. g.settled ≤ k) (sym is) (lower_bound_from o m n s.horizon g.settled st.forward.within (record { none = early; bounds = st.forward.reached }))

      within : moment ≤ s.horizon + 1
      within =
          let a : moment ≤ least_bound s.horizon m.bounds n = subst (λ k. k ≤ least_bound s.horizon m.bounds n) (sym is) (up_to_first (least_bound s.horizon m.bounds n) (next_ready engine o n m)) in
          let b : least_bound s.horizon m.bounds n ≤ s.horizon + 1 = least_within s.horizon m.bounds n in omega arith

      none_in : IsAllFrom engine o moment (flushed engine m)
      none_in p =
          elim (cases_lt p n) as (λ _. due_before moment (part_due engine o p (flushed engine m)) ≡ None) [
            | inl l ↦ (keeps basics s done g st).early p moment (through_it.bounds p l) ∙ through_it.none p l
            | inr k ↦ ap (λ w. due_before moment (world_due engine w)) (part_empty basics o n p (below basics s done g st) (omega arith) (flushed engine m))
          ]

      -- what is settled follows what was
      pub next_in : AreNext engine s g.settled moment (merged_all (row_cmp engine) (map (filter (is_before engine moment)) g.rows))
      next_in r w =
          let holds : Holds engine s o n rule = st.sound.holds o n (below basics s done g st) (distance_in g.distances) st.distances in
          let between : map (filter (is_before engine moment)) g.rows ≡ map (λ p. filter (is_between engine g.settled moment) (rows_by engine m.told p)) (range_with_len 0 n) =
          ap (map (filter (is_before engine moment))) st.shows.rows
          ∙ over (filter (is_before engine moment)) (λ p. filter (is_from engine g.settled) (rows_by engine m.told p)) 0 n
          ∙ same_from (λ p. filter (is_before engine moment) (filter (is_from engine g.settled) (rows_by engine m.told p))) (λ p. filter (is_between engine g.settled moment) (rows_by engine m.told p)) 0 n
          (λ p l k. filter_both (is_before engine moment) (is_from engine g.settled) (rows_by engine m.told p)) in
          ap (λ z. filter (is_before engine g.settled) r.rows ++ merged_all (row_cmp engine) z) between
          ∙ holds.next done g.settled moment r w forward_to through_it

      -- it stands as it did, with that settled
      pub settles : Stands engine conditions s done (settled_by engine g moment)
      settles =
          let shows : Shows engine (settled_by engine g moment) m = record {
            parts = st.shows.parts;
            bounds = st.shows.bounds;
            rows =
                ap (map (filter (is_from engine moment))) st.shows.rows
                ∙ over (filter (is_from engine moment)) (λ p. filter (is_from engine g.settled) (rows_by engine m.told p)) 0 n
                ∙ same_from (λ p. filter (is_from engine moment) (filter (is_from engine g.settled) (rows_by engine m.told p))) (λ p. filter (is_from engine moment) (rows_by engine m.told p)) 0 n (λ p l k. from_later basics g.settled moment forward_to (rows_by engine m.told p));
            waiting = st.shows.waiting;
          } in
          let forward : IsForward engine conditions g.layout s.horizon moment m = record {
            past = st.forward.past;
            timely = st.forward.timely;
            within = within;
            reached = through_it.bounds;
            none = none_in;
          } in
          record { split = st.split; shows = shows; forward = forward }

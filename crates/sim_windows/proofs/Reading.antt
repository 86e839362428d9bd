-- What is read off the partitions of a stage is what the definitions' machine says.
use Rattle.std.specs.List.{list_all, range_with_len}
use Rattle.std.specs.Option.{is_some}
use Rattle.std.specs.Prelude.{Bool, List, None, Ok, Option, Result, Some, [], false, get_or, length, nat_le, not, suc, true, zero, ℕ, ◌&&◌, ◌+◌, ◌<◌, ◌≡◌, ◌≤◌}
use Rattle.std.proofs.Common.{ap, arith, inl, inr, refl, sym, true≢false, ◌∙◌}
use Rattle.std.proofs.lemmas.Bool.{cases_lt}
use Rattle.std.proofs.lemmas.List.{get_or_past}
use Rattle.std.proofs.lemmas.List.Folds.{list_all-map, list_all_at}
use Rattle.sim_clock.specs.declared.refusal.Refusal.{Refusal}
use Rattle.sim_clock.specs.Order.{due_before, lesser}
use Rattle.sim_engine.specs.Bounds.{least_bound}
use Rattle.sim_engine.specs.Engine.{Engine}
use Rattle.sim_engine.specs.Laws.{Conditions, SiteLaws}
use Rattle.sim_engine.specs.Machine.{has_ready, is_finished, ready}
use Rattle.sim_engine.specs.Parts.{part_of}
use Rattle.sim_engine.specs.Setting.{Setting}
use Rattle.sim_engine.specs.World.{arrival, due_by, next_due}
use Rattle.sim_engine.specs.declared.picks.Pick.{Pick}
use Rattle.sim_exchange.specs.Layout.{owner_of}
use Rattle.sim_partition.specs.Sites.{due_in}
use Rattle.sim_windows.specs.Stages.{Standing, Stands, end_in, lower_bound_in, is_finished_in, machine_at, next_in, next_of, ready_in, up_to}
use Rattle.sim_windows.proofs.LowerBounds.{lower_bound, going_is, next_ready}
use Rattle.sim_windows.proofs.Standing.{due_at, least_then, many_parts, none_due_is, none_past, one_due_is, ready_at, shown_in}

-- a test that all numbers pass
all_in_range : (h : ℕ → Bool) → ((p : ℕ) → h p ≡ true) → (a n : ℕ) → list_all h (range_with_len a n) ≡ true
all_in_range h all a zero = refl
all_in_range h all a (suc n) = rw (all a) (all_in_range h all (a + 1) n)

-- where all pass, each does
each_passes : {A : Type 0} (h : A → Bool) (xs : List A) (i : ℕ) (d : A) → i < length xs → list_all h xs ≡ true → h (get_or xs i d) ≡ true
each_passes h xs i d l all =
    elim (h (get_or xs i d)) as (λ b. h (get_or xs i d) ≡ b → b ≡ true) [
      | true ↦ λ e. refl
      | false ↦ λ e. absurd (true≢false (sym all ∙ list_all_at h xs i d l e))
    ] refl

-- nothing is there
none_there : {A : Type 0} (d : Option A) → not (is_some d) ≡ true → d ≡ None
none_there None h = refl
none_there (Some x) h = absurd (true≢false (sym h))

-- of one state there is one standing
pub same_state : {A : Type 0} (a b : A) → (let x : Result A Refusal = Ok a in x) ≡ Ok b → a ≡ b
same_state a b e = cc

module _ {Site Row Transfer : Type 0} {engine : Engine Site Row Transfer} {conditions : Conditions Site Transfer} (basics : SiteLaws engine conditions) where
  -- past the partitions there is nothing
  pub past_parts : (g : Standing Site Row Transfer) (p : ℕ) → length g.parts ≤ p → ready_in engine g p ≡ None
  past_parts g p l = let none : Result (List Site) Refusal = Ok [] in ap (λ x. due_before (get_or g.bounds p 0) (due_in engine x)) (get_or_past g.parts p none l)

  module _ (s : Setting Site) (done : List Pick) (g : Standing Site Row Transfer) (st : Stands engine conditions s done g) where
    open shown_in engine s done g use {owner as o, machine as m}

    -- what a partition may handle
    pub ready_is : (p : ℕ) → ready_in engine g p ≡ ready engine (owner_of g.layout) p (machine_at engine g s done)
    ready_is p =
        elim (cases_lt p g.layout.parts) as (λ _. ready_in engine g p ≡ ready engine o p m) [
          | inl l ↦ ready_at basics s done g st p (Ok []) 0 l
          | inr l ↦ past_parts g p (omega (arith, l, many_parts basics s done g st)) ∙ sym (none_past basics s done g st p l)
        ]

    next_of_is : (n : ℕ) → next_of engine g n ≡ next_ready engine o n m
    next_of_is zero = refl
    next_of_is (suc p) =
        ap (λ x. lesser x (next_of engine g p)) (ready_is p)
        ∙ ap (lesser (ready engine o p m)) (next_of_is p)

    -- what may be handled next
    pub next_is : next_in engine g ≡ next_ready engine (owner_of g.layout) g.layout.parts (machine_at engine g s done)
    next_is = ap (next_of engine g) (many_parts basics s done g st) ∙ next_of_is g.layout.parts

    pub has_next : is_some (next_in engine g) ≡ has_ready engine (owner_of g.layout) (machine_at engine g s done)
    has_next = ap is_some next_is ∙ going_is basics s done g st

    -- the least of the bounds
    pub end_is : end_in g ≡ least_bound s.horizon (machine_at engine g s done).bounds g.layout.parts
    end_is = least_then basics s done g st (end_in g) g.bounds refl refl

    -- the moment that nothing may come before any more
    pub lower_bound_is : lower_bound_in engine g ≡ lower_bound engine (owner_of g.layout) g.layout.parts s.horizon (machine_at engine g s done)
    lower_bound_is = ap (λ x. up_to x (next_in engine g)) end_is ∙ ap (up_to (least_bound s.horizon m.bounds g.layout.parts)) next_is

    -- whether a partition has nothing by the horizon
    abbrev is_over : Result (List Site) Refusal → Bool
    is_over part = not (is_some (due_by s.horizon (due_in engine part)))

    part_over : (p : ℕ) → p < g.layout.parts → list_all is_over g.parts ≡ true → next_due engine s.horizon (part_of engine o p m.sites) ≡ None
    part_over p l all =
        sym (due_at basics s done g st p (Ok []) l)
        ∙ none_there (due_by s.horizon (due_in engine (get_or g.parts p (Ok [])))) (each_passes is_over g.parts p (Ok []) (omega (arith, l, many_parts basics s done g st)) all)

    all_over : next_due engine s.horizon m.sites ≡ None → list_all is_over g.parts ≡ true
    all_over none =
        ap (list_all is_over) st.shows.parts
        ∙ list_all-map is_over (λ p. let x : Result (List Site) Refusal = Ok (part_of engine o p m.sites) in x) (range_with_len 0 g.layout.parts)
        ∙ all_in_range (λ p. is_over (Ok (part_of engine o p m.sites)))
        (λ p.
        elim (is_some (next_due engine s.horizon (part_of engine o p m.sites))) as (λ b. is_some (next_due engine s.horizon (part_of engine o p m.sites)) ≡ b → not b ≡ true) [
          | true ↦ λ e. absurd (true≢false (sym (one_due_is basics s done g st p e) ∙ ap is_some none))
          | false ↦ λ e. refl
        ] refl) 0 g.layout.parts

    parts_over : list_all is_over g.parts ≡ not (is_some (next_due engine s.horizon m.sites))
    parts_over =
        elim (next_due engine s.horizon m.sites) as (λ d. next_due engine s.horizon m.sites ≡ d → list_all is_over g.parts ≡ not (is_some d)) [
          | None ↦ λ e. all_over e
          | Some k ↦ λ e.
              elim (list_all is_over g.parts) as (λ b. list_all is_over g.parts ≡ b → b ≡ false) [
                | false ↦ λ f. refl
                | true ↦ λ f. absurd (true≢false (ap is_some (sym e ∙ none_due_is basics s done g st (λ p l. part_over p l f))))
              ] refl
        ] refl

    -- whether nothing is left
    pub finished_is : is_finished_in engine g ≡ is_finished engine s.horizon (machine_at engine g s done)
    finished_is =
        ap (λ h. list_all (λ part. not (is_some (due_by h (due_in engine part)))) g.parts && list_all (λ x. not (nat_le (arrival engine x) h)) g.waiting) st.horizon
        ∙ ap (λ xs. list_all is_over g.parts && list_all (λ x. not (nat_le (arrival engine x) s.horizon)) xs) st.shows.waiting
        ∙ ap (λ b. b && list_all (λ x. not (nat_le (arrival engine x) s.horizon)) m.waiting) parts_over

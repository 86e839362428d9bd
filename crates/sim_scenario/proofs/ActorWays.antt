-- The ways of actors, one after another.
use Rattle.std.proofs.Common.{List, None, Some, [], ap, arith, drop, flat_map, get_or, length, nat_lt, refl, sym, ℕ, ◌++◌, ◌+◌, ◌∙◌, ◌∷◌, ◌≡◌, ◌≤◌}
use Rattle.std.proofs.lemmas.Bool.Decides.{nat_tests}
use Rattle.std.proofs.lemmas.List.{drop_all, drop_more}
use Rattle.std.proofs.lemmas.Option.{get_or_from_slice_get, slice_get-get_or, slice_get_within}
use Rattle.std.specs.List.{enumerate_from, slice_get}
use Rattle.sim_engine.specs.declared.edge.Edge.{Edge}
use Rattle.sqs_model.proofs.Branches.{by_cases}
use Rattle.sqs_model.specs.declared.agents.ActorSettings.{ActorSettings}
use Rattle.sqs_redrive.specs.declared.settings.QueueSettings.{QueueSettings}
use Rattle.sqs_redrive.specs.declared.settings.TaskSettings.{TaskSettings}
use Rattle.sqs_model.specs.Scenario.{Scenario, policy_edges, role_edges}
use Rattle.sim_scenario.specs.Ways.{forwards_from, moves_from, ways_from}

-- what is left of a list from an index on, at which there is something or nothing
some_left : {X : Type 0} (xs : List X) (i : ℕ) (x : X) → slice_get xs i ≡ Some x → drop i xs ≡ x ∷ drop (i + 1) xs
some_left xs i x is = drop_more xs i x (slice_get_within xs i x is) ∙ ap (λ y. y ∷ drop (i + 1) xs) (get_or_from_slice_get xs i x x is)

none_left : (xs : List Edge) (i : ℕ) (d : Edge) → slice_get xs i ≡ None → drop i xs ≡ []
none_left xs i d is =
    by_cases (nat_lt i (length xs)) (λ e. let some : slice_get xs i ≡ Some (get_or xs i d) = slice_get-get_or xs i d (grind (arith, nat_tests)) in absurd cc)
    (λ e. drop_all i xs (grind (arith, nat_tests)))

-- none was before
none_before : (actors : List ActorSettings) → forwards_from 0 actors ≡ flat_map (λ a. role_edges a.home a.role) actors
none_before [] = refl
none_before (a ∷ others) = refl

-- one way more of the first actor, and none
way_next :
    (before : ℕ) (a : ActorSettings) (others : List ActorSettings) (way : Edge) → slice_get (role_edges a.home a.role) before ≡ Some way
    → forwards_from before (a ∷ others) ≡ way ∷ forwards_from (before + 1) (a ∷ others)
way_next before a others way is = ap (λ es. es ++ flat_map (λ b. role_edges b.home b.role) others) (some_left (role_edges a.home a.role) before way is)

actor_done :
    (before : ℕ) (a : ActorSettings) (others : List ActorSettings) → slice_get (role_edges a.home a.role) before ≡ None
    → forwards_from before (a ∷ others) ≡ forwards_from 0 others
actor_done before a others is =
    ap (λ es. es ++ flat_map (λ b. role_edges b.home b.role) others) (none_left (role_edges a.home a.role) before (record { from = 0; to = 0; least = 0 }) is) ∙ sym (none_before others)

-- the ways that are left when those of the queues were before
module _ (s : Scenario) (queue : ℕ) (past : length s.queues ≤ queue) (tasks : List TaskSettings) (source : ℕ) where
  no_queues : flat_map (λ (x : ℕ × QueueSettings). policy_edges x.0 x.1.policy) (enumerate_from queue (drop queue s.queues)) ≡ []
  no_queues = ap (λ (qs : List QueueSettings). flat_map (λ (x : ℕ × QueueSettings). policy_edges x.0 x.1.policy) (enumerate_from queue qs)) (drop_all queue s.queues past)

  abbrev left : ℕ → List ActorSettings → List Edge
  left before actors = ways_from s queue actors before tasks source

  pub left_next :
      (before : ℕ) (a : ActorSettings) (actors others : List ActorSettings) (way : Edge) → actors ≡ a ∷ others → slice_get (role_edges a.home a.role) before ≡ Some way
      → left before actors ≡ way ∷ left (before + 1) actors
  left_next before a actors others way is there =
      let next : forwards_from before actors ≡ way ∷ forwards_from (before + 1) actors =
      ap (forwards_from before) is ∙ way_next before a others way there ∙ ap (λ xs. way ∷ forwards_from (before + 1) xs) (sym is) in
      ap (λ p. (p ++ forwards_from before actors) ++ moves_from s source tasks) no_queues
      ∙ ap (λ fs. fs ++ moves_from s source tasks) next
      ∙ ap (λ p. way ∷ ((p ++ forwards_from (before + 1) actors) ++ moves_from s source tasks)) (sym no_queues)

  pub left_done :
      (before : ℕ) (a : ActorSettings) (actors others : List ActorSettings) → actors ≡ a ∷ others → slice_get (role_edges a.home a.role) before ≡ None
      → left 0 others ≡ left before actors
  left_done before a actors others is none =
      let done : forwards_from before actors ≡ forwards_from 0 others = ap (forwards_from before) is ∙ actor_done before a others none in
      ap (λ fs. flat_map (λ (x : ℕ × QueueSettings). policy_edges x.0 x.1.policy) (enumerate_from queue (drop queue s.queues)) ++ fs ++ moves_from s source tasks) (sym done)

-- The ways of a scenario that are still to come.
use Rattle.std.specs.List.{enumerate_from}
use Rattle.std.specs.Prelude.{List, None, Option, Some, [], drop, filter, flat_map, map, ℕ, ◌++◌, ◌∷◌}
use Rattle.sqs_model.specs.declared.agents.ActorSettings.{ActorSettings}
use Rattle.sqs_redrive.specs.declared.settings.TaskSettings.{TaskSettings}
use Rattle.sqs_model.specs.Scenario.{Scenario, edge, leads_to, policy_edges, role_edges, task_edges}
use Rattle.sim_engine.specs.declared.edge.Edge.{Edge}

-- the queues from this number on to which a task may move messages
abbrev pub goals_from : Scenario → ℕ → ℕ → Option ℕ → List ℕ
goals_from s source home (Some to) = to ∷ []
goals_from s source home None = map (λ x. x.0) (filter (λ x. leads_to home x.1.policy) (enumerate_from source (drop source s.queues)))

-- the ways of some tasks, where those of the first lead to queues from this number on
abbrev pub moves_from : Scenario → ℕ → List TaskSettings → List Edge
moves_from s source [] = []
moves_from s source (t ∷ ts) = map (λ to. edge t.home to t.latency) (goals_from s source t.home t.to) ++ flat_map (task_edges s) ts

-- the ways of some actors, of which so many of the first were before
abbrev pub forwards_from : ℕ → List ActorSettings → List Edge
forwards_from before [] = []
forwards_from before (a ∷ others) = drop before (role_edges a.home a.role) ++ flat_map (λ b. role_edges b.home b.role) others

-- the ways of the queues from this number on, of these actors and of these tasks
abbrev pub ways_from : Scenario → ℕ → List ActorSettings → ℕ → List TaskSettings → ℕ → List Edge
ways_from s queue actors before tasks source =
    flat_map (λ x. policy_edges x.0 x.1.policy) (enumerate_from queue (drop queue s.queues))
    ++ forwards_from before actors
    ++ moves_from s source tasks

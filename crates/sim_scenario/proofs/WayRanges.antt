-- The ways of a scenario in range take 1 ms to 15 minutes at least.
use Rattle.std.specs.Prelude.{flat_map}
use Rattle.std.specs.List.{enumerate_from}
use Rattle.std.proofs.Common.{ℕ, ◌≤◌, ◌++◌, All, List, [], ◌∷◌, map, Option, Some, None, arith}
use Rattle.std.proofs.lemmas.List.Elements.{All-append, All-cons, All-head, All-nil, All-tail, All-weaker}
use Rattle.sqs_model.specs.declared.agents.ActorSettings.{ActorSettings}
use Rattle.sqs_model.specs.declared.agents.Forwarding.{Forwarding}
use Rattle.sqs_model.specs.declared.agents.Role.{Role}
use Rattle.sqs_model.specs.declared.agents.Role.TheVariants.{Consumer, Producer, Scaler, Script}
use Rattle.sqs_model.specs.Scenario.{Scenario, edge, edges, forward_edges, policy_edges, role_edges, task_edges, task_goals}
use Rattle.sqs_model.specs.Valid.{Between, IsLatency, IsQueueSettings, IsTaskSettings, MayBeForward, MayBePolicy}
use Rattle.sqs_model.proofs.Opening.{all_enumerated}
use Rattle.sim_engine.specs.declared.edge.Edge.{Edge}
use Rattle.sqs_redrive.specs.declared.settings.Latency.{Latency}
use Rattle.sqs_redrive.specs.declared.settings.Policy.{Policy}
use Rattle.sqs_redrive.specs.declared.settings.QueueSettings.{QueueSettings}
use Rattle.sim_scenario.specs.Ranges.{IsInRange, IsRoleInRange}

abbrev IsEdge : Edge → Type 0
IsEdge e = Between 1 900000 e.least

-- what holds of all that is made of each holds of it all
all_flat : {X : Type 0} (P : Edge → Type 0) (f : X → List Edge) (xs : List X) → All (λ x. All P (f x)) xs → All P (flat_map f xs)
all_flat P f [] h = All-nil P
all_flat P f (x ∷ xs) h = All-append P (f x) (flat_map f xs) (All-head (λ x. All P (f x)) x xs h) (all_flat P f xs (All-tail (λ x. All P (f x)) x xs h))

edge_range : (from to : ℕ) (l : Latency) → IsLatency l → IsEdge (edge from to l)
edge_range from to l h = (h.least, omega (arith, h.ordered, h.greatest))

one_range : (from to : ℕ) (l : Latency) → IsLatency l → All IsEdge (edge from to l ∷ [])
one_range from to l h = All-cons IsEdge (edge from to l) [] (edge_range from to l h) (All-nil IsEdge)

policy_range : (n : ℕ) (p : Option Policy) → MayBePolicy p → All IsEdge (policy_edges n p)
policy_range n None h = All-nil IsEdge
policy_range n (Some p) h = one_range n p.dead_letter p.latency h.latency

goals_range : (from : ℕ) (l : Latency) (goals : List ℕ) → IsLatency l → All IsEdge (map (λ to. edge from to l) goals)
goals_range from l [] h = All-nil IsEdge
goals_range from l (to ∷ goals) h = All-cons IsEdge (edge from to l) (map (λ to. edge from to l) goals) (edge_range from to l h) (goals_range from l goals h)

forward_range : (n : ℕ) (f : Option Forwarding) → MayBeForward f → All IsEdge (forward_edges n f)
forward_range n None h = All-nil IsEdge
forward_range n (Some f) h = goals_range n f.latency f.to h.latency

role_range : (n : ℕ) (r : Role) → IsRoleInRange r → All IsEdge (role_edges n r)
role_range n (Script calls) h = All-nil IsEdge
role_range n (Producer p) h = All-nil IsEdge
role_range n (Consumer c) h = forward_range n c.forward h.forward
role_range n (Scaler s) h = All-nil IsEdge

pub ways_in_range : (s : Scenario) → IsInRange s → All (λ e. (1 ≤ e.least) × (e.least ≤ 900000)) (edges s)
ways_in_range s h =
    let queue = λ (x : ℕ × QueueSettings). policy_edges x.0 x.1.policy in
    let actor = λ (a : ActorSettings). role_edges a.home a.role in
    let queues = all_flat IsEdge queue (enumerate_from 0 s.queues)
    (All-weaker (λ (x : ℕ × QueueSettings). IsQueueSettings x.1) (λ x. All IsEdge (queue x)) (λ x q. policy_range x.0 x.1.policy q.policy) (enumerate_from 0 s.queues) (all_enumerated IsQueueSettings 0 s.queues h.queues)) in
    let actors = all_flat IsEdge actor s.actors (All-weaker (λ (a : ActorSettings). IsRoleInRange a.role) (λ a. All IsEdge (actor a)) (λ a r. role_range a.home a.role r) s.actors h.actors) in
    let tasks = all_flat IsEdge (task_edges s) s.tasks (All-weaker IsTaskSettings (λ t. All IsEdge (task_edges s t)) (λ t k. goals_range t.home t.latency (task_goals s t t.to) k.latency) s.tasks h.tasks) in
    All-append IsEdge (flat_map queue (enumerate_from 0 s.queues) ++ flat_map actor s.actors) (flat_map (task_edges s) s.tasks)
    (All-append IsEdge (flat_map queue (enumerate_from 0 s.queues)) (flat_map actor s.actors) queues actors) tasks

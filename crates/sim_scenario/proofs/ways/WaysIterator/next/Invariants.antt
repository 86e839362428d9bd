use Rattle.std.proofs.Common.{◌≡◌, ◌≤◌, ◌-◌, None, [], ◌∷◌, length}
use Rattle.sim_scenario.specs.Ways.{ways_from}
use Rattle.sim_scenario.proofs.ways.WaysIterator.next.Given as goal

-- the ways that are left are those that were left, and each part is done before the next begins
abbrev pub invariant-loop-queue : goal.invariant-loop-queue
invariant-loop-queue l = let w = l.self-inside in ways_from w.scenario.now w.queue w.actors.now w.forward w.tasks.now w.source ≡ l.fn.self

abbrev pub decreases-loop-queue : goal.decreases-loop-queue
decreases-loop-queue l = length l.self-inside.scenario.now.queues - l.self-inside.queue

abbrev pub invariant-loop-actor : goal.invariant-loop-actor
invariant-loop-actor l =
    let w = l.self-inside in
    (ways_from w.scenario.now w.queue w.actors.now w.forward w.tasks.now w.source ≡ l.fn.self) × (length w.scenario.now.queues ≤ w.queue)

abbrev pub decreases-loop-actor : goal.decreases-loop-actor
decreases-loop-actor l = length l.self-inside.actors.now

abbrev pub invariant-loop-task : goal.invariant-loop-task
invariant-loop-task l =
    let w = l.self-inside in
    (ways_from w.scenario.now w.queue w.actors.now w.forward w.tasks.now w.source ≡ l.fn.self) × (length w.scenario.now.queues ≤ w.queue) × (w.actors.now ≡ [])

abbrev pub decreases-loop-task : goal.decreases-loop-task
decreases-loop-task l = length l.self-inside.tasks.now

abbrev pub invariant-loop-queue-2 : goal.invariant-loop-queue-2
invariant-loop-queue-2 l =
    let w = l.self-inside in
    (ways_from w.scenario.now w.queue w.actors.now w.forward w.tasks.now w.source ≡ l.fn.self) × (length w.scenario.now.queues ≤ w.queue) × (w.actors.now ≡ []) × (w.tasks.now ≡ l.task ∷ l.others) × (l.task.to ≡ None)

abbrev pub decreases-loop-queue-2 : goal.decreases-loop-queue-2
decreases-loop-queue-2 l = length l.self-inside.scenario.now.queues - l.self-inside.source

use Rattle.std.proofs.Common.{◌≡◌, ◌++◌, All, drop, length, map}
use Rattle.std.specs.List.{enumerate_from}
use Rattle.sqs_model.specs.Scenario.{Scenario, numbered_actors, numbered_tasks, opening, opening_site}
use Rattle.sqs_rehearsal.specs.Homes.{AtHome, IsFit, IsSettled, actors_in, tasks_in}
use Rattle.sqs_rehearsal.proofs.opening.open_sites.Given as goal

-- the sites of the homes so far, and the homes to come
abbrev pub invariant-loop-home : goal.invariant-loop-home
invariant-loop-home l = record {
  number : l.number ≡ length l.yielded;
  rest : l.yielded ++ l.home-iterator.rest.items ≡ l.fn.homes.items;
  fit : All IsFit l.home-iterator.rest.items;
  actors : (s : Scenario) → IsSettled l.fn.homes.items (numbered_actors s) (numbered_tasks s) → AtHome (λ a. a.home) l.number (map actors_in l.home-iterator.rest.items) (numbered_actors s);
  tasks : (s : Scenario) → IsSettled l.fn.homes.items (numbered_actors s) (numbered_tasks s) → AtHome (λ t. t.home) l.number (map tasks_in l.home-iterator.rest.items) (numbered_tasks s);
  opened : (s : Scenario) → s.seed ≡ l.seed → s.sample ≡ l.sample → s.queues ≡ l.queues → IsSettled l.fn.homes.items (numbered_actors s) (numbered_tasks s)
      → l.sites.items ++ (map (opening_site s) (enumerate_from l.number (drop l.number l.queues))) ≡ opening s;
}

use Rattle.std.proofs.Common.{◌≡◌, ◌++◌, Ok, map}
use Rattle.sqs_formats.specs.Actors.{role as the_role}
use Rattle.sqs_model.specs.declared.agents.Role.{Role}
use Rattle.sim_scenario.specs.Sections.{table_of}
use Rattle.sim_scenario.proofs.actors.Actors.copied.Given as goal

-- the agents so far, with those whose names are left, are all
abbrev pub invariant-loop-name : goal.invariant-loop-name
invariant-loop-name l =
    (r : Role) → the_role l.kind l.self.scripts.now l.self.outline.now l.home l.index (table_of l.section) ≡ Ok r
    → map (λ n. (n, record { home = l.home; role = r })) l.fn.names.items ≡ l.agents.items ++ map (λ n. (n, record { home = l.home; role = r })) l.name-iterator.rest.items

use Rattle.std.proofs.Common.{map, take, ◌≡◌, ◌≤◌}
use Rattle.sqs_model.specs.Answers.{most_count}
use Rattle.sqs_model.specs.Counts.{actor_count, greatest}
use Rattle.sim_site.proofs.actors.greatest_of.Given as goal

-- the greatest count of those so far
abbrev pub invariant-loop-actor : goal.invariant-loop-actor
invariant-loop-actor l = record { most : l.most ≡ greatest (map actor_count (take l.actor-index l.actors)); limit : l.most ≤ most_count }

use Rattle.std.proofs.Common.{take, ◌≡◌, ◌≤◌}
use Rattle.sqs_model.specs.Answers.{most_count}
use Rattle.sqs_model.specs.Limits.{sites_count}
use Rattle.sqs_rehearsal.proofs.limited.greatest_of.Given as goal

-- the greatest count of those so far
abbrev pub invariant-loop-site : goal.invariant-loop-site
invariant-loop-site l = record { most : l.most ≡ sites_count (take l.site-index l.sites); limit : l.most ≤ most_count }

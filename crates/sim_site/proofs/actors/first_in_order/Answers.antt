use Rattle.std.proofs.Common.{ap, arith, get_or, length, rules, ◌<◌, ◌∙◌, ◌≡◌, ◌≢◌, ◌≤◌}
use Rattle.std.proofs.Math.Dec.{ltb}
use Rattle.std.proofs.lemmas.List.{get_or_default}
use Rattle.std.proofs.lemmas.List.Sorted.{IsPartitionPoint-from_clause, IsPartitionedBy-ltb}
use Rattle.sqs_model.specs.Actor.{Actor}
use Rattle.sim_site.proofs.Ordered.{number_nowhere, number_there}
use Rattle.sim_site.proofs.actors.first_in_order.Goals as goal

pub returns-in_err-actor : goal.returns-in_err-actor
returns-in_err-actor c =
    let xs = c.args.actors.now in
    let past : length xs ≤ c.partition_point-place.result = search rules in
    let parted = IsPartitionedBy-ltb (λ (a : Actor). a.number) xs c.args.number c.requires in
    let point = IsPartitionPoint-from_clause (λ (a : Actor). ltb a.number c.args.number) _ _ c.partition_point-place.ensures.partitioned parted (λ a r q k. search rules) in
    c.from_residual.ensures ∙ number_nowhere c.args.number xs c.partition_point-place.result c.requires point (λ d l. absurd (omega (arith, l, past)))

pub returns-then-number : goal.returns-then-number
returns-then-number c =
    let xs = c.args.actors.now in
    let within : c.partition_point-place.result < length xs = search rules in
    let here : c.in_ok-actor.actor.now.number ≡ c.args.number = search rules in
    let parted = IsPartitionedBy-ltb (λ (a : Actor). a.number) xs c.args.number c.requires in
    let point = IsPartitionPoint-from_clause (λ (a : Actor). ltb a.number c.args.number) _ _ c.partition_point-place.ensures.partitioned parted (λ a r q k. search rules) in
    let same : c.in_ok-actor.actor.now ≡ get_or xs c.partition_point-place.result c.in_ok-actor.actor.now = search rules in
    number_there c.args.number xs c.partition_point-place.result c.in_ok-actor.actor.now within point same here

pub returns-else-number : goal.returns-else-number
returns-else-number c =
    let xs = c.args.actors.now in
    let place = c.partition_point-place.result in
    let other : c.in_ok-actor.actor.now.number ≢ c.args.number = search rules in
    let parted = IsPartitionedBy-ltb (λ (a : Actor). a.number) xs c.args.number c.requires in
    let point = IsPartitionPoint-from_clause (λ (a : Actor). ltb a.number c.args.number) _ _ c.partition_point-place.ensures.partitioned parted (λ a r q k. search rules) in
    let same : c.in_ok-actor.actor.now ≡ get_or xs place c.in_ok-actor.actor.now = search rules in
    number_nowhere c.args.number xs place c.requires point
    (λ d l e. other (ap (λ (a : Actor). a.number) (same ∙ get_or_default xs place c.in_ok-actor.actor.now d l) ∙ e))

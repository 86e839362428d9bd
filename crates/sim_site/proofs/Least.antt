-- The least of what is due at a site.
use Rattle.std.proofs.Common.{flat_map, map, ◌≡◌, List, [], ◌++◌, ap, append-nil, sym, ◌∙◌}
use Rattle.sim_clock.specs.declared.key.Key.{Key}
use Rattle.sim_clock.specs.Order.{least, lesser}
use Rattle.sim_index.proofs.Kept.{least_append}
use Rattle.sqs_model.specs.Dues.{actor_dues, core_dues, poll_key, queue_dues, sample_dues, task_dues}
use Rattle.sqs_model.specs.Site.{Core}
use Rattle.sqs_redrive.specs.declared.transfers.Outbound.{Outbound}
use Rattle.sqs_redrive.specs.Transfers.{transfer_key}
use Rattle.sqs_model.specs.Dues.{dues, least_due}

-- what is due at a site but for arrivals, part by part
pub core_least :
    (c : Core)
    → lesser (lesser (lesser (lesser (least (queue_dues c.queue)) (least (map poll_key c.polls))) (least (flat_map actor_dues c.actors))) (least (sample_dues c))) (least (flat_map task_dues c.tasks))
    ≡ least (core_dues c)
unfolding core_dues
core_least c =
    let samples : List Key = sample_dues c in
    let steps : List Key = flat_map task_dues c.tasks in
    let wakes : List Key = flat_map actor_dues c.actors in
    let ends : List Key = map poll_key c.polls in
    let messages : List Key = queue_dues c.queue in
    let a : least (messages ++ ends) ≡ lesser (least messages) (least ends) = least_append messages ends in
    let b : least (messages ++ ends ++ wakes) ≡ lesser (least (messages ++ ends)) (least wakes) = least_append (messages ++ ends) wakes in
    let d : least (messages ++ ends ++ wakes ++ samples) ≡ lesser (least (messages ++ ends ++ wakes)) (least samples) = least_append (messages ++ ends ++ wakes) samples in
    let e : least (messages ++ ends ++ wakes ++ samples ++ steps) ≡ lesser (least (messages ++ ends ++ wakes ++ samples)) (least steps) = least_append (messages ++ ends ++ wakes ++ samples) steps in
    sym (e ∙ ap (λ k. lesser k (least steps)) (d ∙ ap (λ k. lesser k (least samples)) (b ∙ ap (λ k. lesser k (least wakes)) a)))

-- the same, where no samples are taken and there are no tasks
pub bare_least :
    (c : Core) → c.sample ≡ 0 → c.tasks ≡ []
    → lesser (lesser (least (queue_dues c.queue)) (least (map poll_key c.polls))) (least (flat_map actor_dues c.actors)) ≡ least (core_dues c)
unfolding core_dues
bare_least c sample tasks =
    let wakes : List Key = flat_map actor_dues c.actors in
    let ends : List Key = map poll_key c.polls in
    let messages : List Key = queue_dues c.queue in
    let a : least (messages ++ ends) ≡ lesser (least messages) (least ends) = least_append messages ends in
    let b : least (messages ++ ends ++ wakes) ≡ lesser (least (messages ++ ends)) (least wakes) = least_append (messages ++ ends) wakes in
    let none : messages ++ ends ++ wakes ++ sample_dues c ++ flat_map task_dues c.tasks ≡ messages ++ ends ++ wakes = rw (sample, tasks) (append-nil (messages ++ ends ++ wakes ++ []) ∙ append-nil (messages ++ ends ++ wakes)) in
    sym (ap least none ∙ b ∙ ap (λ k. lesser k (least wakes)) a)

-- what is due at a site, arrivals and the rest
pub due_parts : (c : Core) (arriving : List Outbound) → lesser (least (map transfer_key arriving)) (least (core_dues c)) ≡ least_due (record { core = c; arriving = arriving })
unfolding dues
due_parts c arriving = sym (least_append (map transfer_key arriving) (core_dues c))

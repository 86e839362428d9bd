use Rattle.std.proofs.Common.{map, ◌∙◌, ap, codes}
use Rattle.std.proofs.lemmas.List.{append-nil}
use Rattle.sqs_formats.specs.Actors.{forward_keys, is_once, is_whole, jitter_keys, scaling_keys, service_keys, serving_keys}
use Rattle.sqs_formats.specs.Keys.{has}
use Rattle.sim_scenario.proofs.consumers.known_consumer_keys.Goals as goal

pub returns : goal.returns
returns c =
    let new = c.newer-newer.ensures in
    let service = c.service_keys-service.ensures ∙ ap service_keys (c.has.ensures ∙ ap (λ t. has t (codes "service")) new) in
    let forward = c.forward_keys-forward.ensures ∙ ap (forward_keys c.args.version) c.has-2.ensures in
    let serving = c.serving_keys-serving.ensures ∙ ap (serving_keys c.args.version) (c.has-3.ensures ∙ ap (λ t. has t (codes "batch_service")) new) in
    let fail_service = rw (c.says-once.ensures ∙ ap is_once new, c.says.ensures ∙ ap is_whole new) at c.fail_service_keys-fail_service.ensures in
    let outages = rw ((c.has-4.ensures ∙ ap (λ t. has t (codes "fails_between_ms")) new), (c.has-5.ensures ∙ ap (λ t. has t (codes "fails_from_ms")) new)) at c.outage_keys-outages.ensures in
    let jitter = c.jitter_keys-jitter.ensures ∙ ap jitter_keys (c.has-6.ensures ∙ ap (λ t. has t (codes "backoff_s")) new) in
    let scaling = append-nil (map (λ k. k.now) c.scaling_keys-scaling.result.now) ∙ c.scaling_keys-scaling.ensures ∙ ap scaling_keys (c.has-7.ensures ∙ ap (λ t. has t (codes "scaler")) new) in
    rw (service, forward, c.newer_consumer_keys.ensures, serving, fail_service, outages, jitter, scaling) at c.only.ensures

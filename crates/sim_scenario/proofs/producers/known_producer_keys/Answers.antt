use Rattle.std.proofs.Common.{◌∙◌, ap, append-nil, codes, map}
use Rattle.sqs_formats.specs.Actors.{gap_keys, sending_keys}
use Rattle.sqs_formats.specs.Keys.{has}
use Rattle.sim_scenario.proofs.producers.known_producer_keys.Goals as goal

pub returns : goal.returns
returns c =
    let gap = c.gap_keys-gap.ensures ∙ ap gap_keys (c.has.ensures ∙ ap (λ t. has t (codes "gap")) c.newer-newer.ensures) in
    let own = c.sending_keys-own.ensures ∙ ap (sending_keys c.args.is_fifo) (c.has-2.ensures ∙ ap (λ t. has t (codes "key_groups")) c.newer-newer.ensures) in
    let newer_keys = append-nil (map (λ k. k.now) c.newer_producer_keys-newer_keys.result.now) ∙ c.newer_producer_keys-newer_keys.ensures in
    rw (gap, own, newer_keys) at c.only.ensures

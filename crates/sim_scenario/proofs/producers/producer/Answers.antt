use Rattle.std.proofs.Common.{◌∙◌, ap, codes, refl}
use Rattle.sqs_formats.specs.Keys.{has}
use Rattle.sqs_formats.specs.Reading.{and_then}
use Rattle.sim_scenario.proofs.Exits.{past, way_out}
use Rattle.sim_scenario.proofs.ListItems.{fails_first}
use Rattle.sim_scenario.proofs.producers.producer.Goals as goal

pub returns-in_err-known_producer_keys : goal.returns-in_err-known_producer_keys
returns-in_err-known_producer_keys c = way_out _ _ _ _ c.from_residual.ensures.1 (fails_first _ _ _ c.in_err-known_producer_keys.ensures)

pub returns-in_err-count : goal.returns-in_err-count
returns-in_err-count c = way_out _ _ _ _ c.from_residual-in_err-count.ensures.1 (past _ _ c.in_ok-known_producer_keys.ensures (fails_first _ _ _ c.in_err-count.ensures))

pub returns-in_err-start : goal.returns-in_err-start
returns-in_err-start c = way_out _ _ _ _ c.from_residual-in_err-start.ensures.1 (past _ _ c.in_ok-known_producer_keys.ensures (past _ _ c.in_ok-count.ensures (fails_first _ _ _ c.in_err-start.ensures)))

pub returns-in_err-gap : goal.returns-in_err-gap
returns-in_err-gap c = way_out _ _ _ _ c.from_residual-in_err-gap.ensures.1 (past _ _ c.in_ok-known_producer_keys.ensures (past _ _ c.in_ok-count.ensures (past _ _ c.in_ok-start.ensures (fails_first _ _ _ c.in_err-gap.ensures))))

pub returns-in_err-body : goal.returns-in_err-body
returns-in_err-body c = way_out _ _ _ _ c.from_residual-in_err-body.ensures.1 (past _ _ c.in_ok-known_producer_keys.ensures (past _ _ c.in_ok-count.ensures (past _ _ c.in_ok-start.ensures (past _ _ c.in_ok-gap.ensures (fails_first _ _ _ c.in_err-body.ensures)))))

pub returns-in_err-groups : goal.returns-in_err-groups
returns-in_err-groups c = way_out _ _ _ _ c.from_residual-in_err-groups.ensures.1 (past _ _ c.in_ok-known_producer_keys.ensures (past _ _ c.in_ok-count.ensures (past _ _ c.in_ok-start.ensures (past _ _ c.in_ok-gap.ensures (past _ _ c.in_ok-body.ensures (fails_first _ _ _ (rw (c.has.ensures ∙ ap (λ t. has t (codes "key_groups")) c.newer-newer.ensures) at c.in_err-groups.ensures)))))))

pub returns-in_err-stop : goal.returns-in_err-stop
returns-in_err-stop c = way_out _ _ _ _ c.from_residual-in_err-stop.ensures.1 (past _ _ c.in_ok-known_producer_keys.ensures (past _ _ c.in_ok-count.ensures (past _ _ c.in_ok-start.ensures (past _ _ c.in_ok-gap.ensures (past _ _ c.in_ok-body.ensures (past _ _ (rw (c.has.ensures ∙ ap (λ t. has t (codes "key_groups")) c.newer-newer.ensures) at c.in_ok-groups.ensures) (fails_first _ _ _ (rw c.newer-newer.ensures at c.in_err-stop.ensures))))))))

pub returns : goal.returns
unfolding and_then
returns c = rw (c.in_ok-known_producer_keys.ensures, c.in_ok-count.ensures, c.in_ok-start.ensures, c.in_ok-gap.ensures, c.in_ok-body.ensures, (rw (c.has.ensures ∙ ap (λ t. has t (codes "key_groups")) c.newer-newer.ensures) at c.in_ok-groups.ensures), (rw c.newer-newer.ensures at c.in_ok-stop.ensures)) refl

use Rattle.std.proofs.Common.{ap, sym, ◌∙◌}
use Rattle.std.specs.Ordering.{is_lt}
use Rattle.sim_clock.specs.Order.{key_cmp}
use Rattle.sqs_redrive.specs.Transfers.{transfer_key}
use Rattle.sim_site.proofs.Rings.{among_others, behind_last, last_before, others_in_order}
use Rattle.sim_site.proofs.arrivals.insert_into_full.Goals as goal

pub put_first-requires : goal.put_first-requires
put_first-requires c =
    last_before c.pop_back.new.self.items c.args.soon.now.items c.args.later.now c.in-Some.last (sym c.in_ok-reserve.ensures.items ∙ c.in-Some.ensures.items) c.requires.order

pub insert_soon-requires-in-Ok : goal.insert_soon-requires-in-Ok
insert_soon-requires-in-Ok c =
    others_in_order c.pop_back.new.self.items c.args.soon.now.items c.args.later.now c.in-Some.last (sym c.in_ok-reserve.ensures.items ∙ c.in-Some.ensures.items) c.requires.order

pub returns-in-Ok-clause-added : goal.returns-in-Ok-clause-added
returns-in-Ok-clause-added c =
    among_others c.pop_back.new.self.items c.args.soon.now.items c.args.later.now c.in-Some.last (sym c.in_ok-reserve.ensures.items ∙ c.in-Some.ensures.items) c.requires.order c.insert_soon-in-Ok.result c.args.transfer _ _
    (ap (λ k. is_lt (key_cmp k (transfer_key c.in-Some.last))) (sym c.key.ensures) ∙ ap (λ k. is_lt (key_cmp c.key.result k)) (sym c.key-2.ensures) ∙ sym c.is_before.ensures ∙ c.if-is_before.true) c.in-Ok.ensures.added c.insert_soon-in-Ok.ensures.added

pub returns-else-is_before-clause-added : goal.returns-else-is_before-clause-added
returns-else-is_before-clause-added c =
    behind_last c.pop_back.new.self.items c.args.soon.now.items c.args.later.now c.in-Some.last (sym c.in_ok-reserve.ensures.items ∙ c.in-Some.ensures.items) c.requires.order c.insert.result c.args.transfer _ _
    (ap (λ k. is_lt (key_cmp k (transfer_key c.in-Some.last))) (sym c.key.ensures) ∙ ap (λ k. is_lt (key_cmp c.key.result k)) (sym c.key-2.ensures) ∙ sym c.is_before.ensures ∙ c.if-is_before.false) c.push_back_reserved-else-is_before.ensures.items c.insert.ensures.added

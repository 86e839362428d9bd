use Rattle.std.proofs.Common.{ap, arith, length, take, ◌+◌, ◌-◌, ◌≡◌, ◌∙◌}
use Rattle.std.specs.List.{sum}
use Rattle.std.proofs.lemmas.List.{length-take-le}
use Rattle.sqs_formats.specs.Outline.{Outline, actor_place}
use Rattle.sim_scenario.proofs.Copying.{all_taken, before_read, first_total, past_read}
use Rattle.sim_scenario.proofs.outline.Outline.actor_place.Goals as goal

pub overflow_add-result-in-Some : goal.overflow_add-result-in-Some
overflow_add-result-in-Some c =
    let o = c.self.inside in
    let before = before_read o.copies.items o.earlier_copies.items c.deref.result.now c.args.index c.in-Some.before.now c.self.invariant.before c.deref.ensures.value (c.in-Some.ensures.lookup.0, c.in-Some.ensures.lookup.1) in
    omega (arith, before, first_total o.copies.items c.args.index, c.requires, c.self.invariant.counted.place, c.self.invariant.counted.within, c.self.invariant.counted.few)

pub overflow_sub-result : goal.overflow_sub-result
overflow_sub-result c =
    let o = c.self.inside in
    omega (arith, c.len.ensures, past_read o.copies.items o.earlier_copies.items c.deref.result.now c.args.index c.self.invariant.before c.deref.ensures.value c.in-None.ensures.lookup.3)

pub returns-in-Some : goal.returns-in-Some
returns-in-Some c =
    let o = c.self.inside in
    let before = before_read o.copies.items o.earlier_copies.items c.deref.result.now c.args.index c.in-Some.before.now c.self.invariant.before c.deref.ensures.value (c.in-Some.ensures.lookup.0, c.in-Some.ensures.lookup.1) in
    let queues : length (take o.queue_count o.names) ≡ o.queue_count = length-take-le o.queue_count o.names (omega (arith, c.self.invariant.counted.place, c.self.invariant.counted.within)) in
    let here : o.queue_count + c.args.index + c.in-Some.before.now ≡ length (take o.queue_count o.names) + (c.args.index + sum (take c.args.index o.copies.items)) = omega (arith, before, queues) in
    here ∙ ap (λ (v : Outline). actor_place v c.args.index) c.self.view_is

pub returns-in-None : goal.returns-in-None
returns-in-None c =
    let o = c.self.inside in
    let past = past_read o.copies.items o.earlier_copies.items c.deref.result.now c.args.index c.self.invariant.before c.deref.ensures.value c.in-None.ensures.lookup.3 in
    let queues : length (take o.queue_count o.names) ≡ o.queue_count = length-take-le o.queue_count o.names (omega (arith, c.self.invariant.counted.place, c.self.invariant.counted.within)) in
    let here : o.first_task_place + (c.args.index - c.len.result) ≡ length (take o.queue_count o.names) + (c.args.index + sum (take c.args.index o.copies.items)) =
    omega (arith, past, queues, c.len.ensures, c.self.invariant.counted.place, all_taken o.copies.items c.args.index past) in
    here ∙ ap (λ (v : Outline). actor_place v c.args.index) c.self.view_is

use Rattle.std.proofs.Common.{◌≡◌, ◌<◌, ◌-◌, ◌∙◌, ap, arith, length, sym}
use Rattle.std.proofs.lemmas.List.{get_or_default, length-set, length-take}
use Rattle.sqs_redrive.specs.declared.answers.Got.{Got}
use Rattle.sqs_model.proofs.Placed.{rest_at}
use Rattle.sqs_queue.specs.Giving.{gives, with_left}
use Rattle.sqs_queue.proofs.Giving.{giving_more, leaves_at_once}
use Rattle.sqs_queue.proofs.queue.Queue.give_all.Goals as goal

pub loop-i-preserved : goal.loop-i-preserved
loop-i-preserved c =
    let so_far = c.loop-i.invariant in
    let gots = c.loop-i.batch.items in
    let read : Got = c.index.result.now in
    let written : Got = c.index_mut.result.now in
    let within : c.loop-i.i < length gots = omega (arith, c.loop-i-test.true, c.len-i-end.ensures, c.args.batch.now.ok.0, so_far.giving.length) in
    let same : read ≡ written = c.index.ensures ∙ get_or_default gots c.loop-i.i read written within ∙ sym c.index_mut.ensures.value in
    let given = ap (λ (g : Got). gives c.loop-i.self c.args.now c.args.timeout g.id.number) (sym same) ∙ c.give-left.ensures.given in
    record {
      giving = rw c.new.ensures (giving_more c.args.now c.args.timeout _ _ c.loop-i.i c.loop-i.self _ gots written _ within c.index_mut.ensures.value given so_far.giving);
      kept = c.give-left.ensures.kept ∙ so_far.kept;
      framed = record {
        site = c.give-left.ensures.framed.site ∙ so_far.framed.site;
        settings = c.give-left.ensures.framed.settings ∙ so_far.framed.settings;
      };
      slots = λ zero.
          let many = so_far.slots zero in
          let rest = ap length c.pop.ensures.rest ∙ length-take (c.loop-i.slots.len - 1) c.loop-i.slots.items in
          omega (arith, many, within, rest, c.loop-i.slots.ok.0, length-set gots c.loop-i.i (with_left written c.new.result));
    }

pub new-requires : goal.new-requires
new-requires c left =
    let zero = leaves_at_once c.loop-i.self c.give-left.new.self c.args.now c.args.timeout _ c.give-left.result c.give-left.ensures.given left in
    let many = c.loop-i.invariant.slots zero in
    c.pop.ensures.variant.1 (omega (arith, many, c.loop-i-test.true, c.len-i-end.ensures, c.args.batch.now.ok.0, c.loop-i.invariant.giving.length, c.loop-i.slots.ok.0))

pub give-left-requires-clause-counted : goal.give-left-requires-clause-counted
give-left-requires-clause-counted c =
    let so_far = c.loop-i.invariant in
    let read : Got = c.index.result.now in
    let within : c.loop-i.i < length c.loop-i.batch.items = omega (arith, c.loop-i-test.true, c.len-i-end.ensures, c.args.batch.now.ok.0, so_far.giving.length) in
    let counted = rw (rest_at c.loop-i.batch.items c.loop-i.i read within c.index.ensures) at so_far.giving.rest.counted in
    counted 0 read (omega arith)

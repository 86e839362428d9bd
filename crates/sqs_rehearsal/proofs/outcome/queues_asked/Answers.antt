use Rattle.std.proofs.Common.{◌≡◌, ◌+◌, ◌∙◌, [], List, ℕ, ap, arith, sym, get_or}
use Rattle.sqs_rehearsal.proofs.Asking.{asked-all, asked-at_end, asked-more}
use Rattle.sqs_rehearsal.proofs.outcome.queues_asked.Goals as goal

pub loop-place-preserved : goal.loop-place-preserved
loop-place-preserved c =
    let names = c.args.names.now in
    let settings = c.args.settings.now in
    let name : c.in_ok-name.name ≡ get_or names c.loop-place.place c.index-names-place.result = c.in_ok-name.ensures ∙ c.index-names-place.is in
    asked-at_end names settings c.loop-place.place c.index-names-place.result _ c.requires c.loop-place-test.true c.in_ok-name.name name c.loop-place.queues.items c.loop-place.invariant c.push.new.self.items c.in_ok-push.ensures.items

pub returns : goal.returns
returns c =
    c.loop-place.invariant
    ∙ asked-all c.args.names.now c.args.settings.now c.loop-place.place c.requires (omega (arith, c.loop-place-test.false, c.loop-place.auto.place-end))

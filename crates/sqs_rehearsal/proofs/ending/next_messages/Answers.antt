use Rattle.std.proofs.Common.{rules, ◌≡◌, ◌∙◌, ◌∷◌, ◌++◌, [], append_assoc, ap, map, sym}
use Rattle.sqs_model.specs.Finals.{final_message}
use Rattle.sqs_rehearsal.proofs.ending.next_messages.Goals as goal

pub loop-alloc-preserved : goal.loop-alloc-preserved
loop-alloc-preserved c =
    let q = c.args.queue.now in
    let x = c.in_ok-final_message.field-0 in
    let old = c.loop-alloc.some.items in
    let rest = c.next.new.self in
    let site : q.site ≡ c.site.result = search rules in
    record {
      all =
          ap (λ t. t ++ map (final_message q) rest) c.in_ok-push.ensures.items
          ∙ append_assoc old (x ∷ []) (map (final_message q) rest)
          ∙ ap (λ y. old ++ (y ∷ map (final_message q) rest)) (c.in_ok-final_message.ensures q site)
          ∙ ap (λ ms. old ++ map (final_message q) ms) (sym c.in-Some.ensures.steps)
          ∙ c.loop-alloc.invariant.all;
      few = search rules;
    }

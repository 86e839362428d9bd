use Rattle.std.proofs.Common.{Some, ap, refl, rules, ◌++◌, ◌≡◌, ◌∙◌}
use Rattle.std.proofs.lemmas.Result.{IfOk-weaker}
use Rattle.sqs_page.proofs.Both.{output_of_both}
use Rattle.sqs_page.specs.Pages.{IsOutputOf}
use Rattle.sqs_page.proofs.output.output.Goals as goal

pub returns-in-Ok-rehearse_alone-clause-written : goal.returns-in-Ok-rehearse_alone-clause-written
returns-in-Ok-rehearse_alone-clause-written c =
    IfOk-weaker c.joined.result (λ all. all.items ≡ c.into_inner.result.items ++ c.as_slice.result.now) (λ all. IsOutputOf c.args.asked c.args.text.now c.args.scripts.now all.items)
    (λ all is. output_of_both c.args.asked c.args.text.now c.args.scripts.now _ _ _ _ all.items (ap Some (search rules)) refl (ap Some (search rules)) refl (is ∙ (search rules)) (c.in-Ok-rehearse_alone.ensures _ _ c.in-Ok.ensures))
    c.joined.ensures.joined

pub returns-in-Err-clause-refused : goal.returns-in-Err-clause-refused
returns-in-Err-clause-refused c = c.in_memory.ensures c.args.asked c.args.text.now c.args.scripts.now _ _ (c.in-Err.ensures _ _ c.in-Ok.ensures)

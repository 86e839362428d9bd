use Rattle.std.proofs.Common.{rules, ◌≡◌, ◌≤◌, [], ap, arith, inl, inr, length, ◌∙◌}
use Rattle.std.proofs.lemmas.List.{get_or-set_same, get_or-set_other}
use Rattle.std.proofs.lemmas.Bool.{cases_lt}
use Rattle.md5.specs.Md5.{padded_message}
use Rattle.sqs_message.proofs.ahead.digests_from.Goals as goal

pub each-preserved : goal.each-preserved
each-preserved c = (
  search rules,
  λ i lt. elim (cases_lt i c.each.l) [
    | inl before ↦
        let held = c.each.invariant.1 i before in
        (held.0, get_or-set_other c.each.padded c.each.l i c.block.result [] (omega arith) ∙ held.1)
    | inr here ↦
        let e : c.each.l ≡ i = omega arith in
        let written = c.in_ok-fill.ensures in
        let short : length c.fill.new.out.items ≤ 55 = omega arith in
        let is = c.block.ensures ∙ c.as_slice.ensures.value ∙ c.in_ok-pad.ensures ∙ ap padded_message written in
        rw (← e) (rw (← written) short, get_or-set_same c.each.padded c.each.l c.block.result [] (omega arith) ∙ is)
  ],
)

use Rattle.std.proofs.Common.{◌∷◌, drop, ap, rules, ◌∙◌}
use Rattle.csv.specs.Writing.{comma}
use Rattle.sim_records.proofs.Plain.{receipt_put}
use Rattle.sim_records.proofs.fields.receipt_before.Goals as goal

pub returns-clause-written : goal.returns-clause-written
returns-clause-written c =
    let r = c.args.receipt in
    c.put_field.ensures.written ∙ ap (λ t. comma ∷ 114 ∷ t) c.dashed_before-first.ensures.written
    ∙ receipt_put r.site r.number r.count (drop c.args.end c.args.text.now) (search rules) (search rules) (search rules)

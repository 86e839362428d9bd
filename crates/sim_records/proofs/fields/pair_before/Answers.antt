use Rattle.std.proofs.Common.{◌≡◌, ◌∷◌, ◌++◌, drop, refl, ap, ◌∙◌, append_assoc}
use Rattle.std.specs.Fmt.{decimal}
use Rattle.csv.specs.Writing.{comma}
use Rattle.sim_records.specs.Lines.{IsPlain}
use Rattle.sim_records.proofs.Plain.{plain_append, plain_decimal, plain_more, plain_put}
use Rattle.sim_records.proofs.fields.pair_before.Goals as goal

pub returns-clause-written : goal.returns-clause-written
returns-clause-written c =
    let a = c.args.first in
    let b = c.args.second in
    let rest = drop c.args.end c.args.text.now in
    let tail = 47 ∷ decimal b in
    let field = decimal a ++ tail in
    let parts : comma ∷ (decimal a ++ 47 ∷ (decimal b ++ rest)) ≡ comma ∷ (field ++ rest) = simp append_assoc in
    let plain : IsPlain field = plain_append (decimal a) tail (plain_decimal a c.ranges.first.fits) (plain_more 47 (decimal b) refl (plain_decimal b c.ranges.second.fits)) in
    c.put_before.ensures.written ∙ ap (λ t. comma ∷ (decimal a ++ t)) c.put_before-second.ensures.written ∙ parts ∙ plain_put field rest plain

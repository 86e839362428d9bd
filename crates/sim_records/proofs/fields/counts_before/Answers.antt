use Rattle.std.proofs.Common.{◌≡◌, ◌∷◌, ◌++◌, drop, refl, ap, ◌∙◌, append_assoc}
use Rattle.std.specs.Fmt.{decimal}
use Rattle.csv.specs.Writing.{comma}
use Rattle.sim_records.specs.Lines.{IsPlain}
use Rattle.sim_records.proofs.Plain.{plain_append, plain_decimal, plain_marked, plain_more, plain_put}
use Rattle.sim_records.proofs.fields.counts_before.Goals as goal

pub returns-clause-written : goal.returns-clause-written
returns-clause-written c =
    let a = c.args.first in
    let b = c.args.second in
    let n = c.args.third in
    let rest = drop c.args.end c.args.text.now in
    let second = c.put_before-second.ensures.written ∙ ap (λ t. 47 ∷ (decimal b ++ t)) c.put_before-third.ensures.written in
    let last = 47 ∷ decimal n in
    let tail = 47 ∷ (decimal b ++ last) in
    let field = decimal a ++ tail in
    let parts : comma ∷ (decimal a ++ 47 ∷ (decimal b ++ 47 ∷ (decimal n ++ rest))) ≡ comma ∷ (field ++ rest) = simp append_assoc in
    let plain : IsPlain field =
    plain_append (decimal a) tail (plain_decimal a c.ranges.first.fits) (plain_marked 47 b last refl c.ranges.second.fits (plain_more 47 (decimal n) refl (plain_decimal n c.ranges.third.fits))) in
    c.put_before.ensures.written ∙ ap (λ t. comma ∷ (decimal a ++ t)) second ∙ parts ∙ plain_put field rest plain

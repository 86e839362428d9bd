use Rattle.std.proofs.Common.{◌≡◌, ◌∷◌, ◌++◌, drop, refl, ap, arith, ◌∙◌, append_assoc}
use Rattle.std.specs.Fmt.{decimal}
use Rattle.csv.specs.Writing.{comma}
use Rattle.sim_records.specs.Lines.{IsPlain}
use Rattle.sim_records.proofs.Plain.{plain_decimal, plain_marked, plain_more, plain_put}
use Rattle.sim_records.proofs.fields.numbered_before.Goals as goal

pub returns-clause-written : goal.returns-clause-written
returns-clause-written c =
    let mark = c.args.mark in
    let site = c.args.site in
    let n = c.args.number in
    let rest = drop c.args.end c.args.text.now in
    let first = c.put_before-first.ensures.written ∙ ap (λ m. 45 ∷ (decimal m ++ drop c.put_before-second.result c.put_before-second.new.text)) c.from.ensures ∙ ap (λ t. 45 ∷ (decimal site ++ t)) c.put_before-second.ensures.written in
    let tail = 45 ∷ decimal n in
    let field = mark ∷ 45 ∷ (decimal site ++ tail) in
    let parts : comma ∷ mark ∷ 45 ∷ (decimal site ++ 45 ∷ (decimal n ++ rest)) ≡ comma ∷ (field ++ rest) = simp append_assoc in
    let plain : IsPlain field =
    plain_more mark (45 ∷ (decimal site ++ tail)) c.requires.mark (plain_marked 45 site tail refl (omega arith) (plain_more 45 (decimal n) refl (plain_decimal n c.ranges.number.fits))) in
    c.put_field.ensures.written ∙ ap (λ t. comma ∷ mark ∷ t) first ∙ parts ∙ plain_put field rest plain

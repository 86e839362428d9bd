use Rattle.std.proofs.Common.{◌≡◌, ◌∙◌, ◌∷◌, ◌++◌, [], ap, append-nil, map, refl}
use Rattle.std.specs.Fmt.{decimal}
use Rattle.csv.specs.Machine.{line_feed}
use Rattle.sqs_formats.specs.Rows.{line, text_if}
use Rattle.sim_records.specs.Lines.{with_fields}
use Rattle.sim_records.proofs.Ended.{fields_join}
use Rattle.sim_records.proofs.lines.make_line.Goals as goal

pub returns : goal.returns
returns c =
    let fields = map (λ f. f.now) c.args.fields.now in
    let numbers = map (text_if decimal) c.args.numbers.now in
    let begun : c.begin.new.self ≡ line_feed ∷ [] = c.in_ok-begin.ensures ∙ ap (λ t. line_feed ∷ t) c.in_ok-clear.ensures in
    let numbered = c.in_ok-put_numbers.ensures ∙ ap (λ t. with_fields t numbers) begun in
    let made : c.put_fields.new.text ≡ with_fields (line_feed ∷ []) (fields ++ numbers) =
    c.in_ok-put_fields.ensures ∙ ap (λ t. with_fields t fields) numbered ∙ fields_join (line_feed ∷ []) fields numbers in
    rw (append-nil (line (fields ++ numbers))) at (c.end.ensures [] (fields ++ numbers) made refl)

use Rattle.std.proofs.Common.{arith, ◌≡◌, ◌<◌, ◌∙◌, ◌++◌, ℕ, Bor, List, [], None, ap, get_or, length, map, min, take}
use Rattle.std.proofs.lemmas.List.{take_all}
use Rattle.std.specs.List.{zip}
use Rattle.sqs_formats.specs.Report.{columns}
use Rattle.sqs_formats.specs.Rows.{lines}
use Rattle.sqs_formats.specs.Comparison.{column_line}
use Rattle.sim_report.proofs.Comparing.{columns-at, columns-count, line-more}
use Rattle.sim_report.proofs.comparison.add_columns.Goals as goal

pub loop-place-preserved : goal.loop-place-preserved
loop-place-preserved c =
    let first = c.args.first.now in
    let second = c.args.second.now in
    let names = c.column_names-names.result in
    let place = c.loop-place.place in
    let all = zip columns (zip first second) in
    let none : Bor (List ℕ) = record { ref_ptr = (0, 0); now = [] } in
    let within : place < min (min (length columns) (length first)) (length second) = omega (arith, c.min.ensures, c.min-count.ensures, c.loop-place-test.true) in
    let is = columns-at names columns first second place none (None, None) c.column_names-names.ensures within in
    line-more (column_line c.args.queue.now) all place ([], (None, None)) ((get_or names place none).now, (get_or first place None, get_or second place None))
    c.args.text.now c.loop-place.text c.add_column.new.text (omega (arith, columns-count columns first second)) is c.loop-place.invariant c.in_ok-add_column.ensures

pub returns : goal.returns
returns c =
    let first = c.args.first.now in
    let second = c.args.second.now in
    let all = zip columns (zip first second) in
    let place = c.loop-place.place in
    let whole : take place all ≡ all = take_all place all (omega (arith, c.min.ensures, c.min-count.ensures, c.loop-place-test.false, columns-count columns first second)) in
    c.loop-place.invariant ∙ ap (λ xs. c.args.text.now ++ lines (map (column_line c.args.queue.now) xs)) whole

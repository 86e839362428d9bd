use Rattle.std.proofs.Common.{List, ap, arith, flat_map, get_or, sym, take, ℕ, ◌++◌, ◌∙◌, ◌≡◌}
use Rattle.std.specs.List.{enumerate_from}
use Rattle.std.proofs.lemmas.List.{take_all}
use Rattle.std.proofs.lemmas.List.FromFn.{get_or-enumerate_from, length-enumerate_from}
use Rattle.sqs_formats.specs.Rows.{lines}
use Rattle.sqs_rehearsal.specs.Said.{said_of}
use Rattle.sqs_rehearsal.proofs.Saying.{said_more}
use Rattle.sqs_rehearsal.proofs.said.said_text.Goals as goal

pub loop-number-preserved : goal.loop-number-preserved
loop-number-preserved c =
    let names = c.args.names.now in
    let number = c.loop-number.number in
    let name = c.index-names-number.result in
    let said = said_of c.args.others.now c.args.marks.now in
    let all = enumerate_from 0 names in
    let is : get_or all number (number, name) ≡ (number, name) =
    get_or-enumerate_from 0 names number (number, name) c.loop-number-test.true ∙ ap (λ (k : ℕ). (k, get_or names number name)) (omega arith) ∙ ap (λ (x : List ℕ). (number, x)) (sym c.index-names-number.is) in
    let more = said_more said all number (number, name) (omega (arith, length-enumerate_from 0 names, c.loop-number-test.true)) in
    c.in_ok-add_queue.ensures ∙ ap (λ (t : List ℕ). t ++ lines (said (number, name))) c.loop-number.invariant ∙ sym (more ∙ ap (λ x. lines (flat_map said (take number all)) ++ lines (said x)) is)

pub returns : goal.returns
returns c =
    let names = c.args.names.now in
    let said = said_of c.args.others.now c.args.marks.now in
    let whole = take_all c.loop-number.number (enumerate_from 0 names) (omega (arith, length-enumerate_from 0 names, c.loop-number-test.false)) in
    rw (c.loop-number.invariant ∙ ap (λ xs. lines (flat_map said xs)) whole) at c.into_bytes.ensures

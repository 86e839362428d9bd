use Rattle.std.proofs.Common.{arith, rules, ◌≡◌, ◌+◌, ◌∙◌, ◌∷◌, ◌++◌, [], ap, get_or, length, sym, take, List, Option, ℕ}
use Rattle.std.proofs.lemmas.List.{take_all, take_more}
use Rattle.sqs_formats.specs.Report.{Column}
use Rattle.sim_report.specs.Running.{columns_by, columns_of_all}
use Rattle.sim_report.proofs.Groups.{column-is, length-columns, length-lefts}
use Rattle.sim_report.proofs.columns.columns_of.Goals as goal

pub loop-place-preserved : goal.loop-place-preserved
loop-place-preserved c = λ messages counted.
    let queues = c.args.queues.now in
    let all = columns_of_all queues messages in
    let place = c.loop-place.place in
    let queue = c.index-queues-place.result in
    let left = c.unwrap_or-left.result in
    let within : length c.args.left.now ≡ length queues = ap length counted ∙ length-lefts queues messages in
    let there : left ≡ get_or c.args.left.now place left = search rules in
    let column : Column = (queue.name, columns_by queue.tally left) in
    let is : column ≡ get_or all place column =
    column-is queues messages c.args.left.now place queue left c.loop-place-test.true c.index-queues-place.is counted there in
    let long = length-columns queues messages in
    let more : take (place + 1) all ≡ take place all ++ get_or all place column ∷ [] = take_more all place column (omega (arith, c.loop-place-test.true)) in
    let view : (c.as_bytes-name.result.now, c.in_ok-columns.columns.items) ≡ column =
    ap (λ (n : List ℕ). (n, c.in_ok-columns.columns.items)) c.as_bytes-name.ensures ∙ ap (λ (ns : List (Option ℕ)). (queue.name, ns)) c.in_ok-columns.ensures in
    c.in_ok-push.ensures.items
    ∙ ap (λ (cs : List Column). cs ++ (c.as_bytes-name.result.now, c.in_ok-columns.columns.items) ∷ []) (c.loop-place.invariant messages counted)
    ∙ ap (λ (x : Column). take place all ++ x ∷ []) (view ∙ is)
    ∙ sym more

pub returns : goal.returns
returns c = λ messages counted.
    let all = columns_of_all c.args.queues.now messages in
    let long = length-columns c.args.queues.now messages in
    c.loop-place.invariant messages counted ∙ take_all c.loop-place.place all (omega (arith, c.loop-place-test.false))

use Rattle.std.proofs.Common.{◌≡◌, ◌<◌, ◌++◌, ◌∙◌, List, ℕ, get_or, length, map, take, ap, sym, arith}
use Rattle.std.specs.Prelude.{flat_map}
use Rattle.std.specs.List.{enumerate_from}
use Rattle.std.proofs.lemmas.List.{get_or-map, length-map}
use Rattle.sqs_formats.specs.Rows.{lines}
use Rattle.sim_report.specs.Doors.{records_of_queue}
use Rattle.sim_report.specs.Figured.{queue_name}
use Rattle.sim_report.proofs.Numbering.{all-taken, lines-further}
use Rattle.sim_report.proofs.figures.add_queue_doors.Goals as goal

pub loop-queue-preserved : goal.loop-queue-preserved
loop-queue-preserved c =
    let all = c.args.queues.now in
    let i = c.loop-queue.queue in
    let d = c.index-queues-queue.result in
    let names = map queue_name all in
    let records = records_of_queue c.args.wanted c.args.doors.now in
    let here : c.name.result.now ≡ get_or names i (queue_name d) =
    c.name.ensures ∙ ap queue_name c.index-queues-queue.is ∙ sym (get_or-map queue_name all i d (queue_name d) c.loop-queue-test.true) in
    let within : i < length names = omega (arith, c.loop-queue-test.true, length-map all queue_name) in
    c.in_ok-write_queue.ensures
    ∙ ap (λ (text : List ℕ). text ++ lines (records (i, c.name.result.now))) c.loop-queue.invariant
    ∙ ap (λ (name : List ℕ). (c.args.text.now ++ lines (flat_map records (take i (enumerate_from 0 names)))) ++ lines (records (i, name))) here
    ∙ lines-further records c.args.text.now names i (queue_name d) within

pub returns : goal.returns
returns c =
    let names = map queue_name c.args.queues.now in
    let whole = all-taken names c.loop-queue.queue (omega (arith, c.loop-queue-test.false, length-map c.args.queues.now queue_name)) in
    c.loop-queue.invariant ∙ ap (λ xs. c.args.text.now ++ lines (flat_map (records_of_queue c.args.wanted c.args.doors.now) xs)) whole

use Rattle.std.proofs.Common.{◌≡◌, ◌<◌, ◌++◌, ◌∙◌, List, ℕ, get_or, length, map, take, ap, sym, arith}
use Rattle.std.specs.Prelude.{flat_map}
use Rattle.std.specs.List.{enumerate_from}
use Rattle.std.proofs.lemmas.List.{get_or-map, length-map}
use Rattle.sqs_formats.specs.Rows.{lines}
use Rattle.sim_report.specs.Doors.{records_of_actor}
use Rattle.sim_report.specs.Figured.{actor_name}
use Rattle.sim_report.proofs.Numbering.{all-taken, lines-further}
use Rattle.sim_report.proofs.figures.add_actor_doors.Goals as goal

pub loop-actor-preserved : goal.loop-actor-preserved
loop-actor-preserved c =
    let all = c.args.actors.now in
    let i = c.loop-actor.actor in
    let d = c.index-actors-actor.result in
    let names = map actor_name all in
    let records = records_of_actor c.args.doors.now in
    let here : c.name.result.now ≡ get_or names i (actor_name d) =
    c.name.ensures ∙ ap actor_name c.index-actors-actor.is ∙ sym (get_or-map actor_name all i d (actor_name d) c.loop-actor-test.true) in
    let within : i < length names = omega (arith, c.loop-actor-test.true, length-map all actor_name) in
    c.in_ok-write_actor.ensures
    ∙ ap (λ (text : List ℕ). text ++ lines (records (i, c.name.result.now))) c.loop-actor.invariant
    ∙ ap (λ (name : List ℕ). (c.args.text.now ++ lines (flat_map records (take i (enumerate_from 0 names)))) ++ lines (records (i, name))) here
    ∙ lines-further records c.args.text.now names i (actor_name d) within

pub returns : goal.returns
returns c =
    let names = map actor_name c.args.actors.now in
    let whole = all-taken names c.loop-actor.actor (omega (arith, c.loop-actor-test.false, length-map c.args.actors.now actor_name)) in
    c.loop-actor.invariant ∙ ap (λ xs. c.args.text.now ++ lines (flat_map (records_of_actor c.args.doors.now) xs)) whole

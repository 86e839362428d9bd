use Rattle.std.proofs.Common.{◌∙◌, flat_map, map, string_bytes, true, false, rules, ap}
use Rattle.toml.specs.View.{table_view}
use Rattle.sqs_formats.specs.Keys.{none_of}
use Rattle.sim_scenario.specs.Gives.{table}
use Rattle.sim_scenario.proofs.Admits.{names_fails}
use Rattle.sim_scenario.proofs.UnknownKeys.{keys_in-view, known_here, step_known, step_unknown}
use Rattle.sim_scenario.proofs.section.known_keys.Goals as goal

pub loop-key-init : goal.loop-key-init
loop-key-init c = rw (c.into_iter-key-iterator.ensures.into_iter_gives, c.keys-key-items.ensures.rest, keys_in-view c.args.table.now.entries)

pub loop-key-preserved : goal.loop-key-preserved
loop-key-preserved c =
    let known = flat_map (λ ks. map (λ k. k.now) ks.now) c.args.known.now in
    let key = string_bytes c.in-Some.key.now in
    let step = rw c.in-Some.is at c.next.ensures.steps in
    let here = known_here c.args.known.now key c.as_str.result.now c.is_known.result true c.as_str.ensures.value c.is_known.ensures c.if-not-is_known.false in
    rw step at c.loop-key.invariant ∙ step_known known key (map string_bytes c.next.new.self) here

pub returns-then-not-is_known : goal.returns-then-not-is_known
returns-then-not-is_known c =
    let known = flat_map (λ ks. map (λ k. k.now) ks.now) c.args.known.now in
    let t = table c.args.place.now (table_view c.args.table.now) in
    let key = string_bytes c.in-Some.key.now in
    let step = rw c.in-Some.is at c.next.ensures.steps in
    let here = known_here c.args.known.now key c.as_str.result.now c.is_known.result false c.as_str.ensures.value c.is_known.ensures c.if-not-is_known.true in
    let left = rw step at c.loop-key.invariant ∙ step_unknown known key (map string_bytes c.next.new.self) here in
    names_fails c.blame.result _ _ (ap (none_of t) left) (rw c.as_str-then-not-is_known.ensures.value at c.blame.ensures)

pub returns : goal.returns
returns c = rw (c.loop-key.invariant) (search rules)

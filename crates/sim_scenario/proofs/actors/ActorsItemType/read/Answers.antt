use Rattle.std.proofs.Common.{◌≡◌, ◌<◌, ◌∙◌, [], Ok, ap, arith, length, sym}
use Rattle.std.proofs.lemmas.Bool.Decides.{nat_tests}
use Rattle.std.proofs.lemmas.Grind.{common_steps}
use Rattle.sqs_formats.specs.Actors.{actor}
use Rattle.sqs_formats.specs.Reading.{and_then}
use Rattle.sim_scenario.specs.Sections.{table_of}
use Rattle.sim_scenario.proofs.CopiesRead.{copies_read}
use Rattle.sim_scenario.proofs.Exits.{past, way_out}
use Rattle.sim_scenario.proofs.ListItems.{fails_first}
use Rattle.sim_scenario.proofs.actors.ActorsItemType.read.Goals as goal

pub returns-in_err-name : goal.returns-in_err-name
unfolding actor
returns-in_err-name c = way_out _ _ _ _ c.from_residual.ensures.1 (fails_first _ _ _ (rw c.actor_place-place.ensures at c.in_err-name.ensures))

pub returns-in_err-kind : goal.returns-in_err-kind
unfolding actor
returns-in_err-kind c = way_out _ _ _ _ c.from_residual-in_err-kind.ensures.1 (past _ _ (rw c.actor_place-place.ensures at c.in_ok-name.ensures) (fails_first _ _ _ (rw (c.kinds_of-kinds.ensures, c.version.ensures) at c.in_err-kind.ensures)))

pub returns-in_err-home : goal.returns-in_err-home
unfolding actor
returns-in_err-home c = way_out _ _ _ _ c.from_residual-in_err-home.ensures.1 (past _ _ (rw c.actor_place-place.ensures at c.in_ok-name.ensures) (past _ _ (rw (c.kinds_of-kinds.ensures, c.version.ensures) at c.in_ok-kind.ensures) (fails_first _ _ _ c.in_err-home.ensures)))

pub returns-in_err-role : goal.returns-in_err-role
unfolding actor
returns-in_err-role c = way_out _ _ _ _ c.from_residual-in_err-role.ensures.1 (past _ _ (rw c.actor_place-place.ensures at c.in_ok-name.ensures) (past _ _ (rw (c.kinds_of-kinds.ensures, c.version.ensures) at c.in_ok-kind.ensures) (past _ _ c.in_ok-home.ensures (fails_first _ _ _ c.in_err-role.ensures))))

pub returns-in_err-copies : goal.returns-in_err-copies
unfolding actor
returns-in_err-copies c =
    let shown : c.as_bytes.result.now ≡ c.in_ok-name.name = c.as_bytes.ensures ∙ grind (arith, common_steps, c.index.ensures, c.in_ok-agents.ensures.items) in
    way_out _ _ _ _ c.from_residual-in_err-copies.ensures.1 (past _ _ (rw c.actor_place-place.ensures at c.in_ok-name.ensures) (past _ _ (rw (c.kinds_of-kinds.ensures, c.version.ensures) at c.in_ok-kind.ensures) (past _ _ c.in_ok-home.ensures (past _ _ c.in_ok-role.ensures (fails_first _ _ _ (rw shown at c.in_err-copies.ensures))))))

pub returns-then-is_empty : goal.returns-then-is_empty
unfolding actor and_then
returns-then-is_empty c =
    let shown : c.as_bytes.result.now ≡ c.in_ok-name.name = c.as_bytes.ensures ∙ grind (arith, common_steps, c.index.ensures, c.in_ok-agents.ensures.items) in
    let none : c.in_ok-copies.copies.items ≡ [] = grind (arith, common_steps, c.in_ok-copies.copies.ok) in
    rw ((rw c.actor_place-place.ensures at c.in_ok-name.ensures), (rw (c.kinds_of-kinds.ensures, c.version.ensures) at c.in_ok-kind.ensures), c.in_ok-home.ensures, c.in_ok-role.ensures, (rw (shown, none) at c.in_ok-copies.ensures)) (ap Ok (sym (c.new.ensures ∙ c.in_ok-agents.ensures.items)))

pub returns : goal.returns
returns c =
    let t = table_of c.args.section.now in
    let names = c.in_ok-copies.copies.items in
    let shown : c.as_bytes.result.now ≡ c.in_ok-name.name = c.as_bytes.ensures ∙ grind (arith, common_steps, c.index.ensures, c.in_ok-agents.ensures.items) in
    let some : 0 < length names = grind (arith, nat_tests, c.in_ok-copies.copies.ok) in
    copies_read c.args.self.now.scripts.now c.args.self.now.outline.now c.args.number t c.in_ok-name.name c.in_ok-kind.kind c.in_ok-home.home c.in_ok-role.role names c.copied.result
    (rw c.actor_place-place.ensures at c.in_ok-name.ensures) (rw (c.kinds_of-kinds.ensures, c.version.ensures) at c.in_ok-kind.ensures) c.in_ok-home.ensures c.in_ok-role.ensures (rw shown at c.in_ok-copies.ensures) some
    (c.copied.ensures c.in_ok-role.role c.in_ok-role.ensures)

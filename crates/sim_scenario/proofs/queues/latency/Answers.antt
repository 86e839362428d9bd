use Rattle.std.proofs.Common.{arith, false, refl, ◌==◌, ◌≡◌}
use Rattle.std.proofs.lemmas.Bool.Decides.{nat_tests}
use Rattle.sqs_formats.specs.Queues.{latency}
use Rattle.sqs_formats.specs.Reading.{and_then}
use Rattle.sim_scenario.proofs.Exits.{way_out}
use Rattle.sim_scenario.proofs.ListItems.{fails_first}
use Rattle.sim_scenario.proofs.queues.latency.Goals as goal

pub returns-in_err-both : goal.returns-in_err-both
unfolding latency
returns-in_err-both c = way_out _ _ _ _ c.from_residual.ensures.1 (rw c.if-version-eq1.true (fails_first _ _ _ c.in_err-both.ensures))

pub returns-then-version-eq1 : goal.returns-then-version-eq1
unfolding latency and_then
returns-then-version-eq1 c = rw (c.if-version-eq1.true, c.in_ok-both.ensures) refl

pub returns-in_err-least : goal.returns-in_err-least
unfolding latency
returns-in_err-least c =
    let later : (c.args.version == 1) ≡ false = grind (arith, nat_tests) in
    way_out _ _ _ _ c.from_residual-in_err-least.ensures.1 (rw later (fails_first _ _ _ c.in_err-least.ensures))

pub returns : goal.returns
unfolding latency and_then
returns c =
    let later : (c.args.version == 1) ≡ false = grind (arith, nat_tests) in
    rw (later, c.in_ok-least.ensures) refl

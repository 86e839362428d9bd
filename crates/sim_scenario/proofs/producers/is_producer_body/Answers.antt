use Rattle.std.proofs.Common.{◌<◌, ◌∙◌, length, sym, arith}
use Rattle.std.proofs.lemmas.Bool.Decides.{nat_tests}
use Rattle.sim_scenario.proofs.ProducerBody.{body_some}
use Rattle.sim_scenario.proofs.producers.is_producer_body.Goals as goal

pub returns : goal.returns
returns c =
    let some : 0 < length c.args.body.now = grind (arith, nat_tests) in
    rw (c.as_bytes.ensures.value, c.in_ok-last.ensures.ok, c.saturating_sub.ensures) at c.fits.ensures ∙ sym (body_some c.args.count c.args.body.now some)

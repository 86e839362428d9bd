use Rattle.std.proofs.Common.{ap, refl, sym}
use Rattle.sqs_model.specs.Task.{Task}
use Rattle.sim_site.proofs.Stepping.{did_one}
use Rattle.sim_site.proofs.agents.Task.move_one.Goals as goal

pub returns-clause-moved : goal.returns-clause-moved
returns-clause-moved c = (
  record { key = refl; agent = refl; effects = refl },
  did_one c.args.handling.now.effects.now c.say.new.self c.send.new.self c.args.handling.now.key c.args.site c.args.self.now c.send_on.new.self c.args.to c.args.load
      c.move_row-row.result c.in_ok-outbound.outbound c.in_ok-say.ensures.rows c.in_ok-say.ensures.sent (λ core n. c.move_row-row.ensures core c.args.self.now n (ap (λ (t : Task). t.number) (sym c.self.view_is))) c.in_ok-outbound.ensures.sent
      c.in_ok-send.ensures.sent c.in_ok-send.ensures.rows,
)

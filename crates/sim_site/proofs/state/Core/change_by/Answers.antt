use Rattle.std.proofs.Common.{refl}
use Rattle.sim_site.proofs.Said.{change_refused_did}
use Rattle.sim_site.proofs.state.Core.change_by.Goals as goal

pub returns-in_ok-say-in-Err : goal.returns-in_ok-say-in-Err
returns-in_ok-say-in-Err c a e =
    let handling = c.args.handling.now in (
      record { key = refl; agent = refl; effects = refl },
      rw (← c.self.view_is)
          (change_refused_did handling.key a _ handling.effects.now c.say.new.self c.args.handle c.args.timeout c.args.receipt c.in-Err.refusal c.change.new.self c.refused_row-row.result
          c.in-Err.ensures.answer c.in_ok-say-in-Err.ensures.rows c.in_ok-say-in-Err.ensures.sent (rw (e, c.refused_row-row.ensures, c.site-site.ensures) refl)),
    )

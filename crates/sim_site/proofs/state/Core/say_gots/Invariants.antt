use Rattle.std.proofs.Common.{◌≡◌, ◌++◌, map, take}
use Rattle.sqs_model.specs.Acts.{got_row}
use Rattle.sim_site.specs.Effects.{GoesOn}
use Rattle.sim_site.proofs.state.Core.say_gots.Given as goal

-- the rows of those so far
abbrev pub invariant-loop-i : goal.invariant-loop-i
invariant-loop-i l = record {
  on : GoesOn l.initial.handling l.handling;
  rows : l.handling.effects.now.rows.items ≡ l.initial.handling.effects.now.rows.items ++ map (got_row l.initial.handling.key l.self l.initial.handling.agent) (take l.i l.gots);
  sent : l.handling.effects.now.sent ≡ l.initial.handling.effects.now.sent;
}

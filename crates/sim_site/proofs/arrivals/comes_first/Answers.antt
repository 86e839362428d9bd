use Rattle.std.proofs.Common.{sym, true≢false, ◌∙◌}
use Rattle.sim_site.proofs.Rings.{before_least, behind_least, none_to_come}
use Rattle.sim_site.proofs.arrivals.comes_first.Goals as goal

pub returns-in-Some : goal.returns-in-Some
returns-in-Some c =
    record {
      first = λ h. before_least c.args.key c.in-Some.least c.args.later.now c.requires c.in-Some.ensures (sym c.is_before.ensures ∙ h);
      behind = λ h. behind_least c.args.key c.in-Some.least c.args.later.now c.requires c.in-Some.ensures (sym c.is_before.ensures ∙ h);
    }

pub returns-in-None : goal.returns-in-None
returns-in-None c = record { first = λ h. none_to_come c.args.key c.args.later.now c.requires c.in-None.ensures; behind = λ h. absurd (true≢false h) }

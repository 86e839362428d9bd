use Rattle.std.proofs.Common.{Some, arith, refl, subst, sym, ◌≡◌, ◌≤◌}
use Rattle.std.proofs.lemmas.Result.{err_from_is_err_and}
use Rattle.sim_engine.specs.Rounds.{PartRun, part_on}
use Rattle.sim_engine.specs.World.{handled_among, world_due}
use Rattle.sim_partition.specs.Sites.{AreOfPast, IsFrom, IsLater}
use Rattle.sim_partition.specs.Steps.{part_made}
use Rattle.sim_partition.proofs.Marked.{none_least, told_least}
use Rattle.sim_partition.proofs.Moments.{from_after, smaller}
use Rattle.sim_partition.proofs.Runs.{goes_on, stays_handled, stops_after, stops_on}
use Rattle.sim_partition.proofs.handling.run_moment.Goals as goal

pub returns-then-key-moment-clause-done : goal.returns-then-key-moment-clause-done
returns-then-key-moment-clause-done g c =
    let due = told_least g.S.Site.engine c.loop-key.sites c.least.result c.in-Some.key c.loop-key.invariant.kept.marked c.least.ensures c.in-Some.is in
    subst (IsLater c.args.moment) (sym due) (omega (arith, c.if-key-moment.true))

pub handle_least-requires-clause-due : goal.handle_least-requires-clause-due
handle_least-requires-clause-due g c =
    record {
      key = c.in-Some.key;
      due = told_least g.S.Site.engine c.loop-key.sites c.least.result c.in-Some.key c.loop-key.invariant.kept.marked c.least.ensures c.in-Some.is;
      moment = omega (arith, c.if-key-moment.false, c.requires.moment);
    }

pub loop-key-smaller : goal.loop-key-smaller
loop-key-smaller g c =
    let e = g.S.Site.engine in
    let key = c.in-Some.key in
    let w = c.loop-key.sites.values in
    let due : world_due e w ≡ Some key = told_least e c.loop-key.sites c.least.result c.in-Some.key c.loop-key.invariant.kept.marked c.least.ensures c.in-Some.is in
    let from : c.args.moment ≤ key.at = subst (IsFrom c.args.moment) due c.loop-key.invariant.from in
    let made = c.in_ok-handle_least.ensures.handled key due in
    smaller g.met.S.Site.laws key c.args.moment w c.handle_least.new.sites.values from (omega (arith, c.if-key-moment.false)) c.loop-key.invariant.kept.part.sound due (λ k. (made k).sites)

pub loop-key-preserved : goal.loop-key-preserved
loop-key-preserved g c =
    let e = g.S.Site.engine in
    let laws = g.met.S.Site.laws in
    let key = c.in-Some.key in
    let w = c.loop-key.sites.values in
    let v = c.handle_least.new.sites.values in
    let r : PartRun e = part_made e w c.loop-key.effects in
    let x : PartRun e = part_made e v c.handle_least.new.effects in
    let start : PartRun e = part_made e c.args.sites.now.values c.args.effects.now in
    let i = c.loop-key.invariant in
    let due : world_due e w ≡ Some key = told_least e c.loop-key.sites c.least.result c.in-Some.key c.loop-key.invariant.kept.marked c.least.ensures c.in-Some.is in
    let from : c.args.moment ≤ key.at = subst (IsFrom c.args.moment) due i.from in
    let made : x ≡ part_on e r (handled_among e key w) = c.in_ok-handle_least.ensures.handled key due in
    let sites : v ≡ (handled_among e key w).sites = λ k. (made k).sites in
    record {
      kept = c.in_ok-handle_least.ensures.kept;
      from = from_after laws key c.args.moment w v from i.kept.part.sound due sites;
      goes_on = λ bound l. goes_on laws bound key start r x (i.goes_on bound l) due (omega (arith, l, c.if-key-moment.false)) made;
      past = λ at l p. stays_handled laws key c.args.moment w v (omega (arith, c.if-key-moment.false)) (subst (AreOfPast g.S.Site.conditions w) due i.kept.part.past) sites at l (i.past at l p);
      timely = λ t. c.in_ok-handle_least.ensures.timely (i.timely t);
    }

pub returns-in_err-handle_least-clause-stops : goal.returns-in_err-handle_least-clause-stops
returns-in_err-handle_least-clause-stops g c =
    let e = g.S.Site.engine in
    let laws = g.met.S.Site.laws in
    let key = c.in-Some.key in
    let w = c.loop-key.sites.values in
    let r : PartRun e = part_made e w c.loop-key.effects in
    let start : PartRun e = part_made e c.args.sites.now.values c.args.effects.now in
    let due : world_due e w ≡ Some key = told_least e c.loop-key.sites c.least.result c.in-Some.key c.loop-key.invariant.kept.marked c.least.ensures c.in-Some.is in
    let x : PartRun e = part_on e r (handled_among e key w) in
    let refusal = c.in_err-handle_least.field-0.0 in
    let told = err_from_is_err_and c.from_residual.result c.from_residual.ensures.1 in
    rw (told.1, told.2)
    (λ bound l. stops_on laws bound start x refusal (goes_on laws bound key start r x (c.loop-key.invariant.goes_on bound l) due (omega (arith, l, c.if-key-moment.false)) refl) (stops_after laws r (handled_among e key w) refusal (c.in_err-handle_least.ensures.stops key due)))

pub returns-clause-done : goal.returns-clause-done
returns-clause-done g c =
    let none = none_least g.S.Site.engine c.loop-key.sites c.least.result c.loop-key.invariant.kept.marked c.least.ensures c.in_default.is in
    subst (IsLater c.args.moment) (sym none) tt

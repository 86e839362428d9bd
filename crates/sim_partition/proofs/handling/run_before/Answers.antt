use Rattle.std.proofs.Common.{Some, ap, arith, subst, sym, ◌≡◌}
use Rattle.std.proofs.lemmas.Result.{err_from_is_err_and}
use Rattle.sim_clock.specs.Order.{due_before}
use Rattle.sim_engine.specs.Rounds.{PartRun}
use Rattle.sim_engine.specs.World.{world_due}
use Rattle.sim_partition.specs.Sites.{IsFrom}
use Rattle.sim_partition.specs.Steps.{part_made}
use Rattle.sim_partition.proofs.Marked.{none_least, told_least}
use Rattle.sim_partition.proofs.Runs.{continues_on, none_due, sooner, stops_later}
use Rattle.sim_partition.proofs.handling.run_before.Goals as goal

pub returns-then-key-end-clause-done : goal.returns-then-key-end-clause-done
returns-then-key-end-clause-done g c =
    none_due g.met.S.Site.laws c.args.end c.in-Some.key c.loop-key.sites.values (told_least g.S.Site.engine c.loop-key.sites c.least.result c.in-Some.key c.loop-key.invariant.kept.marked c.least.ensures c.in-Some.is) (omega (arith, c.if-key-end.true))

pub run_moment-requires-clause-from : goal.run_moment-requires-clause-from
run_moment-requires-clause-from g c =
    let due = told_least g.S.Site.engine c.loop-key.sites c.least.result c.in-Some.key c.loop-key.invariant.kept.marked c.least.ensures c.in-Some.is in
    subst (IsFrom c.in-Some.key.at) (sym due) (omega arith)

pub loop-key-smaller : goal.loop-key-smaller
loop-key-smaller g c =
    let e = g.S.Site.engine in
    let w = c.loop-key.sites.values in
    let due : world_due e w ≡ Some c.in-Some.key = told_least e c.loop-key.sites c.least.result c.in-Some.key c.loop-key.invariant.kept.marked c.least.ensures c.in-Some.is in
    sooner g.met.S.Site.laws c.args.end c.in-Some.key w (world_due e c.run_moment.new.sites.values) due (omega (arith, c.if-key-end.false)) c.in_ok-run_moment.ensures.done

pub loop-key-preserved : goal.loop-key-preserved
loop-key-preserved g c =
    let e = g.S.Site.engine in
    let i = c.loop-key.invariant in
    let r : PartRun e = part_made e c.loop-key.sites.values c.loop-key.effects in
    let x : PartRun e = part_made e c.run_moment.new.sites.values c.run_moment.new.effects in
    let start : PartRun e = part_made e c.args.sites.now.values c.args.effects.now in
    record {
      kept = c.in_ok-run_moment.ensures.kept;
      goes_on = continues_on g.met.S.Site.laws c.args.end start r x i.goes_on (c.in_ok-run_moment.ensures.goes_on c.args.end (omega (arith, c.if-key-end.false)));
      past = λ at l p. c.in_ok-run_moment.ensures.past at (omega (arith, l, c.if-key-end.false)) (i.past at l p);
      timely = λ t. c.in_ok-run_moment.ensures.timely (i.timely t);
    }

pub returns-in_err-run_moment-clause-stops : goal.returns-in_err-run_moment-clause-stops
returns-in_err-run_moment-clause-stops g c =
    let e = g.S.Site.engine in
    let r : PartRun e = part_made e c.loop-key.sites.values c.loop-key.effects in
    let start : PartRun e = part_made e c.args.sites.now.values c.args.effects.now in
    let refusal = c.in_err-run_moment.field-0.0 in
    let told = err_from_is_err_and c.from_residual.result c.from_residual.ensures.1 in
    rw (told.1, told.2) (stops_later g.met.S.Site.laws c.args.end start r refusal c.loop-key.invariant.goes_on (c.in_err-run_moment.ensures.stops c.args.end (omega (arith, c.if-key-end.false))))

pub returns-clause-done : goal.returns-clause-done
returns-clause-done g c =
    ap (due_before c.args.end) (none_least g.S.Site.engine c.loop-key.sites c.least.result c.loop-key.invariant.kept.marked c.least.ensures c.in_default.is)

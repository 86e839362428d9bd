use Rattle.std.proofs.Common.{arith}
use Rattle.std.proofs.lemmas.Result.{err_from_is_err_and}
use Rattle.sim_clock.specs.declared.refusal.Refusal.{Refusal}
use Rattle.sim_windows.specs.Worlds.{sites_in}
use Rattle.sim_windows.specs.Gathered.{gathered}
use Rattle.sim_windows.proofs.Gathering.{gathered_on, gathering_halts}
use Rattle.sim_windows.proofs.begun.run_sparse.Goals as goal

pub loop-key-preserved : goal.loop-key-preserved
loop-key-preserved g c =
    record {
      ready = c.in_ok-run_counted.ensures.ready;
      none = c.in_ok-run_counted.ensures.none;
      lives = c.in_ok-run_counted.ensures.lives;
      ran =
          gathered_on g.met.S.Site.laws g.K.RowSink.took g.met.K.RowSink.took_both c.args.horizon (sites_in c.args.roster.now) (sites_in c.loop-key.roster) (sites_in c.run_counted.new.roster) (gathered c.args.sink.now c.args.effects.now.rows.items)
          (gathered c.loop-key.sink c.loop-key.effects.rows.items) (gathered c.run_counted.new.sink c.run_counted.new.effects.rows.items)
          c.loop-key.invariant.ran (c.in_ok-run_counted.ensures.ran c.args.horizon (omega (arith, c.if-key-horizon.false)));
    }

pub returns-in_err-run_counted-clause-stops : goal.returns-in_err-run_counted-clause-stops
returns-in_err-run_counted-clause-stops g c =
    let e : Refusal = c.in_err-run_counted.field-0.0 in
    let told = err_from_is_err_and c.from_residual.result c.from_residual.ensures.1 in
    rw (told.1, told.2)
    (gathering_halts g.met.S.Site.laws g.K.RowSink.took g.met.K.RowSink.took_both g.K.RowSink.broke g.met.K.RowSink.broke_later c.args.horizon (sites_in c.args.roster.now) (sites_in c.loop-key.roster) (gathered c.args.sink.now c.args.effects.now.rows.items)
    (gathered c.loop-key.sink c.loop-key.effects.rows.items) c.run_counted.new.sink e
    c.loop-key.invariant.ran (c.in_err-run_counted.ensures.stops c.args.horizon (omega (arith, c.if-key-horizon.false))))

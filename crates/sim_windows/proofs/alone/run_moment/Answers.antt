use Rattle.std.proofs.Common.{Some, arith, subst, ◌≡◌, ◌≤◌}
use Rattle.std.proofs.lemmas.Result.{err_from_is_err_and}
use Rattle.sim_clock.specs.declared.refusal.Refusal.{Refusal}
use Rattle.sim_engine.specs.World.{world_due}
use Rattle.sim_partition.specs.Sites.{AreOfPast, IsFrom}
use Rattle.sim_windows.specs.Worlds.{sites_in}
use Rattle.sim_windows.proofs.Whole.{due_told, past_told, sound_told}
use Rattle.sim_windows.proofs.Runs.{from_after, smaller}
use Rattle.sim_windows.specs.Gathered.{gathered}
use Rattle.sim_windows.proofs.Gathering.{gathered_on, gathering_halts}
use Rattle.sim_windows.proofs.alone.run_moment.Goals as goal

pub handle-requires-clause-past : goal.handle-requires-clause-past
handle-requires-clause-past g c =
    let v = c.loop-key.roster in
    let due : world_due g.S.Site.engine (sites_in v) ≡ Some c.in-Some.key = due_told g.met.S.Site.laws v c.least_due.result (Some c.in-Some.key) c.least_due.ensures.due c.in-Some.is in
    subst (AreOfPast g.S.Site.conditions (sites_in v)) due (past_told g.met.S.Site.laws v c.least_due.ensures.past)

pub loop-key-smaller : goal.loop-key-smaller
loop-key-smaller g c =
    let w = sites_in c.loop-key.roster in
    let key = c.in-Some.key in
    let due : world_due g.S.Site.engine w ≡ Some key = due_told g.met.S.Site.laws c.loop-key.roster c.least_due.result (Some key) c.least_due.ensures.due c.in-Some.is in
    let from : c.args.moment ≤ key.at = subst (IsFrom c.args.moment) due c.loop-key.invariant.from in
    smaller g.met.S.Site.laws key c.args.moment w (sites_in c.handle.new.roster) from (omega (arith, c.if-key-moment.false)) (sound_told g.met.S.Site.laws c.loop-key.roster c.least_due.ensures.moves_on) due c.in_ok-handle.ensures.done

pub loop-key-preserved : goal.loop-key-preserved
loop-key-preserved g c =
    let w = sites_in c.loop-key.roster in
    let x = sites_in c.handle.new.roster in
    let key = c.in-Some.key in
    let due : world_due g.S.Site.engine w ≡ Some key = due_told g.met.S.Site.laws c.loop-key.roster c.least_due.result (Some key) c.least_due.ensures.due c.in-Some.is in
    let from : c.args.moment ≤ key.at = subst (IsFrom c.args.moment) due c.loop-key.invariant.from in
    record {
      ready = c.in_ok-handle.ensures.ready;
      none = c.in_ok-handle.ensures.none;
      lives = c.in_ok-handle.ensures.lives;
      ran = λ horizon l.
          gathered_on g.met.S.Site.laws g.K.RowSink.took g.met.K.RowSink.took_both horizon (sites_in c.args.roster.now) w x (gathered c.args.sink.now c.args.effects.now.rows.items) (gathered c.loop-key.sink c.loop-key.effects.rows.items) (gathered c.handle.new.sink c.handle.new.effects.rows.items)
          (c.loop-key.invariant.ran horizon l)
          (c.in_ok-handle.ensures.ran horizon (omega (arith, l, c.if-key-moment.false)));
      from = from_after g.met.S.Site.laws key c.args.moment w x from (sound_told g.met.S.Site.laws c.loop-key.roster c.least_due.ensures.moves_on) due c.loop-key.invariant.from c.in_ok-handle.ensures.done;
    }

pub returns-in_err-handle-clause-stops : goal.returns-in_err-handle-clause-stops
returns-in_err-handle-clause-stops g c =
    let e : Refusal = c.in_err-handle.field-0.0 in
    let told = err_from_is_err_and c.from_residual.result c.from_residual.ensures.1 in
    rw (told.1, told.2)
    (λ horizon l.
    gathering_halts g.met.S.Site.laws g.K.RowSink.took g.met.K.RowSink.took_both g.K.RowSink.broke g.met.K.RowSink.broke_later horizon (sites_in c.args.roster.now) (sites_in c.loop-key.roster) (gathered c.args.sink.now c.args.effects.now.rows.items) (gathered c.loop-key.sink c.loop-key.effects.rows.items)
    c.handle.new.sink e
    (c.loop-key.invariant.ran horizon l) (c.in_err-handle.ensures.stops horizon (omega (arith, l, c.if-key-moment.false))))

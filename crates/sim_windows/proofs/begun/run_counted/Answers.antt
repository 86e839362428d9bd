use Rattle.std.proofs.lemmas.Result.{IfErr-weaker, err_from_is_err_and, on_ok_weaker}
use Rattle.std.specs.Prelude.{ℕ, ◌≤◌}
use Rattle.sim_windows.specs.Gathered.{HaltsGathering, gathered}
use Rattle.sim_windows.specs.Worlds.{sites_in}
use Rattle.sim_windows.proofs.Gathering.{gathered_on, gathering_halts, handed_on, handing_halts}
use Rattle.sim_windows.proofs.begun.run_counted.Goals as goal

pub returns-in_err-run_moment-clause-stops : goal.returns-in_err-run_moment-clause-stops
returns-in_err-run_moment-clause-stops g c =
    let told = err_from_is_err_and c.from_residual.result c.from_residual.ensures.1 in rw (told.1, told.2) c.in_err-run_moment.ensures.stops

pub returns-clause-ran : goal.returns-clause-ran
returns-clause-ran g c =
    let took = g.K.RowSink.took in
    let x = sites_in c.run_moment.new.roster in
    let a = gathered c.args.sink.now c.args.effects.now.rows.items in
    let b = gathered c.run_moment.new.sink c.run_moment.new.effects.rows.items in
    let d = gathered c.hand_many.new.sink c.hand_many.new.rows.items in
    on_ok_weaker c.hand_many.result
    (λ taken horizon l.
    gathered_on g.met.S.Site.laws took g.met.K.RowSink.took_both horizon (sites_in c.args.roster.now) x x a b d (c.in_ok-run_moment.ensures.ran horizon l)
    (handed_on g.met.S.Site.laws took g.met.K.RowSink.took_both horizon x c.run_moment.new.sink c.hand_many.new.sink c.run_moment.new.effects.rows.items c.hand_many.new.rows.items taken))
    c.hand_many.ensures.took

pub returns-clause-stops : goal.returns-clause-stops
returns-clause-stops g c =
    let took = g.K.RowSink.took in
    let broke = g.K.RowSink.broke in
    let w = sites_in c.args.roster.now in
    let x = sites_in c.run_moment.new.roster in
    let a = gathered c.args.sink.now c.args.effects.now.rows.items in
    let rows = c.run_moment.new.effects.rows.items in
    let k = c.run_moment.new.sink in
    IfErr-weaker c.hand_many.result (λ y. broke k rows y c.hand_many.new.sink)
    (λ y. (horizon : ℕ) → c.args.moment ≤ horizon → HaltsGathering g.S.Site.engine took broke horizon w a y c.hand_many.new.sink)
    (λ y broken horizon l.
    gathering_halts g.met.S.Site.laws took g.met.K.RowSink.took_both broke g.met.K.RowSink.broke_later horizon w x a (gathered k rows) c.hand_many.new.sink y (c.in_ok-run_moment.ensures.ran horizon l)
    (handing_halts g.met.S.Site.laws took g.met.K.RowSink.took_both broke g.met.K.RowSink.broke_later horizon x k c.hand_many.new.sink rows y broken))
    c.hand_many.ensures.broke

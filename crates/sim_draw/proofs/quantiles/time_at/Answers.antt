use Rattle.std.proofs.Common.{arith, sym, ◌∙◌}
use Rattle.sqs_model.specs.declared.agents.Quantile.{Quantile}
use Rattle.sim_draw.proofs.Between.{all_left, at_second, last_time, left_later, second_is, time_before}
use Rattle.sim_draw.proofs.quantiles.time_at.Goals as goal

pub loop-second-init : goal.loop-second-init
loop-second-init c = all_left c.args.word c.args.quantiles.now c.in-Some.first.now c.in-Some.others.now (c.in-Some.ensures.cases.0) c.requires

pub overflow_mul-second : goal.overflow_mul-second
overflow_mul-second c =
    let l = at_second c.args.word c.args.quantiles.now c.loop-second.first c.in-Some.others.now c.loop-second.second-index (record { permille = 0; time = 0 }) c.loop-second-test.true c.loop-second.invariant in
    let second = second_is c.args.word c.args.quantiles.now c.loop-second.first _ _ l in
    omega (arith, second.permille)

pub time_between-requires-clause-follows : goal.time_between-requires-clause-follows
time_between-requires-clause-follows c =
    let l = at_second c.args.word c.args.quantiles.now c.loop-second.first c.in-Some.others.now c.loop-second.second-index (record { permille = 0; time = 0 }) c.loop-second-test.true c.loop-second.invariant in
    (second_is c.args.word c.args.quantiles.now c.loop-second.first _ _ l).follows

pub time_between-requires-clause-permille : goal.time_between-requires-clause-permille
time_between-requires-clause-permille c =
    let l = at_second c.args.word c.args.quantiles.now c.loop-second.first c.in-Some.others.now c.loop-second.second-index (record { permille = 0; time = 0 }) c.loop-second-test.true c.loop-second.invariant in
    (second_is c.args.word c.args.quantiles.now c.loop-second.first _ _ l).permille

pub time_between-requires-clause-time : goal.time_between-requires-clause-time
time_between-requires-clause-time c =
    let l = at_second c.args.word c.args.quantiles.now c.loop-second.first c.in-Some.others.now c.loop-second.second-index (record { permille = 0; time = 0 }) c.loop-second-test.true c.loop-second.invariant in
    (second_is c.args.word c.args.quantiles.now c.loop-second.first _ _ l).time

pub returns-then-from-second-clause-time : goal.returns-then-from-second-clause-time
returns-then-from-second-clause-time c =
    let l = at_second c.args.word c.args.quantiles.now c.loop-second.first c.in-Some.others.now c.loop-second.second-index (record { permille = 0; time = 0 }) c.loop-second-test.true c.loop-second.invariant in
    c.time_between.ensures.time ∙ sym (time_before c.loop-second.first _ _ c.args.word (rw c.from.ensures at c.if-from-second.true)) ∙ l.same

pub returns-then-from-second-clause-greatest : goal.returns-then-from-second-clause-greatest
returns-then-from-second-clause-greatest c =
    let l = at_second c.args.word c.args.quantiles.now c.loop-second.first c.in-Some.others.now c.loop-second.second-index (record { permille = 0; time = 0 }) c.loop-second-test.true c.loop-second.invariant in
    omega (arith, (second_is c.args.word c.args.quantiles.now c.loop-second.first _ _ l).time, c.time_between.ensures.greatest)

pub loop-second-preserved : goal.loop-second-preserved
loop-second-preserved c =
    let l = at_second c.args.word c.args.quantiles.now c.loop-second.first c.in-Some.others.now c.loop-second.second-index (record { permille = 0; time = 0 }) c.loop-second-test.true c.loop-second.invariant in
    left_later c.args.word c.args.quantiles.now c.loop-second.first _ _ (rw c.from.ensures at c.if-from-second.false) l

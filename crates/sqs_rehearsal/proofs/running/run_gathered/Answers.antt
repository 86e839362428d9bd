use Rattle.std.proofs.Common.{IfOk, Vec, subst, sym, ◌≡◌, ◌≤◌}
use Rattle.std.specs.Global.{Global}
use Rattle.std.proofs.lemmas.Result.{IfErr-weaker, IfOk-weaker}
use Rattle.sim_engine.specs.Setting.{Setting}
use Rattle.sqs_model.specs.Answers.{most_count}
use Rattle.sqs_model.specs.Limits.{sites_count}
use Rattle.sqs_model.specs.Site.{Site}
use Rattle.sqs_rehearsal.proofs.Counting.{if_both, never_over, stopped_behind, stopped_same, taken_behind}
use Rattle.sqs_rehearsal.proofs.running.run_gathered.Goals as goal

pub returns-clause-whole : goal.returns-clause-whole
returns-clause-whole g c =
    rw c.counted.ensures.same
    (IfOk-weaker c.run_gathered.result _ _
    (λ sites told.
    let is : c.sink-1.given.0 ≡ c.run_gathered.new.sink.sink.now = c.sink-1.given.1 (sym told.taken.same) in
    rw is (taken_behind g.K.RowSink.took _ _ c.in_ok-world.ensures.setting _ c.run_gathered.new.sink sites.items told))
    c.run_gathered.ensures.whole)

pub returns-clause-counted : goal.returns-clause-counted
returns-clause-counted g c =
    let within = subst (λ r. IfOk r (λ (sites : Vec Site Global). sites_count sites.items ≤ most_count)) c.counted.ensures.same c.counted.ensures.within in
    rw c.counted.ensures.same
    (if_both c.run_gathered.result _ _ _
    (λ sites told few.
    never_over g.K.RowSink.took _ c.args.scenario c.in_ok-world.ensures.setting _ c.run_gathered.new.sink sites.items told few)
    c.run_gathered.ensures.whole within)

pub returns-clause-stops : goal.returns-clause-stops
returns-clause-stops g c =
    rw c.counted.ensures.same
    (IfErr-weaker c.run_gathered.result _ _
    (λ refusal told.
    let world : Setting Site = c.in_ok-world.world in
    let run = c.in_ok-world.ensures.simulated in
    let is : c.sink-1.given.0 ≡ c.run_gathered.new.sink.sink.now = c.sink-1.given.1 (sym (stopped_same g.K.RowSink.took g.K.RowSink.broke world _ c.run_gathered.new.sink refusal told)) in
    let behind = stopped_behind g.K.RowSink.took g.K.RowSink.broke world _ c.in_ok-world.ensures.setting run.run run.is_run _ c.run_gathered.new.sink refusal told in
    rw is behind)
    c.run_gathered.ensures.stops)

use Rattle.std.specs.Prelude.{IfOk}
use Rattle.std.proofs.Common.{subst, sym}
use Rattle.std.proofs.lemmas.Result.{IfOk-weaker}
use Rattle.sim_engine.specs.declared.picks.Pick.{Pick}
use Rattle.sim_windows.specs.Stages.{Takes}
use Rattle.sim_windows.proofs.Stepped.{tells_same}
use Rattle.sim_windows.proofs.stage.Stage.take.Goals as goal

pub returns-in-Part-clause-took : goal.returns-in-Part-clause-took
returns-in-Part-clause-took g c =
    subst (λ (x : Pick). IfOk c.step.result (λ r. Takes g.S.Site.engine g.S.Site.conditions c.args.self r.0 x r.1)) (sym c.in-Part.is) c.step.ensures.took

pub returns-in-Part-clause-tells : goal.returns-in-Part-clause-tells
returns-in-Part-clause-tells g c =
    IfOk-weaker c.step.result _ _ (λ r same. tells_same g.met.S.Site.laws c.args.self r.0 c.args.told.now.items same) c.step.ensures.settled

pub returns-in-Barrier-clause-took : goal.returns-in-Barrier-clause-took
returns-in-Barrier-clause-took g c =
    subst (λ (x : Pick). IfOk c.barrier.result (λ r. Takes g.S.Site.engine g.S.Site.conditions c.args.self r.0 x r.1)) (sym c.in-Barrier.is) c.barrier.ensures.took

use Rattle.std.specs.Prelude.{◌≡◌}
use Rattle.std.proofs.Common.{ap, sym, ◌∙◌}
use Rattle.sim_windows.specs.Machines.{Seen}
use Rattle.sim_windows.specs.Stages.{Standing, is_finished_in}
use Rattle.sim_windows.proofs.Reading.{finished_is, same_state}
use Rattle.sim_windows.proofs.machine.Machine.finished.Goals as goal

pub returns-in-Ok-clause-finished : goal.returns-in-Ok-clause-finished
returns-in-Ok-clause-finished g c = λ layout s done is.
    let same : c.in-Ok.stage ≡ is.standing = same_state c.in-Ok.stage is.standing (sym c.in-Ok.is ∙ ap (λ (x : Seen _ _ _). x.state) c.self.view_is ∙ is.lives) in
    c.is_finished.ensures ∙ ap (λ (x : Standing _ _ _). is_finished_in g.S.Site.engine x) same ∙ finished_is g.met.S.Site.laws s done is.standing is.stands

use Rattle.std.specs.Prelude.{true, ◌++◌, ◌≡◌, filter}
use Rattle.std.proofs.Common.{ap, subst, sym, ◌∙◌}
use Rattle.sim_engine.specs.Prefixes.{is_before}
use Rattle.sim_windows.specs.Machines.{Seen}
use Rattle.sim_windows.specs.Stages.{HasRest, Standing, Stands, is_finished_in}
use Rattle.sim_windows.proofs.Reading.{finished_is, same_state}
use Rattle.sim_windows.proofs.machine.Machine.into_run.Goals as goal

pub returns-clause-ended : goal.returns-clause-ended
returns-clause-ended g c = λ layout s done is finished.
    let e = g.S.Site.engine in
    let stage : Standing _ _ _ = c.in_ok-state.field-0 in
    let same : stage ≡ is.standing = same_state stage is.standing (sym c.in_ok-state.was ∙ ap (λ (x : Seen _ _ _). x.state) c.self.view_is ∙ is.lives) in
    let over : is_finished_in e stage ≡ true = ap (λ (x : Standing _ _ _). is_finished_in e x) same ∙ finished_is g.met.S.Site.laws s done is.standing is.stands ∙ finished in
    let rest : HasRest e s is.standing.settled c.in_ok-rest.rest.rows.items c.in_ok-rest.rest.sites.items =
    subst (λ (x : Standing _ _ _). HasRest e s x.settled c.in_ok-rest.rest.rows.items c.in_ok-rest.rest.sites.items) same
    (c.in_ok-rest.ensures.ended over s (record { picks = done; stands = subst (Stands e g.S.Site.conditions s done) (sym same) is.stands })) in
    let told : c.self.inside.rows.items ≡ filter (is_before e is.standing.settled) rest.run.rows = ap (λ (x : Seen _ _ _). x.rows) c.self.view_is ∙ is.settled rest.run rest.is in
    record {
      run = rest.run;
      is = rest.is;
      rows_are = c.in_ok-append.ensures.items ∙ ap (λ z. z ++ c.in_ok-rest.rest.rows.items) told ∙ rest.rows_are;
      sites_are = rest.sites_are;
    }

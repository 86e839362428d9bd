use Rattle.std.specs.Option.{is_some}
use Rattle.std.specs.Prelude.{[], ◌||◌, ◌≡◌}
use Rattle.std.proofs.Common.{ap, sym, ◌∙◌}
use Rattle.std.proofs.lemmas.List.{append-nil}
use Rattle.sim_engine.proofs.Machines.{not_some}
use Rattle.sim_windows.specs.Stages.{is_finished_in, next_in}
use Rattle.sim_windows.proofs.Stepped.{barrier, left_so, no_barrier, rests_so, tells}
use Rattle.sim_windows.proofs.stage.Stage.barrier.Goals.{then-is_some-via-else-is_some+then-is_finished, then-is_some-via-then-is_some}
use Rattle.sim_windows.proofs.stage.Stage.barrier.Goals as goal

pub returns-then-is_some-clause-took : goal.returns-then-is_some-clause-took
returns-then-is_some-clause-took g c =
    let e = g.S.Site.engine in
    let has : is_some (next_in e c.args.self) ≡ c.is_some.result = ap is_some (sym c.next_ready.ensures) ∙ sym c.is_some.ensures in
    no_barrier g.met.S.Site.laws c.args.self
    (elim c.then-is_some.branch [
      | then-is_some-via-then-is_some w ↦ ap (λ b. b || is_finished_in e c.args.self) (has ∙ w.if-is_some.true)
      | then-is_some-via-else-is_some+then-is_finished w ↦
          ap (λ b. b || is_finished_in e c.args.self) (has ∙ w.if-is_some.false) ∙ sym w.is_finished.ensures ∙ w.if-is_finished.true
    ])

pub meet-requires-clause-rests : goal.meet-requires-clause-rests
meet-requires-clause-rests g c =
    rests_so g.met.S.Site.laws c.args.self c.in_ok-settled.settled c.in_ok-settled.rows.items c.in_ok-settled.ensures
    (sym c.next_ready.ensures ∙ not_some c.next_ready.result (sym c.is_some.ensures ∙ c.if-is_some.false))

pub meet-requires-clause-left : goal.meet-requires-clause-left
meet-requires-clause-left g c =
    left_so g.met.S.Site.laws c.args.self c.in_ok-settled.settled c.in_ok-settled.rows.items c.in_ok-settled.ensures (sym c.is_finished.ensures ∙ c.if-is_finished.false)

pub returns-clause-took : goal.returns-clause-took
returns-clause-took g c =
    barrier g.met.S.Site.laws c.args.self c.in_ok-settled.settled c.in_ok-stage.stage c.in_ok-settled.rows.items
    (sym c.next_ready.ensures ∙ not_some c.next_ready.result (sym c.is_some.ensures ∙ c.if-is_some.false)) (sym c.is_finished.ensures ∙ c.if-is_finished.false)
    c.in_ok-settled.ensures c.in_ok-stage.ensures.met c.in_ok-stage.ensures.settled

pub returns-clause-tells : goal.returns-clause-tells
returns-clause-tells g c =
    tells g.met.S.Site.laws c.args.self c.in_ok-settled.settled c.in_ok-stage.stage c.args.told.now.items c.in_ok-settled.rows.items c.append.new.self.items
    c.in_ok-settled.ensures c.in_ok-stage.ensures.settled c.in_ok-append.ensures.items

pub returns-in_err-append-clause-keeps : goal.returns-in_err-append-clause-keeps
returns-in_err-append-clause-keeps g c = ([], c.in_err-append.ensures.items ∙ sym (append-nil c.args.told.now.items))

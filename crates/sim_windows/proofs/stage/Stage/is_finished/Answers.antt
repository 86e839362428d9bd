use Rattle.std.specs.List.{list_all}
use Rattle.std.specs.Option.{is_some}
use Rattle.std.specs.Prelude.{Bool, Result, nat_le, not, true, ◌&&◌, ◌≡◌}
use Rattle.std.proofs.Common.{ap, sym, ◌∙◌}
use Rattle.std.proofs.lemmas.List.{take_all}
use Rattle.sim_engine.specs.World.{arrival, due_by}
use Rattle.sim_partition.specs.Sites.{due_in}
use Rattle.sim_windows.specs.Stages.{Standing, is_finished_in}
use Rattle.sim_windows.proofs.stage.Stage.is_finished.Goals as goal

pub returns : goal.returns
returns g c =
    let e = g.S.Site.engine in
    let kept = c.self.inside.kept in
    let rests : Result _ _ → Bool = λ part. not (is_some (due_by kept.horizon (due_in e part))) in
    let all : list_all rests c.self.inside.parts.items ≡ true =
    ap (list_all rests) (sym (take_all c.loop-part.part-index c.deref-part-items.result.now c.loop-part-test.false ∙ c.deref-part-items.ensures.value)) ∙ c.loop-part.invariant in
    c.wait_past.ensures ∙ ap (λ b. b && list_all (λ o. not (nat_le (arrival e o) kept.horizon)) kept.waiting) (sym all) ∙ ap (λ (x : Standing _ _ _). is_finished_in e x) c.self.view_is

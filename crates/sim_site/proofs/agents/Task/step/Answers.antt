use Rattle.std.proofs.Common.{ap, arith, length, sym, ◌+◌, ◌++◌, ◌≡◌, ◌≤◌, ◌∙◌}
use Rattle.sim_clock.specs.declared.key.Key.{Key}
use Rattle.sqs_model.specs.Step.{end_row}
use Rattle.sqs_model.specs.Answers.{most_count}
use Rattle.sqs_model.specs.Task.{Task}
use Rattle.sqs_redrive.specs.MoveTasks.{MoveTask}
use Rattle.sim_site.specs.Steps.{task_after}
use Rattle.sim_site.proofs.Going.{goes_both}
use Rattle.sim_site.proofs.Limiting.{after_passes, steps_pass}
use Rattle.sim_site.proofs.Passing.{stops_up}
use Rattle.sim_site.proofs.Stepping.{did_step}
use Rattle.sim_site.proofs.agents.Task.step.Goals as goal

pub returns-clause-stepped : goal.returns-clause-stepped
returns-clause-stepped c =
    let handling = c.args.handling.now in
    let mid = c.move_all.new.handling in
    let inside = c.self-2.inside in
    let with_move : MoveTask → Task = λ m. record { number = inside.number; move = m; sent = inside.sent; draws = inside.draws } in
    let after : Task = with_move c.step.new.self in
    let moved = c.in_ok-move_all.ensures.moved in
    let e : after ≡ task_after handling.key.at c.len-taken.result c.args.rest c.move_all.new.self =
    ap with_move c.step.ensures ∙ ap (task_after mid.key.at c.len-taken.result c.args.rest) c.self-2.view_is ∙ ap (λ (k : Key). task_after k.at c.len-taken.result c.args.rest c.move_all.new.self) moved.0.key in
    let counted : c.len-taken.result ≡ length c.args.loads.items = omega (arith, c.len-taken.ensures, c.args.loads.ok.0) in (
      goes_both handling mid c.tell_end.new.handling moved.0 c.in_ok-tell_end.ensures.on,
      λ core n.
          let rows = c.in_ok-tell_end.ensures.rows core n ∙ ap (λ k. mid.effects.now.rows.items ++ end_row k core after c.args.rest) moved.0.key in
          did_step handling.effects.now mid.effects.now c.tell_end.new.handling.effects.now handling.key core c.len-taken.result c.args.self.now c.move_all.new.self after
          c.args.loads.items c.args.rest (moved.1 core n) e counted rows c.in_ok-tell_end.ensures.sent,
    )

pub returns-then-steps-ge-MOST_COUNT-clause-stepped : goal.returns-then-steps-ge-MOST_COUNT-clause-stepped
returns-then-steps-ge-MOST_COUNT-clause-stepped c = λ core n.
    let old : MoveTask = c.args.self.now.move in
    let same : c.self.inside.movement ≡ old = ap (λ (t : Task). t.move) c.self.view_is in
    let full : most_count ≤ old.steps = omega (arith, c.if-steps-ge-MOST_COUNT.true, c.steps.ensures, ap (λ (m : MoveTask). m.steps) same) in
    steps_pass c.args.handling.now.key core c.args.self.now c.args.loads.items c.args.rest full

pub returns-in_err-move_all-clause-stepped : goal.returns-in_err-move_all-clause-stepped
returns-in_err-move_all-clause-stepped c =
    stops_up _ _ _ c.from_residual.result c.in_err-move_all.field-0.0 c.from_residual.ensures.1 (λ h core n. after_passes c.args.handling.now.key core c.args.self.now c.args.loads.items c.args.rest (h core n)) c.in_err-move_all.ensures.moved

pub step-requires-clause-steps : goal.step-requires-clause-steps
step-requires-clause-steps c =
    let same : c.self-2.inside.movement ≡ c.self.inside.movement = ap (λ (t : Task). t.move) c.self-2.view_is ∙ c.in_ok-move_all.ensures.kept.move ∙ ap (λ (t : Task). t.move) (sym c.self.view_is) in
    omega (arith, c.if-steps-ge-MOST_COUNT.false, c.steps.ensures, ap (λ (m : MoveTask). m.steps) same)

pub invariant_of-self : goal.invariant_of-self
invariant_of-self c =
    let same : c.self-2.inside.movement ≡ c.self.inside.movement = ap (λ (t : Task). t.move) c.self-2.view_is ∙ c.in_ok-move_all.ensures.kept.move ∙ ap (λ (t : Task). t.move) (sym c.self.view_is) in
    let before : c.self-2.inside.movement.moved ≡ c.self.inside.movement.moved = ap (λ (m : MoveTask). m.moved) same in
    let moved : c.step.new.self.moved ≡ c.self-2.inside.movement.moved + c.len-taken.result = ap (λ (m : MoveTask). m.moved) c.step.ensures in
    let sent : c.self-2.inside.sent ≡ c.args.self.now.sent + length c.args.loads.items = ap (λ (t : Task). t.sent) c.self-2.view_is ∙ c.in_ok-move_all.ensures.counted in
    let old : c.self.inside.sent ≡ c.args.self.now.sent = ap (λ (t : Task). t.sent) c.self.view_is in
    let counted : c.len-taken.result ≡ length c.args.loads.items = omega (arith, c.len-taken.ensures, c.args.loads.ok.0) in
    let most : c.self.inside.movement.moved ≤ c.self.inside.sent = c.self.invariant.0 in
    let steps : c.step.new.self.steps ≡ c.self-2.inside.movement.steps + 1 = ap (λ (m : MoveTask). m.steps) c.step.ensures in
    let below : c.step.new.self.steps ≤ most_count =
    omega (arith, steps, ap (λ (m : MoveTask). m.steps) same, c.steps.ensures, c.if-steps-ge-MOST_COUNT.false) in
    (omega (arith, before, moved, sent, old, counted, most), c.self-2.invariant.1, below, c.self-2.invariant.3)

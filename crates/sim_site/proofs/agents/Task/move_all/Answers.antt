use Rattle.std.proofs.Common.{ap, arith, length, List, refl, subst, suc, sym, ℕ, [], ◌+◌, ◌<◌, ◌∷◌, ◌≡◌, ◌∙◌}
use Rattle.std.proofs.lemmas.List.{nil_from_length}
use Rattle.sim_clock.specs.declared.key.Key.{Key}
use Rattle.sqs_redrive.specs.MoveTasks.{MoveTask}
use Rattle.sqs_redrive.specs.declared.transfers.Load.{Load}
use Rattle.sqs_model.specs.Answers.{most_count}
use Rattle.sqs_model.specs.Counts.{task_count}
use Rattle.sqs_model.specs.Step.{Moved, moves}
use Rattle.sqs_model.specs.Task.{Task}
use Rattle.sqs_model.specs.Valid.{IsLatency}
use Rattle.sim_site.specs.Steps.{DidMove, MoveRemains}
use Rattle.sim_site.proofs.Going.{goes_both, stays}
use Rattle.sim_site.proofs.Limiting.{moves_pass}
use Rattle.sim_site.proofs.Passing.{stops_up}
use Rattle.sim_site.proofs.Stepping.{move_remains_all, move_remains_next, move_remains_none}
use Rattle.sim_site.proofs.agents.Task.move_all.Goals as goal

pub loop-to-init : goal.loop-to-init
loop-to-init c =
    let handling = c.args.handling.now in
    record {
      on = stays handling;
      moved = λ core n. subst (λ (xs : List (ℕ × Load)). MoveRemains handling.effects.now handling.effects.now (moves handling.key core c.args.self.now xs) (moves handling.key core c.args.self.now c.args.loads.items)) (sym c.into_iter-to-iterator.ensures.into_iter_gives.0) (move_remains_all handling.effects.now (moves handling.key core c.args.self.now c.args.loads.items));
      kept = record { number = refl; move = refl };
      counted = ap (λ (xs : List (ℕ × Load)). c.args.self.now.sent + length xs) c.into_iter-to-iterator.ensures.into_iter_gives.0;
    }

pub move_one-requires : goal.move_one-requires
move_one-requires c = subst (λ (m : MoveTask). IsLatency m.settings.latency) (sym c.loop-to.invariant.kept.move) c.requires

pub loop-to-preserved : goal.loop-to-preserved
loop-to-preserved c =
    let handling = c.args.handling.now in
    let old = c.loop-to in
    let new = c.move_one.new.handling in
    record {
      on = goes_both handling old.handling new old.invariant.on c.in_ok-move_one.ensures.moved.0;
      moved = λ core n.
          let whole : Moved = moves handling.key core c.args.self.now c.args.loads.items in
          move_remains_next handling.effects.now old.handling.effects.now new.effects.now handling.key core old.self c.move_one.new.self c.in-Some.to c.in-Some.load c.next.new.self.rest.items whole
          (subst (λ (xs : List (ℕ × Load)). MoveRemains handling.effects.now old.handling.effects.now (moves handling.key core old.self xs) whole) c.in-Some.ensures.steps.0 (old.invariant.moved core n))
          (subst (λ (k : Key). DidMove old.handling.effects.now new.effects.now c.move_one.new.self (moves k core old.self ((c.in-Some.to, c.in-Some.load) ∷ []))) old.invariant.on.key (c.in_ok-move_one.ensures.moved.1 core n));
      kept = record { number = c.move_one.ensures.kept.number ∙ old.invariant.kept.number; move = c.move_one.ensures.kept.move ∙ old.invariant.kept.move };
      counted =
          let steps : length old.to-iterator.rest.items ≡ suc (length c.next.new.self.rest.items) = ap (λ (xs : List (ℕ × Load)). length xs) c.in-Some.ensures.steps.0 in
          omega (arith, steps, old.invariant.counted, c.in_ok-move_one.ensures.counted);
    }

pub returns-in_err-move_one-clause-kept : goal.returns-in_err-move_one-clause-kept
returns-in_err-move_one-clause-kept c =
    record { number = c.move_one.ensures.kept.number ∙ c.loop-to.invariant.kept.number; move = c.move_one.ensures.kept.move ∙ c.loop-to.invariant.kept.move }

pub returns-clause-moved : goal.returns-clause-moved
returns-clause-moved c =
    let now = c.loop-to in
    let handling = c.args.handling.now in
    let none : length now.to-iterator.rest.items ≡ 0 = omega (arith, c.in-None.ensures.steps.0, now.to-iterator.rest.ok.0) in (
      now.invariant.on,
      λ core n.
          let whole : Moved = moves handling.key core c.args.self.now c.args.loads.items in
          move_remains_none handling.effects.now now.handling.effects.now handling.key core now.self whole
          (subst (λ (xs : List (ℕ × Load)). MoveRemains handling.effects.now now.handling.effects.now (moves handling.key core now.self xs) whole) (nil_from_length now.to-iterator.rest.items none) (now.invariant.moved core n)),
    )

pub returns-clause-kept : goal.returns-clause-kept
returns-clause-kept c = c.loop-to.invariant.kept

pub returns-in_err-move_one-clause-moved : goal.returns-in_err-move_one-clause-moved
returns-in_err-move_one-clause-moved c =
    let now = c.loop-to in
    let key = c.args.handling.now.key in
    stops_up _ _ _ c.from_residual.result c.in_err-move_one.field-0.0 c.from_residual.ensures.1
    (λ h core n.
    let first : most_count < task_count (moves key core now.self ((c.in-Some.to, c.in-Some.load) ∷ [])).task = subst (λ (k : Key). most_count < task_count (moves k core now.self ((c.in-Some.to, c.in-Some.load) ∷ [])).task) now.invariant.on.key (h core n) in
    let past : most_count < task_count (moves key core now.self now.to-iterator.rest.items).task = subst (λ (xs : List (ℕ × Load)). most_count < task_count (moves key core now.self xs).task) (sym c.in-Some.ensures.steps.0)
    (moves_pass key core now.self c.in-Some.to c.in-Some.load c.next.new.self.rest.items first) in
    subst (λ (t : Task). most_count < task_count t) (now.invariant.moved core n).task past) c.in_err-move_one.ensures.moved

pub returns-clause-counted : goal.returns-clause-counted
returns-clause-counted c =
    let now = c.loop-to in
    let none : length now.to-iterator.rest.items ≡ 0 = omega (arith, c.in-None.ensures.steps.0, now.to-iterator.rest.ok.0) in
    omega (arith, none, now.invariant.counted)

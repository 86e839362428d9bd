use Rattle.std.proofs.Common.{rules, ◌≡◌, reverse, map, flat_map, subst, sym, ap, ◌∙◌}
use Rattle.std.proofs.lemmas.Fn.{always_returns_same}
use Rattle.std.specs.List.Sorted.{IsSortedByKey, IsStableByKey}
use Rattle.std.specs.Ordering.{nat_cmp}
use Rattle.sqs_model.specs.Finals.{final_task}
use Rattle.sqs_model.specs.declared.finals.FinalTask.{FinalTask}
use Rattle.sqs_rehearsal.proofs.Left.{by_number, map_flat, numbers_in_order}
use Rattle.sqs_rehearsal.proofs.Sorting.{in_order, stable_in_order}
use Rattle.sqs_rehearsal.proofs.finals.tasks_of.Goals as goal

pub returns : goal.returns
returns c =
    let w = c.args.sites.now in
    let key = λ (t : FinalTask). t.task in
    let computes = always_returns_same _ _ _ (λ a r f k. search rules) in
    let new = c.sort_by_key.new.self.items in
    let list = c.in_ok-tasks.tasks.items in
    let sorted : IsSortedByKey key nat_cmp new = c.in_ok-sort_by_key.ensures.sorted key computes in
    let stable : IsStableByKey key nat_cmp (reverse list) new = subst (λ t. IsStableByKey key nat_cmp t new) c.reverse.ensures.items (c.in_ok-sort_by_key.ensures.stable key computes) in
    let tasks = flat_map (λ s. s.core.tasks) w in
    let all : list ≡ map final_task tasks = c.in_ok-tasks.ensures ∙ map_flat final_task (λ s. s.core.tasks) w in
    stable_in_order by_number list new sorted stable ∙ ap (in_order by_number) all ∙ sym (numbers_in_order tasks)

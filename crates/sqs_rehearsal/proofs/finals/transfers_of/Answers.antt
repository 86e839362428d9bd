use Rattle.std.proofs.Common.{rules, ◌≡◌, IfOk, List, reverse, map, flat_map, subst, sym, ap, ◌∙◌}
use Rattle.std.proofs.lemmas.Fn.{always_returns_same}
use Rattle.std.specs.List.Sorted.{IsSortedBy, IsStableBy}
use Rattle.std.proofs.lemmas.List.Sorted.{ranks_by}
use Rattle.std.specs.Ordering.{is_lt}
use Rattle.sim_clock.specs.Order.{key_cmp, key_cmp_total}
use Rattle.sim_clock.specs.declared.key.Key.{Key}
use Rattle.sqs_model.specs.Finals.{in_key_order}
use Rattle.sqs_model.specs.declared.finals.FinalTransfer.{FinalTransfer}
use Rattle.sqs_rehearsal.specs.Left.{keyed}
use Rattle.sqs_rehearsal.proofs.Left.{by_key, keys_in_order, map_flat, without_keys}
use Rattle.sqs_rehearsal.proofs.Sorting.{in_order, stable_in_order}
use Rattle.sqs_rehearsal.proofs.finals.transfers_of.Goals as goal

pub returns : goal.returns
returns c =
    let w = c.args.sites.now in
    let lt = λ (p q : Key × FinalTransfer). is_lt (key_cmp p.0 q.0) in
    let weak = ranks_by key_cmp_total (λ (p : Key × FinalTransfer). p.0) in
    let compares = always_returns_same _ _ _ (λ a r f k. search rules) in
    let new = c.sort_by.new.self.items in
    let list = c.in_ok-keyed.keyed.items in
    let sorted : IsSortedBy lt new = c.in_ok-sort_by.ensures.sorted lt weak compares in
    let stable : IsStableBy lt (reverse list) new = subst (λ t. IsStableBy lt t new) c.reverse.ensures.items (c.in_ok-sort_by.ensures.stable lt weak compares) in
    let transfers = flat_map (λ s. s.arriving) w in
    let all : list ≡ map keyed transfers = c.in_ok-keyed.ensures ∙ map_flat keyed (λ s. s.arriving) w in
    let ordered : new ≡ map keyed (in_key_order transfers) = stable_in_order by_key list new sorted stable ∙ ap (in_order by_key) all ∙ sym (keys_in_order transfers) in
    subst (λ (t : List FinalTransfer). IfOk c.without_keys.result (λ v. v.items ≡ t)) (ap (map (λ (p : Key × FinalTransfer). p.1)) ordered ∙ without_keys (in_key_order transfers)) c.without_keys.ensures

use Rattle.std.proofs.Common.{◌≡◌, ◌+◌, ◌++◌, ◌∷◌, ◌∙◌, [], List, ℕ, ap, arith, get_or, sym, take}
use Rattle.std.proofs.lemmas.List.{append_assoc, take_more}
use Rattle.sim_report.proofs.Counted.{IsNonDecreasing-taken}
use Rattle.sim_report.proofs.age_counts.AgeCounts.add_each.Goals as goal

pub add-requires-clause-ascends : goal.add-requires-clause-ascends
add-requires-clause-ascends c =
    let ages = c.args.ages.now in
    let place = c.loop-age.age-index in
    let next = get_or ages place 0 ∷ [] in
    let more : c.loop-age.self ++ next ≡ c.args.self.now ++ take (place + 1) ages =
    ap (λ (ns : List ℕ). ns ++ next) c.loop-age.invariant ∙ append_assoc c.args.self.now (take place ages) next
    ∙ ap (λ (ns : List ℕ). c.args.self.now ++ ns) (sym (take_more ages place 0 (omega arith))) in
    rw more (IsNonDecreasing-taken c.args.self.now ages (place + 1) c.requires)

use Rattle.std.proofs.Common.{List, ap, arith, length, map, sym, take, ℕ, ◌++◌, ◌∷◌, ◌≡◌, ◌∙◌, []}
use Rattle.std.specs.List.{range_with_len, sum}
use Rattle.std.proofs.lemmas.List.FromFn.{map-range_with_len_more}
use Rattle.std.proofs.lemmas.List.Sums.{sum_by-drop_more, sum_by-take-drop}
use Rattle.sim_scenario.proofs.copies.copies_before.Goals as goal

pub loop-count-preserved : goal.loop-count-preserved
loop-count-preserved c =
    let copies : List ℕ = c.args.copies.now in
    let i : ℕ = c.loop-count.count-index in
    let total : c.loop-count.total ≡ sum (take i copies) = omega (arith, c.loop-count.invariant.total, sum_by-take-drop (λ n. n) copies i) in
    record {
      total = omega (arith, c.loop-count.invariant.total, sum_by-drop_more (λ n. n) copies i 0 c.loop-count-test.true);
      before = c.in_ok-push.ensures.items ∙ (λ j. c.loop-count.invariant.before j ++ total j ∷ []) ∙ sym (map-range_with_len_more (λ n. sum (take n copies)) 0 i i (omega arith));
    }

pub returns : goal.returns
returns c =
    let all : c.loop-count.count-index ≡ length c.args.copies.now = omega arith in
    c.loop-count.invariant.before ∙ ap (λ i. map (λ n. sum (take n c.args.copies.now)) (range_with_len 0 i)) all

pub overflow_add-total : goal.overflow_add-total
overflow_add-total c =
    let copies : List ℕ = c.args.copies.now in
    omega (arith, c.requires, c.loop-count.invariant.total, sum_by-drop_more (λ n. n) copies c.loop-count.count-index 0 c.loop-count-test.true)

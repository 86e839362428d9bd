use Rattle.std.proofs.Common.{◌≡◌, ◌+◌, ◌∙◌, ◌∷◌, ◌++◌, [], ap, get_or, sym, take, List, ℕ, arith}
use Rattle.std.specs.Prelude.{Some}
use Rattle.std.proofs.lemmas.List.{get_or-map, take_all, take_more}
use Rattle.sim_report.specs.Figures.{Figure, count_names, named_counts}
use Rattle.sim_report.proofs.Named.{length-named, length-names, named-at}
use Rattle.sim_report.proofs.figure.named_counts.Goals as goal

pub loop-place-preserved : goal.loop-place-preserved
loop-place-preserved c =
    let counts = c.args.counts.now in
    let all = named_counts counts in
    let place = c.loop-place.place in
    let names = c.count_names-names.result in
    let told = c.count_names-names.ensures in
    let many = length-names names told in
    let figure : Figure = c.of.result in
    let name = sym (get_or-map (λ n. n.now) names place (record { ref_ptr = (0, 0); now = [] }) [] (omega (arith, c.loop-place-test.true))) ∙ ap (λ (ns : List (List ℕ)). get_or ns place []) told in
    let pair : List ℕ → ℕ → Figure = λ n v. (n, Some v) in
    let is : figure ≡ get_or all place figure =
    c.of.ensures ∙ ap (λ n. pair n c.from.result) name ∙ ap (pair (get_or count_names place [])) c.from.ensures
    ∙ sym (named-at counts place figure c.told-counts c.loop-place-test.true) in
    let long = length-named counts c.told-counts in
    let more : take (place + 1) all ≡ take place all ++ get_or all place figure ∷ [] = take_more all place figure (omega (arith, c.loop-place-test.true)) in
    c.in_ok-push.ensures.items
    ∙ ap (λ (fs : List Figure). fs ++ figure ∷ []) c.loop-place.invariant
    ∙ ap (λ (f : Figure). take place all ++ f ∷ []) is
    ∙ sym more

pub returns : goal.returns
returns c =
    let long = length-named c.args.counts.now c.told-counts in
    c.loop-place.invariant ∙ take_all c.loop-place.place (named_counts c.args.counts.now) (omega (arith, c.loop-place-test.false))

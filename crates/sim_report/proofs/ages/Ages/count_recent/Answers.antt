use Rattle.std.proofs.Common.{◌≡◌, ◌++◌, ◌∙◌, List, ℕ, ap, arith}
use Rattle.std.proofs.lemmas.List.{append-nil}
use Rattle.std.proofs.lemmas.List.Sorted.{IsNonDecreasingBy-from_sort, sum_by-IsPermutation}
use Rattle.std.proofs.lemmas.List.Sums.{sum_by-append}
use Rattle.sqs_formats.specs.Report.{ascending}
use Rattle.sim_report.proofs.Ascending.{Ascends-ascending, ascending-is, ascending-same}
use Rattle.sim_report.proofs.ages.Ages.count_recent.Goals as goal

pub merged-requires : goal.merged-requires
merged-requires c =
    rw c.as_slice.ensures.value (IsNonDecreasingBy-from_sort (λ n. n) c.sort_unstable.new.self.items c.sort_unstable.ensures.sorted)

pub returns-in_err-self-inside : goal.returns-in_err-self-inside
returns-in_err-self-inside c =
    let counted = c.self.inside.counted in
    let recent = c.self.inside.recent.items in
    let sorted = c.sort_unstable.new.self.items in
    ascending-same (counted ++ sorted) (counted ++ recent)
    (λ f. omega (arith, sum_by-append f counted sorted, sum_by-append f counted recent, sum_by-IsPermutation f recent sorted c.sort_unstable.ensures.permutation))
    ∙ c.self.view_is

pub returns : goal.returns
returns c =
    let counted = c.self.inside.counted in
    let recent = c.self.inside.recent.items in
    let sorted = c.sort_unstable.new.self.items in
    let all : c.in_ok-self-inside.field-0 ≡ ascending (counted ++ sorted) = c.in_ok-self-inside.ensures ∙ ap (λ (ns : List ℕ). ascending (counted ++ ns)) c.as_slice.ensures.value in
    let twice = ascending-is (ascending (counted ++ sorted)) (Ascends-ascending (counted ++ sorted)) in
    rw (c.clear.ensures.items, append-nil, all, twice)
    (ascending-same (counted ++ sorted) (counted ++ recent)
    (λ f. omega (arith, sum_by-append f counted sorted, sum_by-append f counted recent, sum_by-IsPermutation f recent sorted c.sort_unstable.ensures.permutation))
    ∙ c.self.view_is)

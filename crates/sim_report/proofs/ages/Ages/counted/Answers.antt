use Rattle.std.proofs.Common.{◌≡◌, ◌++◌, ◌∙◌, List, ℕ, ap, arith}
use Rattle.std.proofs.lemmas.List.Sums.{sum_by-append}
use Rattle.sqs_formats.specs.Report.{ascending}
use Rattle.sim_report.proofs.Ascending.{ascending-same, sum_by-ascending}
use Rattle.sim_report.proofs.ages.Ages.counted.Goals as goal

pub merged-requires : goal.merged-requires
merged-requires c = rw c.as_slice-2.ensures.value c.in_ok-recent.ensures.ascends

pub returns : goal.returns
returns c =
    let counted = c.self.inside.counted in
    let recent = c.self.inside.recent.items in
    let sorted : c.as_slice-2.result.now ≡ ascending recent = c.as_slice-2.ensures.value ∙ c.in_ok-recent.ensures.same ∙ ap ascending c.as_slice.ensures.value in
    let same : ascending (counted ++ ascending recent) ≡ ascending (counted ++ recent) =
    ascending-same (counted ++ ascending recent) (counted ++ recent) (λ f. omega (arith, sum_by-append f counted (ascending recent), sum_by-append f counted recent, sum_by-ascending f recent)) in
    let all : ascending (counted ++ c.as_slice-2.result.now) ≡ c.args.self.now = ap (λ (ns : List ℕ). ascending (counted ++ ns)) sorted ∙ same ∙ c.self.view_is in
    rw all at c.merged.ensures

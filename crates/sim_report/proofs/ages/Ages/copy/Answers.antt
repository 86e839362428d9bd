use Rattle.std.proofs.Common.{◌≡◌, ◌++◌, ◌∙◌, List, ℕ, ap, sym}
use Rattle.std.proofs.lemmas.List.{append-nil}
use Rattle.sqs_formats.specs.Report.{ascending}
use Rattle.sim_report.proofs.Ascending.{Ascends-ascending, ascending-is}
use Rattle.sim_report.proofs.ages.Ages.copy.Goals as goal

pub returns : goal.returns
returns c =
    let counted = c.self.inside.counted in
    let recent = c.self.inside.recent.items in
    let all = ascending (counted ++ recent) in
    let twice : ascending all ≡ all = ascending-is all (Ascends-ascending (counted ++ recent)) in
    ap (λ (ns : List ℕ). ascending (c.in_ok-counted.field-0 ++ ns)) c.new.ensures.items
    ∙ ap ascending (append-nil c.in_ok-counted.field-0)
    ∙ ap ascending (c.in_ok-counted.ensures ∙ sym c.self.view_is) ∙ twice ∙ c.self.view_is

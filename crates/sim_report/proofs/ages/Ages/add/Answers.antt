use Rattle.std.proofs.Common.{◌≡◌, ◌++◌, ◌∷◌, ◌∙◌, [], ap}
use Rattle.std.proofs.lemmas.List.{append_assoc}
use Rattle.sqs_formats.specs.Report.{ascending, put}
use Rattle.sim_report.proofs.Ascending.{ascending-push}
use Rattle.sim_report.proofs.ages.Ages.add.Goals as goal
use Rattle.sim_report.proofs.ages.Ages.add.Goals.{then-len-max+in_ok-count_recent, else-len-max}

pub returns : goal.returns
returns c =
    let age = c.args.age in
    let counted = c.self-2.inside.counted in
    let recent = c.self-2.inside.recent.items in
    let kept : ascending (counted ++ recent) ≡ c.args.self.now = elim c.if-len-max.branch as (λ b. ascending (counted ++ recent) ≡ c.args.self.now) [
      | then-len-max+in_ok-count_recent w ↦ cc (w.count_recent.ensures, w.self-is, c.self-2.view_is)
      | else-len-max w ↦ cc (w.self-is, c.self-2.view_is)
    ] in
    rw (c.in_ok-push.ensures.items, ← append_assoc counted recent (age ∷ [])) (ascending-push (counted ++ recent) age ∙ ap (put age) kept)

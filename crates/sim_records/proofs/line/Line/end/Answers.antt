use Rattle.std.proofs.Common.{◌≡◌, ◌+◌, ◌-◌, ◌<◌, ◌≤◌, ◌∙◌, ap, drop, length, subst, sym}
use Rattle.std.proofs.lemmas.List.{drop-drop}
use Rattle.sim_records.proofs.Ended.{blank_ended, shown_ended}
use Rattle.sim_records.proofs.line.Line.end.Goals as goal
use Rattle.sim_records.proofs.line.Line.end.Goals.{then-len-behind-lt3+in_ok-blank, else-len-behind-lt3}

pub returns : goal.returns
returns c rest fs is same =
    let text = c.self-2.inside.text.items in
    let start = c.self-2.inside.start in
    let next : drop (start + 1) text ≡ drop 1 c.if-len-behind-lt3.self = sym (drop-drop 1 start text) ∙ ap (drop 1) c.self-2.view_is in
    let n : c.len.result ≡ length c.args.self.now = c.len.ensures in
    next ∙ elim c.if-len-behind-lt3.branch [
      | then-len-behind-lt3+in_ok-blank w ↦
          ap (drop 1) (w.self-is ∙ w.in_ok-blank.ensures) ∙ blank_ended c.args.self.now rest fs c.args.behind is same (subst (λ k. k - c.args.behind < 3) n w.if-len-behind-lt3.true)
      | else-len-behind-lt3 w ↦
          ap (drop 1) w.self-is ∙ shown_ended c.args.self.now rest fs c.args.behind is same (subst (λ k. 3 ≤ k - c.args.behind) n w.if-len-behind-lt3.false)
    ]

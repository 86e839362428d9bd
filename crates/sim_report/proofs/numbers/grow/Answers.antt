use Rattle.std.proofs.Common.{rules, ◌≡◌, ◌+◌, ◌-◌, ◌≤◌, ◌++◌, ◌∙◌, List, Bool, false, length, replicate, take, ap, arith}
use Rattle.std.proofs.lemmas.List.{take_all}
use Rattle.sim_report.specs.Numbered.{marked}
use Rattle.sim_report.proofs.Marked.{marked-trail}
use Rattle.sim_report.proofs.numbers.grow.Goals as goal

pub returns-clause-same : goal.returns-clause-same
returns-clause-same c = λ first.
    let flags = c.args.flags.now.items in
    let many = c.in_ok-many.many in
    let grown : c.resize.new.self.items ≡ take many flags ++ replicate (many - length flags) false = search rules in
    let more : many ≡ c.args.place + 64 = search rules in
    let longer : length flags ≤ many = grind (arith, c.requires, more) in
    ap (marked first) (grown ∙ ap (λ (bs : List Bool). bs ++ replicate (many - length flags) false) (take_all many flags longer))
    ∙ marked-trail (many - length flags) first flags

use Rattle.std.proofs.Common.{List, ap, set, ◌∙◌}
use Rattle.std.proofs.lemmas.List.{drop-set-add}
use Rattle.sim_exchange.specs.declared.heads.Head.{Head}
use Rattle.sim_exchange.proofs.heads.Heads.put.Goals as goal

pub returns : goal.returns
returns c =
    c.mend.ensures.leaves ∙ drop-set-add c.self.inside.width c.self.inside.nodes.items c.args.place c.args.head
    ∙ ap (λ (hs : List Head). set hs c.args.place c.args.head) c.self.view_is

use Rattle.std.proofs.Common.{ap, arith, subst, sym, ◌∙◌, ◌≡◌}
use Rattle.std.proofs.lemmas.List.{nil_from_length}
use Rattle.std.specs.Prelude.{IfOk}
use Rattle.sim_engine.specs.Merge.{merged_all, row_cmp}
use Rattle.sim_exchange.proofs.Merging.{merged_single}
use Rattle.sim_exchange.proofs.rows.merge_rows.Goals as goal
use Rattle.sim_exchange.proofs.rows.merge_rows.Goals.{in-Some, in-None}

pub returns-then-len-le1 : goal.returns-then-len-le1
returns-then-len-le1 g c =
    let lists = c.args.lists.items in
    let R = row_cmp g.S.Site.engine in
    elim c.match-pop.branch [
      | in-Some w ↦
          subst (λ r. IfOk r (λ rows. rows.items ≡ merged_all R lists)) (sym w.result-is)
          (subst (λ l. IfOk w.into_one.result (λ rows. rows.items ≡ l)) (merged_single R lists c.pop.new.self.items w.in-Some.rows w.in-Some.ensures.items (omega (arith, c.if-len-le1.true, c.len.ensures, c.args.lists.ok.0))) w.into_one.ensures)
      | in-None w ↦
          subst (λ r. IfOk r (λ rows. rows.items ≡ merged_all R lists)) (sym w.result-is)
          (w.new.ensures.items ∙ sym (ap (merged_all R) (nil_from_length lists (omega (arith, w.in-None.ensures.cases.0, c.args.lists.ok.0)))))
    ]

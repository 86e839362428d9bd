use Rattle.std.proofs.Common.{All, List, Option, arith, sym, subst, take, ◌∙◌, ◌≤◌, ℕ}
use Rattle.std.proofs.Common.{true≢false}
use Rattle.std.proofs.lemmas.List.{take_all}
use Rattle.std.proofs.lemmas.List.Elements.{All-more, All-same}
use Rattle.sim_engine.specs.declared.edge.Edge.{Edge}
use Rattle.sim_exchange.specs.Layout.{owner_of}
use Rattle.sim_exchange.specs.Line.{IsSettled, total_of}
use Rattle.sim_exchange.proofs.line.shorten.Goals as goal
use Rattle.sim_exchange.proofs.line.shorten.Goals.{then-shorten_by, else-shorten_by}
use Rattle.sim_exchange.proofs.Walks.{in_get_or, total_upto}

pub loop-way-preserved : goal.loop-way-preserved
loop-way-preserved c =
    let inv = c.loop-way.invariant in
    let fall : total_of c.shorten_by.new.line ≤ total_of c.loop-way.line = total_upto c.loop-way.line c.shorten_by.new.line c.shorten_by.result c.shorten_by.ensures.nearer c.shorten_by.ensures.same in
    record {
      short = c.shorten_by.ensures.short;
      walked = c.shorten_by.ensures.walked c.args.ways.now (in_get_or c.args.ways.now c.loop-way.way-index _ c.loop-way-test.true) inv.walked;
      upto = omega (arith, inv.upto);
      nearer =
          elim c.if-shorten_by.branch [
            | then-shorten_by w ↦ λ h. omega (arith, c.shorten_by.ensures.nearer w.if-shorten_by.true, inv.upto)
            | else-shorten_by w ↦ λ h. omega (arith, inv.nearer (sym w.is_shorter-is ∙ h))
          ];
      settled =
          elim c.if-shorten_by.branch [
            | then-shorten_by w ↦ λ h. absurd (true≢false (sym w.is_shorter-is ∙ h))
            | else-shorten_by w ↦ λ h.
                let P : List (Option ℕ) → Edge → Type 0 = λ line. IsSettled (owner_of c.args.layout.now) c.args.start line in
                let before : All (P c.shorten_by.new.line) (take c.loop-way.way-index c.args.ways.now) =
                subst (λ (line : List (Option ℕ)). All (P line) (take c.loop-way.way-index c.args.ways.now)) (sym (c.shorten_by.ensures.same w.if-shorten_by.false)) (inv.settled (sym w.is_shorter-is ∙ h)) in
                All-more (P c.shorten_by.new.line) c.args.ways.now c.loop-way.way-index _ c.loop-way-test.true before (c.shorten_by.ensures.settled w.if-shorten_by.false)
          ];
    }

pub returns-clause-settled : goal.returns-clause-settled
returns-clause-settled c = λ h.
    All-same (IsSettled (owner_of c.args.layout.now) c.args.start c.loop-way.line) c.args.ways.now (take c.loop-way.way-index c.args.ways.now) (sym (take_all c.loop-way.way-index c.args.ways.now c.loop-way-test.false))
    (c.loop-way.invariant.settled h)

use Rattle.std.proofs.Common.{List, Option, ap, arith, length, length-append, subst, sym, ◌+◌, ◌++◌, ◌∙◌, ◌<◌, ◌≡◌, ℕ}
use Rattle.sim_exchange.specs.Layout.{owner_of}
use Rattle.sim_exchange.proofs.Tables.{AreRows, rows_more, table_distances}
use Rattle.sim_exchange.proofs.distances.Distances.new.Goals as goal

pub loop-start-preserved : goal.loop-start-preserved
loop-start-preserved c =
    let owner = owner_of c.args.layout.now in
    let parts = c.args.layout.now.parts in
    let cells = c.loop-start.cells.items in
    let line = c.in_ok-line.line.items in
    let e : c.extend_from_slice.new.self.items ≡ cells ++ line = c.in_ok-extend_from_slice.ensures.items ∙ ap (λ (ds : List (Option ℕ)). cells ++ ds) c.deref.ensures.value in
    record {
      many = omega (arith, ap length e, length-append cells line, c.loop-start.invariant.many, c.in_ok-line.ensures.parts);
      rows =
          subst (AreRows owner c.args.ways.now parts (c.loop-start.start + 1)) (sym e)
          (rows_more owner c.args.ways.now parts c.loop-start.start cells line c.loop-start.invariant.many c.loop-start.invariant.rows c.in_ok-line.ensures.distances);
    }

pub returns-clause-distances : goal.returns-clause-distances
returns-clause-distances c =
    let owner = owner_of c.args.layout.now in
    let p = c.parts-parts.ensures.parts in
    table_distances owner c.args.ways.now _ (subst (λ (n : ℕ). (site : ℕ) → owner site < n) (sym p) c.parts-parts.ensures.below)
    (subst (λ (n : ℕ). AreRows owner c.args.ways.now n n c.loop-start.cells.items) (sym p) (λ q r k l. c.loop-start.invariant.rows q r (omega (arith, p)) l))

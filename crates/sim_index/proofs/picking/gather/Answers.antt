use Rattle.std.proofs.Common.{◌+◌, ap, arith, drop, length, take, ◌∙◌}
use Rattle.std.proofs.lemmas.List.Edits.{length-swap}
use Rattle.sim_index.proofs.Picked.{gathered, left_out}
use Rattle.sim_index.proofs.picking.gather.Goals as goal
use Rattle.sim_index.proofs.picking.gather.Goals.{then-told-place, else-told-place}

pub loop-place-preserved : goal.loop-place-preserved
loop-place-preserved g c =
    let i = c.loop-place.invariant in
    let told = c.args.told.now in
    elim c.if-told-place.branch [
      | then-told-place w ↦
          let step = gathered told c.args.values.now c.loop-place.values c.loop-place.kept c.loop-place.place (omega (arith, c.loop-place-test.true)) i.long c.requires i.before i.kept i.rest w.if-told-place.true in
          record {
            within = omega (arith, c.loop-place-test.true);
            before = omega (arith, w.kept-is, i.before);
            long = ap length w.values-is ∙ ap length w.swap.ensures.after ∙ length-swap c.loop-place.values c.loop-place.kept c.loop-place.place ∙ i.long;
            kept = (λ j. take (w.kept-is j) ((w.values-is ∙ w.swap.ensures.after) j)) ∙ step.0;
            rest = ap (drop (c.loop-place.place + 1)) (w.values-is ∙ w.swap.ensures.after) ∙ step.1;
          }
      | else-told-place w ↦
          let step = left_out told c.args.values.now c.loop-place.values c.loop-place.kept c.loop-place.place (omega (arith, c.loop-place-test.true)) i.long c.requires i.kept i.rest w.if-told-place.false in
          record {
            within = omega (arith, c.loop-place-test.true);
            before = omega (arith, w.kept-is, i.before);
            long = ap length w.values-is ∙ i.long;
            kept = (λ j. take (w.kept-is j) (w.values-is j)) ∙ step.0;
            rest = ap (drop (c.loop-place.place + 1)) w.values-is ∙ step.1;
          }
    ]

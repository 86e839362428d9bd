use Rattle.std.proofs.Common.{◌≡◌, ◌<◌, ◌^◌, arith, get_or, length, take}
use Rattle.std.proofs.lemmas.List.{length-replicate}
use Rattle.std.proofs.lemmas.List.Folds.{length-flat_map-take}
use Rattle.sim_report.specs.Ages.{ages_of, expanded}
use Rattle.sim_report.specs.declared.age_counts.AgeCount.{AgeCount}
use Rattle.sim_report.proofs.Counted.{total-fits}
use Rattle.sim_report.proofs.age_counts.total.Goals as goal

pub overflow_add-total : goal.overflow_add-total
overflow_add-total c =
    let none : AgeCount = record { age = 0; count = 0 } in
    let counts = c.args.counts.now in
    let place = c.loop-count.count-index in
    let one = get_or counts place none in
    let few = length-flat_map-take ages_of counts place none (omega arith) in
    let long : length (ages_of one) ≡ one.count = length-replicate one.count one.age in
    let small : c.from.result < 2 ^ 64 = omega arith in
    let fits = total-fits c.loop-count.total (length (expanded (take place counts))) c.from.result c.from-in-loop-count.result (length (expanded counts))
    c.loop-count.invariant.fits small (omega (arith, c.from-in-loop-count.ensures)) c.requires in
    omega arith

use Rattle.std.proofs.Common.{arith, ◌∙◌, ap, ◌∷◌}
use Rattle.sim_records.proofs.Plain.{decimal_short, set_before}
use Rattle.sim_records.proofs.before.put_before.Goals as goal

pub write_digits-start-requires : goal.write_digits-start-requires
write_digits-start-requires c = let short = decimal_short c.args.number c.ranges.number.fits in (omega arith, c.requires.within)

pub overflow_sub-start : goal.overflow_sub-start
overflow_sub-start c = let short = decimal_short c.args.number c.ranges.number.fits in omega arith

pub returns-clause-written : goal.returns-clause-written
returns-clause-written c =
    let short = decimal_short c.args.number c.ranges.number.fits in
    let text = c.write_digits-start.new.buf in
    set_before text c.write_digits-start.result c.args.mark (omega arith) (omega arith)
    ∙ ap (λ t. c.args.mark ∷ t) c.write_digits-start.ensures.written

pub returns-clause-most : goal.returns-clause-most
returns-clause-most c = let short = decimal_short c.args.number c.ranges.number.fits in omega arith

pub returns-clause-before : goal.returns-clause-before
returns-clause-before c = let short = decimal_short c.args.number c.ranges.number.fits in omega arith

pub returns-clause-long : goal.returns-clause-long
returns-clause-long c = omega (arith, c.write_digits-start.ensures.start, decimal_short c.args.number c.ranges.number.fits, c.requires.room)

use Rattle.std.proofs.Common.{drop, ◌∙◌}
use Rattle.std.specs.Fmt.{decimal}
use Rattle.sim_records.proofs.Plain.{plain_decimal, plain_put}
use Rattle.sim_records.proofs.fields.number_before.Goals as goal

pub returns-clause-written : goal.returns-clause-written
returns-clause-written c =
    let n = c.args.number in
    c.put_before.ensures.written ∙ plain_put (decimal n) (drop c.args.end c.args.text.now) (plain_decimal n c.ranges.number.fits)

use Rattle.std.proofs.Common.{rules, arith}
use Rattle.sim_records.proofs.Plain.{decimal_short, plain_decimal}
use Rattle.sim_records.proofs.row_line.put_call.Goals as goal

pub write_digits-requires : goal.write_digits-requires
write_digits-requires c =
    let short = decimal_short c.args.row.now.key.at (search rules) in
    (omega (arith, short), omega arith)

pub returns-clause-at : goal.returns-clause-at
returns-clause-at c = plain_decimal c.args.row.now.key.at (search rules)

use Rattle.std.proofs.Common.{drop, ◌∙◌}
use Rattle.hex.specs.Hex.{encode_lower}
use Rattle.sim_records.proofs.Plain.{plain_hex, plain_put}
use Rattle.sim_records.proofs.fields.digest_before.Goals as goal

pub returns-clause-written : goal.returns-clause-written
returns-clause-written c =
    c.put_digest.ensures.written ∙ plain_put (encode_lower c.args.md5.now) (drop c.args.end c.args.text.now) (plain_hex c.args.md5.now)

use Rattle.std.proofs.Common.{rules, ◌≡◌, ◌-◌, length, take, drop, arith}
use Rattle.std.proofs.lemmas.Grind.{common_steps}
use Rattle.std.proofs.Math.Seq.{take-add}
use Rattle.csv.proofs.WriteFacts.{appends-more}
use Rattle.sim_records.proofs.sink.write_all.Goals as goal

pub loop-done-preserved : goal.loop-done-preserved
loop-done-preserved g c =
    let bytes = c.args.bytes.now in
    let done = c.loop-done.done in
    let n = c.in_ok-done.field-0 in
    let taken = rw c.in_ok-done.was at c.write.ensures.bytes in
    let same : take n (take (length bytes - done) (drop done bytes)) ≡ take n (drop done bytes) = grind (arith, common_steps) in
    let prefix = appends-more _ _ _ _ _ c.loop-done.invariant.prefix taken in
    record {
      within = grind (arith, common_steps);
      whole = search rules;
      prefix = rw (take-add done n bytes, ← same) prefix;
    }

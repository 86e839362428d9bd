use Rattle.std.proofs.Common.{◌∷◌, ◌+◌, [], append_assoc, arith}
use Rattle.std.proofs.lemmas.List.FromFn.{map-range_with_len_more}
use Rattle.sqs_formats.specs.Copies.{copy_name, copy_names}
use Rattle.sim_scenario.proofs.copies.push_copy_names.Goals as goal

pub loop-n-preserved : goal.loop-n-preserved
loop-n-preserved c =
    let name = c.args.name.now in
    let more = map-range_with_len_more (copy_name name) 1 c.loop-n.n (c.loop-n.n + 1) (omega arith) in
    rw (c.in_ok-push.ensures.items, c.in_ok-copy_name.ensures, c.loop-n.invariant, more)
    (append_assoc c.args.names.now.items (copy_names name c.loop-n.n) (copy_name name (c.loop-n.n + 1) ∷ []))

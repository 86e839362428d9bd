use Rattle.std.proofs.Common.{ap, arith, sym, ℕ, ◌%◌, ◌++◌, ◌∷◌, ◌∙◌, []}
use Rattle.std.proofs.lemmas.List.FromFn.{map-range_with_len_more}
use Rattle.sqs_rehearsal.proofs.options.in_turn.Goals as goal

pub loop-queue-preserved : goal.loop-queue-preserved
loop-queue-preserved c =
    let turn : ℕ → ℕ = λ q. q % c.args.parts in
    let queue = c.loop-queue.queue in
    c.in_ok-push.ensures.items ∙ ap (λ z. z ++ turn queue ∷ []) c.loop-queue.invariant ∙ sym (map-range_with_len_more turn 0 queue queue (omega arith))

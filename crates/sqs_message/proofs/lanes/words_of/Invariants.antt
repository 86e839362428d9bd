use Rattle.std.proofs.Common.{◌≡◌, ℕ, ◌<◌, ◌*◌, ◌∷◌, [], get_or, length}
use Rattle.md5.specs.Md5.{word_at}
use Rattle.sqs_message.proofs.lanes.words_of.Given as goal

abbrev pub invariant-each : goal.invariant-each
invariant-each s =
    (length s.words ≡ 16)
    × ((k : ℕ) → k < s.i → get_or s.words k []
    ≡ word_at (get_or s.blocks 0 []) (4 * k) ∷ word_at (get_or s.blocks 1 []) (4 * k)
    ∷ word_at (get_or s.blocks 2 []) (4 * k) ∷ word_at (get_or s.blocks 3 []) (4 * k) ∷ [])

-- Random words, digests, script files and comparisons against outside values.
use Rattle.std.proofs.Common.{◌≡◌, ℕ, true, false, List, [], ◌∷◌, codes, refl}
use Rattle.rand_chacha.specs.Block.{block_word}
use Rattle.sqs_model.specs.Draw.{word, uniform, chance}
use Rattle.sqs_model.specs.Calls.{body_digest}
use Rattle.sqs_examples.proofs.Shown.{running_on_literals}

-- ChaCha20 with a zero key: the first words of stream 0 and of stream 1, and the first two of the second block (RFC 8439, A.1, test vector 2)
stream_0 : (word 0 0 0 ∷ word 0 0 1 ∷ []) ≡ (0xade0b876 ∷ 0x903df1a0 ∷ [])
unfolding running_on_literals
stream_0 = refl

stream_1 : (word 0 1 0 ∷ word 0 1 1 ∷ []) ≡ (0xd6df3fef ∷ 0xfb7815c6 ∷ [])
unfolding running_on_literals
stream_1 = refl

second_block : (word 0 0 16 ∷ word 0 0 17 ∷ []) ≡ (0xbee7079f ∷ 0x7a385155 ∷ [])
unfolding running_on_literals
second_block = refl

-- what those words give
drawn : (uniform 1 100 (word 0 0 0) ∷ uniform 1 100 (word 0 0 1) ∷ []) ≡ (68 ∷ 57 ∷ [])
unfolding running_on_literals
drawn = refl

chances : (chance 680 (word 0 0 0) ∷ chance 563 (word 0 0 1) ∷ []) ≡ (true ∷ false ∷ [])
unfolding running_on_literals
chances = refl

-- SHA-256 of abc (FIPS 180-4)
digest_of_abc : body_digest (codes "abc") ≡ codes "ba7816bf8f01cfea414140de5dae2223b00361a396177a9cb410ff61f20015ad"
unfolding running_on_literals
digest_of_abc = refl

-- MD5 of several blocks side by side.
use Rattle.std.specs.Fmt.{decimal}
use Rattle.std.specs.Prelude.{List, [], get_or, map, slice_index, ℕ, ◌+◌, ◌<◌, ◌≡◌}
use Rattle.md5.specs.Md5.{add_state, initial_hash, md5, rounds}
use Rattle.sqs_message.specs.Bodies.{filled}

-- the words of one block, of words that stand side by side
abbrev pub lane : ℕ → List (List ℕ) → List ℕ
lane l words = map (λ beside. slice_index beside l) words

-- the hash value of a message of one block, by the block's words
abbrev pub hash_of_words : List ℕ → List ℕ
hash_of_words words = add_state initial_hash (rounds initial_hash words 64)

-- four digests are those of the bodies that a text makes with the numbers from one on
abbrev pub AreDigestsFrom : ℕ → List ℕ → List (List ℕ) → Type 0
AreDigestsFrom first text digests = (i : ℕ) → i < 4 → get_or digests i [] ≡ md5 (filled (decimal (first + i)) text)

-- Blocks whose words stand side by side, and messages of one block.
use Rattle.std.proofs.Common.{◌≡◌, ℕ, zero, suc, ◌<◌, ◌≤◌, ◌-◌, ◌*◌, ◌^◌, ◌%◌, ◌/◌, ◌∷◌, ◌++◌, List, [], arith, get_or, length, length-append, refl, replicate, slice_index, sym}
use Rattle.std.proofs.lemmas.List.{append_assoc, get_or-map, length-replicate, take_all}
use Rattle.std.specs.Int.{to_le_bytes, w64}
use Rattle.md5.specs.Md5.{block_words, compress, digest_bytes, hash_after, md5, padded_message}
use Rattle.sqs_message.specs.Beside.{hash_of_words, lane}

-- a word of a block is that at its place of those that stand side by side
pub lane-word : (l : ℕ) (words : List (List ℕ)) (i : ℕ) (d : List ℕ) → i < length words → slice_index (get_or words i d) l ≡ slice_index (lane l words) i
lane-word l words i d low = sym (get_or-map (λ beside. slice_index beside l) words i d 0 low)

-- what is said of each of four blocks
pub of-four : (f : List ℕ → ℕ) (blocks : List (List ℕ)) (l : ℕ) → l < 4
    → slice_index (f (get_or blocks 0 []) ∷ f (get_or blocks 1 []) ∷ f (get_or blocks 2 []) ∷ f (get_or blocks 3 []) ∷ []) l ≡ f (get_or blocks l [])
of-four f blocks zero low = refl
of-four f blocks (suc zero) low = refl
of-four f blocks (suc (suc zero)) low = refl
of-four f blocks (suc (suc (suc zero))) low = refl
of-four f blocks (suc (suc (suc (suc l)))) low = absurd (omega arith)

-- the digest of each of four hash values
pub digests-of-four : (a b c d : List ℕ) (hashes : List (List ℕ)) (l : ℕ) → l < 4
    → a ≡ digest_bytes (get_or hashes 0 []) 4 → b ≡ digest_bytes (get_or hashes 1 []) 4 → c ≡ digest_bytes (get_or hashes 2 []) 4 → d ≡ digest_bytes (get_or hashes 3 []) 4
    → get_or (a ∷ b ∷ c ∷ d ∷ []) l [] ≡ digest_bytes (get_or hashes l []) 4
digests-of-four a b c d hashes zero low first second third fourth = first
digests-of-four a b c d hashes (suc zero) low first second third fourth = second
digests-of-four a b c d hashes (suc (suc zero)) low first second third fourth = third
digests-of-four a b c d hashes (suc (suc (suc zero))) low first second third fourth = fourth
digests-of-four a b c d hashes (suc (suc (suc (suc l)))) low first second third fourth = absurd (omega arith)

-- the padding of a short message, by what it is appended to
pub padded_short : (body : List ℕ) → length body ≤ 55
    → ((body ++ 0x80 ∷ []) ++ replicate (55 - length body) 0) ++ to_le_bytes w64 (length body * 8 % 2 ^ 64) ≡ padded_message body
padded_short body short =
    let zeros : (119 - length body % 64) % 64 ≡ 55 - length body = omega arith in
    rw (zeros, append_assoc, append_assoc) refl

-- a short message has one block
pub padded_length : (body : List ℕ) → length body ≤ 55 → length (padded_message body) ≡ 64
padded_length body short =
    let zeros : (119 - length body % 64) % 64 ≡ 55 - length body = omega arith in
    let filling : List ℕ = replicate (55 - length body) 0 in
    let filled : length filling ≡ 55 - length body = length-replicate (55 - length body) 0 in
    rw (length-append body _, zeros, length-append filling _, filled) (omega arith)

-- and its MD5 is that of the block's words
pub md5-of-one : (body : List ℕ) → length body ≤ 55 → digest_bytes (hash_of_words (block_words (padded_message body) 16)) 4 ≡ md5 body
unfolding md5 hash_after compress
md5-of-one body short =
    let long = padded_length body short in
    let one : length (padded_message body) / 64 ≡ 1 = omega arith in
    rw (one, take_all 64 (padded_message body) (omega arith)) refl

use Rattle.std.proofs.Common.{ap, ◌∙◌, List, ℕ}
use Rattle.md5.specs.Md5.{block_words, digest_bytes}
use Rattle.sqs_message.specs.Beside.{hash_of_words}
use Rattle.sqs_message.proofs.Blocks.{digests-of-four, md5-of-one}
use Rattle.sqs_message.proofs.lanes.md5_of_four.Goals as goal

pub returns : goal.returns
returns c = λ l body low short is.
    digests-of-four c.digest.result c.digest-2.result c.digest-3.result c.digest-4.result c.hashes.result l low c.digest.ensures
    c.digest-2.ensures c.digest-3.ensures c.digest-4.ensures
    ∙ ap (λ (h : List ℕ). digest_bytes h 4) (c.hashes.ensures l low ∙ ap hash_of_words (c.words_of.ensures l low ∙ ap (λ (b : List ℕ). block_words b 16) is))
    ∙ md5-of-one body short

use Rattle.std.proofs.Common.{Global, Vec, ap, ℕ, ◌∙◌}
use Rattle.hex.specs.Hex.{encode_lower}
use Rattle.sha2.specs.Sha256.{sha256}
use Rattle.sqs_model.specs.Calls.{body_digest}
use Rattle.sqs_queue.proofs.queue.fifo.digest_of.Goals as goal

pub returns : goal.returns
unfolding body_digest
returns c = c.new.ensures ∙ ap (λ (v : Vec ℕ Global). v.items) c.into_bytes.ensures.value ∙ c.in_ok-digest.ensures ∙ ap encode_lower (c.body_sha256.ensures ∙ ap sha256 (c.as_bytes.ensures ∙ c.in_ok-text.ensures))

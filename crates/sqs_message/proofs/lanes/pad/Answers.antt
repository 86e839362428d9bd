use Rattle.std.proofs.Common.{◌≡◌, ◌∙◌, ◌∷◌, [], ap, length, replicate, length-append, ℕ, ◌+◌, ◌-◌, ◌*◌, ◌%◌, ◌^◌, ◌++◌, arith}
use Rattle.std.proofs.lemmas.List.{take_all}
use Rattle.std.specs.Int.{to_le_bytes, w64}
use Rattle.sqs_message.proofs.Blocks.{padded_short}
use Rattle.sqs_message.proofs.lanes.pad.Goals as goal

pub returns : goal.returns
returns c =
    let body = c.args.body.now.items in
    let pushed = c.in_ok-push.ensures.items in
    let long : length c.push.new.self.items ≡ length body + 1 = ap length pushed ∙ length-append body _ in
    let bits : c.to_le_bytes.result ≡ to_le_bytes w64 (length body * 8 % 2 ^ 64) =
    c.to_le_bytes.ensures ∙ ap (λ (n : ℕ). to_le_bytes w64 n) (omega (arith, c.len.ensures)) in
    let whole = take_all 56 c.push.new.self.items (omega (arith, long)) in
    let resized : c.resize.new.self.items ≡ (body ++ 0x80 ∷ []) ++ replicate (55 - length body) 0 =
    c.in_ok-resize.ensures.items ∙ rw (whole, pushed) (ap (λ (n : ℕ). (body ++ 0x80 ∷ []) ++ replicate n 0) (omega (arith, long))) in
    rw (c.in_ok-extend_from_slice.ensures.items, resized, bits) (padded_short body c.requires)

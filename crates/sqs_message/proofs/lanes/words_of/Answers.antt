use Rattle.std.proofs.Common.{◌*◌, [], arith, get_or, sym, ◌∙◌, ap, slice_index}
use Rattle.std.proofs.lemmas.List.{length-map}
use Rattle.md5.specs.Md5.{word_at}
use Rattle.md5.proofs.Rounds.{words_are}
use Rattle.sqs_message.specs.Beside.{lane}
use Rattle.sqs_message.proofs.Blocks.{lane-word, of-four}
use Rattle.sqs_message.proofs.lanes.words_of.Goals as goal

pub returns : goal.returns
returns c = λ l low.
    let blocks = c.args.blocks.now in
    let words = c.each.words in
    words_are (get_or blocks l []) (lane l words) (length-map words _ ∙ c.each.invariant.0) (λ k lt.
    sym (lane-word l words k [] (omega (arith, c.each.invariant.0)))
    ∙ ap (λ beside. slice_index beside l) (c.each.invariant.1 k (omega arith))
    ∙ of-four (λ block. word_at block (4 * k)) blocks l low)

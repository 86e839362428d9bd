use Rattle.std.proofs.Common.{◌≡◌, ◌++◌, ◌∷◌, ◌∙◌, ap, drop, length}
use Rattle.csv.specs.Writing.{comma}
use Rattle.sim_records.proofs.Plain.{word_put}
use Rattle.sim_records.proofs.word.put_word.Goals as goal

pub returns-clause-written : goal.returns-clause-written
returns-clause-written c =
    let put = c.word.inside.bytes.now in
    let long : length put ≡ 16 = c.put_bytes.ensures.long in
    word_put c.args.text.now c.put_bytes.new.text put c.args.end c.word.inside.len c.requires.room c.requires.within c.word.invariant long c.put_bytes.ensures.written
    ∙ ap (λ t. comma ∷ (t ++ drop c.args.end c.args.text.now)) c.word.view_is

use Rattle.std.proofs.Common.{List, ap, map, ℕ, [], unwrap_or, ◌∙◌}
use Rattle.std.proofs.lemmas.Result.{IfOk-weaker}
use Rattle.sqs_shell.specs.Splits.{numbers_of}
use Rattle.sqs_shell.proofs.splits.partitions.Goals as goal

pub returns : goal.returns
returns c =
    IfOk-weaker c.numbers.result _ _ (λ v h. h ∙ ap (λ l. unwrap_or (numbers_of (map (λ t. t.now) l)) []) c.as_slice.ensures.value
    ∙ ap (λ (l : List (List ℕ)). unwrap_or (numbers_of l) []) c.in_ok-pieces.ensures) c.numbers.ensures

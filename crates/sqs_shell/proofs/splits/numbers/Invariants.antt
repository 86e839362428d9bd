use Rattle.std.proofs.Common.{drop, map, ◌++◌, ◌≡◌}
use Rattle.std.specs.Prelude.{option_map}
use Rattle.sqs_shell.specs.Splits.{numbers_of}
use Rattle.sqs_shell.proofs.splits.numbers.Given as goal

abbrev pub invariant-loop-text : goal.invariant-loop-text
invariant-loop-text l =
    numbers_of (map (λ t. t.now) l.texts) ≡ option_map (λ ns. l.numbers.items ++ ns) (numbers_of (map (λ t. t.now) (drop l.text-index l.texts)))

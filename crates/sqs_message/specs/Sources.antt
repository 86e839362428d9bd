-- What the code makes a body of.
use Rattle.std.specs.Fmt.{decimal}
use Rattle.std.specs.Prelude.{Bool, List, false, true, ℕ}
use Rattle.sqs_message.specs.Bodies.{filled}

-- the body made of a text and a number: with the number in place of each {n} if it is numbered, else the text as it is
abbrev pub made_of : Bool → List ℕ → ℕ → List ℕ
made_of true text n = filled (decimal n) text
made_of false text n = text

-- The texts of receipt handles.
use Rattle.std.specs.Prelude.{ℕ, List}
use Rattle.sqs_message.specs.declared.handle.HandleForm.{HandleForm}
use Rattle.sqs_message.specs.declared.handle.HandleForm.TheVariants.{Made, Text}
use Rattle.sqs_message.specs.Ids.{receipt_text}

-- the text of a receipt handle
abbrev pub handle_text : HandleForm → List ℕ
handle_text (Made r) = receipt_text r
handle_text (Text t) = t

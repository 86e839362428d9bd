-- The origin of what a transfer brings.
use Rattle.std.specs.Prelude.{None, Option, Some}
use Rattle.sqs_message.specs.declared.ids.MessageId.{MessageId}
use Rattle.sqs_message.specs.declared.ids.Origin.{Origin}

-- an origin, or else that of a message accepted here
abbrev pub origin_or : Option Origin → MessageId → Origin
origin_or None id = record { site = id.site; number = id.number }
origin_or (Some o) id = o

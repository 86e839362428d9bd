-- What is left of the messages of a queue.
use Rattle.std.specs.Prelude.{◌+◌, List, map}
use Rattle.std.specs.List.{enumerate_from}
use Rattle.sqs_message.specs.declared.message.Place.{Place}
use Rattle.sqs_message.specs.declared.message.Place.TheVariants.{Delayed, Visible, InFlight}
use Rattle.sqs_model.specs.declared.finals.FinalMessage.{FinalMessage}
use Rattle.sqs_formats.specs.Report.{is_delayed, is_in_flight, is_visible, left, messages_of}
use Rattle.sim_report.specs.declared.left.Left.{Left}

-- the number of these messages in each state
abbrev pub left_of : List FinalMessage → Left
left_of messages = record { visible = left is_visible messages; in_flight = left is_in_flight messages; delayed = left is_delayed messages }

-- the same with one more message at a place
abbrev pub left_with : Place → Left → Left
left_with Delayed l = record l { delayed = l.delayed + 1 }
left_with Visible l = record l { visible = l.visible + 1 }
left_with InFlight l = record l { in_flight = l.in_flight + 1 }

-- what is left of each queue, in the order of the queues
abbrev pub lefts : {Q : Type 0} → List Q → List FinalMessage → List Left
lefts queues messages = map (λ q. left_of (messages_of q.0 messages)) (enumerate_from 0 queues)

-- What the figures need of a row.
use Rattle.std.specs.Prelude.{ℕ, nat_lt, Bool, true, false, Option, Some}
use Rattle.sqs_message.specs.declared.row.Row.{Row}
use Rattle.sqs_message.specs.declared.row.Detail.{Detail}
use Rattle.sqs_message.specs.declared.row.Detail.TheVariants as details
use Rattle.sqs_message.specs.declared.row.RowAnswer.{RowAnswer}
use Rattle.sqs_message.specs.declared.row.RowAnswer.TheVariants as answers
use Rattle.sqs_message.specs.declared.row.RowKind.{RowKind}
use Rattle.sqs_message.specs.declared.row.RowKind.TheVariants as kinds
use Rattle.sqs_formats.specs.Report.{column}
use Rattle.sim_report.specs.declared.course.Course.{Course}
use Rattle.sim_report.specs.declared.course.Course.TheVariants as courses
use Rattle.sim_report.specs.declared.fact.Fact.{Fact}
use Rattle.sim_report.specs.declared.fact.Flight.TheVariants.{Stays}
use Rattle.sim_report.specs.declared.fact.Hold.TheVariants.{Keeps}
use Rattle.sim_report.specs.declared.fact.Saying.{Saying}
use Rattle.sim_report.specs.declared.fact.Use.TheVariants.{Passes}
use Rattle.sim_report.specs.Figures.{by_way, counted_as, flight_of, hold_of, is_own, number_of, own_receipt, use_of}
use Rattle.sim_report.specs.Tally.{count_of}

-- what a row of this kind with this answer says
abbrev pub saying_of : RowKind → RowAnswer → Saying
saying_of kind answer =
    record {
      column = column kind answer;
      place = counted_as kind answer;
      hold = hold_of kind answer;
      flight = flight_of kind answer;
      handling = use_of kind answer;
    }

-- what a row says that changes nothing but counts
abbrev pub counts_alone : Option ℕ → ℕ → Saying
counts_alone column place =
    record { column = column; place = Some place; hold = Keeps; flight = Stays; handling = Passes }

-- what a row with this detail says of the course of its message, which is of an origin of its own or not
abbrev pub course_of : RowKind → RowAnswer → Bool → Detail → Course
course_of kinds.Send answers.New own detail = courses.Sent
course_of kinds.Arrive answers.New true (details.From origin) = courses.Came
course_of kinds.Arrive answers.New false (details.From origin) = courses.CameOn origin
course_of kinds.Arrive answers.Repeat own detail = courses.CameAgain
course_of kinds.Forward answers.Out own (details.Queue to) = courses.Forwarded to
course_of kinds.Redrive answers.Out own (details.Queue to) = courses.WentOn to
course_of kinds.Move answers.Out own (details.Queue to) = courses.WentOn to
course_of kinds.Delete answers.Deleted own detail = courses.Ended
course_of kinds.Expire answers.Expired own detail = courses.Expired
course_of kind answer own detail = courses.Stayed

-- what a row says
abbrev pub fact_of : Row → Fact
fact_of row =
    record {
      at = row.key.at;
      agent = row.agent;
      count = count_of row;
      place = counted_as row.kind row.answer;
      own = is_own row.message row.detail;
      hold = hold_of row.kind row.answer;
      flight = flight_of row.kind row.answer;
      number = number_of row.message;
      handling = use_of row.kind row.answer;
      receipt = own_receipt row;
      course = course_of row.kind row.answer (is_own row.message row.detail) row.detail;
    }

-- what a row that says this counts as, where so many queues are the first agents
abbrev pub place_in : ℕ → Fact → Option ℕ
place_in queues f = by_way f.own (nat_lt f.agent queues) f.place

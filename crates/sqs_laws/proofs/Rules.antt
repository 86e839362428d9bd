-- The log of every sound scenario keeps the rules.
use Rattle.std.specs.Prelude.{All}
use Rattle.sqs_laws.proofs.Terms.{IsQueueSettings, IsRunOf, IsSoundScenario, Run, Scenario}
use Rattle.sqs_laws.specs.Laws.{KeepsTheRules}
use Rattle.sqs_laws.proofs.Retention.{messages_are_kept}
use Rattle.sqs_laws.proofs.Delays.{delays_are_kept}
use Rattle.sqs_laws.proofs.End.{ends_are_ends}
use Rattle.sqs_laws.proofs.Fifo.{groups_are_in_order, sends_are_given}
use Rattle.sqs_laws.proofs.InFlight.{flights_are_told}
use Rattle.sqs_laws.proofs.Letters.{letters_are_dead}
use Rattle.sqs_laws.proofs.Order.{rows_in_time}
use Rattle.sqs_laws.proofs.Origins.{origins_are_told}
use Rattle.sqs_laws.proofs.Receipts.{receipts_are_known}
use Rattle.sqs_laws.proofs.Releases.{releases_are_kept}
use Rattle.sqs_laws.proofs.Repeats.{repeats_are_recent}
use Rattle.sqs_laws.proofs.Timeouts.{bad_if_too_long}

pub keeps_the_rules : (s : Scenario) → IsSoundScenario s → All IsQueueSettings s.queues → (r : Run) → IsRunOf s r → KeepsTheRules s r.rows
keeps_the_rules s sound valid r is =
    record {
      in_flight = flights_are_told s valid r is;
      the_end = ends_are_ends s r is;
      dead_letters = letters_are_dead s valid r is;
      receipts = receipts_are_known s valid r is (bad_if_too_long s valid r is);
      origins = origins_are_told s r is;
      retention = messages_are_kept s sound r is;
      sends = sends_are_given s r is;
      fifo = groups_are_in_order s sound r is;
      repeats = repeats_are_recent s sound r is;
      delays = delays_are_kept s sound r is;
      releases = releases_are_kept s valid sound r is;
      in_time = rows_in_time s sound r is;
    }

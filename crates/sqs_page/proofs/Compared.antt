-- Two scenarios that are compared, or not run to their ends.
use Rattle.std.proofs.Common.{◌≡◌, Some, [], false, subst, ℕ}
use Rattle.std.specs.Prelude.{Bool, List}
use Rattle.std.specs.Io.KnownBytes.{Appends}
use Rattle.sim_clock.specs.declared.refusal.Refusal.{Refusal}
use Rattle.sim_clock.specs.declared.refusal.Refusal.TheVariants as refusals
use Rattle.sim_scenario.specs.declared.draft.Newest.{Newest}
use Rattle.sqs_formats.specs.Actors.{Files}
use Rattle.sqs_formats.specs.Comparison.{comparison}
use Rattle.sqs_formats.specs.Output.{report_of}
use Rattle.sqs_model.specs.Limits.{IsOver}
use Rattle.sqs_model.specs.Run.{Run}
use Rattle.sqs_model.specs.Scenario.{Scenario}
use Rattle.sqs_page.specs.Comparisons.{IsComparisonOf, IsFirstFault, IsSecondFault, States}
use Rattle.sqs_rehearsal.specs.Outcomes.{IsLeftBy, IsOutcomeOf, Stops}
use Rattle.sqs_rehearsal.specs.declared.outcome.Outcome.{Outcome}
use Rattle.sqs_rehearsal.specs.declared.rehearsal.Fault.TheVariants as faults

-- two texts and the scenarios that they state
module _ (newest : Newest) (first second : List ℕ) (files : Files) (a b : Scenario) (first_states : States newest files first a)
    (second_states : States newest files second b) where
  -- the first one is not run to its end
  pub first_stopped : (r : Refusal) → Stops a r → IsFirstFault newest first second files (faults.Refused r)
  first_stopped refusals.CountLimit over = (record { a = a; b = b; first_states = first_states; second_states = second_states }, over)
  first_stopped refusals.Memory over = tt
  first_stopped r over = absurd over

  -- the first one is, but not the second one
  pub second_stopped : (r : Refusal) → ¬ IsOver a → Stops b r → IsSecondFault newest first second files (faults.Refused r)
  second_stopped refusals.CountLimit not_over over =
      (record { a = a; b = b; first_states = first_states; second_states = second_states }, (not_over, over))
  second_stopped refusals.Memory not_over over = tt
  second_stopped r not_over over = absurd over

  -- both are, and a writer that held nothing got the comparison of what they leave
  pub compared : (o p : Outcome) → IsOutcomeOf a o → IsOutcomeOf b p → (before output : List ℕ) (failed : Bool) → before ≡ []
      → ((s t : Scenario) (r u : Run) → IsLeftBy s r o → IsLeftBy t u p → Appends (Some before) (Some output) (comparison (report_of s r) (report_of t u)) × (failed ≡ false))
      → IsComparisonOf newest first second files output
  compared o p left right before output failed none written =
      record {
        a = record { scenario = a; run = left.run; stated = first_states; is_run = left.is_run; not_over = left.not_over };
        b = record { scenario = b; run = right.run; stated = second_states; is_run = right.is_run; not_over = right.not_over };
        whole =
            subst (λ (x : List ℕ). Appends (Some x) (Some output) (comparison (report_of a left.run) (report_of b right.run))) none
            (written a b left.run right.run left.left right.left).0;
      }

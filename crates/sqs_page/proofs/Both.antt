-- What two writers got, one after the other, and what of it is in a room.
use Rattle.std.proofs.Common.{List, None, Some, [], ap, arith, map, nat_lt, refl, subst, sym, true, ℕ, ◌%◌, ◌++◌, ◌∷◌, ◌≡◌, ◌≢◌, ◌∙◌, length}
use Rattle.std.proofs.Math.Nat.{mod-one}
use Rattle.std.proofs.lemmas.Bool.{eq-eqb}
use Rattle.std.proofs.lemmas.List.FromFn.{length-map-range_with_len}
use Rattle.std.specs.Io.KnownBytes.{Appends}
use Rattle.std.specs.List.{list_all, range_with_len}
use Rattle.sim_clock.specs.declared.refusal.Refusal.{Refusal}
use Rattle.sim_clock.specs.declared.refusal.Refusal.TheVariants as refusals
use Rattle.sqs_formats.specs.Actors.{Files}
use Rattle.sqs_formats.specs.Output.{log_of}
use Rattle.sqs_model.specs.Scenario.{Scenario}
use Rattle.sqs_page.specs.declared.asked.Asked.{Asked}
use Rattle.sqs_rehearsal.specs.Endings.{ending_with}
use Rattle.sqs_rehearsal.specs.Options.{split_fault, unsplit}
use Rattle.sqs_rehearsal.specs.Rehearsals.{IsRefused, IsWritten}
use Rattle.sqs_rehearsal.specs.Writers.{Writer}
use Rattle.sqs_rehearsal.specs.declared.rehearsal.Fault.{Fault}
use Rattle.sqs_rehearsal.specs.declared.rehearsal.Fault.TheVariants as faults
use Rattle.sqs_page.specs.Pages.{IsOutputOf, IsRefusedFor, requested}

-- the other writer's bytes behind those of the log are all of the output
pub output_of_both : (asked : Asked) (text : List ℕ) (files : Files) (log report : Writer) (first second all : List ℕ)
    → log.before.held ≡ Some [] → log.after.held ≡ Some first → report.before.held ≡ Some [] → report.after.held ≡ Some second → all ≡ first ++ second
    → IsWritten (requested asked text files) log report → IsOutputOf asked text files all
output_of_both asked text files log report first second all fresh got empty rest is w =
    let log_is : Appends (Some []) (Some first) (log_of w.of.scenario w.of.run) =
    subst (λ x. Appends x (Some first) (log_of w.of.scenario w.of.run)) fresh (subst (λ x. Appends log.before.held x (log_of w.of.scenario w.of.run)) got w.whole_log.bytes) in
    let rest_is = subst (λ x. Appends x (Some second) (ending_with w.of.scenario asked.figures w.of.run)) empty (subst (λ x. Appends report.before.held x (ending_with w.of.scenario asked.figures w.of.run)) rest w.whole_report.bytes) in
    record { of = w.of; not_over = w.not_over; whole = is ∙ ap (λ (l : List ℕ). l ++ second) log_is ∙ ap (λ (e : List ℕ). log_of w.of.scenario w.of.run ++ e) rest_is }

-- the queues of a scenario on one list are those of the first partition
all_on_one : (queues : List ℕ) → list_all (λ p. nat_lt p 1) (map (λ q. q % 1) queues) ≡ true
all_on_one [] = refl
all_on_one (q ∷ queues) = rw (mod-one q) (all_on_one queues)

-- a run on one list is always possible
one_list_fits : (s : Scenario) (asked : Asked) (r : Refusal) → split_fault s (unsplit asked.figures) ≢ Some r
one_list_fits s asked r e = let n : ℕ = length s.queues in let fits : split_fault s (unsplit asked.figures) ≡ None =
    rw (length-map-range_with_len (λ q. q % 1) 0 n, all_on_one (range_with_len 0 n), eq-eqb n n refl) refl in cc

-- why a text is refused, whatever the writers got, but for a failed write
pub refused_for : (asked : Asked) (text : List ℕ) (files : Files) (log report : Writer) (f : Fault) → f ≢ faults.Refused refusals.Write → IsRefused (requested asked text files) log report f → IsRefusedFor asked text files f
refused_for asked text files log report (faults.Scenario f) other is = is.0
refused_for asked text files log report (faults.Refused refusals.Write) other is = absurd (other refl)
refused_for asked text files log report (faults.Refused refusals.Memory) other is = tt
refused_for asked text files log report (faults.Refused refusals.CountLimit) other is = (record { scenario = is.stopped.of.scenario; stated = is.stopped.of.stated }, is.over)
refused_for asked text files log report (faults.Refused refusals.NoWorker) other is = absurd (let several = is.several in omega (arith, several))
refused_for asked text files log report (faults.Refused refusals.BadMap) other is = absurd (one_list_fits is.0.0.scenario asked refusals.BadMap is.0.1)
refused_for asked text files log report (faults.Refused (refusals.WindowTooLong w least)) other is = absurd (one_list_fits is.0.0.scenario asked (refusals.WindowTooLong w least) is.0.1)
refused_for asked text files log report (faults.Refused refusals.BadWorkers) other is = absurd (one_list_fits is.0.0.scenario asked refusals.BadWorkers is.0.1)
refused_for asked text files log report (faults.Refused r) other is = absurd is.0

-- what holds of an answer holds of the part of the room that it is in
pub in_room : (Holds : List ℕ → Type 0) (answer slice put : List ℕ) → put ≡ slice → slice ≡ answer → Holds answer → Holds put
in_room Holds answer slice put e f is = subst Holds (sym (e ∙ f)) is

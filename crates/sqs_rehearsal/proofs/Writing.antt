-- Parts that are written one after another.
use Rattle.std.proofs.Common.{◌≡◌, ℕ, Err, List, None, Ok, Option, Result, Some, [], ◌++◌, append-nil, refl, subst}
use Rattle.std.specs.Result.{IsErrAnd}
use Rattle.sim_clock.specs.declared.refusal.Refusal.{Refusal}
use Rattle.sim_records.proofs.Writes.{several_after, several_handed_on, several_stopped}
use Rattle.sim_records.specs.Writes.{WriterState, WroteSeveral}
use Rattle.sim_report.specs.Reports.{figures_if}
use Rattle.sim_report.specs.declared.asked.Wanted.{Wanted}
use Rattle.sqs_formats.specs.Output.{ending_of}
use Rattle.sqs_model.specs.Run.{Run}
use Rattle.sqs_model.specs.Scenario.{Scenario}
use Rattle.sqs_rehearsal.specs.Asked.{asked_of}
use Rattle.sqs_rehearsal.specs.Endings.{ending_with}

-- the first of two parts is not written whole, so the second is not written
pub first_stopped : (a b : WriterState) (xs ys : List ℕ) (e : Refusal) (r : Result (Unit {0}) Refusal)
    → IsErrAnd r (λ met. met ≡ e) → WroteSeveral a b xs (Err e) → WroteSeveral a b (xs ++ ys) r
first_stopped a b xs ys e r p q = several_handed_on a b (xs ++ ys) e r p (several_stopped a b xs ys e q)

-- one part, and then another
pub first_and_second : (a b c : WriterState) (xs ys : List ℕ) (u : Unit {0}) (r : Result (Unit {0}) Refusal)
    → WroteSeveral a b xs (Ok u) → WroteSeveral b c ys r → WroteSeveral a c (xs ++ ys) r
first_and_second a b c xs ys u r p q = several_after a b c xs ys r p.0 q

-- all is written, and then flushed
pub flushed : (a b c : WriterState) (xs : List ℕ) (u : Unit {0}) (r : Result (Unit {0}) Refusal)
    → WroteSeveral a b xs (Ok u) → WroteSeveral b c [] r → WroteSeveral a c xs r
flushed a b c xs u r p q = subst (λ (t : List ℕ). WroteSeveral a c t r) (append-nil xs) (several_after a b c xs [] r p.0 q)

-- the ending without figures, and then those that are wanted
pub ending-parts : (s : Scenario) (figures : Option Wanted) (r : Run) → ending_of s r ++ figures_if (asked_of s figures) r.rows ≡ ending_with s figures r
ending-parts s None r = append-nil (ending_of s r)
ending-parts s (Some wanted) r = refl

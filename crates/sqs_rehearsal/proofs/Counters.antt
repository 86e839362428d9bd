-- What a counter has when a run has come to its end.
use Rattle.std.proofs.Common.{◌≡◌, [], Err, List, None, Ok, Result, subst, sym}
use Rattle.std.specs.Prelude.{IfOk, OnOk}
use Rattle.sim_clock.specs.declared.refusal.Refusal.{Refusal}
use Rattle.sim_report.specs.Reports.{Counts, running}
use Rattle.sim_windows.specs.Sinks.{HasTaken}
use Rattle.sqs_model.specs.Limits.{IsOver}
use Rattle.sqs_model.specs.Run.{setting_of}
use Rattle.sqs_model.specs.Scenario.{Scenario}
use Rattle.sqs_model.specs.Site.{Site}
use Rattle.sqs_model.specs.Sqs.{sqs}
use Rattle.sqs_rehearsal.specs.Asked.{asked_of}
use Rattle.sqs_rehearsal.specs.Outcomes.{HasCounted}
use Rattle.sqs_rehearsal.specs.Sinks.{Counted}
use Rattle.sqs_rehearsal.specs.declared.counter.Counter.{Counter}

-- it took the rows of the whole run
has_counted : (s : Scenario) (before after : Counter) (sites : List Site) → before.report.now ≡ running (asked_of s None) []
    → HasTaken sqs Counted (setting_of s) before after sites → ¬ IsOver s → HasCounted s after.report.now sites
has_counted s before after sites fresh p not_over =
    record {
      run = p.run;
      is_run = p.is;
      not_over = not_over;
      counted = p.taken.added (asked_of s None) [] fresh;
      sites_are = p.sites_are;
    }

-- the same of what a run gave, where the report is at the end what the counter made of it
pub counted_run : {V : Type 0} (s : Scenario) (items : V → List Site) (before after : Counter) (final : Counts) (r : Result V Refusal)
    → before.report.now ≡ running (asked_of s None) [] → (before.report.ghost_name ≡ after.report.ghost_name → final ≡ after.report.now)
    → IfOk r (λ v. HasTaken sqs Counted (setting_of s) before after (items v)) → OnOk r (¬ IsOver s) → IfOk r (λ v. HasCounted s final (items v))
counted_run s items before after final (Ok v) fresh told p not_over =
    subst (λ (c : Counts). HasCounted s c (items v)) (sym (told (sym p.taken.same))) (has_counted s before after (items v) fresh p not_over)
counted_run s items before after final (Err e) fresh told p not_over = tt

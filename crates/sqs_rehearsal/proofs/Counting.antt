-- A run whose rows and last sites tell of no count past the limit passes none; one that stops at such a row does.
use Rattle.std.specs.Prelude.{Err, IfOk, List, Ok, Result, max, ◌++◌, ◌<◌, ◌≡◌, ◌≤◌}
use Rattle.std.proofs.Common.{ap, append_assoc, arith, inl, inr, subst, sym, ◌∙◌}
use Rattle.std.proofs.Math.Nat.{le-max_left, le-max_right, max-le}
use Rattle.sim_clock.specs.declared.refusal.Refusal.{Refusal}
use Rattle.sim_engine.specs.Limits.{IsOver as IsPast, StopsWhere}
use Rattle.sim_engine.specs.Setting.{IsRunOf, Setting}
use Rattle.sim_engine.proofs.Counted.{not_over, over_by}
use Rattle.sim_windows.specs.Sinks.{HasStopped, HasTaken, IsPrefixOfRun}
use Rattle.sim_workers.specs.Runs.{StopsAnyhow}
use Rattle.sqs_message.specs.declared.row.Row.{Row}
use Rattle.sqs_model.specs.Answers.{most_count}
use Rattle.sqs_model.specs.Limits.{IsOver, rows_count, sites_count}
use Rattle.sqs_model.specs.Run.{Run, setting_of}
use Rattle.sqs_model.specs.Scenario.{Scenario}
use Rattle.sqs_model.specs.Site.{Site}
use Rattle.sqs_model.specs.Sqs.{sqs}
use Rattle.sqs_model.proofs.Growth.{handled_up}
use Rattle.sqs_model.proofs.Instance.{sqs_laws}
use Rattle.sqs_rehearsal.specs.Limited.{BrokeWithin, Passed, TookWithin}
use Rattle.sqs_rehearsal.specs.LimitLaws.{rows_joined}
use Rattle.sqs_rehearsal.specs.declared.limited.Limited.{Limited}

-- rows that a run begins with, and fewer of them
pub fewer_first : (s : Setting Site) (prefix rest rows : List Row) → prefix ++ rest ≡ rows → IsPrefixOfRun sqs s rows → IsPrefixOfRun sqs s prefix
fewer_first s prefix rest rows e first = λ r is.
    let f = first r is in
    (rest ++ f.0, sym (append_assoc prefix rest f.0) ∙ ap (λ xs. xs ++ f.0) e ∙ f.1)

-- where a run begins with rows that tell of a count past the limit, it passes it
pub past_by : (s : Setting Site) (r : Run) → IsRunOf sqs s r → (rows : List Row) → IsPrefixOfRun sqs s rows → most_count < rows_count rows → IsPast sqs s
past_by s r is rows first past =
    let f = first r is in
    let all : rows_count r.rows ≡ max (rows_count rows) (rows_count f.0) = ap rows_count (sym f.1) ∙ rows_joined rows f.0 in
    let more : most_count < rows_count r.rows = omega (arith, all, past, le-max_left (rows_count rows) (rows_count f.0)) in
    over_by sqs s r is (omega (arith, more, le-max_right (sites_count r.sites) (rows_count r.rows)))

-- what two facts of an answer give together
pub if_both : {T E : Type 0} (r : Result T E) (P Q R : T → Type 0) → ((x : T) → P x → Q x → R x) → IfOk r P → IfOk r Q → IfOk r R
if_both (Ok x) P Q R f p q = f x p q
if_both (Err e) P Q R f p q = tt

module _ {K : Type 0} (took : K → List Row → K → Type 0) where
  -- what was taken through a look at the counts was taken by the sink behind
  pub taken_behind : (world s : Setting Site) → world ≡ s → (before now : Limited K) (sites : List Site) → HasTaken sqs (TookWithin took) world before now sites → HasTaken sqs took s before.sink.now now.sink.now sites
  taken_behind world s e before now sites h = record { run = h.run; is = subst (λ w. IsRunOf sqs w h.run) e h.is; taken = h.taken.taken; sites_are = h.sites_are }

  -- a whole run whose rows were looked at, and whose last sites are within the limit, is within it
  pub never_over : (world : Setting Site) (s : Scenario) → world ≡ setting_of s → (before now : Limited K) (sites : List Site) → HasTaken sqs (TookWithin took) world before now sites → sites_count sites ≤ most_count → IsOver s → ⊥
  never_over world s e before now sites h most =
      not_over sqs handled_up sqs_laws.kept_core (setting_of s) h.run (subst (λ w. IsRunOf sqs w h.run) e h.is) (max-le (subst (λ (xs : List Site). sites_count xs ≤ most_count) h.sites_are most) h.taken.within)

  module _ (broke : K → List Row → Refusal → K → Type 0) where
    -- a run that stopped through a look at the counts stopped so for the sink behind
    stopped_there : (s : Setting Site) (r : Run) → IsRunOf sqs s r → (before now : Limited K) (refusal : Refusal)
        → HasStopped sqs (TookWithin took) (BrokeWithin took broke) s before refusal now → HasStopped sqs took broke s before.sink.now refusal now.sink.now
    stopped_there s r is before now refusal h =
        let Stopped : Type 0 = HasStopped sqs took broke s before.sink.now refusal now.sink.now in
        let first : IsPrefixOfRun sqs s h.rows = h.prefix in
        let passed : Passed took before.sink.now h.rows refusal now.sink.now → Stopped = λ p.
        record {
          rows = p.prefix;
          prefix = fewer_first s p.prefix p.rest h.rows p.rows_are first;
          at_rows = inl (p.taken, subst (StopsWhere (IsPast sqs s)) (sym p.limit) (past_by s r is h.rows first p.past));
        } in
        elim h.at_rows as (λ _. Stopped) [
          | inl t ↦ record { rows = h.rows; prefix = first; at_rows = inl (t.0.taken, t.1) }
          | inr b ↦ elim b.why as (λ _. Stopped) [ inl k ↦ record { rows = h.rows; prefix = first; at_rows = inr k } | inr p ↦ passed p ]
        ]

    pub stopped_behind : (world s : Setting Site) → world ≡ s → (r : Run) → IsRunOf sqs world r → (before now : Limited K) (refusal : Refusal)
        → HasStopped sqs (TookWithin took) (BrokeWithin took broke) world before refusal now → HasStopped sqs took broke s before.sink.now refusal now.sink.now
    stopped_behind world s e r is before now refusal h =
        subst (λ w. HasStopped sqs took broke w before.sink.now refusal now.sink.now) e (stopped_there world r is before now refusal h)

    -- it stopped before the same sink
    pub stopped_same : (s : Setting Site) (before now : Limited K) (refusal : Refusal) → HasStopped sqs (TookWithin took) (BrokeWithin took broke) s before refusal now → now.sink.ghost_name ≡ before.sink.ghost_name
    stopped_same s before now refusal h = elim h.at_rows as (λ _. now.sink.ghost_name ≡ before.sink.ghost_name) [ inl t ↦ t.0.same | inr b ↦ b.same ]

    -- the same where no worker may be started
    pub stops_behind : (ready : K → Type 0) (world s : Setting Site) → world ≡ s → (r : Run) → IsRunOf sqs world r → (before now : Limited K) (refusal : Refusal)
        → StopsAnyhow sqs (λ (l : Limited K). ready l.sink.now) (TookWithin took) (BrokeWithin took broke) world before refusal now → StopsAnyhow sqs ready took broke s before.sink.now refusal now.sink.now
    stops_behind ready world s e r is before now refusal h =
        elim h as (λ _. StopsAnyhow sqs ready took broke s before.sink.now refusal now.sink.now) [
          | inl k ↦ inl (stopped_behind world s e r is before now refusal k)
          | inr n ↦ inr (n.0, n.1.taken)
        ]

    pub stops_same : (ready : K → Type 0) (s : Setting Site) (before now : Limited K) (refusal : Refusal)
        → StopsAnyhow sqs (λ (l : Limited K). ready l.sink.now) (TookWithin took) (BrokeWithin took broke) s before refusal now → now.sink.ghost_name ≡ before.sink.ghost_name
    stops_same ready s before now refusal h =
        elim h as (λ _. now.sink.ghost_name ≡ before.sink.ghost_name) [ inl k ↦ stopped_same s before now refusal k | inr n ↦ n.1.same ]

-- What is known of the run of a scenario.
use Rattle.std.proofs.Common.{◌≡◌, ℕ, List, None, ap, arith, sym, subst, ◌+◌, ◌∙◌}
use Rattle.std.specs.Prelude.{IsNone}
use Rattle.sim_scenario.specs.Ranges.{IsInRange}
use Rattle.sqs_rehearsal.proofs.Openings.{has_queues}
use Rattle.sim_windows.proofs.Runs.{stays}
use Rattle.sqs_laws.proofs.Left.{left_is_told}
use Rattle.sqs_laws.proofs.Rules.{keeps_the_rules}
use Rattle.sqs_laws.proofs.Told.{journeys_told}
use Rattle.sqs_model.specs.Accounts.{EachHasOnePlace, NoOtherHasPlace}
use Rattle.sqs_model.specs.Run.{IsRunOf, Run, after}
use Rattle.sqs_model.specs.World.{next_due}
use Rattle.sqs_model.specs.Scenario.{HasItsQueues, Scenario, opening}
use Rattle.sqs_model.specs.Site.{Site}
use Rattle.sqs_model.proofs.Ends.{ends}
use Rattle.sqs_model.proofs.Instance.{sqs_laws}
use Rattle.sqs_model.proofs.WorldAccounts.{each_keeps, no_other}
use Rattle.sqs_rehearsal.specs.Options.{split_fault}
use Rattle.sqs_rehearsal.specs.Rehearsals.{Rehearsed, Request, Stated}

-- a run stays as it is after its end
stays_at : (s : Scenario) (r : Run) (is : IsRunOf s r) (n : ℕ) → after s.horizon (n + is.steps) (opening s) ≡ r
stays_at s r is n =
    let start : List Site = opening s in
    let ended : IsNone (next_due s.horizon (after s.horizon is.steps start).sites) = subst (λ (y : Run). IsNone (next_due s.horizon y.sites)) (sym is.reached) is.ended in
    stays sqs_laws s.horizon n is.steps start ended ∙ is.reached

-- a scenario has one run
pub one_run : (s : Scenario) (r x : Run) → IsRunOf s r → IsRunOf s x → r ≡ x
one_run s r x is also =
    let swap : also.steps + is.steps ≡ is.steps + also.steps = omega arith in
    sym (stays_at s r is also.steps) ∙ ap (λ (n : ℕ). after s.horizon n (opening s)) swap ∙ stays_at s x also is.steps

-- one that was read has a run
pub some_run : (s : Scenario) → IsInRange s → (r : Run) × IsRunOf s r
some_run s range = ends s range.sound

-- where the messages of a whole run stand
pub stands_once : (s : Scenario) (r : Run) → HasItsQueues s → IsRunOf s r → EachHasOnePlace r.sites r.rows
stands_once s r q is = subst (λ (x : Run). EachHasOnePlace x.sites x.rows) is.reached (each_keeps s q is.steps)

pub stands_alone : (s : Scenario) (r : Run) → HasItsQueues s → IsRunOf s r → NoOtherHasPlace r.sites r.rows
stands_alone s r q is = subst (λ (x : Run). NoOtherHasPlace x.sites x.rows) is.reached (no_other s q is.steps)

-- the run of a scenario that a request states and that can be split so
abbrev pub rehearsed : (q : Request) (s : Stated q) → IsInRange s.scenario → split_fault s.scenario q.options ≡ None → (r : Run) → IsRunOf s.scenario r → Rehearsed q
rehearsed q s range allowed r is =
    let there : HasItsQueues s.scenario = has_queues s.scenario range in
    record {
      scenario = s.scenario;
      run = r;
      stated = s.stated;
      allowed = allowed;
      is_run = is;
      one_place = stands_once s.scenario r there is;
      no_other = stands_alone s.scenario r there is;
      rules = keeps_the_rules s.scenario range.sound range.queues r is;
      left = left_is_told s.scenario range.queues r is;
      journeys = journeys_told s.scenario range.sound r is;
    }

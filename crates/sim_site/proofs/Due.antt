-- What is known of a key that is due, by its class: a task whose step is due runs, and a sample is due at its moment.
use Rattle.std.specs.Prelude.{IfSome, List, Some, [], find, cond, false, map, true, ℕ, ◌*◌, ◌+◌, ◌∷◌, ◌≡◌, ◌≢◌}
use Rattle.std.proofs.Common.{ap, arith, inl, inr, refl, subst, sym}
use Rattle.std.proofs.lemmas.Bool.Decides.{nat_tests}
use Rattle.std.proofs.lemmas.List.Elements.{All-head, All-tail}
use Rattle.sqs_redrive.specs.declared.transfers.Outbound.{Outbound}
use Rattle.sim_clock.specs.declared.key.Class.{Class}
use Rattle.sim_clock.specs.declared.key.Class.TheVariants.{Arrival, Expiry, PollEnd, Release, Sample, Step, Wake}
use Rattle.sim_clock.specs.declared.key.Key.{Key}
use Rattle.sim_clock.proofs.Least.{key_tied}
use Rattle.sqs_redrive.specs.declared.settings.TaskSettings.{TaskSettings}
use Rattle.sqs_redrive.specs.Transfers.{transfer_key}
use Rattle.sqs_model.specs.Acts.{runs}
use Rattle.sqs_model.specs.Dues.{core_dues, dues, least_due}
use Rattle.sqs_model.specs.Progress.{AreTimely, Ascends, WasEnqueuedBy}
use Rattle.sqs_model.specs.Site.{Core, Site, has_key, task_numbered}
use Rattle.sqs_model.specs.Task.{Task}
use Rattle.sqs_model.proofs.Members.{From, In, found_by_number, in_append, in_map}
use Rattle.sqs_model.proofs.WorldMoves.{least_in}
use Rattle.sim_site.specs.Due.{IsAmong}
use Rattle.sim_site.specs.Kept.{numbered_settings}
use Rattle.sqs_model.proofs.EachDue.{of_core}

-- numbers that ascend among settings ascend among tasks
tasks_ascend : (n : ℕ) (ts : List Task) → Ascends (λ (x : ℕ × TaskSettings). x.0) n (map numbered_settings ts) → Ascends (λ (t : Task). t.number) n ts
tasks_ascend n [] h = tt
tasks_ascend n (t ∷ ts) h = (h.0, tasks_ascend (t.number + 1) ts h.1)

-- the moment of a sample, where samples are taken
pub record IsSample (key : Key) (c : Core) : Type 0 where
  pub sampled : ¬ (c.sample ≡ 0)
  pub at : key.at ≡ c.sample * (c.samples + 1)

-- a task of a site whose step this is, which runs
record IsStep (key : Key) (c : Core) : Type 0 where
  pub task : Task
  pub within : In c.tasks task
  pub running : runs task ≡ true
  pub agent : task.number ≡ key.agent

-- what is known of a key that is due but for arrivals, by its class
abbrev IsDueOf : Core → Key → Class → Type 0
IsDueOf c key Expiry = Unit {0}
IsDueOf c key Release = Unit {0}
IsDueOf c key Arrival = ⊥
IsDueOf c key PollEnd = Unit {0}
IsDueOf c key Wake = Unit {0}
IsDueOf c key Sample = IsSample key c
IsDueOf c key Step = IsStep key c

due_by : (c : Core) (key : Key) → IsAmong (core_dues c) key → IsDueOf c key key.class
due_by c key =
    of_core (λ k. IsDueOf c k k.class) key c
    (record {
      expiry = λ m i. tt;
      release = λ m at i e. tt;
      poll = λ p i. tt;
      wake = λ a at i e. tt;
      sample = λ e. record { sampled = grind (arith, nat_tests); at = refl };
      step = λ t i r. record { task = t; within = i; running = r; agent = refl };
    })

-- a sample that is due
pub due_sample : (c : Core) (key : Key) → key.class ≡ Sample → IsAmong (core_dues c) key → IsSample key c
due_sample c key is due = subst (IsDueOf c key) is (due_by c key due)

-- the task runs whose step is due
pub due_runs :
    (c : Core) (key : Key) → Ascends (λ (x : ℕ × TaskSettings). x.0) 0 (map numbered_settings c.tasks) → key.class ≡ Step → IsAmong (core_dues c) key
    → IfSome (task_numbered key.agent c) (λ t. runs t ≡ true)
due_runs c key a is due =
    let s : IsStep key c = subst (IsDueOf c key) is (due_by c key due) in
    let own : task_numbered s.task.number c ≡ Some s.task = found_by_number (λ (x : Task). x.number) 0 c.tasks s.task (tasks_ascend 0 c.tasks a) s.within in
    let found : task_numbered key.agent c ≡ Some s.task = subst (λ (j : ℕ). task_numbered j c ≡ Some s.task) s.agent own in
    rw found s.running

-- no arrival is due of a site but for those on their way to it
pub no_arrival : (c : Core) (key : Key) → key.class ≡ Arrival → IsAmong (core_dues c) key → ⊥
no_arrival c key is due = subst (IsDueOf c key) is (due_by c key due)

-- what is due of a site and is no arrival
among_core : (key : Key) (s : Site) → key.class ≢ Arrival → IsAmong (dues s) key → IsAmong (core_dues s.core) key
unfolding dues
among_core key s other i =
    elim (in_append (map transfer_key s.arriving) (core_dues s.core) key i) as (λ _. IsAmong (core_dues s.core) key) [
      | inl k ↦
          let f : From s.arriving (λ o. transfer_key o ≡ key) = in_map transfer_key s.arriving key k in
          absurd (other (ap (λ (x : Key). x.class) (sym f.gives)))
      | inr k ↦ k
    ]

-- the least due of a site, where it is no arrival
pub least_is_due : (s : Site) (key : Key) → least_due s ≡ Some key → key.class ≢ Arrival → IsAmong (core_dues s.core) key
least_is_due s key d other = among_core key s other (least_in (dues s) key d)

-- the transfer that arrives was enqueued by then
pub arrives_timely : (key : Key) (transfers : List Outbound) → AreTimely transfers → IfSome (find (has_key key) transfers) (λ t. WasEnqueuedBy key.at t.load)
arrives_timely key [] h = tt
arrives_timely key (o ∷ os) h =
    elim (has_key key o) as (λ b. has_key key o ≡ b → IfSome (cond b (Some o) (find (has_key key) os)) (λ t. WasEnqueuedBy key.at t.load)) [
      | true ↦ λ e.
          let at : o.at ≡ key.at = ap (λ (x : Key). x.at) (sym (key_tied key (transfer_key o) e)) in
          subst (λ n. WasEnqueuedBy n o.load) at (All-head (λ (x : Outbound). WasEnqueuedBy x.at x.load) o os h)
      | false ↦ λ e. arrives_timely key os (All-tail (λ (x : Outbound). WasEnqueuedBy x.at x.load) o os h)
    ] refl

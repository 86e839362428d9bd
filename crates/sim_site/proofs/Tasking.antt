-- Starts and cancels of tasks, by what the site's tasks become.
use Rattle.std.proofs.Common.{◌≡◌, ℕ, Bool, true, false, List, [], ◌∷◌, ◌++◌, Some, refl, ap, sym, subst, ◌∙◌, arith}
use Rattle.std.specs.Prelude.{IfSome, find}
use Rattle.std.specs.List.{list_any}
use Rattle.sim_clock.specs.declared.key.Key.{Key}
use Rattle.sim_clock.specs.declared.refusal.Refusal.TheVariants as refusals
use Rattle.sqs_message.specs.declared.row.Row.{Row}
use Rattle.sqs_message.specs.declared.row.RowAnswer.TheVariants as answers
use Rattle.sqs_message.specs.declared.row.RowKind.TheVariants as kinds
use Rattle.sqs_model.specs.Actor.{Actor}
use Rattle.sqs_model.specs.Acts.{cancel_made, runs, start_made, task_row}
use Rattle.sim_clock.specs.Places.{Stands}
use Rattle.sqs_model.specs.Site.{Core, is_task, task_numbered, with_task}
use Rattle.sqs_model.specs.Task.{Task}
use Rattle.sim_site.specs.Effects.{Did, Effects}
use Rattle.sim_site.specs.Reading.{cancelled_task, started_task}
use Rattle.sim_site.specs.Tasks.{Rewritten}
use Rattle.sim_site.proofs.Carried.{did_say}

-- one that is found
pub record Found {A : Type 0} (p : A → Bool) (xs : List A) : Type 0 where
  pub one : A
  pub is : find p xs ≡ Some one

pub stands_found : {A : Type 0} (p : A → Bool) (xs : List A) (i : ℕ) → Stands p xs i → Found p xs
stands_found p [] i s = absurd (omega (arith, s.within))
stands_found p (x ∷ xs) i s = record { one = _; is = s.found x }

module _ (key : Key) (a : Actor) (c : Core) (before after : Effects) (n : ℕ) (x : Row) (rows : after.rows.items ≡ before.rows.items ++ x ∷ []) (sent : after.sent ≡ before.sent) where
  pub start_refused :
      (i : ℕ) → Stands (is_task n) c.tasks i → list_any runs c.tasks ≡ true → x ≡ task_row key a c n kinds.Start (answers.Refused refusals.TaskRunning)
      → Did before after c (start_made key a c n (task_numbered n c)).effect
  start_refused i s any row =
      let f = stands_found (is_task n) c.tasks i s in
      rw (f.is, any) (did_say before after c c x (task_row key a c n kinds.Start (answers.Refused refusals.TaskRunning)) rows sent refl row)

  pub start_done :
      (tasks : List Task) → Rewritten n (started_task key.at) c.tasks tasks → list_any runs c.tasks ≡ false → x ≡ task_row key a c n kinds.Start answers.Ok
      → Did before after (record c { tasks = tasks }) (start_made key a c n (task_numbered n c)).effect
  start_done tasks w none row =
      rw (w.found, none)
      (did_say before after (record c { tasks = tasks }) (with_task c (started_task key.at w.before)) x (task_row key a c n kinds.Start answers.Ok) rows sent (ap (λ ts. record c { tasks = ts }) w.list) row)

  pub cancel_refused :
      (i : ℕ) (b : Bool) → Stands (is_task n) c.tasks i → IfSome (task_numbered n c) (λ t. b ≡ runs t) → b ≡ false → x ≡ task_row key a c n kinds.Cancel (answers.Refused refusals.NoTask)
      → Did before after c (cancel_made key a c n (task_numbered n c)).effect
  cancel_refused i b s ran off row =
      let f = stands_found (is_task n) c.tasks i s in
      let idle : runs f.one ≡ false = sym (subst (λ o. IfSome o (λ t. b ≡ runs t)) f.is ran) ∙ off in
      rw (f.is, idle) (did_say before after c c x (task_row key a c n kinds.Cancel (answers.Refused refusals.NoTask)) rows sent refl row)

  pub cancel_done :
      (b : Bool) (tasks : List Task) → Rewritten n cancelled_task c.tasks tasks → IfSome (task_numbered n c) (λ t. b ≡ runs t) → b ≡ true → x ≡ task_row key a c n kinds.Cancel answers.Ok
      → Did before after (record c { tasks = tasks }) (cancel_made key a c n (task_numbered n c)).effect
  cancel_done b tasks w ran on row =
      let running : runs w.before ≡ true = sym (subst (λ o. IfSome o (λ t. b ≡ runs t)) w.found ran) ∙ on in
      rw (w.found, running)
      (did_say before after (record c { tasks = tasks }) (with_task c (cancelled_task w.before)) x (task_row key a c n kinds.Cancel answers.Ok) rows sent (ap (λ ts. record c { tasks = ts }) w.list) row)

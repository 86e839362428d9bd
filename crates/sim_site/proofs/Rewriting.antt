-- The change of one task of a site.
use Rattle.std.proofs.Common.{◌≡◌, ℕ, true, List, Some, get_or, set, map, arith, ap, sym, ◌∙◌}
use Rattle.std.specs.Prelude.{find}
use Rattle.std.proofs.lemmas.Bool.Decides.{nat_tests}
use Rattle.sim_clock.specs.Firsts.{changed}
use Rattle.sim_clock.specs.Places.{Stands}
use Rattle.sqs_model.specs.Site.{is_task}
use Rattle.sqs_model.specs.Task.{Task}
use Rattle.sqs_model.proofs.Counts.{find_picked}
use Rattle.sim_site.specs.Kept.{numbered_settings}
use Rattle.sim_site.specs.Tasks.{Rewritten}
use Rattle.sim_site.proofs.Turning.{map_changed}

pub is_its_number : (n : ℕ) (t : Task) → is_task n t ≡ true → t.number ≡ n
is_its_number n t h = grind (arith, nat_tests)

module _ (n : ℕ) (xs : List Task) (i : ℕ) (s : Stands (is_task n) xs i) (t : Task) (e : t ≡ get_or xs i t) where
  pub task_at : find (is_task n) xs ≡ Some t
  task_at = s.found t ∙ ap (λ x. Some x) (sym e)

  pub rewritten_at : (change : Task → Task) (u : Task) → u ≡ change t → Rewritten n change xs (set xs i u)
  rewritten_at change u h =
      let number : t.number ≡ n = is_its_number n t (find_picked (is_task n) xs t task_at) in
      record {
        before = t;
        found = task_at;
        list = sym (s.change (λ _. u) t) ∙ ap (λ m. changed (is_task m) (λ _. u) xs) (sym number) ∙ ap (λ v. changed (is_task t.number) (λ _. v) xs) h;
      }

  pub settings_at : (u : Task) → numbered_settings u ≡ numbered_settings t → map numbered_settings (set xs i u) ≡ map numbered_settings xs
  settings_at u h = rw (sym (s.change (λ _. u) t)) (map_changed (is_task n) numbered_settings u xs t task_at h)

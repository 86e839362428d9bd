-- The step of a move task, message by message.
use Rattle.std.specs.Prelude.{Err, List, Ok, Result, Some, get_or, length, set, ℕ, ◌<◌}
use Rattle.std.proofs.Common.{Global, Vec, ◌≡◌, [], ◌∷◌, ◌++◌, append_assoc, append-nil, refl, ap, subst, sym, ◌∙◌}
use Rattle.sim_clock.specs.declared.key.Key.{Key}
use Rattle.sqs_model.specs.Answers.{most_count}
use Rattle.sqs_model.specs.Counts.{task_count}
use Rattle.sqs_model.specs.Limits.{PassesCount}
use Rattle.sim_clock.specs.declared.refusal.Refusal.{Refusal}
use Rattle.sim_site.specs.Effects.{Did, Does, Effects, GoesOn}
use Rattle.sim_site.specs.declared.handling.Handling.{Handling}
use Rattle.sim_site.proofs.Limiting.{step_passes}
use Rattle.sim_site.proofs.Passing.{stops_for}
use Rattle.sqs_message.specs.declared.row.Row.{Row}
use Rattle.sim_clock.specs.Firsts.{changed}
use Rattle.sim_clock.specs.Places.{Stands}
use Rattle.sqs_model.specs.Site.{Core, is_task, number_of, task_numbered, with_task}
use Rattle.sqs_model.specs.Step.{Moved, end_row, move_row, moves, step_moved}
use Rattle.sqs_model.specs.Task.{Task}
use Rattle.sqs_redrive.specs.declared.answers.Rest.{Rest}
use Rattle.sqs_redrive.specs.declared.transfers.Load.{Load}
use Rattle.sqs_redrive.specs.declared.transfers.Outbound.{Outbound}
use Rattle.sim_site.specs.Steps.{DidMove, MoveRemains, Moves, SendsOn, stepped_moves, task_after}
use Rattle.sqs_redrive.specs.declared.settings.TaskSettings.{TaskSettings}
use Rattle.sqs_model.proofs.Counts.{find_picked}
use Rattle.sim_site.specs.Kept.{numbered_settings}
use Rattle.sim_site.proofs.Rewriting.{is_its_number, task_at}

-- one message is moved
pub did_one :
    (a b d : Effects) (key : Key) (site : ℕ) (t after : Task) (to : ℕ) (load : Load) (x : Row) (o : Outbound)
    → b.rows.items ≡ a.rows.items ++ x ∷ [] → b.sent ≡ a.sent
    → ((c : Core) → number_of c ≡ site → x ≡ move_row key c t to load)
    → SendsOn key site t to load o after
    → d.sent.items ≡ b.sent.items ++ o ∷ [] → d.rows ≡ b.rows
    → (c : Core) → number_of c ≡ site → DidMove a d after (moves key c t ((to, load) ∷ []))
did_one a b d key site t after to load x o rows same row sends sent kept c n =
    let s = sends c n in
    record {
      task = s.1;
      rows = ap (λ (v : Vec Row Global). v.items) kept ∙ rows ∙ ap (λ z. a.rows.items ++ z ∷ []) (row c n);
      sent = sent ∙ ap (λ (v : Vec Outbound Global). v.items ++ o ∷ []) same ∙ ap (λ z. a.sent.items ++ z ∷ []) s.0;
    }

-- all is left to move before anything is
pub move_remains_all : (a : Effects) (m : Moved) → MoveRemains a a m m
move_remains_all a m = record { task = refl; rows = refl; sent = refl }

-- the first of what is left is moved
pub move_remains_next :
    (a b d : Effects) (key : Key) (c : Core) (t after : Task) (to : ℕ) (load : Load) (rest : List (ℕ × Load)) (whole : Moved)
    → MoveRemains a b (moves key c t ((to, load) ∷ rest)) whole
    → DidMove b d after (moves key c t ((to, load) ∷ []))
    → MoveRemains a d (moves key c after rest) whole
move_remains_next a b d key c t after to load rest whole m p =
    record {
      task = ap (λ x. (moves key c x rest).task) p.task ∙ m.task;
      rows =
          ap (λ rs. rs ++ (moves key c after rest).rows) p.rows ∙ append_assoc b.rows.items _ _
          ∙ ap (λ x. b.rows.items ++ (move_row key c t to load ∷ (moves key c x rest).rows)) p.task ∙ m.rows;
      sent =
          ap (λ os. os ++ (moves key c after rest).sent) p.sent ∙ append_assoc b.sent.items _ _
          ∙ ap (λ x. b.sent.items ++ ((moves key c t ((to, load) ∷ [])).sent ++ (moves key c x rest).sent)) p.task ∙ m.sent;
    }

-- nothing is left to move
pub move_remains_none : (a b : Effects) (key : Key) (c : Core) (t : Task) (whole : Moved) → MoveRemains a b (moves key c t []) whole → DidMove a b t whole
move_remains_none a b key c t whole m =
    record {
      task = m.task;
      rows = sym (append-nil b.rows.items) ∙ m.rows;
      sent = sym (append-nil b.sent.items) ∙ m.sent;
    }

-- a whole step
pub did_step :
    (a b d : Effects) (key : Key) (c : Core) (taken : ℕ) (t mid after : Task) (loads : List (ℕ × Load)) (rest : Rest)
    → DidMove a b mid (moves key c t loads)
    → after ≡ task_after key.at taken rest mid → taken ≡ length loads
    → d.rows.items ≡ b.rows.items ++ end_row key c after rest → d.sent ≡ b.sent
    → DidMove a d after (stepped_moves key c t loads rest)
did_step a b d key c taken t mid after loads rest m e counted told kept =
    let same : after ≡ task_after key.at (length loads) rest (moves key c t loads).task =
    e ∙ ap (λ k. task_after key.at k rest mid) counted ∙ ap (task_after key.at (length loads) rest) m.task in
    record {
      task = same;
      rows =
          told ∙ ap (λ rs. rs ++ end_row key c after rest) m.rows ∙ append_assoc a.rows.items (moves key c t loads).rows (end_row key c after rest)
          ∙ ap (λ x. a.rows.items ++ ((moves key c t loads).rows ++ end_row key c x rest)) same;
      sent = ap (λ (v : Vec Outbound Global). v.items) kept ∙ m.sent;
    }

-- the step of the task at a place
pub step_does :
    (r : Result (Unit {0}) Refusal) (a b : Handling) (c : Core) (site : ℕ) (t u after : Task) (loads : List (ℕ × Load)) (rest : Rest) (i : ℕ) → number_of c ≡ site → Stands (is_task a.key.agent) c.tasks i
    → t ≡ get_or c.tasks i t → task_numbered a.key.agent c ≡ Some u → numbered_settings after ≡ numbered_settings t
    → Moves r a b site after (λ k d. stepped_moves k d t loads rest)
    → Does r a b (record c { tasks = set c.tasks i after }) (step_moved a.key c (length loads) rest (moves a.key c u loads))
step_does (Ok v) a b c site t u after loads rest i n s e found kept (on, moved) =
    let m = moved c n in
    let one : task_numbered a.key.agent c ≡ Some t = task_at a.key.agent c.tasks i s t e in
    let is : t ≡ u = let k : Some t ≡ Some u = sym one ∙ found in cc in
    let number : after.number ≡ a.key.agent = ap (λ (x : ℕ × TaskSettings). x.0) kept ∙ is_its_number a.key.agent t (find_picked (is_task a.key.agent) c.tasks t one) in
    let list : set c.tasks i after ≡ changed (is_task after.number) (λ _. after) c.tasks = sym (s.change (λ _. after) t) ∙ ap (λ n. changed (is_task n) (λ _. after) c.tasks) (sym number) in
    subst (λ (x : Task). GoesOn a b × Did a.effects.now b.effects.now (record c { tasks = set c.tasks i after }) (step_moved a.key c (length loads) rest (moves a.key c x loads))) is
    (on, record { core = ap (λ xs. record c { tasks = xs }) list ∙ ap (with_task c) m.task; rows = m.rows; sent = m.sent })
step_does (Err x) a b c site t u after loads rest i n s e found kept m =
    let one : task_numbered a.key.agent c ≡ Some t = task_at a.key.agent c.tasks i s t e in
    let is : t ≡ u = let k : Some t ≡ Some u = sym one ∙ found in cc in
    stops_for _ (PassesCount (step_moved a.key c (length loads) rest (moves a.key c u loads))) x
    (λ h. step_passes a.key c u loads rest found (subst (λ (y : Task). most_count < task_count (stepped_moves a.key c y loads rest).task) is (h c n))) m

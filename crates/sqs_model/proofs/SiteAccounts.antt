-- What happens at a site keeps it in balance with the rows made and the transfers sent.
use Rattle.std.specs.Prelude.{All, Bool, Err, List, None, Ok, Option, Result, Some, [], false, length, take, true, ℕ, ◌+◌, ◌++◌, ◌<◌, ◌==◌, ◌∷◌, ◌≡◌}
use Rattle.std.proofs.Common.{ap, arith, refl, subst, sym, ◌∙◌}
use Rattle.std.proofs.lemmas.List.{append-nil, append_assoc}
use Rattle.std.proofs.lemmas.List.Elements.{All-append, All-cons, All-nil}
use Rattle.sim_clock.specs.declared.key.Class.{Class}
use Rattle.sim_clock.specs.declared.key.Class.TheVariants as classes
use Rattle.sim_clock.specs.declared.key.Key.{Key}
use Rattle.sim_clock.specs.declared.refusal.Refusal.{Refusal}
use Rattle.sqs_message.specs.declared.ids.MessageId.{MessageId}
use Rattle.sqs_message.specs.declared.ids.Origin.{Origin}
use Rattle.sqs_message.specs.declared.ids.Receipt.{Receipt}
use Rattle.sqs_message.specs.declared.message.Message.{Message}
use Rattle.sqs_message.specs.declared.row.Row.{Row}
use Rattle.sqs_message.specs.declared.row.RowAnswer.TheVariants as answers
use Rattle.sqs_redrive.specs.MoveTasks.{task_started, task_stepped}
use Rattle.sqs_redrive.specs.declared.answers.Deleted.{Deleted}
use Rattle.sqs_redrive.specs.declared.answers.Deleted.TheVariants.{Gone, Kept, Removed}
use Rattle.sqs_redrive.specs.declared.answers.Got.{Got}
use Rattle.sqs_redrive.specs.declared.answers.Rest.{Rest}
use Rattle.sqs_redrive.specs.declared.answers.Rest.TheVariants.{Empty, More, NoSource}
use Rattle.sqs_redrive.specs.declared.answers.Sent.{Sent}
use Rattle.sqs_redrive.specs.declared.answers.Sent.TheVariants.{New, Repeat}
use Rattle.sqs_redrive.specs.declared.settings.Policy.{Policy}
use Rattle.sqs_redrive.specs.declared.settings.QueueSettings.{QueueSettings}
use Rattle.sqs_redrive.specs.declared.transfers.Load.{Load}
use Rattle.sqs_redrive.specs.declared.transfers.Load.TheVariants.{Forward, Move, Redrive}
use Rattle.sqs_redrive.specs.declared.transfers.Outbound.{Outbound}
use Rattle.sqs_model.specs.Accounts.{carries}
use Rattle.sqs_model.specs.Scenario.{LeadsWithin, MayBeWithin}
use Rattle.sqs_model.specs.Actor.{Actor}
use Rattle.sqs_redrive.specs.declared.settings.TaskStatus.TheVariants.{Cancelled}
use Rattle.sqs_model.specs.Acts.{forward_made, delete_done, redrive_by, send_made}
use Rattle.sqs_model.specs.Arrive.{expired_found}
use Rattle.sqs_model.specs.Available.{all_available, all_hosts}
use Rattle.sqs_model.specs.Draw.{drawn_latency}
use Rattle.sqs_model.specs.Queue.{Queue, numbered}
use Rattle.sqs_model.specs.Receive.{timeout_of, to_give}
use Rattle.sqs_model.specs.Return.{released}
use Rattle.sqs_model.specs.Site.{Core, Effect, and_then, is_task, says, task_numbered, with_queue, with_task}
use Rattle.sqs_model.specs.Step.{arrival_done, arrival_row, end_row, expiry_done, expiry_row, handle_arrival, handle_class, handle_step, load_age, moves, one_sent, with_polls}
use Rattle.sqs_model.specs.Task.{Task, take_each, take_movable}
use Rattle.sqs_model.proofs.Balance.{Holds, holds_as, holds_idle}
use Rattle.sqs_model.proofs.Chosen.{first_apart, first_stand}
use Rattle.sqs_model.proofs.Counts.{all_changed, find_all, total, total_append}
use Rattle.sqs_model.proofs.Forwards.{CarriesForward, next_forwards}
use Rattle.sqs_model.proofs.Sending.{IsForward}
use Rattle.sqs_model.proofs.Ledger.{bit, marks}
use Rattle.sqs_model.proofs.Walk.{ArePlain, Changes as AfterChange, Gives as AfterGiving, HandlingLaw, TurnLaw, arrival_goes, class_goes, leaves_by, lefts as all_left, polled}
use Rattle.sqs_model.proofs.QueueAccounts.{AreBound, Changes, Comes, Deletes, Gives, IsKnown, IsThere, MayAllLeave, MayLeave, Releases, Sends, Takes, arrived_balances, carried, change_balances, delete_balances, ends_one, give_balances, left_bit, lefts, moved_bits, released_balances, same_timeout, sends_balance, take_balances}

-- a message that is there
abbrev pub IsFound : Option Message → Type 0
IsFound None = ⊥
IsFound (Some m) = Unit {0}

-- whether what is due by a key of an expiry or of a release is a message that is there
abbrev pub IsDueThere : Key → Class → Core → Type 0
IsDueThere key classes.Expiry c = IsFound (numbered key.number c.queue.records)
IsDueThere key classes.Release c = IsFound (numbered key.number c.queue.records)
IsDueThere key class c = Unit {0}

-- messages that come back leave the queue as it is
redrive_queue : (key : Key) (c : Core) (n : ℕ) (load : Load) (p : Option Policy) → (redrive_by p key c n load).core.queue ≡ c.queue
redrive_queue key c n load None = refl
redrive_queue key c n load (Some p) = refl

module _ (o : Origin) (top : ℕ) where
  -- a transfer that carries the origin goes to a queue of the world
  pub record IsBound (x : Outbound) : Type 0 where
    pub there : carries o x.load ≡ true → x.to < top
    pub known : IsKnown top x.load

  -- how many of the origin some transfers carry
  abbrev pub sent_bits : List Outbound → ℕ
  sent_bits sent = total (λ x. carried o x.load) sent

  -- where a task moves messages to
  abbrev pub Leads : Task → Type 0
  Leads t = MayBeWithin top t.move.settings.to

  -- rows that say nothing
  abbrev pub AreIdle : List Row → Type 0
  AreIdle [] = Unit {0}
  AreIdle (r ∷ rs) = (marks o r ≡ false) × AreIdle rs

  -- a forward carries none
  forward_bound : (to : ℕ) (load : Load) → IsForward load → (carries o load ≡ false) × IsKnown top load
  forward_bound to (Redrive id group origin body enqueued) f = absurd f
  forward_bound to (Move id group origin body) f = absurd f
  forward_bound to (Forward id group body) f = (refl, tt)

module _ (o : Origin) (top : ℕ) (base : List Row) where
  -- a site in balance
  abbrev pub At : List Row → ℕ → Core → Type 0
  At rows elsewhere c = Holds o top base rows elsewhere c.queue × All (Leads o top) c.tasks

  -- an effect that leaves it in balance
  pub record Goes (rows : List Row) (elsewhere : ℕ) (e : Effect) : Type 0 where
    pub at : At (rows ++ e.rows) (sent_bits o top e.sent + elsewhere) e.core
    pub sent : All (IsBound o top) e.sent

  at_as : (rows : List Row) (a b : ℕ) (c : Core) → a ≡ b → At rows a c → At rows b c
  at_as rows a b c e h = (holds_as o top base rows a b c.queue e h.0, h.1)

  at_rows : (rows more : List Row) (elsewhere : ℕ) (c : Core) → rows ≡ more → At rows elsewhere c → At more elsewhere c
  at_rows rows more elsewhere c e h = subst (λ r. At r elsewhere c) e h

  goes_as : (rows : List Row) (a b : ℕ) (e : Effect) → a ≡ b → Goes rows a e → Goes rows b e
  goes_as rows a b e q h = subst (λ n. Goes rows n e) q h

  -- rows that say nothing
  idle_rows : (more rows : List Row) (elsewhere : ℕ) (q : Queue) → AreIdle o top more → Holds o top base rows elsewhere q → Holds o top base (rows ++ more) elsewhere q
  idle_rows [] rows elsewhere q i h = subst (λ r. Holds o top base r elsewhere q) (sym (append-nil rows)) h
  idle_rows (r ∷ rs) rows elsewhere q i h =
      subst (λ x. Holds o top base x elsewhere q) (append_assoc rows (r ∷ []) rs) (idle_rows rs (rows ++ r ∷ []) elsewhere q i.1 (holds_idle o top base rows r elsewhere q i.0 h))

  quiet : (rows : List Row) (elsewhere : ℕ) (c : Core) (more : List Row) → AreIdle o top more → At rows elsewhere c → Goes rows elsewhere (record { core = c; rows = more; sent = [] })
  quiet rows elsewhere c more i h =
      record { at = at_as (rows ++ more) elsewhere (0 + elsewhere) c (omega arith) (idle_rows more rows elsewhere c.queue i h.0, h.1); sent = All-nil (IsBound o top) }

  told_once : (rows : List Row) (elsewhere : ℕ) (c : Core) (r : Row) → At (rows ++ r ∷ []) elsewhere c → Goes rows elsewhere (says c r)
  told_once rows elsewhere c r h = record { at = at_as (rows ++ r ∷ []) elsewhere (0 + elsewhere) c (omega arith) h; sent = All-nil (IsBound o top) }

  module _ (key : Key) where
    -- messages that come back, or leave
    redriven_goes : (rows : List Row) (elsewhere : ℕ) (c : Core) (n : ℕ) (load : Load) (p : Option Policy) → LeadsWithin top p → IsThere p → IsKnown top load → At rows (carried o load + elsewhere) c → Goes rows elsewhere (redrive_by p key c n load)
    redriven_goes rows elsewhere c n load None l t k h = absurd t
    redriven_goes rows elsewhere c n load (Some p) l t k h =
        let e : Effect = redrive_by (Some p) key c n load in
        record {
          at = at_as (rows ++ e.rows) (carried o load + elsewhere) (sent_bits o top e.sent + elsewhere) e.core (omega arith) (idle_rows e.rows rows (carried o load + elsewhere) c.queue (refl, tt) h.0, h.1);
          sent = All-cons (IsBound o top) _ [] (record { there = λ _. l; known = k }) (All-nil (IsBound o top));
        }

    sent_goes : (rows : List Row) (elsewhere : ℕ) (a : Actor) (c : Core) (body : List ℕ) (x : Result Sent Refusal × Queue) → Sends o top base rows elsewhere x → All (Leads o top) c.tasks → Goes rows elsewhere (send_made key a c body x).effect
    sent_goes rows elsewhere a c body (Ok (New id), q) s t = told_once rows elsewhere (with_queue c q) _ (s _ (record { told = refl; message = refl; lasts = refl }), t)
    sent_goes rows elsewhere a c body (Ok (Repeat id), q) s t = quiet rows elsewhere (with_queue c q) _ (refl, tt) (s, t)
    sent_goes rows elsewhere a c body (Err e, q) s t = quiet rows elsewhere (with_queue c q) _ (refl, tt) (s, t)

    deleted_goes : (rows : List Row) (elsewhere : ℕ) (a : Actor) (c : Core) (text : List ℕ) (r : Receipt) (x : Result Deleted Refusal × Queue) → Deletes o top base rows elsewhere c.queue.site r.number x → All (Leads o top) c.tasks → Goes rows elsewhere (delete_done key a c text r x).effect
    deleted_goes rows elsewhere a c text r (Ok (Removed age), q) d t = told_once rows elsewhere (with_queue c q) _ (d _ (record { silent = refl; message = refl; once = λ e. omega arith }), t)
    deleted_goes rows elsewhere a c text r (Ok Kept, q) d t = quiet rows elsewhere (with_queue c q) _ (refl, tt) (d, t)
    deleted_goes rows elsewhere a c text r (Ok Gone, q) d t = quiet rows elsewhere (with_queue c q) _ (refl, tt) (d, t)
    deleted_goes rows elsewhere a c text r (Err e, q) d t = quiet rows elsewhere (with_queue c q) _ (refl, tt) (d, t)

    task_at : (rows : List Row) (elsewhere : ℕ) (c : Core) (t : Task) → Leads o top t → At rows elsewhere c → At rows elsewhere (with_task c t)
    task_at rows elsewhere c t l h = (h.0, all_changed (is_task t.number) (Leads o top) (λ _. t) (λ _ _. l) c.tasks h.1)

    task_leads : (rows : List Row) (elsewhere : ℕ) (c : Core) (n : ℕ) (t : Task) → task_numbered n c ≡ Some t → At rows elsewhere c → Leads o top t
    task_leads rows elsewhere c n t e h = find_all (is_task n) (Leads o top) c.tasks t h.1 e

    forward_goes : (rows : List Row) (elsewhere : ℕ) (a : Actor) (c : Core) (id : MessageId) (x : Outbound) → IsForward x.load → At rows elsewhere c → Goes rows elsewhere (forward_made key a id x c)
    forward_goes rows elsewhere a c id x f h =
        let e : Effect = forward_made key a id x c in
        let none = forward_bound o top x.to x.load f in
        let zero_bits : carried o x.load ≡ 0 = ap bit none.0 in
        record {
          at = at_as (rows ++ e.rows) elsewhere (sent_bits o top (x ∷ []) + elsewhere) c (omega (arith, zero_bits)) (idle_rows e.rows rows elsewhere c.queue (refl, tt) h.0, h.1);
          sent = All-cons (IsBound o top) x [] (record { there = λ y. let n : carries o x.load ≡ false = none.0 in cc; known = none.1 }) (All-nil (IsBound o top));
        }

    -- what arrives
    comes_goes : (rows : List Row) (elsewhere : ℕ) (c : Core) (load : Load) (x : (Sent × Bool) × Queue) → Comes o top base rows elsewhere load x → All (Leads o top) c.tasks → Goes rows elsewhere (arrival_done key load c x)
    comes_goes rows elsewhere c load ((New id, true), q) k t =
        let e : Effect = arrival_done key load c ((New id, true), q) in
        let made : Row = arrival_row key c load answers.New id in
        let ended : Row = expiry_row key c id (load_age load key.at) in
        let both : Holds o top base ((rows ++ made ∷ []) ++ ended ∷ []) elsewhere q = k made ended (record { told = refl; message = refl; lasts = refl }) (record { silent = refl; message = refl; once = λ b. omega arith }) in
        record {
          at = at_as (rows ++ e.rows) elsewhere (0 + elsewhere) e.core (omega arith) (subst (λ r. Holds o top base r elsewhere q) (append_assoc rows (made ∷ []) (ended ∷ [])) both, t);
          sent = All-nil (IsBound o top);
        }
    comes_goes rows elsewhere c load ((New id, false), q) k t = told_once rows elsewhere (with_queue c q) _ (k _ (record { told = refl; message = refl; lasts = refl }), t)
    comes_goes rows elsewhere c load ((Repeat id, old), q) k t = quiet rows elsewhere (with_queue c q) _ (refl, tt) (k, t)

    -- what is due
    expiry_goes : (rows : List Row) (elsewhere : ℕ) (c : Core) (f : Option Message) → numbered key.number c.queue.records ≡ f → IsFound f → At rows elsewhere c → Goes rows elsewhere (expiry_done key c (expired_found c.queue key.at key.number f))
    expiry_goes rows elsewhere c None e f h = absurd f
    expiry_goes rows elsewhere c (Some m) e f h =
        told_once rows elsewhere _ _ (ends_one o top base rows key.number m elsewhere c.queue e h.0 _ (record { silent = refl; message = refl; once = λ b. omega arith }), h.1)

    moved_goes : (c : Core) (t : Task) (loads : List (ℕ × Load)) → AreBound top loads → AreIdle o top (moves key c t loads).rows × All (IsBound o top) (moves key c t loads).sent
    moved_goes c t [] b = (tt, All-nil (IsBound o top))
    moved_goes c t (x ∷ xs) b =
        let others = moved_goes c (one_sent t (drawn_latency t.move.settings.latency t.draws).1) xs b.1 in
        ((refl, others.0), All-cons (IsBound o top) _ _ (record { there = λ _. b.0.0; known = b.0.1 }) others.1)

    moved_same : (c : Core) (t : Task) (loads : List (ℕ × Load)) → (sent_bits o top (moves key c t loads).sent ≡ moved_bits o loads) × ((moves key c t loads).task.move ≡ t.move)
    moved_same c t [] = (refl, refl)
    moved_same c t (x ∷ xs) = let others = moved_same c (one_sent t (drawn_latency t.move.settings.latency t.draws).1) xs in (omega (arith, others.0), others.1)

    end_idle : (c : Core) (t : Task) (r : Rest) → AreIdle o top (end_row key c t r)
    end_idle c t Empty = (refl, tt)
    end_idle c t More = tt
    end_idle c t NoSource = (refl, tt)

    idle_append : (xs ys : List Row) → AreIdle o top xs → AreIdle o top ys → AreIdle o top (xs ++ ys)
    idle_append [] ys h k = k
    idle_append (x ∷ xs) ys h k = (h.0, idle_append xs ys h.1 k)

    step_goes : (rows : List Row) (elsewhere : ℕ) (c : Core) (t : Task) → task_numbered key.agent c ≡ Some t → At rows elsewhere c → Goes rows elsewhere (handle_step key c (Some t))
    step_goes rows elsewhere c t e h =
        let l : Leads o top t = task_leads rows elsewhere c key.agent t e h in
        let ms : List Message = take t.move.settings.per_second (all_available c.queue) in
        let taken : Takes o top base rows elsewhere (take_each c.queue t.move.settings.to ms) =
        take_balances o top base rows t.move.settings.to ms elsewhere c.queue l (first_stand c.queue (all_hosts c.queue.settings.kind) t.move.settings.per_second h.0.ordered) (first_apart c.queue (all_hosts c.queue.settings.kind) t.move.settings.per_second h.0.ordered) h.0 in
        let y : (List (ℕ × Load) × Rest) × Queue = take_movable c.queue t.move.settings.per_second t.move.settings.to in
        let d : Core = with_queue c y.1 in
        let moved = moved_goes d t y.0.0 taken.bound in
        let same = moved_same d t y.0.0 in
        let f : Effect = handle_step key c (Some t) in
        let after : Task = (moves key d t y.0.0).task in
        let done : Task = record after { move = task_stepped after.move key.at (length y.0.0) y.0.1 } in
        let idle : AreIdle o top f.rows = idle_append (moves key d t y.0.0).rows (end_row key d done y.0.1) moved.0 (end_idle d done y.0.1) in
        let there : MayBeWithin top (moves key d t y.0.0).task.move.settings.to = rw same.1 l in
        let one : At (rows ++ f.rows) (moved_bits o y.0.0 + elsewhere) d = (idle_rows f.rows rows (moved_bits o y.0.0 + elsewhere) y.1 idle taken.holds, h.1) in
        record {
          at = at_as (rows ++ f.rows) (moved_bits o y.0.0 + elsewhere) (sent_bits o top f.sent + elsewhere) f.core (omega (arith, same.0)) (task_at (rows ++ f.rows) (moved_bits o y.0.0 + elsewhere) d done there one);
          sent = moved.1;
        }

    -- loads that left the queue and are still to be told
    abbrev owed : List (Option Load) → ℕ
    owed [] = 0
    owed (l ∷ ls) = left_bit o l + owed ls

    abbrev MayAll : Option Policy → List (Option Load) → Type 0
    MayAll p [] = Unit {0}
    MayAll p (l ∷ ls) = MayLeave top p l × MayAll p ls

    owed_lefts : (gots : List Got) → lefts o gots ≡ owed (all_left gots)
    owed_lefts [] = refl
    owed_lefts (g ∷ gs) = ap (λ n. left_bit o g.left + n) (owed_lefts gs)

    may_lefts : (p : Option Policy) (gots : List Got) → MayAllLeave top p gots → MayAll p (all_left gots)
    may_lefts p [] h = tt
    may_lefts p (g ∷ gs) h = (h.0, may_lefts p gs h.1)

    -- what was done so far: the rows made, and how many of the origin stand elsewhere
    abbrev Past : Type 0
    Past = List Row × ℕ

    abbrev Before : Past → List (Option Load) → Core → Type 0
    Before p ls c = At p.0 (owed ls + p.1) c × MayAll c.queue.settings.policy ls

    abbrev after : Past → Effect → Past
    after p e = (p.0 ++ e.rows, sent_bits o top e.sent + p.1)

    record On (p : Past) (ls : List (Option Load)) (e : Effect) : Type 0 where
      pub at : Before (after p e) ls e.core
      pub sent : All (IsBound o top) e.sent

    here : (p : Past) (c : Core) → At p.0 p.1 c → Before p [] c
    here p c h = (at_as p.0 p.1 (0 + p.1) c (omega arith) h, tt)

    plainly : (p : Past) (c : Core) → Before p [] c → At p.0 p.1 c
    plainly p c h = at_as p.0 (0 + p.1) p.1 c (omega arith) h.0

    with_left : (p : Past) (ls : List (Option Load)) (e : Effect) → MayAll e.core.queue.settings.policy ls → Goes p.0 (owed ls + p.1) e → On p ls e
    with_left p ls e l g =
        record { at = (at_as (p.0 ++ e.rows) (sent_bits o top e.sent + (owed ls + p.1)) (owed ls + (sent_bits o top e.sent + p.1)) e.core (omega arith) g.at, l); sent = g.sent }

    goes_on : (p : Past) (e : Effect) → Goes p.0 p.1 e → On p [] e
    goes_on p e g = with_left p [] e tt (goes_as p.0 p.1 (0 + p.1) e (omega arith) g)

    goes_plainly : (p : Past) (e : Effect) → On p [] e → Goes p.0 p.1 e
    goes_plainly p e g = record { at = plainly (after p e) e.core g.at; sent = g.sent }

    joined_on : (p : Past) (ls ms : List (Option Load)) (e : Effect) (f : Core → Effect) → On p ls e → On (after p e) ms (f e.core) → On p ms (and_then e f)
    joined_on p ls ms e f g h =
        let next : Effect = f e.core in
        let more : sent_bits o top (e.sent ++ next.sent) ≡ sent_bits o top e.sent + sent_bits o top next.sent = total_append (λ (x : Outbound). carried o x.load) e.sent next.sent in
        record {
          at = (
            at_rows ((p.0 ++ e.rows) ++ next.rows) (p.0 ++ (e.rows ++ next.rows)) (owed ms + (sent_bits o top (e.sent ++ next.sent) + p.1)) next.core (append_assoc p.0 e.rows next.rows)
                (at_as ((p.0 ++ e.rows) ++ next.rows) (owed ms + (sent_bits o top next.sent + (sent_bits o top e.sent + p.1))) (owed ms + (sent_bits o top (e.sent ++ next.sent) + p.1)) next.core (omega (arith, more)) h.at.0),
            h.at.1,
          );
          sent = All-append (IsBound o top) e.sent next.sent g.sent h.sent;
        }

    idle_plain : (c : Core) (rows : List Row) → ArePlain key c rows → AreIdle o top rows
    idle_plain c [] h = tt
    idle_plain c (r ∷ rs) h = (h.0.silent o, idle_plain c rs h.1)

    quiet_on : (p : Past) (ms : List (Option Load)) (d : Core) (rows : List Row) → AreIdle o top rows → Before p ms d → On p ms (record { core = d; rows = rows; sent = [] })
    quiet_on p ms d rows i k = with_left p ms (record { core = d; rows = rows; sent = [] }) k.1 (quiet p.0 (owed ms + p.1) d rows i k.0)

    redriven_on : (p : Past) (ls : List (Option Load)) (c : Core) (n : ℕ) (load : Load) → Before p (Some load ∷ ls) c → On p ls (redrive_by c.queue.settings.policy key c n load)
    redriven_on p ls c n load h =
        let e : Effect = redrive_by c.queue.settings.policy key c n load in
        let l : MayAll e.core.queue.settings.policy ls = subst (λ (q : Queue). MayAll q.settings.policy ls) (sym (redrive_queue key c n load c.queue.settings.policy)) h.1.1 in
        with_left p ls e l
        (redriven_goes p.0 (owed ls + p.1) c n load c.queue.settings.policy h.0.0.policy h.1.0.0 h.1.0.1 (at_as p.0 (carried o load + owed ls + p.1) (carried o load + (owed ls + p.1)) c (omega arith) h.0))

    gives_on : (p : Past) (c : Core) (timeout : Option ℕ) (x : Queue × List Got) → All (Leads o top) c.tasks → Gives o top base p.0 p.1 (timeout_of c.queue timeout) c.queue.settings x → AfterGiving (Before p) c timeout x
    gives_on p c timeout (q, gots) t g =
        let d : Core = with_queue c q in
        let left : MayAllLeave top q.settings.policy gots = subst (λ (s : QueueSettings). MayAllLeave top s.policy gots) (sym g.settings) g.left in
        let same : timeout_of q timeout ≡ timeout_of c.queue timeout = same_timeout c.queue q timeout g.settings in
        leaves_by (Before p) d (timeout_of q timeout == 0) (all_left gots)
        (λ b. (at_as p.0 (lefts o gots + p.1) (owed (all_left gots) + p.1) d (omega (arith, owed_lefts gots)) (g.holds, t), may_lefts q.settings.policy gots left))
        (λ b.
        let none : lefts o gots ≡ 0 = g.none (ap (λ n. n == 0) (sym same) ∙ b) in
        (at_as p.0 (lefts o gots + p.1) (0 + p.1) d (omega (arith, none)) (g.holds, t), tt))

    changes_on : (p : Past) (c : Core) (timeout : ℕ) (x : Result (Option Load) Refusal × Queue) → All (Leads o top) c.tasks → Changes o top base p.0 p.1 timeout c.queue.settings x → AfterChange (Before p) c timeout x
    changes_on p c timeout (Err e, q) t k = tt
    changes_on p c timeout (Ok left, q) t k =
        let d : Core = with_queue c q in
        let l : MayLeave top q.settings.policy left = subst (λ (s : QueueSettings). MayLeave top s.policy left) (sym k.0.settings) k.0.left in
        leaves_by (Before p) d (timeout == 0) (left ∷ [])
        (λ b. (at_as p.0 (left_bit o left + p.1) (left_bit o left + 0 + p.1) d (omega arith) (k.0.holds, t), (l, tt)))
        (λ b. (at_as p.0 (left_bit o left + p.1) (0 + p.1) d (omega (arith, k.1 b)) (k.0.holds, t), tt))

    task_on : (p : Past) (c : Core) (n : ℕ) (t u : Task) → task_numbered n c ≡ Some t → u.move.settings ≡ t.move.settings → Before p [] c → Before p [] (with_task c u)
    task_on p c n t u e s h =
        let k : At p.0 p.1 c = plainly p c h in
        let l : Leads o top u = rw s (task_leads p.0 p.1 c n t e k) in
        here p (with_task c u) (task_at p.0 p.1 c u l k)

    -- the law of turns, and of handlings
    abbrev balances : TurnLaw key
    balances =
        record {
          Past = Past;
          At = Before;
          Goes = On;
          after = after;
          done = λ p ls e g. g.at;
          joins = joined_on;
          quiet = λ p ls ms c d rows h r k. quiet_on p ms d rows (idle_plain c rows r) k;
          stays = λ p ls c h. (at_as p.0 (0 + owed ls + p.1) (owed ls + p.1) c (omega arith) h.0, h.1.1);
          leaves = redriven_on;
          gives = λ p c max timeout set h.
              let k : At p.0 p.1 c = plainly p c h in
              gives_on p c timeout _ k.1 (give_balances o top base p.0 key.at (timeout_of c.queue timeout) (to_give c.queue max set) p.1 c.queue k.0);
          changes = λ p c r timeout h. let k : At p.0 p.1 c = plainly p c h in changes_on p c timeout _ k.1 (change_balances o top base p.0 p.1 c.queue key.at r timeout k.0);
          deletes = λ p a c text r h. let k : At p.0 p.1 c = plainly p c h in goes_on p _ (deleted_goes p.0 p.1 a c text r _ (delete_balances o top base p.0 c.queue.settings.kind p.1 c.queue key.at r k.0) k.1);
          sends = λ p a c body delay group id h. let k : At p.0 p.1 c = plainly p c h in goes_on p _ (sent_goes p.0 p.1 a c body _ (sends_balance o top base p.0 c.queue.settings.kind p.1 c.queue key.at body delay group id k.0) k.1);
          draws = λ p c hosts h. h;
          starts = λ p c n t e h. task_on p c n t (record t { move = task_started t.move key.at }) e refl h;
          cancels = λ p c n t e h. task_on p c n t (record t { move = record t.move { status = Cancelled } }) e refl h;
          Stands = λ _ _. Unit {0};
          Sent = CarriesForward;
          turns = λ p n c a w e h. (h, tt, next_forwards a key.at w);
          polls = λ p a c max wait timeout e s h. h;
          forwards = λ p a c id x s h. goes_on p _ (forward_goes p.0 p.1 a c id x s (plainly p c h));
        }

    -- a transfer that arrives was elsewhere
    abbrev Arrives : Past → Option Outbound → Core → Type 0
    Arrives p None c = At p.0 p.1 c
    Arrives p (Some x) c = IsBound o top x × At p.0 (carried o x.load + p.1) c

    abbrev due : HandlingLaw key balances
    due =
        record {
          answers = λ p c h. h;
          ends = λ p c h. h;
          MayExpire = λ c. IsFound (numbered key.number c.queue.records);
          expires = λ p c m h. goes_on p _ (expiry_goes p.0 p.1 c (numbered key.number c.queue.records) refl m (plainly p c h));
          releases = λ p c h.
              let k : At p.0 p.1 c = plainly p c h in
              let r : Queue × Option Load = released c.queue key.number in
              let b : Releases o top base p.0 p.1 c.queue.settings r = released_balances o top base p.0 p.1 c.queue key.number k.0 in
              let l : MayLeave top r.0.settings.policy r.1 = subst (λ (s : QueueSettings). MayLeave top s.policy r.1) (sym b.settings) b.left in
              (at_as p.0 (left_bit o r.1 + p.1) (left_bit o r.1 + 0 + p.1) (with_queue c r.0) (omega arith) (b.holds, k.1), (l, tt));
          Comes = Arrives;
          absent = λ p c h. here p c h;
          arrives = λ p x c h. goes_on p _ (comes_goes p.0 p.1 c x.load _ (arrived_balances o top base p.0 p.1 c.queue key.at x.load h.0.known h.1.0) h.1.1);
          samples = λ p c h. h;
          steps = λ p c t e h. goes_on p _ (step_goes p.0 p.1 c t e (plainly p c h));
        }

    -- what is due, and what arrives, with the answers to polls
    pub due_goes : (k : Class) (rows : List Row) (elsewhere : ℕ) (c : Core) → IsDueThere key k c → At rows elsewhere c → Goes rows elsewhere (with_polls key (handle_class k key c))
    due_goes k rows elsewhere c m h =
        let found : k ≡ classes.Expiry → IsFound (numbered key.number c.queue.records) = λ e. subst (λ (x : Class). IsDueThere key x c) e m in
        goes_plainly (rows, elsewhere) _ (polled key balances due.answers (rows, elsewhere) (handle_class k key c) (class_goes key balances due k (rows, elsewhere) c found (here (rows, elsewhere) c h)))

    comes_on : (rows : List Row) (elsewhere : ℕ) (x : Option Outbound) (c : Core) → Arrives (rows, elsewhere) x c → Goes rows elsewhere (with_polls key (handle_arrival key x c))
    comes_on rows elsewhere x c h = goes_plainly (rows, elsewhere) _ (polled key balances due.answers (rows, elsewhere) (handle_arrival key x c) (arrival_goes key balances due (rows, elsewhere) x c h))

    pub come_goes : (rows : List Row) (elsewhere : ℕ) (x : Outbound) (c : Core) → IsBound o top x → At rows (carried o x.load + elsewhere) c → Goes rows elsewhere (with_polls key (handle_arrival key (Some x) c))
    come_goes rows elsewhere x c b h = comes_on rows elsewhere (Some x) c (b, h)

    pub none_come : (rows : List Row) (elsewhere : ℕ) (c : Core) → At rows elsewhere c → Goes rows elsewhere (with_polls key (handle_arrival key None c))
    none_come rows elsewhere c h = comes_on rows elsewhere None c h

-- Each transfer that a handling sends has a row, and each arrival one of its own.
use Rattle.std.specs.Prelude.{Bool, Err, List, None, Ok, Option, Result, Some, [], false, find, map, true, ℕ, ◌==◌, ◌∷◌, ◌≡◌, length}
use Rattle.std.proofs.Common.{arith, refl, subst, sym}
use Rattle.sqs_laws.proofs.Terms.{Actor, all_came_back, and_then, arrival_done, arrival_row, arrived, CallLaw, came_back, change, change_answered, change_made, change_row, Core, delete, delete_done, delete_made, Deleted, drawn_latency, Draws, DueLaw, Effect, effect_of, either, end_row, expired, expiry_done, expiry_row, forward_made, forwards_made, give_most, given, Gone, Got, got_row, handle_taken, handled, handled_goes, has_key, id_of, is_arrival, Kept, Key, Load, load_age, MessageId, move_out, move_row, Moved, moves, no_effect, number_of, Outbound, Policy, Queue, read_receipt, Receipt, redrive_by, Refusal, release_done, released, Removed, Row, RowAnswer, RowKind, says, send_made, sends, Sent, serve_made, Site, step_done, take_movable, Task, task_stepped, TellsOfNone, timeout_of, total, total_append, with_queue}
use Rattle.sqs_message.specs.declared.row.Detail.TheVariants as details
use Rattle.sqs_message.specs.declared.row.RowAnswer.TheVariants as answers
use Rattle.sqs_message.specs.declared.row.RowKind.TheVariants as kinds
use Rattle.sqs_redrive.specs.declared.answers.Rest.{Rest}
use Rattle.sqs_redrive.specs.declared.answers.Rest.TheVariants.{Empty, More, NoSource}
use Rattle.sqs_redrive.specs.declared.answers.Sent.TheVariants.{New, Repeat}
use Rattle.sqs_model.specs.Step.{one_sent as one_sent_by}
use Rattle.sqs_model.proofs.Sending.{always_each}
use Rattle.sqs_laws.specs.Words.{is_arrive, sends_on}

-- the row of a handling by which a transfer is sent
pub record IsSending (key : Key) (r : Row) (o : Outbound) : Type 0 where
  pub at_key : r.key ≡ key
  pub to : r.detail ≡ details.Queue o.to
  pub kind : sends_on r.kind ≡ true

-- a row by which nothing is sent, and nothing arrives
record IsPlain (kind : RowKind) : Type 0 where
  pub stays : sends_on kind ≡ false
  pub away : is_arrive kind ≡ false

nameless_plain : (kind : RowKind) (answer : RowAnswer) → TellsOfNone kind answer → IsPlain kind
nameless_plain kinds.Receive answer t = record { stays = refl; away = refl }
nameless_plain kinds.Start answer t = record { stays = refl; away = refl }
nameless_plain kinds.Cancel answer t = record { stays = refl; away = refl }
nameless_plain kinds.Sample answer t = record { stays = refl; away = refl }
nameless_plain kinds.Scale answer t = record { stays = refl; away = refl }
nameless_plain kinds.Send answer t = absurd t
nameless_plain kinds.Delete answer t = absurd t
nameless_plain kinds.Change answer t = absurd t
nameless_plain kinds.Fail answer t = absurd t
nameless_plain kinds.Forward answer t = absurd t
nameless_plain kinds.Release answer t = absurd t
nameless_plain kinds.Redrive answer t = absurd t
nameless_plain kinds.Expire answer t = absurd t
nameless_plain kinds.Arrive answer t = absurd t
nameless_plain kinds.Move answer t = absurd t
nameless_plain kinds.Task answer t = absurd t

-- how much arrives at a site, if anything does, by a weight of rows
abbrev pub IsComing : Key → (Row → ℕ) → ℕ → Option Outbound → Core → Type 0
IsComing key g p None c = p ≡ 0
IsComing key g p (Some o) c = (r : Row) → r.key ≡ key → r.queue ≡ number_of c → r.kind ≡ kinds.Arrive → g r ≡ p

-- weights of rows by which transfers are sent, of rows by which they arrive, and of transfers
module _ (key : Key) (f g : Row → ℕ) (h : Outbound → ℕ) (plain : (r : Row) → sends_on r.kind ≡ false → f r ≡ 0) (apart : (r : Row) → is_arrive r.kind ≡ false → g r ≡ 0) (pair : (r : Row) (o : Outbound) → IsSending key r o → h o ≡ f r) where
  -- what was sent weighs as much as its rows, and so much arrived
  pub record Weighs (p : ℕ) (e : Effect) : Type 0 where
    pub sent : total h e.sent ≡ total f e.rows
    pub come : total g e.rows ≡ p

  one_row : (c : Core) (r : Row) → IsPlain r.kind → Weighs 0 (record { core = c; rows = r ∷ []; sent = [] })
  one_row c r k = let a : f r ≡ 0 = plain r k.stays in let b : g r ≡ 0 = apart r k.away in record { sent = omega (arith, a); come = omega (arith, b) }

  both : (p : ℕ) (e : Effect) (next : Core → Effect) → Weighs p e → Weighs 0 (next e.core) → Weighs p (and_then e next)
  both p e next a b =
      let d : Effect = next e.core in
      record {
        sent = omega (arith, total_append h e.sent d.sent, total_append f e.rows d.rows, a.sent, b.sent);
        come = omega (arith, total_append g e.rows d.rows, a.come, b.come);
      }

  one_sent : (c : Core) (r : Row) (o : Outbound) → IsSending key r o → is_arrive r.kind ≡ false → Weighs 0 (record { core = c; rows = r ∷ []; sent = o ∷ [] })
  one_sent c r o i k = let a : h o ≡ f r = pair r o i in let b : g r ≡ 0 = apart r k in record { sent = omega (arith, a); come = omega (arith, b) }

  nothing_weighs : (c : Core) → Weighs 0 (no_effect c)
  nothing_weighs c = record { sent = refl; come = refl }

  -- messages that come back
  redrive_weighs : (c : Core) (n : ℕ) (load : Load) (p : Option Policy) → Weighs 0 (redrive_by p key c n load)
  redrive_weighs c n load None = nothing_weighs c
  redrive_weighs c n load (Some p) = one_sent _ _ _ (record { at_key = refl; to = refl; kind = refl }) refl

  back_weighs : (c : Core) (n : ℕ) (o : Option Load) → Weighs 0 (came_back key c n o)
  back_weighs c n None = one_row c _ (record { stays = refl; away = refl })
  back_weighs c n (Some load) = redrive_weighs c n load c.queue.settings.policy

  all_back_weigh : (gots : List Got) (c : Core) → Weighs 0 (all_came_back key gots c)
  all_back_weigh [] c = nothing_weighs c
  all_back_weigh (x ∷ gots) c = both 0 (came_back key c x.id.number x.left) (all_came_back key gots) (back_weighs c x.id.number x.left) (all_back_weigh gots (came_back key c x.id.number x.left).core)

  -- calls
  gots_weigh : (c d : Core) (agent : ℕ) (gots : List Got) → Weighs 0 (record { core = d; rows = map (got_row key c agent) gots; sent = [] })
  gots_weigh c d agent [] = record { sent = refl; come = refl }
  gots_weigh c d agent (x ∷ gots) =
      let rest : Weighs 0 (record { core = d; rows = map (got_row key c agent) gots; sent = [] }) = gots_weigh c d agent gots in
      let a : f (got_row key c agent x) ≡ 0 = plain (got_row key c agent x) refl in
      let b : g (got_row key c agent x) ≡ 0 = apart (got_row key c agent x) refl in
      record { sent = omega (arith, a, rest.sent); come = omega (arith, b, rest.come) }

  given_weighs : (c : Core) (agent : ℕ) (timeout : Option ℕ) (x : Queue × List Got) → Weighs 0 (given key c agent timeout x)
  given_weighs c agent timeout (q, gots) =
      let e : Effect = record { core = with_queue c q; rows = map (got_row key c agent) gots; sent = [] } in
      let made : Weighs 0 e = gots_weigh c (with_queue c q) agent gots in
      either (Weighs 0) (timeout_of q timeout == 0) (and_then e (all_came_back key gots)) e (both 0 e (all_came_back key gots) made (all_back_weigh gots e.core)) made

  changed_weighs : (a : Actor) (c : Core) (text : List ℕ) (timeout : ℕ) (r : Receipt) (x : Result (Option Load) Refusal × Queue) → Weighs 0 (change_answered key a c text timeout r x).effect
  changed_weighs a c text timeout r (Err e, q) = one_row c _ (record { stays = refl; away = refl })
  changed_weighs a c text timeout r (Ok left, q) =
      let e : Effect = says (with_queue c q) (change_row key a c text answers.Ok (Some (id_of c.queue r.number)) (details.Timeout timeout)) in
      let made : Weighs 0 e = one_row (with_queue c q) _ (record { stays = refl; away = refl }) in
      either (Weighs 0) (timeout == 0) (and_then e (λ d. came_back key d r.number left)) e (both 0 e (λ d. came_back key d r.number left) made (back_weighs e.core r.number left)) made

  change_weighs : (a : Actor) (c : Core) (text : List ℕ) (timeout : ℕ) (o : Option Receipt) → Weighs 0 (change_made key a c text timeout o).effect
  change_weighs a c text timeout None = one_row c _ (record { stays = refl; away = refl })
  change_weighs a c text timeout (Some r) = changed_weighs a c text timeout r (change c.queue key.at r timeout)

  deleted_weighs : (a : Actor) (c : Core) (text : List ℕ) (r : Receipt) (x : Result Deleted Refusal × Queue) → Weighs 0 (delete_done key a c text r x).effect
  deleted_weighs a c text r (Ok (Removed age), q) = one_row (with_queue c q) _ (record { stays = refl; away = refl })
  deleted_weighs a c text r (Ok Kept, q) = one_row (with_queue c q) _ (record { stays = refl; away = refl })
  deleted_weighs a c text r (Ok Gone, q) = one_row (with_queue c q) _ (record { stays = refl; away = refl })
  deleted_weighs a c text r (Err e, q) = one_row (with_queue c q) _ (record { stays = refl; away = refl })

  delete_weighs : (a : Actor) (c : Core) (text : List ℕ) (o : Option Receipt) → Weighs 0 (delete_made key a c text o).effect
  delete_weighs a c text None = one_row c _ (record { stays = refl; away = refl })
  delete_weighs a c text (Some r) = deleted_weighs a c text r (delete c.queue key.at r)

  send_weighs : (a : Actor) (c : Core) (body : List ℕ) (x : Result Sent Refusal × Queue) → Weighs 0 (send_made key a c body x).effect
  send_weighs a c body (Ok (New id), q) = one_row (with_queue c q) _ (record { stays = refl; away = refl })
  send_weighs a c body (Ok (Repeat id), q) = one_row (with_queue c q) _ (record { stays = refl; away = refl })
  send_weighs a c body (Err e, q) = one_row (with_queue c q) _ (record { stays = refl; away = refl })

  forwards_weigh : (a : Actor) (id : MessageId) (os : List Outbound) (c : Core) → Weighs 0 (forwards_made key a id os c)
  forwards_weigh a id [] c = nothing_weighs c
  forwards_weigh a id (o ∷ os) c =
      both 0 (forward_made key a id o c) (forwards_made key a id os) (one_sent c _ o (record { at_key = refl; to = refl; kind = refl }) refl) (forwards_weigh a id os c)

  serve_weighs : (a : Actor) (c : Core) (id : MessageId) (r : Receipt) (failed : Bool) (os : List Outbound) → Weighs 0 (serve_made key a c id r failed os).effect
  serve_weighs a c id r true os = one_row c _ (record { stays = refl; away = refl })
  serve_weighs a c id r false os = forwards_weigh a id os c

  -- at rest so much arrived as is expected of it: nothing
  from_zero : (p : ℕ) (e : Effect) → p ≡ 0 → Weighs 0 e → Weighs p e
  from_zero p e i w = subst (λ n. Weighs n e) (sym i) w

  abbrev weights : CallLaw key
  weights =
      record {
        Past = ℕ;
        At = λ p c. p ≡ 0;
        Goes = Weighs;
        after = λ p e. 0;
        done = λ p e w. refl;
        joins = λ p e next a b. both p e next a b;
        nothing = λ p c i. from_zero p (no_effect c) i (nothing_weighs c);
        quiet = λ p c d r i a b. from_zero p (says d r) a (one_row d r (nameless_plain r.kind r.answer i.kind));
        Hears = λ c gots. Unit {0};
        hears_none = λ c. tt;
        Woken = λ c n. Unit {0};
        Acted = λ c n. Unit {0};
        gives = λ p c agent max timeout set a i. (from_zero p _ i (given_weighs c agent timeout (give_most c.queue key.at max timeout set)), tt);
        changes = λ p a c x text timeout j m i. from_zero p _ i (change_weighs a c text timeout (read_receipt text));
        deletes = λ p a c text i. from_zero p _ i (delete_weighs a c text (read_receipt text));
        sends = λ p a c body delay group id m i. from_zero p _ i (send_weighs a c body (sends c.queue.settings.kind c.queue key.at body delay group id));
        draws = λ p c hosts i. i;
        starts = λ p c n t e i. i;
        cancels = λ p c n t e i. i;
        Stands = λ q actors a. Unit {0};
        May = λ c a x. Unit {0};
        Asks = λ p agent timeout. Unit {0};
        later = λ p e agent timeout a. tt;
        Fine = λ timeout. Unit {0};
        fine = λ timeout b. tt;
        asked = λ p a c max wait timeout f s m i. tt;
        waiting = λ p c i. always_each (λ x. Unit {0}) (λ x. tt) c.polls;
        turns = λ p n c a w e t i. (i, tt, tt);
        acted = λ p a c x i s m h g. tt;
        polls = λ p a c max wait timeout e f s m k i. from_zero p _ i (one_row _ _ (nameless_plain kinds.Receive answers.Wait tt));
        serves = λ p a c id r failed o m i. from_zero p _ i (serve_weighs a c id r failed o);
      }

  -- what is due
  expiry_weighs : (c : Core) (x : ℕ × Queue) → Weighs 0 (expiry_done key c x)
  expiry_weighs c (age, q) = one_row (with_queue c q) _ (record { stays = refl; away = refl })

  release_weighs : (c : Core) (x : Queue × Option Load) → Weighs 0 (release_done key c x)
  release_weighs c (q, left) = back_weighs (with_queue c q) key.number left

  moves_weigh : (c d : Core) (t : Task) (loads : List (ℕ × Load)) → Weighs 0 (record { core = d; rows = (moves key c t loads).rows; sent = (moves key c t loads).sent })
  moves_weigh c d t [] = record { sent = refl; come = refl }
  moves_weigh c d t (x ∷ rest) =
      let drawn : ℕ × Draws = drawn_latency t.move.settings.latency t.draws in
      let u : Task = one_sent_by t drawn.1 in
      let others : Weighs 0 (record { core = d; rows = (moves key c u rest).rows; sent = (moves key c u rest).sent }) = moves_weigh c d u rest in
      let r : Row = move_row key c t x.0 x.1 in
      let o : Outbound = move_out key c t x.0 x.1 drawn.0 in
      let a : h o ≡ f r = pair r o (record { at_key = refl; to = refl; kind = refl }) in
      let b : g r ≡ 0 = apart r refl in
      record { sent = omega (arith, a, others.sent); come = omega (arith, b, others.come) }

  end_weighs : (c : Core) (t : Task) (rest : Rest) → Weighs 0 (record { core = c; rows = end_row key c t rest; sent = [] })
  end_weighs c t Empty = one_row c _ (record { stays = refl; away = refl })
  end_weighs c t More = record { sent = refl; come = refl }
  end_weighs c t NoSource = one_row c _ (record { stays = refl; away = refl })

  done_weighs : (c d : Core) (t : Task) (loads : List (ℕ × Load)) (rest : Rest) (u : Task) → Weighs 0 (step_done key c rest (moves key d t loads) u)
  done_weighs c d t loads rest u =
      let m : Weighs 0 (record { core = c; rows = (moves key d t loads).rows; sent = (moves key d t loads).sent }) = moves_weigh d c t loads in
      let e : Weighs 0 (record { core = c; rows = end_row key c u rest; sent = [] }) = end_weighs c u rest in
      record {
        sent = omega (arith, m.sent, e.sent, total_append f (moves key d t loads).rows (end_row key c u rest));
        come = omega (arith, m.come, e.come, total_append g (moves key d t loads).rows (end_row key c u rest));
      }

  taken_weighs : (c : Core) (t : Task) (x : (List (ℕ × Load) × Rest) × Queue) → Weighs 0 (handle_taken key c t x)
  taken_weighs c t ((loads, rest), q) = let d : Core = with_queue c q in let m : Moved = moves key d t loads in done_weighs d d t loads rest (record m.task { move = task_stepped m.task.move key.at (length loads) rest })

  -- an arrival has one row, and that of its expiry if it is too old
  come_weighs : (c : Core) (load : Load) (x : (Sent × Bool) × Queue) (weight : ℕ) → ((r : Row) → r.key ≡ key → r.queue ≡ number_of c → r.kind ≡ kinds.Arrive → g r ≡ weight) → Weighs weight (arrival_done key load c x)
  come_weighs c load ((New id, false), q) weight w =
      let r : Row = arrival_row key c load answers.New id in
      let a : f r ≡ 0 = plain r refl in
      let b : g r ≡ weight = w r refl refl refl in
      record { sent = omega (arith, a); come = omega (arith, b) }
  come_weighs c load ((New id, true), q) weight w =
      let r : Row = arrival_row key c load answers.New id in
      let e : Row = expiry_row key c id (load_age load key.at) in
      let a : f r ≡ 0 = plain r refl in
      let b : g r ≡ weight = w r refl refl refl in
      let d : f e ≡ 0 = plain e refl in
      let i : g e ≡ 0 = apart e refl in
      record { sent = omega (arith, a, d); come = omega (arith, b, i) }
  come_weighs c load ((Repeat id, old), q) weight w =
      let r : Row = arrival_row key c load answers.Repeat id in
      let a : f r ≡ 0 = plain r refl in
      let b : g r ≡ weight = w r refl refl refl in
      record { sent = omega (arith, a); come = omega (arith, b) }

  abbrev due : DueLaw key weights
  due =
      record {
        IsDue = λ k c. Unit {0};
        woken = λ c d. tt;
        answers = λ p c i. i;
        ends = λ p c i. i;
        expires = λ p c d i. from_zero p _ i (expiry_weighs c (expired c.queue key.at key.number));
        releases = λ p c d i. from_zero p _ i (release_weighs c (released c.queue key.number));
        Comes = IsComing key g;
        absent = λ p c i. i;
        arrives = λ p o c w. come_weighs c o.load (arrived c.queue key.at o.load) p w;
        samples = λ p c i. i;
        steps = λ p c t e i. from_zero p _ i (taken_weighs c t (take_movable c.queue t.move.settings.per_second t.move.settings.to));
      }

  pub handling_weighs : (s : Site) (p : ℕ) → (is_arrival key.class ≡ false → p ≡ 0) → (is_arrival key.class ≡ true → IsComing key g p (find (has_key key) s.arriving) s.core) → Weighs p (effect_of (handled key s))
  handling_weighs s p m a = handled_goes key weights due p s (λ e. (tt, m e)) a

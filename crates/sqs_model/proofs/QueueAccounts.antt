-- What happens to a queue keeps it in balance: what leaves it is sent, deleted or expired, and what comes in is new or was on its way.
use Rattle.std.specs.Prelude.{All, Bool, Err, List, None, Ok, Option, Result, Some, [], false, get_or, true, ℕ, ◌*◌, ◌+◌, ◌++◌, ◌<◌, ◌==◌, ◌∷◌, ◌≡◌, ◌≢◌}
use Rattle.std.proofs.Common.{ap, arith, refl, subst, sym, ◌∙◌}
use Rattle.std.proofs.lemmas.Bool.{eqb-true}
use Rattle.std.proofs.lemmas.List.Elements.{All-head, All-tail, All-weaker}
use Rattle.sim_clock.specs.declared.refusal.Refusal.{Refusal}
use Rattle.sqs_message.specs.declared.ids.MessageId.{MessageId}
use Rattle.sqs_message.specs.declared.ids.Origin.{Origin}
use Rattle.sqs_message.specs.declared.ids.Receipt.{Receipt}
use Rattle.sqs_message.specs.declared.message.Message.{Message}
use Rattle.sqs_message.specs.declared.row.Row.{Row}
use Rattle.sqs_message.specs.Ids.{id_text}
use Rattle.sqs_redrive.specs.declared.answers.Deleted.{Deleted}
use Rattle.sqs_redrive.specs.declared.answers.Deleted.TheVariants.{Gone, Kept, Removed}
use Rattle.sqs_redrive.specs.declared.answers.Got.{Got}
use Rattle.sqs_redrive.specs.declared.answers.Sent.{Sent}
use Rattle.sqs_redrive.specs.declared.answers.Sent.TheVariants.{New, Repeat}
use Rattle.sqs_redrive.specs.declared.settings.Kind.{Kind}
use Rattle.sqs_redrive.specs.declared.settings.Kind.TheVariants.{Fifo, Standard}
use Rattle.sqs_redrive.specs.declared.settings.Policy.{Policy}
use Rattle.sqs_redrive.specs.declared.settings.QueueSettings.{QueueSettings}
use Rattle.sqs_redrive.specs.declared.settings.Scope.{Scope}
use Rattle.sqs_redrive.specs.declared.transfers.Load.{Load}
use Rattle.sqs_redrive.specs.declared.transfers.Load.TheVariants.{Forward, Move, Redrive}
use Rattle.sim_clock.specs.declared.refusal.Refusal.TheVariants as refusals
use Rattle.sqs_model.specs.Accounts.{carries, same_origin}
use Rattle.sqs_model.specs.Scenario.{MayBeWithin}
use Rattle.sqs_model.specs.Acts.{sends}
use Rattle.sqs_model.specs.Arrive.{arrived, brought, enqueued_at, forwarded, forwarded_group, sent_of, settled_when}
use Rattle.sqs_model.specs.Calls.{change, deduplication_id, delay_of, delete_as, in_flight_until, is_bad_delay, living, new_message, scope_of, send_standard, send_unless, send_with, with_entry, with_message}
use Rattle.sqs_model.specs.Queue.{Entry, Queue, has_number, id_of, numbered, taken_out, with_change}
use Rattle.sqs_model.specs.Receive.{give, given_one, received, timeout_of}
use Rattle.sqs_model.specs.Return.{leaves, released, released_found, released_when, visible_again}
use Rattle.sqs_model.specs.Step.{load_origin}
use Rattle.sqs_model.specs.Task.{Taken, destination, take_each, taken_one}
use Rattle.sqs_model.proofs.Answered.{change_by, delete_by}
use Rattle.sqs_model.proofs.Balance.{Holds, IsFine, IsSame, first_again, first_own, holds_as, holds_changed, holds_end, holds_news, holds_pushed, holds_taken, told_new}
use Rattle.sqs_model.proofs.Branches.{either, either_by}
use Rattle.sqs_model.proofs.Chosen.{Stand}
use Rattle.sqs_model.proofs.Counts.{find_all, find_picked, total}
use Rattle.sqs_model.proofs.Ledger.{IsEnd, IsNews, bit, first_in, given_by, id_at}
use Rattle.sqs_model.proofs.Numbered.{Apart, other_without}

-- whether there is a policy
abbrev pub IsThere : Option Policy → Type 0
IsThere None = ⊥
IsThere (Some p) = Unit {0}

leaves_by : (p : Option Policy) (m : Message) → leaves p m ≡ true → IsThere p
leaves_by None m h = cc
leaves_by (Some p) m h = tt

-- the same timeout, by the same settings
pub same_timeout : (q r : Queue) (t : Option ℕ) → r.settings ≡ q.settings → timeout_of r t ≡ timeout_of q t
same_timeout q r None h = ap (λ (s : QueueSettings). s.visibility) h
same_timeout q r (Some t) h = refl

module _ (top : ℕ) where
  -- whether what is redriven comes from a queue of the world
  abbrev pub IsKnown : Load → Type 0
  IsKnown (Redrive id group origin body enqueued) = id.site < top
  IsKnown (Move id group origin body) = Unit {0}
  IsKnown (Forward id group body) = Unit {0}

  -- what left, if anything, by a policy
  abbrev pub MayLeave : Option Policy → Option Load → Type 0
  MayLeave p None = Unit {0}
  MayLeave p (Some load) = IsThere p × IsKnown load

  -- the same of each that was given
  abbrev pub MayAllLeave : Option Policy → List Got → Type 0
  MayAllLeave p [] = Unit {0}
  MayAllLeave p (g ∷ gs) = MayLeave p g.left × MayAllLeave p gs

  -- what a step moves goes to queues of the world
  abbrev pub AreBound : List (ℕ × Load) → Type 0
  AreBound [] = Unit {0}
  AreBound (x ∷ xs) = ((x.0 < top) × IsKnown x.1) × AreBound xs

module _ (o : Origin) where
  -- how many of the origin a load carries
  abbrev pub carried : Load → ℕ
  carried load = bit (carries o load)

  abbrev pub left_bit : Option Load → ℕ
  left_bit None = 0
  left_bit (Some load) = carried load

  abbrev pub lefts : List Got → ℕ
  lefts gots = total (λ g. left_bit g.left) gots

  abbrev pub moved_bits : List (ℕ × Load) → ℕ
  moved_bits loads = total (λ x. carried x.1) loads

module _ (o : Origin) (top : ℕ) (base : List Row) (rows : List Row) where
  abbrev At : ℕ → Queue → Type 0
  At elsewhere q = Holds o top base rows elsewhere q

  -- one row later
  abbrev Then : Row → ℕ → Queue → Type 0
  Then r elsewhere q = Holds o top base (rows ++ r ∷ []) elsewhere q

  -- messages that come in
  comes_in :
      (r : Row) (m : Message) (before elsewhere : ℕ) (q : Queue) → m.number ≡ q.arrivals → MayBeWithin top m.source → IsNews o r q.site q.arrivals m.origin
      → before + first_in o (rows ++ r ∷ []) ≡ bit (same_origin o m.origin) + elsewhere + first_in o rows → At before q → Then r elsewhere (with_message q m)
  comes_in r m before elsewhere q n s d e h =
      let spent : Queue = record q { arrivals = q.arrivals + 1 } in
      let k : Then r (bit (same_origin o m.origin) + elsewhere) spent = holds_news o top base rows r m.origin before elsewhere q d e h in
      let told : given_by o (rows ++ r ∷ []) (id_at q.site m.number) ≡ same_origin o m.origin = ap (λ i. given_by o (rows ++ r ∷ []) (id_at q.site i)) n ∙ told_new o top base rows r m.origin q.site q.arrivals d h.past in
      let fine : IsFine o top base (rows ++ r ∷ []) q.site (q.arrivals + 1) m = record { told = told; old = omega (arith, n); source = s } in
      let before : All (λ x. x.number < m.number) q.records =
      All-weaker (IsFine o top base rows q.site q.arrivals) (λ x. x.number < m.number) (λ x f. let l : x.number < q.arrivals = f.old in omega (arith, l, n)) q.records h.records in
      holds_pushed o top base (rows ++ r ∷ []) m elsewhere spent fine before k

  -- a message that ends
  pub ends_one : (n : ℕ) (m : Message) (elsewhere : ℕ) (q : Queue) → numbered n q.records ≡ Some m → At elsewhere q → (r : Row) → IsEnd o r q.site n → Then r elsewhere (taken_out q n)
  ends_one n m elsewhere q e h r d =
      let f : IsFine o top base rows q.site q.arrivals m = find_all (has_number n) (IsFine o top base rows q.site q.arrivals) q.records m h.records e in
      let is : m.number ≡ n = eqb-true m.number n (find_picked (has_number n) q.records m e) in
      let told : bit (same_origin o m.origin) ≡ bit (given_by o rows (id_at q.site n)) = ap bit (sym f.told ∙ ap (λ i. given_by o rows (id_at q.site i)) is) in
      let old : m.number < q.arrivals = f.old in
      holds_end o top base rows r n elsewhere (taken_out q n) d (omega (arith, old, is))
      (holds_as o top base rows (bit (same_origin o m.origin) + elsewhere) (bit (given_by o rows (id_at q.site n)) + elsewhere) (taken_out q n) (omega (arith, told))
      (holds_taken o top base rows n m elsewhere q e h))

  -- returns
  pub record Releases (elsewhere : ℕ) (s : QueueSettings) (x : Queue × Option Load) : Type 0 where
    pub holds : At (left_bit o x.1 + elsewhere) x.0
    pub left : MayLeave top s.policy x.1
    pub settings : x.0.settings ≡ s

  stays : (elsewhere : ℕ) (q : Queue) → At elsewhere q → Releases elsewhere q.settings (q, None)
  stays elsewhere q h = record { holds = holds_as o top base rows elsewhere (0 + elsewhere) q (omega arith) h; left = tt; settings = refl }

  visible_same : IsSame o top base visible_again
  visible_same = record { number = λ m. refl; origin = λ m. refl; source = λ m. refl }

  released_by : (elsewhere : ℕ) (b : Bool) (q : Queue) (n : ℕ) (m : Message) → leaves q.settings.policy m ≡ b → numbered n q.records ≡ Some m → At elsewhere q → Releases elsewhere q.settings (released_when b q n m)
  released_by elsewhere true q n m l e h =
      record { holds = holds_taken o top base rows n m elsewhere q e h; left = (leaves_by q.settings.policy m l, h.inside); settings = refl }
  released_by elsewhere false q n m l e h =
      let k : At elsewhere (with_change q n visible_again) = holds_changed o top base rows n visible_again elsewhere q visible_same h in
      record { holds = holds_as o top base rows elsewhere (0 + elsewhere) (with_change q n visible_again) (omega arith) k; left = tt; settings = refl }

  released_of : (elsewhere : ℕ) (q : Queue) (n : ℕ) (found : Option Message) → numbered n q.records ≡ found → At elsewhere q → Releases elsewhere q.settings (released_found q n found)
  released_of elsewhere q n None e h = stays elsewhere q h
  released_of elsewhere q n (Some m) e h = released_by elsewhere (leaves q.settings.policy m) q n m refl e h

  pub released_balances : (elsewhere : ℕ) (q : Queue) (n : ℕ) → At elsewhere q → Releases elsewhere q.settings (released q n)
  released_balances elsewhere q n h = released_of elsewhere q n (numbered n q.records) refl h

  -- receives
  pub record Gives (elsewhere wait : ℕ) (s : QueueSettings) (x : Queue × List Got) : Type 0 where
    pub holds : At (lefts o x.1 + elsewhere) x.0
    pub left : MayAllLeave top s.policy x.1
    pub none : (wait == 0) ≡ false → lefts o x.1 ≡ 0
    pub settings : x.0.settings ≡ s

  received_same : (now timeout : ℕ) → IsSame o top base (received now timeout)
  received_same now timeout = record { number = λ m. refl; origin = λ m. refl; source = λ m. refl }

  one_given : (elsewhere : ℕ) (q : Queue) (now timeout : ℕ) (m : Message) → At elsewhere q → Releases elsewhere q.settings (given_one q now timeout m) × ((timeout == 0) ≡ false → left_bit o (given_one q now timeout m).1 ≡ 0)
  one_given elsewhere q now timeout m h =
      let taken : Queue = with_change q m.number (received now timeout) in
      let k : At elsewhere taken = holds_changed o top base rows m.number (received now timeout) elsewhere q (received_same now timeout) h in
      either_by (λ (x : Queue × Option Load). Releases elsewhere q.settings x × ((timeout == 0) ≡ false → left_bit o x.1 ≡ 0)) (timeout == 0) (released taken m.number) (taken, None)
      (λ e. (released_balances elsewhere taken m.number k, λ f. cc)) (λ e. (stays elsewhere taken k, λ f. refl))

  gives_on : (elsewhere wait : ℕ) (s t : QueueSettings) (x : Queue × List Got) → t ≡ s → Gives elsewhere wait t x → Gives elsewhere wait s x
  gives_on elsewhere wait s t x e h = subst (λ u. Gives elsewhere wait u x) e h

  pub give_balances : (now timeout : ℕ) (ms : List Message) (elsewhere : ℕ) (q : Queue) → At elsewhere q → Gives elsewhere timeout q.settings (give now timeout ms q)
  give_balances now timeout [] elsewhere q h =
      record { holds = holds_as o top base rows elsewhere (0 + elsewhere) q (omega arith) h; left = tt; none = λ e. refl; settings = refl }
  give_balances now timeout (m ∷ ms) elsewhere q h =
      let one = one_given elsewhere q now timeout m h in
      let x : Queue × Option Load = given_one q now timeout m in
      let first : Releases elsewhere q.settings x = one.0 in
      let others : Gives (left_bit o x.1 + elsewhere) timeout q.settings (give now timeout ms x.0) =
      gives_on (left_bit o x.1 + elsewhere) timeout q.settings x.0.settings (give now timeout ms x.0) first.settings (give_balances now timeout ms (left_bit o x.1 + elsewhere) x.0 first.holds) in
      let y : Queue × List Got = give now timeout ms x.0 in
      record {
        holds = holds_as o top base rows (lefts o y.1 + (left_bit o x.1 + elsewhere)) (left_bit o x.1 + lefts o y.1 + elsewhere) y.0 (omega arith) others.holds;
        left = (first.left, others.left);
        none = λ e. omega (arith, one.1 e, others.none e);
        settings = others.settings;
      }

  -- sends
  abbrev pub Sends : ℕ → Result Sent Refusal × Queue → Type 0
  Sends elsewhere (Ok (New id), q) = (r : Row) → IsNews o r id.site id.number (record { site = id.site; number = id.number }) → Then r elsewhere q
  Sends elsewhere (Ok (Repeat id), q) = At elsewhere q
  Sends elsewhere (Err e, q) = At elsewhere q

  accepts : (elsewhere : ℕ) (q : Queue) (now : ℕ) (body : List ℕ) (group : Option (List ℕ)) (delay : ℕ) → At elsewhere q → Sends elsewhere (Ok (New (id_of q q.arrivals)), with_message q (new_message q now body group delay))
  accepts elsewhere q now body group delay h r d =
      comes_in r (new_message q now body group delay) elsewhere elsewhere q refl tt d (first_own o top base rows r q.site q.arrivals elsewhere d h.past) h

  entered : (elsewhere : ℕ) (q : Queue) (entries : List Entry) → At elsewhere q → At elsewhere (record q { entries = entries })
  entered elsewhere q entries h =
      record { inside = h.inside; policy = h.policy; ordered = h.ordered; records = h.records; past = h.past; apart = h.apart; sum = h.sum }

  standard_balances : (elsewhere : ℕ) (q : Queue) (now : ℕ) (body : List ℕ) (delay : Option ℕ) → At elsewhere q → Sends elsewhere (send_standard q now body delay)
  standard_balances elsewhere q now body delay h =
      let new : Message = new_message q now body None (delay_of q delay) in
      either (Sends elsewhere) (is_bad_delay 900 delay) (Err refusals.BadDelay, q) (Ok (New (id_of q q.arrivals)), with_message q new) h (accepts elsewhere q now body None (delay_of q delay) h)

  unless_balances : (elsewhere : ℕ) (q : Queue) (now : ℕ) (body group : List ℕ) (scope : Option (List ℕ)) (id : List ℕ) (e : Option Entry) → At elsewhere q → Sends elsewhere (send_unless q now body group scope id e)
  unless_balances elsewhere q now body group scope id None h =
      accepts elsewhere (with_entry q now scope id) now body (Some group) q.settings.delay (entered elsewhere q (with_entry q now scope id).entries h)
  unless_balances elsewhere q now body group scope id (Some e) h = h

  with_balances : (elsewhere : ℕ) (q : Queue) (scope : Scope) (now : ℕ) (body : List ℕ) (group id : Option (List ℕ)) → At elsewhere q → Sends elsewhere (send_with q scope now body group id)
  with_balances elsewhere q scope now body None id h = h
  with_balances elsewhere q scope now body (Some g) None h = h
  with_balances elsewhere q scope now body (Some g) (Some i) h = unless_balances elsewhere q now body g _ i _ h

  pub sends_balance : (k : Kind) (elsewhere : ℕ) (q : Queue) (now : ℕ) (body : List ℕ) (delay : Option ℕ) (group id : Option (List ℕ)) → At elsewhere q → Sends elsewhere (sends k q now body delay group id)
  sends_balance (Standard hosts sampled) elsewhere q now body delay group id h = standard_balances elsewhere q now body delay h
  sends_balance (Fifo content scope) elsewhere q now body delay group id h =
      either (Sends elsewhere) (is_bad_delay 0 delay) (Err refusals.BadDelay, q) (send_with q scope now body group (deduplication_id content body id)) h
      (with_balances elsewhere q scope now body group (deduplication_id content body id) h)

  -- deletes
  abbrev pub Deletes : ℕ → ℕ → ℕ → Result Deleted Refusal × Queue → Type 0
  Deletes elsewhere site n (Ok (Removed age), q) = (r : Row) → IsEnd o r site n → Then r elsewhere q
  Deletes elsewhere site n (Ok Kept, q) = At elsewhere q
  Deletes elsewhere site n (Ok Gone, q) = At elsewhere q
  Deletes elsewhere site n (Err e, q) = At elsewhere q

  pub delete_balances : (k : Kind) (elsewhere : ℕ) (q : Queue) (now : ℕ) (r : Receipt) → At elsewhere q → Deletes elsewhere q.site r.number (delete_as k q now r)
  delete_balances k elsewhere q now r h =
      delete_by (Deletes elsewhere q.site r.number) q now r (record { refused = h; gone = λ _ _. h; kept = λ _ _. h; taken = λ m e. ends_one r.number m elsewhere q e h }) k

  -- changes
  abbrev pub Changes : ℕ → ℕ → QueueSettings → Result (Option Load) Refusal × Queue → Type 0
  Changes elsewhere timeout s (Ok left, q) = Releases elsewhere s (q, left) × ((timeout == 0) ≡ false → left_bit o left ≡ 0)
  Changes elsewhere timeout s (Err e, q) = Unit {0}

  flight_same : (at : ℕ) → IsSame o top base (in_flight_until at)
  flight_same at = record { number = λ m. refl; origin = λ m. refl; source = λ m. refl }

  pub change_balances : (elsewhere : ℕ) (q : Queue) (now : ℕ) (r : Receipt) (timeout : ℕ) → At elsewhere q → Changes elsewhere timeout q.settings (change q now r timeout)
  change_balances elsewhere q now r timeout h =
      let flight : Message → Message = in_flight_until (now + 1000 * timeout) in
      let k : At elsewhere (with_change q r.number flight) = holds_changed o top base rows r.number flight elsewhere q (flight_same (now + 1000 * timeout)) h in
      change_by (Changes elsewhere timeout q.settings) q now r timeout
      (record {
        refused = λ e. tt;
        back = λ _ _ _ e. (released_balances elsewhere q r.number h, λ f. cc);
        kept = λ _ _ _ e. (stays elsewhere (with_change q r.number flight) k, λ f. refl);
      })

  -- arrivals
  abbrev pub Comes : ℕ → Load → (Sent × Bool) × Queue → Type 0
  Comes elsewhere load ((New id, true), q) =
      (r s : Row) → IsNews o r id.site id.number (load_origin load id) → IsEnd o s id.site id.number → Holds o top base ((rows ++ r ∷ []) ++ s ∷ []) elsewhere q
  Comes elsewhere load ((New id, false), q) = (r : Row) → IsNews o r id.site id.number (load_origin load id) → Then r elsewhere q
  Comes elsewhere load ((Repeat id, old), q) = At elsewhere q

  settled_balances :
      (elsewhere : ℕ) (load : Load) (b : Bool) (q : Queue) (m : Message) → load_origin load (id_of q q.arrivals) ≡ m.origin → m.number ≡ q.arrivals → MayBeWithin top m.source
      → At (bit (same_origin o m.origin) + elsewhere) q → Comes elsewhere load (settled_when b q m)
  settled_balances elsewhere load true q m p n s h = λ r t d e.
      let news : IsNews o r q.site q.arrivals m.origin = subst (λ (x : Origin). IsNews o r q.site q.arrivals x) p d in
      let spent : Queue = record q { arrivals = q.arrivals + 1 } in
      let k : Then r (bit (same_origin o m.origin) + elsewhere) spent =
      holds_news o top base rows r m.origin (bit (same_origin o m.origin) + elsewhere) elsewhere q news (omega (arith, first_again o top base rows r m.origin elsewhere q news h)) h in
      let told : bit (same_origin o m.origin) ≡ bit (given_by o (rows ++ r ∷ []) (id_at q.site q.arrivals)) = ap bit (sym (told_new o top base rows r m.origin q.site q.arrivals news h.past)) in
      holds_end o top base (rows ++ r ∷ []) t q.arrivals elsewhere spent e (omega arith)
      (holds_as o top base (rows ++ r ∷ []) (bit (same_origin o m.origin) + elsewhere) (bit (given_by o (rows ++ r ∷ []) (id_at q.site q.arrivals)) + elsewhere) spent (omega (arith, told)) k)
  settled_balances elsewhere load false q m p n s h = λ r d.
      let news : IsNews o r q.site q.arrivals m.origin = subst (λ (x : Origin). IsNews o r q.site q.arrivals x) p d in
      comes_in r m (bit (same_origin o m.origin) + elsewhere) elsewhere q n s news (omega (arith, first_again o top base rows r m.origin elsewhere q news h)) h

  forwarded_balances : (k : Kind) (elsewhere : ℕ) (q : Queue) (now : ℕ) (id : MessageId) (body : List ℕ) (group : Option (List ℕ)) → At elsewhere q → Comes elsewhere (Forward id group body) (forwarded k q now id body group)
  forwarded_balances (Standard hosts sampled) elsewhere q now id body group h = accepts elsewhere q now body None q.settings.delay h
  forwarded_balances (Fifo content scope) elsewhere q now id body group h =
      let g : List ℕ = forwarded_group group in
      elim (living q now (scope_of scope g) (id_text id)) as (λ e. Comes elsewhere (Forward id group body) (sent_of q (send_unless q now body g (scope_of scope g) (id_text id) e))) [
        | None ↦ unless_balances elsewhere q now body g (scope_of scope g) (id_text id) None h
        | Some e ↦ h
      ]

  pub arrived_balances : (elsewhere : ℕ) (q : Queue) (now : ℕ) (x : Load) → IsKnown top x → At (carried o x + elsewhere) q → Comes elsewhere x (arrived q now x)
  arrived_balances elsewhere q now (Redrive id group origin body enqueued) l h =
      settled_balances elsewhere (Redrive id group origin body enqueued) _ q (brought q now origin body group (enqueued_at q.settings.kind now enqueued) (Some id.site)) refl refl l h
  arrived_balances elsewhere q now (Move id group origin body) l h = settled_balances elsewhere (Move id group origin body) _ q (brought q now origin body group now None) refl refl tt h
  arrived_balances elsewhere q now (Forward id group body) l h =
      forwarded_balances q.settings.kind elsewhere q now id body group (holds_as o top base rows (0 + elsewhere) elsewhere q (omega arith) h)

  -- moves
  pub record Takes (elsewhere : ℕ) (t : Taken) : Type 0 where
    pub holds : At (moved_bits o t.loads + elsewhere) t.queue
    pub bound : AreBound top t.loads

  bound_for : (to : Option ℕ) (m : Message) (d : ℕ) → destination to m ≡ Some d → MayBeWithin top to → MayBeWithin top m.source → d < top
  bound_for None m d e t s = subst (MayBeWithin top) e s
  bound_for (Some n) m d e t s = let k : n ≡ d = cc in rw k at t

  stand_on : (q : Queue) (n : ℕ) (ms : List Message) → All (λ x. x.number ≢ n) ms → Stand q ms → Stand (taken_out q n) ms
  stand_on q n ms a h = λ i d l. other_without n (get_or ms i d).number q.records (a i d l) ∙ h i d l

  pub take_balances : (to : Option ℕ) (ms : List Message) (elsewhere : ℕ) (q : Queue) → MayBeWithin top to → Stand q ms → Apart ms → At elsewhere q → Takes elsewhere (take_each q to ms)
  take_balances to [] elsewhere q t s a h = record { holds = holds_as o top base rows elsewhere (0 + elsewhere) q (omega arith) h; bound = tt }
  take_balances to (m ∷ ms) elsewhere q t s a h =
      let e : numbered m.number q.records ≡ Some m = All-head (λ x. numbered x.number q.records ≡ Some x) m ms s in
      let f : IsFine o top base rows q.site q.arrivals m = find_all (has_number m.number) (IsFine o top base rows q.site q.arrivals) q.records m h.records e in
      elim (destination to m) as
      (λ x. destination to m ≡ x → Takes elsewhere (elim x as (λ _. Taken) [ None ↦ record { queue = q; loads = []; stuck = true } | Some d ↦ taken_one q m d (take_each (taken_out q m.number) to ms) ])) [
        | None ↦ λ g. record { holds = holds_as o top base rows elsewhere (0 + elsewhere) q (omega arith) h; bound = tt }
        | Some d ↦ λ g.
            let rest : List Message = ms in
            let others : Takes (bit (same_origin o m.origin) + elsewhere) (take_each (taken_out q m.number) to ms) =
            take_balances to ms (bit (same_origin o m.origin) + elsewhere) (taken_out q m.number) t (stand_on q m.number ms a.0 (All-tail (λ x. numbered x.number q.records ≡ Some x) m ms s)) a.1
            (holds_taken o top base rows m.number m elsewhere q e h) in
            let y : Taken = take_each (taken_out q m.number) to ms in
            record {
              holds = holds_as o top base rows (moved_bits o y.loads + (bit (same_origin o m.origin) + elsewhere)) (bit (same_origin o m.origin) + moved_bits o y.loads + elsewhere) y.queue (omega arith) others.holds;
              bound = ((bound_for to m d g t f.source, tt), others.bound);
            }
      ] refl

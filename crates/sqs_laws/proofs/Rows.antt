-- The rows of each other call, and of what is due, are a chain of single moves.
use Rattle.std.specs.Str.{bytes_eq}
use Rattle.std.specs.Prelude.{All, Bool, Err, List, None, Ok, Option, Result, Some, [], false, get_or, if◌then◌else◌, length, nat_lt, take, true, ℕ, ◌&&◌, ◌*◌, ◌+◌, ◌++◌, ◌<◌, ◌==◌, ◌∷◌, ◌≡◌, ◌≢◌, ◌||◌, ◌-◌, ◌≤◌, not, nat_le, slice_get}
use Rattle.std.proofs.Common.{ap, arith, inl, inr, refl, subst, sym, true≢false, ◌∙◌}
use Rattle.sqs_laws.proofs.Terms.{Actor, All-cons, All-filter, All-head, All-nil, All-push, All-tail, All-take, All-weaker, all_available, all_changed, all_hosts, all_in, and_parts, and_then, Apart, append_assoc, arrival_done, arrival_row, arrived, brought, came_back, change, change_answered, change_found, change_made, change_row, changed_twice, Core, deduplication_id, deduplication_interval, delay_of, delete, delete_done, delete_made, Deleted, destination, drawn_latency, Effect, either, either_by, end_row, enqueued_at, Entry, eqb-true, expired_found, expiry_done, Fifo, find_all, find_picked, first_apart, first_stand, Forward, forwarded, forwarded_group, forwards_made, handle_expiry, handle_step, has_number, id_of, id_text, In, in_append, in_flight_until, in_found, in_left, in_right, into_filter, is_bad_delay, is_deleted, is_expired, is_in_flight, is_task, is_too_old, is_visible, IsFound, IsNameless, IsSoundRole, Key, Kind, leaves, leb-true, living, living_entries, Load, load_age, load_origin, longest_flight, longest_timeout, may_be_given, Message, MessageId, Moved, moves, nat_tests, new_message, number_of, numbered, of_all, one_sent, origin_in, other_without, Outbound, Policy, Queue, read_receipt, Receipt, Redrive, redrive_of, Refusal, release_done, released, released_found, released_when, returned, Row, RowAnswer, RowKind, same_text, same_text_decides, says, Scenario, scope_of, send_made, send_unless, send_with, sends, Sent, sent_of, serve_made, settled_when, Stand, Standard, take_each, take_movable, Taken, taken_one, taken_out, Task, task_stepped, TellsOfNone, visible_again, with_change, with_entry, with_message, with_queue, with_records, without_changed}
use Rattle.sim_clock.specs.declared.refusal.Refusal.TheVariants as refusals
use Rattle.sqs_message.specs.declared.row.Detail.TheVariants as details
use Rattle.sqs_message.specs.declared.row.RowAnswer.TheVariants as answers
use Rattle.sqs_message.specs.declared.row.RowKind.TheVariants as kinds
use Rattle.sqs_message.specs.declared.row.RowReceipt.TheVariants as receipts
use Rattle.sqs_redrive.specs.declared.answers.Sent.TheVariants.{New}
use Rattle.sqs_redrive.specs.declared.settings.Scope.{Scope}
use Rattle.sqs_redrive.specs.declared.transfers.Load.TheVariants.{Move as Moves}
use Rattle.std.specs.Cmp.Lexicographic.{bytes_decides}
use Rattle.sqs_redrive.specs.declared.settings.Scope.TheVariants as scopes
use Rattle.sqs_redrive.specs.declared.answers.Rest.{Rest}
use Rattle.sqs_redrive.specs.declared.answers.Rest.TheVariants.{Empty, More, NoSource}
use Rattle.sqs_model.proofs.Answered.{change_by, delete_by}
use Rattle.sqs_laws.specs.Sends.{AsksToChangeAs, Given, GivesAs, delay_given, key_given, milliseconds_or, scope_given}
use Rattle.sqs_laws.specs.Laws.{is_fifo}
use Rattle.sqs_laws.specs.Words as words
use Rattle.sqs_laws.proofs.Calls.{Told, back_told, found_old, one_back, own_changed, pushed_out, tells, Returns}
use Rattle.sqs_laws.proofs.Gives.{Gives}
use Rattle.sqs_laws.proofs.Giving.{visible_available}
use Rattle.sqs_laws.proofs.Naming.{found_in, last_as, names_same}
use Rattle.sqs_laws.proofs.Moves.{FitsSender, HasKey, Asks, AsksChange, AsksDelete, AreEntered, Chain, IsEntered, IsGiven, IsBehind, RepeatsEntry, changed_answer, deleted_answer, chain_keeps, Does, IsStocked, Keeps, Move, Stays, Tells, Waits, changes, chain_append, comes, ends, of_none, one_move, stays, actors_of, tells_none, AreTraced, IsBrought, IsMadeBy, of_one, OfGroup}
use Rattle.sqs_laws.proofs.Traces.{chain_traces, pushed_found, group_later, traced_of}

-- what a row of none tells
abbrev SaysNothing : RowKind → RowAnswer → Type 0
SaysNothing k a =
    (words.is_new a ≡ false) × ((words.is_receive k && words.is_ok a) ≡ false) × ((words.is_change k && words.is_ok a) ≡ false) × (words.is_release k ≡ false)
    × ((is_deleted a || is_expired a || words.is_redrive k || words.is_move k) ≡ false) × (words.is_repeat a ≡ false) × (words.is_change k ≡ false)

says_nothing : (k : RowKind) (a : RowAnswer) → TellsOfNone k a → SaysNothing k a
says_nothing kinds.Receive answers.Empty t = (refl, refl, refl, refl, refl, refl, refl)
says_nothing kinds.Receive answers.Wait t = (refl, refl, refl, refl, refl, refl, refl)
says_nothing kinds.Receive (answers.Refused x) t = (refl, refl, refl, refl, refl, refl, refl)
says_nothing kinds.Start answers.Ok t = (refl, refl, refl, refl, refl, refl, refl)
says_nothing kinds.Start (answers.Refused x) t = (refl, refl, refl, refl, refl, refl, refl)
says_nothing kinds.Cancel answers.Ok t = (refl, refl, refl, refl, refl, refl, refl)
says_nothing kinds.Cancel (answers.Refused x) t = (refl, refl, refl, refl, refl, refl, refl)
says_nothing kinds.Scale answers.Ok t = (refl, refl, refl, refl, refl, refl, refl)
says_nothing kinds.Sample answers.Ok t = (refl, refl, refl, refl, refl, refl, refl)
says_nothing k a t = absurd t

-- it asks nothing of a message
asks_none : (key : Key) (q : Queue) (r : Row) (k : RowKind) (a : RowAnswer) → TellsOfNone k a → Asks key q r k
asks_none key q r kinds.Delete a t = absurd t
asks_none key q r kinds.Send a t = absurd t
asks_none key q r k a t = tt

-- a row that names no message changes nothing
nameless_stays : (key : Key) (q : Queue) (r : Row) → r.message ≡ None → Tells r false false false false false → Stays key q r q
nameless_stays key q r n t =
    record {
      same = refl;
      tells = t;
      old = λ m e. cc;
      follows = λ m e. cc;
      gone = λ g m e. cc;
    }

pub quiet_move : (key : Key) (c : Core) (q : Queue) (r : Row) → number_of c ≡ q.site → IsNameless key c r → Move key q r q
quiet_move key c q r e i =
    record {
      at_key = i.at_key;
      at_site = i.at_site ∙ e;
      asked = asks_none key q r r.kind r.answer i.kind;
      does = stays (nameless_stays key q r i.nameless (let n : SaysNothing r.kind r.answer = says_nothing r.kind r.answer i.kind in tells r false false false false false n.0 n.1 n.2 n.3 n.4));
    }

pub nameless_none : (u : Scenario) (past : List Row) {key : Key} {c : Core} (q : Queue) (r : Row) → IsNameless key c r → IsBehind u past q r q
nameless_none u past q r i =
    let n : SaysNothing r.kind r.answer = says_nothing r.kind r.answer i.kind in tells_none u past q r q (λ e. absurd (true≢false (sym e ∙ n.6))) (tells r false false false false false n.0 n.1 n.2 n.3 n.4) n.5

module _ (u : Scenario) (past : List Row) (key : Key) where
  -- an effect whose rows are a chain from a site's queue, and which leaves its actors and polls
  pub record IsChain (c : Core) (e : Effect) : Type 0 where
    pub chain : Chain u past key c.queue e.rows e.core.queue
    pub actors : actors_of e.core ≡ actors_of c
    pub sent : All (FitsSender u (past ++ e.rows)) e.sent

  -- a row that names a message which came before, and changes nothing
  named_stays : (q : Queue) (r : Row) (n : ℕ) → r.message ≡ Some (id_of q n) → Tells r false false false false false → n < q.arrivals → (words.may_follow r ≡ false → IsFound (numbered n q.records)) → (words.is_gone r.answer ≡ true → numbered n q.records ≡ None) → Stays key q r q
  named_stays q r n m t l f g =
      record {
        same = refl;
        tells = t;
        old = λ i e. let s : id_of q n ≡ i = cc in subst (λ (x : MessageId). (x.site ≡ q.site) × (x.number < q.arrivals)) s (refl, l);
        follows = λ i e h. let s : id_of q n ≡ i = cc in subst (λ (x : MessageId). IsFound (numbered x.number q.records)) s (f h);
        gone = λ h i e. let s : id_of q n ≡ i = cc in subst (λ (x : MessageId). numbered x.number q.records ≡ None) s (g h);
      }

  one_row : (c d : Core) (r : Row) → r.key ≡ key → r.queue ≡ c.queue.site → actors_of d ≡ actors_of c → Asks key c.queue r r.kind → Does key c.queue r d.queue → IsBehind u past c.queue r d.queue → IsChain c (says d r)
  one_row c d r k s a y h g = record { chain = one_move u past key c.queue r d.queue (record { at_key = k; at_site = s; asked = y; does = h }) g; actors = a; sent = All-nil (FitsSender u (past ++ _)) }

  -- services
  forwards_rows : (behind : List Row) (a : Actor) (c : Core) (id : MessageId) (os : List Outbound) → id.site ≡ c.queue.site → id.number < c.queue.arrivals → Chain u behind key c.queue (forwards_made key a id os c).rows (forwards_made key a id os c).core.queue
  forwards_rows behind a c id [] e l = refl
  forwards_rows behind a c id (o ∷ os) e l = (
    c.queue,
    record {
      at_key = refl;
      at_site = refl;
      asked = tt;
      does = stays (named_stays c.queue _ id.number (ap (λ s. Some (record { site = s; number = id.number })) e) (tells _ false false false false false refl refl refl refl refl) l (λ h. cc) (λ h. cc));
    },
    of_none u behind c.queue _ c.queue (λ e. cc) refl refl refl refl,
    forwards_rows (behind ++ _ ∷ []) a c id os e l,
  )

  forwards_actors : (a : Actor) (c : Core) (id : MessageId) (os : List Outbound) → actors_of (forwards_made key a id os c).core ≡ actors_of c
  forwards_actors a c id [] = refl
  forwards_actors a c id (o ∷ os) = forwards_actors a c id os

  forwards_sent : (a : Actor) (c : Core) (id : MessageId) (os : List Outbound) → (forwards_made key a id os c).sent ≡ os
  forwards_sent a c id [] = refl
  forwards_sent a c id (o ∷ os) = ap (λ xs. o ∷ xs) (forwards_sent a c id os)

  pub serve_chain : (a : Actor) (c : Core) (id : MessageId) (r : Receipt) (failed : Bool) (os : List Outbound) → id.site ≡ c.queue.site → id.number < c.queue.arrivals → All (λ o. (rows : List Row) → FitsSender u rows o) os → IsChain c (serve_made key a c id r failed os).effect
  serve_chain a c id r true os e l f =
      one_row c c _ refl refl refl tt (stays (named_stays c.queue _ id.number (ap (λ s. Some (record { site = s; number = id.number })) e) (tells _ false false false false false refl refl refl refl refl) l (λ h. cc) (λ h. cc))) (of_none u past c.queue _ _ (λ e. cc) refl refl refl refl)
  serve_chain a c id r false os e l f = record { chain = forwards_rows past a c id os e l; actors = forwards_actors a c id os; sent = subst (All (FitsSender u (past ++ _))) (sym (forwards_sent a c id os)) (All-weaker (λ o. (rows : List Row) → FitsSender u rows o) (FitsSender u (past ++ _)) (λ o h. h (past ++ _)) os f) }

  -- sends
  -- a row that repeats a message by an entry that lives
  repeats_by : (q : Queue) (r : Row) (scope : Option (List ℕ)) (id : List ℕ) (e : Entry) → is_fifo q.settings.kind ≡ true → living q key.at scope id ≡ Some e → r.key ≡ key → r.message ≡ Some (id_of q e.number) → (words.is_send r.kind ≡ true → (e.scope ≡ scope) × (e.id ≡ id) → HasKey u q r e) → RepeatsEntry u q r
  repeats_by q r scope id e y f k m w =
      let test : Entry → Bool = λ x. nat_lt key.at x.end && same_text x.scope scope && bytes_eq x.id id in
      let picked : test e ≡ true = find_picked test q.entries e f in
      let lives : nat_lt key.at e.end ≡ true = (and_parts (nat_lt key.at e.end) (same_text e.scope scope) (and_parts (nat_lt key.at e.end && same_text e.scope scope) (bytes_eq e.id id) picked).0).0 in
      let parts = and_parts (nat_lt key.at e.end && same_text e.scope scope) (bytes_eq e.id id) picked in
      let scoped : e.scope ≡ scope = (same_text_decides e.scope scope).0 (and_parts (nat_lt key.at e.end) (same_text e.scope scope) parts.0).1 in
      let named : e.id ≡ id = (bytes_decides e.id id).0 parts.1 in
      let now : r.key.at ≡ key.at = ap (λ (x : Key). x.at) k in
      record { same = λ t. w t (scoped, named); fifo = y; entry = e; there = found_in test q.entries e f; names = m; lives = let l : key.at < e.end = grind (arith, nat_tests, lives) in omega (arith, l, now) }

  named_by : (c : Core) (scope : Option (List ℕ)) (id : List ℕ) (e : Entry) → IsStocked c.queue → living c.queue key.at scope id ≡ Some e → e.number < c.queue.arrivals
  named_by c scope id e s f = find_all (λ (x : Entry). nat_lt key.at x.end && same_text x.scope scope && bytes_eq x.id id) (λ x. x.number < c.queue.arrivals) c.queue.entries e s.entries f

  -- a message that waits as it comes
  waits_at : (q : Queue) (body : List ℕ) (group : Option (List ℕ)) (delay : ℕ) → Waits key.at delay (new_message q key.at body group delay)
  waits_at q body group delay = record { place = refl; release = refl }

  old_entries : (q : Queue) → AreEntered key q q.entries
  old_entries q = record { each = all_in (IsEntered key q) q.entries (λ e i. inl i); kept = λ e i l. i }

  more_entries : (q : Queue) (scope : Option (List ℕ)) (id : List ℕ) → AreEntered key q (with_entry q key.at scope id).entries
  more_entries q scope id =
      record {
        each =
            All-push (IsEntered key q) (living_entries key.at q.entries) _
            (All-filter (λ e. nat_lt key.at e.end) (IsEntered key q) q.entries (old_entries q).each) (inr (refl, refl));
        kept = λ e i l.
            let lives : nat_lt key.at e.end ≡ true = grind (arith, nat_tests, l) in
            in_left (living_entries key.at q.entries) _ e (into_filter (λ (x : Entry). nat_lt key.at x.end) q.entries e i lives);
      }

  scope_alike : (scope : Scope) (g : List ℕ) → scope_given scope (Some g) ≡ scope_of scope g
  scope_alike scopes.Queue g = refl
  scope_alike scopes.Group g = refl

  -- the delay of what is given
  abbrev delay_at : Kind → ℕ → Option ℕ → ℕ
  delay_at k other own = elim k as (λ _. ℕ) [ Standard hosts sampled ↦ milliseconds_or other own | Fifo content scope ↦ other ]

  delay_alike : (q : Queue) (own : Option ℕ) → milliseconds_or q.settings.delay own ≡ delay_of q own
  delay_alike q None = refl
  delay_alike q (Some seconds) = refl

  module _ (a : Actor) (c : Core) (given : Given) (x : Gives u key.at a.number given) (s : IsStocked c.queue) where
    abbrev IsSent : Result Sent Refusal × Queue → Type 0
    IsSent y = IsChain c (send_made key a c given.body y).effect

    -- what is given has this scope and this deduplication id
    abbrev GivesKey : Option (List ℕ) → List ℕ → Type 0
    GivesKey scope id = key_given c.queue.settings.kind given ≡ (scope, Some id)

    given_key : (scope : Option (List ℕ)) (id : List ℕ) → GivesKey scope id → All (λ z. IsSoundRole z.role) u.actors → (y : Given) → GivesAs u a.number key.at y → key_given c.queue.settings.kind y ≡ (scope, Some id)
    given_key scope id w z y g = ap (key_given c.queue.settings.kind) (sym (x.1 z y g)) ∙ w

    -- an entry for it is new, and no entry that lives has what is given
    abbrev IsAnew : List Entry → Type 0
    IsAnew entries = (e : Entry) × In entries e × (e.number ≡ c.queue.arrivals) × (e.end ≡ key.at + deduplication_interval) × ((o : Entry) → In c.queue.entries o → key.at < o.end → GivesKey o.scope o.id → ⊥)

    no_living : (scope : Option (List ℕ)) (id : List ℕ) → GivesKey scope id → living c.queue key.at scope id ≡ None → (o : Entry) → In c.queue.entries o → key.at < o.end → GivesKey o.scope o.id → ⊥
    no_living scope id w f o i l k =
        let test : Entry → Bool = λ x. nat_lt key.at x.end && same_text x.scope scope && bytes_eq x.id id in
        let lives : nat_lt key.at o.end ≡ true = grind (arith, nat_tests, l) in
        let scoped : same_text o.scope scope ≡ true = (same_text_decides o.scope scope).1 (ap (λ (z : Option (List ℕ) × Option (List ℕ)). z.0) (sym k ∙ w)) in
        let ids : Some o.id ≡ Some id = ap (λ (z : Option (List ℕ) × Option (List ℕ)). z.1) (sym k ∙ w) in
        let named : bytes_eq o.id id ≡ true = (bytes_decides o.id id).1 cc in
        let found = in_found test c.queue.entries o i (rw (lives, scoped, named) refl) in
        let none : None ≡ Some found.one = sym f ∙ found.gives in
        cc

    refused_sent : (e : Refusal) → IsSent (Err e, c.queue)
    refused_sent e = one_row c c _ refl refl refl refl (stays (nameless_stays key c.queue _ refl (tells _ false false false false false refl refl refl refl refl))) (of_none u past c.queue _ _ (λ e. cc) refl refl refl refl)

    new_sent :
        (group : Option (List ℕ)) (delay : ℕ) (entries : List Entry) → delay_given c.queue.settings given ≡ delay → (is_fifo c.queue.settings.kind ≡ true → group ≡ given.group) → ((e : Entry) → In entries e → e.number ≡ c.queue.arrivals → GivesKey e.scope e.id)
        → AreEntered key c.queue entries → (is_fifo c.queue.settings.kind ≡ true → IsAnew entries) → IsSent (Ok (New (id_of c.queue c.queue.arrivals)), with_message (record c.queue { entries = entries }) (new_message c.queue key.at given.body group delay))
    new_sent group delay entries w f k o n =
        let m : Message = new_message c.queue key.at given.body group delay in
        let waits : Waits key.at delay m = record { place = refl; release = refl } in
        one_row c (with_queue c (with_message (record c.queue { entries = entries }) m)) _ refl refl refl refl
        (comes (record { one = m; entries = entries; tells = tells _ true false false false false refl refl refl refl refl; message = refl; number = refl; fresh = refl; delay = delay; waits = waits; told = refl; sent = λ _. (refl, refl); entered = o; after = refl }))
        (record {
          given = λ e one i z g h.
              let is : m ≡ one = let found : Some m ≡ Some one = sym (pushed_found c.queue.arrivals c.queue.records m refl s.given_out) ∙ i in cc in
              subst (IsGiven c.queue key.at g) is (subst (λ y. IsGiven c.queue key.at y m) (x.1 z g h) (record { delay = subst (λ n. Waits key.at n m) (sym w) waits; group = f }));
          next = λ e. cc;
          timed = λ e. cc;
          repeats = λ e. cc;
          brought = λ _ e. cc;
          ends = λ _ e. cc;
          enters = λ e y i t. given_key y.scope y.id (k y i t);
          asks = λ e. cc;
          anew = λ e t. let z : IsAnew entries = n t in record { entry = z.0; there = z.1; number = z.2; lives = z.3; differs = λ y i l v g h same. z.4 y i l (ap (key_given c.queue.settings.kind) (x.1 v g h) ∙ same) };
          sends = λ e b f i. (given, x.0 b f i, refl);
        })

    -- the entries, and those with a new one
    old_key : (e : Entry) → In c.queue.entries e → e.number ≡ c.queue.arrivals → GivesKey e.scope e.id
    old_key e i n = let old : e.number < c.queue.arrivals = of_all (λ (z : Entry). z.number < c.queue.arrivals) c.queue.entries e s.entries i in absurd (omega (arith, old, n))

    more_key : (scope : Option (List ℕ)) (id : List ℕ) → GivesKey scope id → (e : Entry) → In (with_entry c.queue key.at scope id).entries e → e.number ≡ c.queue.arrivals → GivesKey e.scope e.id
    more_key scope id w e i n =
        elim (in_append (living_entries key.at c.queue.entries) _ e i) as (λ _. GivesKey e.scope e.id) [
          | inl j ↦
              let old : e.number < c.queue.arrivals = of_all (λ (x : Entry). x.number < c.queue.arrivals) (living_entries key.at c.queue.entries) e (All-filter (λ x. nat_lt key.at x.end) (λ (x : Entry). x.number < c.queue.arrivals) c.queue.entries s.entries) j in
              absurd (omega (arith, old, n))
          | inr j ↦ elim j as (λ _. GivesKey e.scope e.id) [ inl is ↦ subst (λ (y : Entry). GivesKey y.scope y.id) is w | inr none ↦ absurd none ]
        ]

    unless_sent : (group : List ℕ) (scope : Option (List ℕ)) (id : List ℕ) (o : Option Entry) → GivesKey scope id → is_fifo c.queue.settings.kind ≡ true → Some group ≡ given.group → delay_given c.queue.settings given ≡ c.queue.settings.delay → living c.queue key.at scope id ≡ o → IsSent (send_unless c.queue key.at given.body group scope id o)
    unless_sent group scope id None w y g d f = new_sent (Some group) c.queue.settings.delay (with_entry c.queue key.at scope id).entries d (λ _. g) (more_key scope id w) (more_entries c.queue scope id) (λ _. (record { scope = scope; id = id; end = key.at + deduplication_interval; number = c.queue.arrivals }, in_right (living_entries key.at c.queue.entries) _ _ (inl refl), refl, refl, no_living scope id w f))
    unless_sent group scope id (Some e) w y g d f =
        one_row c c _ refl refl refl refl (stays (named_stays c.queue _ e.number refl (tells _ false false false false false refl refl refl refl refl) (named_by c scope id e s f) (λ h. cc) (λ h. cc)))
        (record { given = λ t. cc; next = λ t. cc; timed = λ t. cc; sends = λ t. cc; enters = λ t. cc; anew = λ t. cc; asks = λ t. cc; brought = λ t. cc; ends = λ _ t. cc; repeats = λ t. repeats_by c.queue _ scope id e y f refl refl (λ _ i z n h. given_key scope id w z n h ∙ ap (λ j. (j, Some id)) (sym i.0) ∙ ap (λ j. (e.scope, Some j)) (sym i.1)) })

    with_sent : (scope : Scope) (group id : Option (List ℕ)) → ((g i : List ℕ) → group ≡ Some g → id ≡ Some i → GivesKey (scope_of scope g) i) → is_fifo c.queue.settings.kind ≡ true → group ≡ given.group → delay_given c.queue.settings given ≡ c.queue.settings.delay → IsSent (send_with c.queue scope key.at given.body group id)
    with_sent scope None id w y g d = refused_sent refusals.MissingGroup
    with_sent scope (Some group) None w y g d = refused_sent refusals.MissingDeduplication
    with_sent scope (Some group) (Some id) w y g d = unless_sent group (scope_of scope group) id (living c.queue key.at (scope_of scope group) id) (w group id refl refl) y g d refl

    pub sends_chain : (k : Kind) → c.queue.settings.kind ≡ k → IsSent (sends k c.queue key.at given.body given.delay given.group given.id)
    sends_chain (Standard hosts sampled) y =
        either IsSent (is_bad_delay 900 given.delay) _ _ (refused_sent refusals.BadDelay)
        (new_sent None (delay_of c.queue given.delay) c.queue.entries (ap (λ j. delay_at j c.queue.settings.delay given.delay) y ∙ delay_alike c.queue given.delay) (λ f. absurd (true≢false (sym f ∙ ap is_fifo y))) old_key (old_entries c.queue) (λ f. absurd (true≢false (sym f ∙ ap is_fifo y))))
    sends_chain (Fifo content scope) y =
        either IsSent (is_bad_delay 0 given.delay) _ _ (refused_sent refusals.BadDelay)
        (with_sent scope given.group (deduplication_id content given.body given.id)
        (λ g i e f. ap (λ j. key_given j given) y ∙ ap (λ j. (scope_given scope j, deduplication_id content given.body given.id)) e ∙ ap (λ j. (scope_given scope (Some g), j)) f ∙ ap (λ j. (j, Some i)) (scope_alike scope g))
        (ap is_fifo y) refl (ap (λ j. delay_at j c.queue.settings.delay given.delay) y))

  -- deletes
  refused_row : (c : Core) (r : Row) → r.key ≡ key → r.queue ≡ c.queue.site → r.message ≡ None → Asks key c.queue r r.kind → (words.is_change r.kind ≡ true → AsksChange u c.queue r) → Tells r false false false false false → words.is_repeat r.answer ≡ false → IsChain c (says c r)
  refused_row c r k s n y z t w = one_row c c r k s refl y (stays (nameless_stays key c.queue r n t)) (tells_none u past c.queue r c.queue z t w)

  module _ (a : Actor) (c : Core) (text : List ℕ) (r : Receipt) (read : read_receipt text ≡ Some r) (s : IsStocked c.queue) where
    -- of the answer that the delete has
    abbrev IsDeleted : Result Deleted Refusal × Queue → Type 0
    IsDeleted x = delete c.queue key.at r ≡ x → IsChain c (delete_done key a c text r x).effect

    asks_delete : (x : Result Deleted Refusal × Queue) (row : Row) → row.receipt ≡ receipts.Given text → row.answer ≡ deleted_answer x.0 → delete c.queue key.at r ≡ x → AsksDelete key c.queue row
    asks_delete x row g w e =
        record {
          text = text;
          given = g;
          by = λ y f. let is : r ≡ y = cc in w ∙ ap (λ (z : Result Deleted Refusal × Queue). deleted_answer z.0) (sym e) ∙ ap (λ z. deleted_answer (delete c.queue key.at z).0) is;
          none = λ f. cc;
        }

    deleted_chain : IsDeleted (delete c.queue key.at r)
    deleted_chain =
        delete_by IsDeleted c.queue key.at r
        (record {
          refused = λ e. refused_row c _ refl refl refl (asks_delete _ _ refl refl e) (λ t. cc) (tells _ false false false false false refl refl refl refl refl) refl;
          gone = λ f l e.
              one_row c c _ refl refl refl (asks_delete _ _ refl refl e)
              (stays (named_stays c.queue _ r.number refl (tells _ false false false false false refl refl refl refl refl) (grind (arith, nat_tests, l)) (λ h. cc) (λ h. f))) (of_none u past c.queue _ _ (λ e. cc) refl refl refl refl);
          kept = λ m f e.
              one_row c c _ refl refl refl (asks_delete _ _ refl refl e)
              (stays (named_stays c.queue _ r.number refl (tells _ false false false false false refl refl refl refl refl) (found_old c.queue r.number m s f) (λ h. subst IsFound (sym f) tt) (λ h. cc))) (of_none u past c.queue _ _ (λ e. cc) refl refl refl refl);
          taken = λ m f e.
              one_row c (with_queue c (taken_out c.queue r.number)) _ refl refl refl (asks_delete _ _ refl refl e)
              (ends (record { one = m; number = r.number; tells = tells _ false false false false true refl refl refl refl refl; names = record { there = f; message = refl; sure = refl }; kind = refl; rested = λ e. cc; after = refl }))
              (of_one u past c.queue _ _ r.number m refl refl refl refl refl f (λ _. record { age = refl; over = λ t. cc }));
        }) c.queue.settings.kind

  delete_chain_of : (a : Actor) (c : Core) (text : List ℕ) (o : Option Receipt) → read_receipt text ≡ o → IsStocked c.queue → IsChain c (delete_made key a c text o).effect
  delete_chain_of a c text None e s =
      refused_row c _ refl refl refl (record { text = text; given = refl; by = λ y f. cc; none = λ f. refl }) (λ t. cc) (tells _ false false false false false refl refl refl refl refl) refl
  delete_chain_of a c text (Some r) e s = deleted_chain a c text r e s refl

  pub delete_chain : (a : Actor) (c : Core) (text : List ℕ) → IsStocked c.queue → IsChain c (delete_made key a c text (read_receipt text)).effect
  delete_chain a c text s = delete_chain_of a c text (read_receipt text) refl s

  -- changes of visibility
  changed_back : (b : Bool) (q : Queue) (n end : ℕ) (m : Message) → released_when b (with_change q n (in_flight_until end)) n (in_flight_until end m) ≡ released_when b q n m
  changed_back true q n end m = ap (λ records. (with_records q records, Some (redrive_of q m))) (without_changed (has_number n) (in_flight_until end) (λ x. refl) q.records)
  changed_back false q n end m = ap (λ records. (with_records q records, None)) (changed_twice (has_number n) (in_flight_until end) visible_again (λ x. refl) q.records)

  leaves_alike : (o : Option Policy) (end : ℕ) (m : Message) → leaves o (in_flight_until end m) ≡ leaves o m
  leaves_alike None end m = refl
  leaves_alike (Some p) end m = refl

  released_changed : (q : Queue) (n end : ℕ) (m : Message) → numbered n q.records ≡ Some m → released (with_change q n (in_flight_until end)) n ≡ released q n
  released_changed q n end m f =
      ap (released_found (with_change q n (in_flight_until end)) n) (own_changed n (in_flight_until end) (λ x. refl) q.records m f)
      ∙ ap (λ b. released_when b (with_change q n (in_flight_until end)) n (in_flight_until end m)) (leaves_alike q.settings.policy end m)
      ∙ changed_back (leaves q.settings.policy m) q n end m ∙ sym (ap (released_found q n) f)

  -- a change that is made ends at most 12 hours after the receive
  change_limit : (q : Queue) (r : Receipt) (timeout : ℕ) (m : Message) (left : Option Load) → numbered r.number q.records ≡ Some m → (change q key.at r timeout).0 ≡ Ok left → key.at + 1000 * timeout ≤ m.received + longest_flight
  change_limit q r timeout m left f =
      either P (nat_lt longest_timeout timeout) (Err refusals.BadTimeout, q) _ (λ w. cc)
      (either P (may_be_given q r) (change_found q key.at r timeout (numbered r.number q.records)) _
      (subst (λ o. P (change_found q key.at r timeout o)) (sym f)
      (either P (nat_lt m.receives r.count) (Err refusals.ReceiptHandleIsInvalid, q) _ (λ w. cc)
      (either P (not (is_in_flight m) || nat_lt r.count m.receives) (Err refusals.MessageNotInflight, q) _ (λ w. cc)
      (either_by P (nat_lt (m.received + longest_flight) (key.at + 1000 * timeout)) (Err refusals.BadTimeout, q) _ (λ e w. cc) (λ e w. grind (arith, nat_tests, e)))))) (λ w. cc))
    where
      P : Result (Option Load) Refusal × Queue → Type 0
      P x = x.0 ≡ Ok left → key.at + 1000 * timeout ≤ m.received + longest_flight

  module _ (a : Actor) (c : Core) (text : List ℕ) (timeout : ℕ) (own : AsksToChangeAs u c.queue.settings a.number key.at text timeout) (r : Receipt) (read : read_receipt text ≡ Some r) (s : IsStocked c.queue) (home : slice_get u.queues c.queue.site ≡ Some c.queue.settings) (traced : AreTraced u past c.queue) where
    -- of the answer that the change has
    abbrev IsChanged : Result (Option Load) Refusal × Queue → Type 0
    IsChanged x = change c.queue key.at r timeout ≡ x → IsChain c (change_answered key a c text timeout r x).effect

    asks_change : (x : Result (Option Load) Refusal × Queue) (row : Row) → row.agent ≡ a.number → row.key ≡ key → (words.changed row ≡ true → row.detail ≡ details.Timeout timeout) → row.receipt ≡ receipts.Given text → row.answer ≡ changed_answer x.0 → change c.queue key.at r timeout ≡ x → AsksChange u c.queue row
    asks_change x row n k t g w e =
        record {
          text = text;
          given = g;
          timeout = timeout;
          told = t;
          own = subst (λ i. AsksToChangeAs u c.queue.settings i row.key.at text timeout) (sym n) (subst (λ (i : Key). AsksToChangeAs u c.queue.settings a.number i.at text timeout) (sym k) own);
          by = λ y f. let is : r ≡ y = cc in subst (λ (i : Key). row.answer ≡ changed_answer (change c.queue i.at y timeout).0) (sym k) (w ∙ ap (λ (z : Result (Option Load) Refusal × Queue). changed_answer z.0) (sym e) ∙ ap (λ z. changed_answer (change c.queue key.at z timeout).0) is);
          none = λ f. cc;
        }

    change_move : (m : Message) → key.at + 1000 * timeout ≤ m.received + longest_flight → numbered r.number c.queue.records ≡ Some m → is_in_flight m ≡ true → Move key c.queue (change_row key a c text answers.Ok (Some (id_of c.queue r.number)) (details.Timeout timeout)) (with_change c.queue r.number (in_flight_until (key.at + 1000 * timeout)))
    change_move m x f l =
        record {
          at_key = refl;
          at_site = refl;
          asked = tt;
          does = changes (record { one = m; number = r.number; timeout = timeout; tells = tells _ false false true false false refl refl refl refl refl; names = record { there = f; message = refl; sure = refl }; flies = l; told = refl; limit = x; after = refl });
        }

    kept_change : (m : Message) → numbered r.number c.queue.records ≡ Some m → is_in_flight m ≡ true → (timeout == 0) ≡ false → IsChanged (Ok None, with_change c.queue r.number (in_flight_until (key.at + 1000 * timeout)))
    kept_change m f l e x =
        let q : Queue = with_change c.queue r.number (in_flight_until (key.at + 1000 * timeout)) in
        let row : Row = change_row key a c text answers.Ok (Some (id_of c.queue r.number)) (details.Timeout timeout) in
        let one : Effect = says (with_queue c q) row in
        let both : Effect = and_then one (λ d. came_back key d r.number None) in
        subst (IsChain c) (sym (ap (λ b. if b then both else one) e)) (record { chain = one_move u past key c.queue row q (change_move m (change_limit c.queue r timeout m None f (ap (λ y. y.0) x)) f l) (of_none u past c.queue row q (λ _. asks_change _ row refl refl (λ _. refl) refl refl x) refl refl refl refl); actors = refl; sent = All-nil (FitsSender u (past ++ _)) })

    back_change : (m : Message) → numbered r.number c.queue.records ≡ Some m → is_in_flight m ≡ true → (timeout == 0) ≡ true → IsChanged (returned (released c.queue r.number))
    back_change m f l e w =
        let n : ℕ = r.number in
        let x : Queue × Option Load = released c.queue n in
        let end : ℕ = key.at + 1000 * timeout in
        let now : end ≡ key.at = let zero : timeout ≡ 0 = eqb-true timeout 0 e in omega (arith, zero) in
        let taken : Queue = with_change c.queue n (in_flight_until end) in
        let row : Row = change_row key a c text answers.Ok (Some (id_of c.queue n)) (details.Timeout timeout) in
        let behind : List Row = past ++ row ∷ [] in
        let d : Core = with_queue c x.0 in
        let one : Effect = says d row in
        let both : Effect = and_then one (λ d. came_back key d n x.1) in
        let same : released taken n ≡ x = released_changed c.queue n end m f in
        let first : Chain u past key c.queue (row ∷ []) taken = one_move u past key c.queue row taken (change_move m (change_limit c.queue r timeout m x.1 f (ap (λ y. y.0) w)) f l) (of_none u past c.queue row taken (λ _. asks_change _ row refl refl (λ _. refl) refl refl w) refl refl refl refl) in
        let told : AreTraced u behind taken = chain_traces u past key (row ∷ []) c.queue taken home s first traced in
        let back : (e : Core) → e.queue.site ≡ c.queue.site → e.queue.settings ≡ c.queue.settings → Returns key u behind taken x.0 (came_back key e n x.1) =
        λ e i j. subst (λ (y : Queue × Option Load). Returns key u behind taken y.0 (came_back key e n y.1)) same (one_back key u behind taken e n (in_flight_until end m) home told i j (own_changed n (in_flight_until end) (λ x. refl) c.queue.records m f) (ap (λ t. Some t) now)) in
        let kept : Keeps c.queue x.0 = chain_keeps u past key (row ∷ [] ++ (came_back key c n x.1).rows) c.queue x.0 (chain_append u past key (row ∷ []) (came_back key c n x.1).rows c.queue taken x.0 first (back c refl refl).chain) s in
        let last : Returns key u behind taken x.0 (came_back key d n x.1) = back d (sym kept.site) (sym kept.settings) in
        let after : Told key d (came_back key d n x.1).core = back_told key d n x.1 in
        let chain : Chain u past key c.queue both.rows x.0 = chain_append u past key (row ∷ []) (came_back key d n x.1).rows c.queue taken x.0 first last.chain in
        subst (IsChain c) (sym (ap (λ b. if b then both else one) e)) (record { chain = subst (Chain u past key c.queue both.rows) (sym after.queue) chain; actors = after.actors; sent = subst (λ r. All (FitsSender u r) (came_back key d n x.1).sent) (append_assoc past (row ∷ []) (came_back key d n x.1).rows) last.sent })

    changed_chain : IsChanged (change c.queue key.at r timeout)
    changed_chain =
        change_by IsChanged c.queue key.at r timeout
        (record {
          refused = λ e w. refused_row c _ refl refl refl tt (λ _. asks_change _ _ refl refl (λ t. cc) refl refl w) (tells _ false false false false false refl refl refl refl refl) refl;
          back = λ m f l e w. back_change m f l e w;
          kept = λ m f l e w. kept_change m f l e w;
        })

  change_chain_of : (a : Actor) (c : Core) (text : List ℕ) (timeout : ℕ) → AsksToChangeAs u c.queue.settings a.number key.at text timeout → (o : Option Receipt) → read_receipt text ≡ o → IsStocked c.queue → slice_get u.queues c.queue.site ≡ Some c.queue.settings → AreTraced u past c.queue → IsChain c (change_made key a c text timeout o).effect
  change_chain_of a c text timeout own None e s home traced =
      refused_row c _ refl refl refl tt (λ _. record { text = text; given = refl; timeout = timeout; own = own; told = λ t. cc; by = λ y f. cc; none = λ f. refl }) (tells _ false false false false false refl refl refl refl refl) refl
  change_chain_of a c text timeout own (Some r) e s home traced = changed_chain a c text timeout own r e s home traced refl

  pub change_chain : (a : Actor) (c : Core) (text : List ℕ) (timeout : ℕ) → AsksToChangeAs u c.queue.settings a.number key.at text timeout → IsStocked c.queue → slice_get u.queues c.queue.site ≡ Some c.queue.settings → AreTraced u past c.queue → IsChain c (change_made key a c text timeout (read_receipt text)).effect
  change_chain a c text timeout own s home traced = change_chain_of a c text timeout own (read_receipt text) refl s home traced

  -- what is due of messages
  pub expiry_chain : (c : Core) (m : Message) → numbered key.number c.queue.records ≡ Some m → key.at ≡ m.enqueued + c.queue.settings.retention → IsChain c (handle_expiry key c)
  expiry_chain c m f l =
      subst (λ x. IsChain c (expiry_done key c (expired_found c.queue key.at key.number x))) (sym f)
      (one_row c (with_queue c (taken_out c.queue key.number)) _ refl refl refl tt
      (ends (record { one = m; number = key.number; tells = tells _ false false false false true refl refl refl refl refl; names = record { there = f; message = refl; sure = refl }; kind = refl; rested = λ e. cc; after = refl }))
      (of_one u past c.queue _ _ key.number m refl refl refl refl refl f (λ _. record { age = refl; over = λ _. inl l })))

  pub release_chain : (c : Core) (m : Message) → IsStocked c.queue → numbered key.number c.queue.records ≡ Some m → m.release ≡ Some key.at → slice_get u.queues c.queue.site ≡ Some c.queue.settings → AreTraced u past c.queue → IsChain c (release_done key c (released c.queue key.number))
  release_chain c m s f l home traced =
      let n : ℕ = key.number in
      let x : Queue × Option Load = released c.queue n in
      let d : Core = with_queue c x.0 in
      let old : Chain u past key c.queue (came_back key c n x.1).rows x.0 = (one_back key u past c.queue c n m home traced refl refl f l).chain in
      let kept : Keeps c.queue x.0 = chain_keeps u past key (came_back key c n x.1).rows c.queue x.0 old s in
      let after : Told key d (came_back key d n x.1).core = back_told key d n x.1 in
      let last : Returns key u past c.queue x.0 (came_back key d n x.1) = one_back key u past c.queue d n m home traced (sym kept.site) (sym kept.settings) f l in
      record { chain = subst (Chain u past key c.queue (came_back key d n x.1).rows) (sym after.queue) last.chain; actors = after.actors; sent = last.sent }

  -- arrivals
  abbrev IsArrived : Core → Load → (Sent × Bool) × Queue → Type 0
  IsArrived c load x = IsChain c (arrival_done key load c x)

  -- a transfer that arrives by this handling
  pub record IsArriving (c : Core) (o : Outbound) : Type 0 where
    pub fits : FitsSender u past o
    pub sender : o.sender ≡ key.agent
    pub at : o.at ≡ key.at
    pub to : o.to ≡ c.queue.site

  abbrev WaitsAs : Message → Type 0
  WaitsAs m = (delay : ℕ) × Waits key.at delay m

  brings : (c : Core) (o : Outbound) (load : Load) (m : Message) → IsArriving c o → o.load ≡ load → IsMadeBy c.queue key.at load m → IsBrought u past c.queue (arrival_row key c load answers.New (id_of c.queue c.queue.arrivals)) m
  brings c o load m h e w = record { transfer = o; fits = h.fits; sender = h.sender; to = h.to; at = h.at; arrives = refl; made = subst (λ x. IsMadeBy c.queue key.at x m) (sym e) w }

  come_move : (c : Core) (r : Row) (m : Message) (entries : List Entry) → r.key ≡ key → r.queue ≡ c.queue.site → r.message ≡ Some (id_of c.queue c.queue.arrivals) → Asks key c.queue r r.kind → Tells r true false false false false → m.number ≡ c.queue.arrivals → m.receives ≡ 0 → WaitsAs m → origin_in r (Some (id_of c.queue c.queue.arrivals)) ≡ Some m.origin → words.is_send r.kind ≡ false → AreEntered key c.queue entries → Move key c.queue r (with_message (record c.queue { entries = entries }) m)
  come_move c r m entries k s i y t n f l g d o = record { at_key = k; at_site = s; asked = y; does = comes (record { one = m; entries = entries; tells = t; message = i; number = n; fresh = f; delay = l.0; waits = l.1; told = g; sent = λ t. cc; entered = o; after = refl }) }

  -- what a row tells by which a message arrives
  come_behind : (c : Core) (r : Row) (m : Message) (p : Queue) → words.is_change r.kind ≡ false → words.is_send r.kind ≡ false → words.received r ≡ false → words.is_repeat r.answer ≡ false → (is_deleted r.answer || is_expired r.answer) ≡ false → numbered c.queue.arrivals p.records ≡ Some m → IsBrought u past c.queue r m → IsBehind u past c.queue r p
  come_behind c r m p g a b d f i w =
      let none : (words.is_send r.kind && words.comes r) ≡ false = ap (λ x. x && words.comes r) a in
      record {
        given = λ e. absurd (true≢false (sym e ∙ none));
        next = λ e. absurd (true≢false (sym e ∙ b));
        timed = λ e. absurd (true≢false (sym e ∙ b));
        repeats = λ e. absurd (true≢false (sym e ∙ d));
        sends = λ e. absurd (true≢false (sym e ∙ none));
        enters = λ e. absurd (true≢false (sym e ∙ none));
        anew = λ e. absurd (true≢false (sym e ∙ none));
        asks = λ e. absurd (true≢false (sym e ∙ g));
        ends = λ _ e. absurd (true≢false (sym e ∙ f));
        brought = λ _ _ one j. let is : m ≡ one = let found : Some m ≡ Some one = sym i ∙ j in cc in subst (IsBrought u past c.queue r) is w;
      }

  settled_chain : (b : Bool) (c : Core) (load : Load) (m : Message) → IsBrought u past c.queue (arrival_row key c load answers.New (id_of c.queue c.queue.arrivals)) m → m.number ≡ c.queue.arrivals → m.receives ≡ 0 → WaitsAs m → load_origin load (id_of c.queue c.queue.arrivals) ≡ m.origin → (b ≡ true → 0 < c.queue.settings.retention → (load_age load key.at ≡ key.at - m.enqueued) × (m.enqueued + c.queue.settings.retention ≤ key.at)) → IsStocked c.queue → IsArrived c load (settled_when b c.queue m)
  settled_chain false c load m w n f l g d s =
      record { chain = one_move u past key c.queue _ _ (come_move c _ m c.queue.entries refl refl refl tt (tells _ true false false false false refl refl refl refl refl) n f l (ap (λ x. Some x) g) refl (old_entries c.queue)) (come_behind c _ m _ refl refl refl refl refl (pushed_found c.queue.arrivals c.queue.records m n s.given_out) w); actors = refl; sent = All-nil (FitsSender u (past ++ _)) }
  settled_chain true c load m w n f l g d s =
      let q : Queue = c.queue in
      let x : Queue = with_message q m in
      let r : Row = arrival_row key c load answers.New (id_of q q.arrivals) in
      let found : numbered q.arrivals x.records ≡ Some m = pushed_found q.arrivals q.records m n s.given_out in
      let gone : taken_out x q.arrivals ≡ record q { arrivals = q.arrivals + 1 } = ap (λ records. record q { records = records; arrivals = q.arrivals + 1 }) (pushed_out q.arrivals q.records m n s.given_out) in
      record {
        chain = (
          x,
          come_move c r m q.entries refl refl refl tt (tells _ true false false false false refl refl refl refl refl) n f l (ap (λ x. Some x) g) refl (old_entries q),
          come_behind c r m x refl refl refl refl refl found w,
          one_move u (past ++ r ∷ []) key x _ (record q { arrivals = q.arrivals + 1 })
              (record {
                at_key = refl;
                at_site = refl;
                asked = tt;
                does = ends (record { one = m; number = q.arrivals; tells = tells _ false false false false true refl refl refl refl refl; names = record { there = found; message = refl; sure = refl }; kind = refl; rested = λ e. cc; after = gone });
              })
              (of_one u (past ++ r ∷ []) x _ _ q.arrivals m refl refl refl refl refl found
              (λ y. record { age = ap details.Age (d refl y).0; over = λ _. inr ((d refl y).1, (r, last_as words.comes (id_of q q.arrivals) past r true (names_same (id_of q q.arrivals) r refl), refl)) })),
        );
        actors = refl;
        sent = All-nil (FitsSender u (past ++ _));
      }

  module _ (c : Core) (o : Outbound) (id : MessageId) (g : Option (List ℕ)) (b : List ℕ) (e : o.load ≡ Forward id g b) (h : IsArriving c o) (s : IsStocked c.queue) where
    new_come : (m : Message) (entries : List Entry) → m.enqueued ≡ key.at → Waits key.at c.queue.settings.delay m → m.number ≡ c.queue.arrivals → m.receives ≡ 0 → record { site = c.queue.site; number = c.queue.arrivals } ≡ m.origin → AreEntered key c.queue entries → IsArrived c (Forward id g b) ((New (id_of c.queue c.queue.arrivals), false), with_message (record c.queue { entries = entries }) m)
    new_come m entries a w n f i k =
        record { chain = one_move u past key c.queue _ _ (come_move c _ m entries refl refl refl tt (tells _ true false false false false refl refl refl refl refl) n f (c.queue.settings.delay, w) (ap (λ x. Some x) i) refl k) (come_behind c _ m _ refl refl refl refl refl (pushed_found c.queue.arrivals c.queue.records m n s.given_out) (brings c o (Forward id g b) m h e (a, w, sym i))); actors = refl; sent = All-nil (FitsSender u (past ++ _)) }

    unless_come : (body group : List ℕ) (scope : Option (List ℕ)) (text : List ℕ) (x : Option Entry) → is_fifo c.queue.settings.kind ≡ true → living c.queue key.at scope text ≡ x → IsArrived c (Forward id g b) (sent_of c.queue (send_unless c.queue key.at body group scope text x))
    unless_come body group scope text None y f = new_come (new_message c.queue key.at body (Some group) c.queue.settings.delay) (with_entry c.queue key.at scope text).entries refl (waits_at c.queue body (Some group) c.queue.settings.delay) refl refl refl (more_entries c.queue scope text)
    unless_come body group scope text (Some x) y f =
        record {
          chain = one_move u past key c.queue _ _ (record { at_key = refl; at_site = refl; asked = tt; does = stays (named_stays c.queue _ x.number refl (tells _ false false false false false refl refl refl refl refl) (named_by c scope text x s f) (λ h. cc) (λ h. cc)) }) (record { given = λ t. cc; next = λ t. cc; timed = λ t. cc; sends = λ t. cc; enters = λ t. cc; anew = λ t. cc; asks = λ t. cc; repeats = λ t. repeats_by c.queue _ scope text x y f refl refl (λ t. cc); brought = λ t. cc; ends = λ _ t. cc });
          actors = refl;
          sent = All-nil (FitsSender u (past ++ _));
        }

    forwarded_chain : (k : Kind) → c.queue.settings.kind ≡ k → IsArrived c (Forward id g b) (forwarded k c.queue key.at id b g)
    forwarded_chain (Standard hosts sampled) y = new_come (new_message c.queue key.at b None c.queue.settings.delay) c.queue.entries refl (waits_at c.queue b None c.queue.settings.delay) refl refl refl (old_entries c.queue)
    forwarded_chain (Fifo content scope) y =
        let group : List ℕ = forwarded_group g in
        unless_come b group (scope_of scope group) (id_text id) (living c.queue key.at (scope_of scope group) (id_text id)) (ap is_fifo y) refl

  -- the age of a dead letter that is too old
  old_age : (k : Kind) (retention before : ℕ) → nat_le retention (key.at - enqueued_at k key.at before) ≡ true → 0 < retention → (key.at - before ≡ key.at - enqueued_at k key.at before) × (enqueued_at k key.at before + retention ≤ key.at)
  old_age (Standard hosts sampled) retention before t l = let old : retention ≤ key.at - before = leb-true retention (key.at - before) t in (refl, omega (arith, old, l))
  old_age (Fifo content scope) retention before t l = let none : retention ≤ key.at - key.at = leb-true retention (key.at - key.at) t in absurd (omega (arith, none, l))

  pub arrived_chain : (c : Core) (o : Outbound) → IsArriving c o → IsStocked c.queue → IsArrived c o.load (arrived c.queue key.at o.load)
  arrived_chain c o h s = by_load o.load refl
    where
      by_load : (load : Load) → o.load ≡ load → IsArrived c load (arrived c.queue key.at load)
      by_load (Redrive id group origin body enqueued) e =
          let m : Message = brought c.queue key.at origin body group (enqueued_at c.queue.settings.kind key.at enqueued) (Some id.site) in
          settled_chain (is_too_old c.queue key.at m) c (Redrive id group origin body enqueued) m (brings c o (Redrive id group origin body enqueued) m h e refl) refl refl (0, record { place = refl; release = refl }) refl (old_age c.queue.settings.kind c.queue.settings.retention enqueued) s
      by_load (Moves id group origin body) e =
          let m : Message = brought c.queue key.at origin body group key.at None in
          settled_chain (is_too_old c.queue key.at m) c (Moves id group origin body) m (brings c o (Moves id group origin body) m h e refl) refl refl (0, record { place = refl; release = refl }) refl (λ t l. let none : c.queue.settings.retention ≤ key.at - key.at = leb-true c.queue.settings.retention (key.at - key.at) t in absurd (omega (arith, none, l))) s
      by_load (Forward id group body) e = forwarded_chain c o id group body e h s c.queue.settings.kind refl

  -- steps of tasks
  moved_stand : (q : Queue) (m : Message) (ms : List Message) → All (λ x. x.number ≢ m.number) ms → Stand q ms → Stand (taken_out q m.number) ms
  moved_stand q m ms d s = λ i e l. let x : Message = get_or ms i e in other_without m.number x.number q.records (d i e l) ∙ s i e l

  moved_chain :
      (behind : List Row) (to : Option ℕ) (ms : List Message) (q : Queue) (d : Core) (t : Task) → d.queue.site ≡ q.site → Apart ms → Stand q ms → All (λ m. is_visible m ≡ true) ms
      → Chain u behind key q (moves key d t (take_each q to ms).loads).rows (take_each q to ms).queue
  moved_chain behind to [] q d t e a s v = refl
  moved_chain behind to (m ∷ ms) q d t e a s v =
      elim (destination to m) as
      (λ o. Chain u behind key q (moves key d t (elim o as (λ _. Taken) [ None ↦ record { queue = q; loads = []; stuck = true } | Some n ↦ taken_one q m n (take_each (taken_out q m.number) to ms) ]).loads).rows
      (elim o as (λ _. Taken) [ None ↦ record { queue = q; loads = []; stuck = true } | Some n ↦ taken_one q m n (take_each (taken_out q m.number) to ms) ]).queue) [
        | None ↦ refl
        | Some n ↦
            let x : Queue = taken_out q m.number in (
              x,
              record {
                at_key = refl;
                at_site = e;
                asked = tt;
                does =
                    ends
                    (record {
                      one = m;
                      number = m.number;
                      tells = tells _ false false false false true refl refl refl refl refl;
                      names = record { there = All-head (λ y. numbered y.number q.records ≡ Some y) m ms s; message = refl; sure = refl };
                      kind = refl;
                      rested = λ _. All-head (λ y. is_visible y ≡ true) m ms v;
                      after = refl;
                    });
              },
              of_none u behind q _ x (λ e. cc) refl refl refl refl,
              moved_chain (behind ++ _ ∷ []) to ms x d (one_sent t (drawn_latency t.move.settings.latency t.draws).1) e a.1 (moved_stand q m ms a.0 (All-tail (λ y. numbered y.number q.records ≡ Some y) m ms s)) (All-tail (λ y. is_visible y ≡ true) m ms v),
            )
      ]

  end_chain : (behind : List Row) (c : Core) (q : Queue) (t : Task) (rest : Rest) → c.queue.site ≡ q.site → Chain u behind key q (end_row key c t rest) q
  end_chain behind c q t Empty e = one_move u behind key q _ q (record { at_key = refl; at_site = e; asked = tt; does = stays (nameless_stays key q _ refl (tells _ false false false false false refl refl refl refl refl)) }) (of_none u behind q _ q (λ e. cc) refl refl refl refl)
  end_chain behind c q t More e = refl
  end_chain behind c q t NoSource e = one_move u behind key q _ q (record { at_key = refl; at_site = e; asked = tt; does = stays (nameless_stays key q _ refl (tells _ false false false false false refl refl refl refl refl)) }) (of_none u behind q _ q (λ e. cc) refl refl refl refl)

  taken_site : (to : Option ℕ) (ms : List Message) (q : Queue) → (take_each q to ms).queue.site ≡ q.site
  taken_site to [] q = refl
  taken_site to (m ∷ ms) q =
      elim (destination to m) as
      (λ o. (elim o as (λ _. Taken) [ None ↦ record { queue = q; loads = []; stuck = true } | Some n ↦ taken_one q m n (take_each (taken_out q m.number) to ms) ]).queue.site ≡ q.site) [
        | None ↦ refl
        | Some n ↦ taken_site to ms (taken_out q m.number)
      ]

  moves_fit : (rows : List Row) (to : Option ℕ) (ms : List Message) (q : Queue) (d : Core) (t : Task) → length u.queues + length u.actors ≤ t.number → All (λ m. OfGroup u rows m.origin m.group) ms → All (FitsSender u rows) (moves key d t (take_each q to ms).loads).sent
  moves_fit rows to [] q d t h g = All-nil (FitsSender u rows)
  moves_fit rows to (m ∷ ms) q d t h g =
      elim (destination to m) as
      (λ o. All (FitsSender u rows) (moves key d t (elim o as (λ _. Taken) [ None ↦ record { queue = q; loads = []; stuck = true } | Some n ↦ taken_one q m n (take_each (taken_out q m.number) to ms) ]).loads).sent) [
        | None ↦ All-nil (FitsSender u rows)
        | Some n ↦ All-cons (FitsSender u rows) _ _ (h, All-head (λ x. OfGroup u rows x.origin x.group) m ms g) (moves_fit rows to ms (taken_out q m.number) d (one_sent t (drawn_latency t.move.settings.latency t.draws).1) h (All-tail (λ x. OfGroup u rows x.origin x.group) m ms g))
      ]

  moves_task : (c : Core) (t : Task) (loads : List (ℕ × Load)) → (moves key c t loads).task.number ≡ t.number
  moves_task c t [] = refl
  moves_task c t (x ∷ rest) = moves_task c (one_sent t (drawn_latency t.move.settings.latency t.draws).1) rest

  pub stepped_task : (c : Core) (t : Task) → All (λ x. length u.queues + length u.actors ≤ x.number) c.tasks → length u.queues + length u.actors ≤ t.number → All (λ x. length u.queues + length u.actors ≤ x.number) (handle_step key c (Some t)).core.tasks
  stepped_task c t h f =
      let y : (List (ℕ × Load) × Rest) × Queue = take_movable c.queue t.move.settings.per_second t.move.settings.to in
      let m : Moved = moves key (with_queue c y.1) t y.0.0 in
      let x : Task = record m.task { move = task_stepped m.task.move key.at (length y.0.0) y.0.1 } in
      all_changed (is_task x.number) (λ (z : Task). length u.queues + length u.actors ≤ z.number) (λ _. x) (λ _ _. let same : m.task.number ≡ t.number = moves_task (with_queue c y.1) t y.0.0 in omega (arith, f, same)) c.tasks h

  -- a step, but for what becomes of its task
  abbrev pub step_of : Core → Task → Effect
  step_of c t = let e : Effect = handle_step key c (Some t) in record { core = record e.core { tasks = c.tasks }; rows = e.rows; sent = e.sent }

  pub step_chain : (c : Core) (t : Task) → length u.queues + length u.actors ≤ t.number → IsStocked c.queue → AreTraced u past c.queue → IsChain c (step_of c t)
  step_chain c t h s traced =
      let set : ℕ = all_hosts c.queue.settings.kind in
      let most : ℕ = t.move.settings.per_second in
      let to : Option ℕ = t.move.settings.to in
      let ms : List Message = take most (all_available c.queue) in
      let y : (List (ℕ × Load) × Rest) × Queue = take_movable c.queue most to in
      let d : Core = with_queue c y.1 in
      let m : Moved = moves key d t y.0.0 in
      let x : Task = record m.task { move = task_stepped m.task.move key.at (length y.0.0) y.0.1 } in
      let site : y.1.site ≡ c.queue.site = taken_site to ms c.queue in
      let groups : All (λ z. OfGroup u (past ++ (m.rows ++ end_row key d x y.0.1)) z.origin z.group) ms =
      λ i e l.
      let z : Message = get_or ms i e in
      let there : numbered z.number c.queue.records ≡ Some z = first_stand c.queue set most s.ordered i e l in
      group_later u past (m.rows ++ end_row key d x y.0.1) z.origin z.group (traced_of u past c.queue traced z.number z there).group in
      let first : Chain u past key c.queue m.rows y.1 = moved_chain past to ms c.queue d t site (first_apart c.queue set most s.ordered) (first_stand c.queue set most s.ordered) (All-take (λ m. is_visible m ≡ true) most (all_available c.queue) (visible_available c.queue.settings.kind set c.queue.records)) in
      record { chain = chain_append u past key m.rows (end_row key d x y.0.1) c.queue y.1 y.1 first (end_chain (past ++ m.rows) d y.1 x y.0.1 refl); actors = refl; sent = moves_fit (past ++ (m.rows ++ end_row key d x y.0.1)) to ms c.queue d t h groups }

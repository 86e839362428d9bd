-- The rows of a handling are a chain of single moves.
use Rattle.std.specs.Prelude.{All, List, None, Option, Result, Some, [], false, find, ℕ, ◌+◌, ◌++◌, ◌∷◌, ◌≡◌, ◌≤◌, slice_get, length}
use Rattle.std.proofs.Common.{ap, arith, inl, refl, subst, sym, ◌∙◌, true}
use Rattle.sqs_model.specs.Receive.{is_bad_timeout}
use Rattle.sqs_laws.proofs.Terms.{Act, Actor, actor_numbered, ActorSettings, All-append, All-drop, All-nil, All-push, All-weaker, all_changed, all_each, all_without, Answer, append-nil, append_assoc, arrival_done, arrived, CallLaw, Core, DueLaw, each_all, Effect, effect_of, ends_at, Expiry, find_all, find_picked, Forward, give_most, given, Got, handle_expiry, handled_goes, handled_when, has_key, In, in_right, is_actor, is_arrival, is_task, IsDone, IsDueThere, IsFound, IsNameless, IsTold, Key, Load, Message, next, numbered, Outbound, Poll, Queue, receive_row, Redrive, Refusal, Release, release_done, released, Row, says, Scenario, send_made, sends, Sent, Site, Standing, Task, task_numbered, transfer_key, Wake, with_actor, with_poll, with_task}
use Rattle.sqs_model.specs.declared.acts.Act.TheVariants as acts
use Rattle.sqs_model.specs.declared.acts.Answer.TheVariants as told_by
use Rattle.sqs_message.specs.declared.row.RowAnswer.TheVariants as answers
use Rattle.sqs_model.specs.Acts.{act_made}
use Rattle.sqs_model.specs.Step.{handled}
use Rattle.sqs_laws.specs.Laws.{is_actor_of}
use Rattle.sim_clock.proofs.Least.{key_tied}
use Rattle.sqs_model.proofs.Sending.{IsForward, Sends, sends_as}
use Rattle.sqs_model.proofs.Decisions.{forward_of, next_decides}
use Rattle.sqs_laws.proofs.Gives.{AreOfScenario, Fits, HasActed, HasSent, IsAwake, IsNoProducer, MayGive, other_acted, polled_fits, standing, stands, turn_gives, turned_found}
use Rattle.sqs_laws.proofs.Giving.{AreKnown, IsGiven, most_given}
use Rattle.sqs_laws.proofs.Holding.{AsksOwn, HearsOfKnown, IsInformed, ServesKnown, informed_later, known_later, next_acts}
use Rattle.sqs_laws.proofs.Numbers.{AreOver}
use Rattle.sqs_laws.proofs.Polled.{IsPolled, asks_now, change_asked, polled_asks, polled_later, waits_now}
use Rattle.sqs_laws.proofs.Moves.{FitsSender, IsAskedFor, Chain, IsStocked, Keeps, chain_append, chain_keeps, one_move, asks_later, AreTraced, FitsLoad}
use Rattle.sqs_laws.proofs.Rows.{step_of, stepped_task, nameless_none, IsChain, arrived_chain, change_chain, delete_chain, expiry_chain, quiet_move, release_chain, sends_chain, serve_chain, step_chain, IsArriving}
use Rattle.sqs_laws.proofs.Traces.{chain_traces, sent_later}
use Rattle.sqs_model.proofs.ConsumerWakes.{MayForwardBy}
use Rattle.sqs_redrive.specs.declared.transfers.Load.TheVariants.{Move as Moves}
use Rattle.sqs_model.specs.declared.agents.Forwarding.{Forwarding}

-- a site whose queue's messages are in order, whose actors hold only messages of it, and whose polls were asked for
pub record IsInOrder (u : Scenario) (rows : List Row) (c : Core) : Type 0 where
  pub stocked : IsStocked c.queue
  pub numbers : AreOfScenario u c.actors
  pub actors : All (IsInformed c.queue.site c.queue.arrivals) c.actors
  pub polls : All (IsPolled u rows) c.polls
  pub tasks : All (λ t. length u.queues + length u.actors ≤ t.number) c.tasks

pub order_later : (u : Scenario) (rows more : List Row) (c : Core) → IsInOrder u rows c → IsInOrder u (rows ++ more) c
order_later u rows more c h = record { stocked = h.stocked; numbers = h.numbers; actors = h.actors; polls = All-weaker (IsPolled u rows) (IsPolled u (rows ++ more)) (polled_later u rows more) c.polls h.polls; tasks = h.tasks }

-- a forward of an actor of the scenario, which alone acts send
abbrev IsForwardOf : Scenario → Outbound → Type 0
IsForwardOf u o = IsForward o.load × (is_actor_of u o.sender ≡ true)

forward_fits : (u : Scenario) (rows : List Row) (o : Outbound) (load : Load) → IsForward load → is_actor_of u o.sender ≡ true → FitsLoad u rows o load
forward_fits u rows o (Redrive id group origin body enqueued) f a = absurd f
forward_fits u rows o (Moves id group origin body) f a = absurd f
forward_fits u rows o (Forward id group body) f a = a

own_forward : (u : Scenario) (now : ℕ) (a : Actor) (f : Option Forwarding) (o : Outbound) → is_actor_of u a.number ≡ true → MayForwardBy now a f o → IsForwardOf u o
own_forward u now a None o i h = absurd h
own_forward u now a (Some f) o i h = (h.load, ap (is_actor_of u) h.sender ∙ i)

own_forwards : (u : Scenario) (now : ℕ) (a : Actor) (w : Answer) → is_actor_of u a.number ≡ true → Sends (IsForwardOf u) (next a now w).0
own_forwards u now a w i = sends_as (MayForwardBy now a (forward_of a.settings.role)) (IsForwardOf u) (λ o. own_forward u now a (forward_of a.settings.role) o i) (next a now w).0 (next_decides now a w).sends

module _ (u : Scenario) (past : List Row) (key : Key) (start : Queue) (fine : IsStocked start) (home : slice_get u.queues start.site ≡ Some start.settings) (traced : AreTraced u past start) where
  -- a poll that was asked for, and has not ended
  abbrev pub IsOpen : List Row → Poll → Type 0
  IsOpen rows p = IsPolled u rows p × (key.at ≤ p.end)

  open_later : (rows more : List Row) (polls : List Poll) → All (IsOpen (past ++ rows)) polls → All (IsOpen (past ++ (rows ++ more))) polls
  open_later rows more polls h =
      subst (λ r. All (IsOpen r) polls) (append_assoc past rows more)
      (All-weaker (IsOpen (past ++ rows)) (IsOpen ((past ++ rows) ++ more)) (λ p x. (polled_later u (past ++ rows) more p x.0, x.1)) polls h)

  -- after some rows
  pub record At (rows : List Row) (c : Core) : Type 0 where
    pub chain : Chain u past key start rows c.queue
    pub numbers : AreOfScenario u c.actors
    pub actors : All (IsInformed c.queue.site c.queue.arrivals) c.actors
    pub polls : All (IsOpen (past ++ rows)) c.polls
    pub tasks : All (λ t. length u.queues + length u.actors ≤ t.number) c.tasks

  abbrev pub After : List Row → Effect → Type 0
  After rows e = At (rows ++ e.rows) e.core × All (FitsSender u (past ++ (rows ++ e.rows))) e.sent

  none_sent : (rows : List Row) → All (FitsSender u (past ++ rows)) []
  none_sent rows = All-nil (FitsSender u (past ++ rows))

  kept : (rows : List Row) (c : Core) → At rows c → Keeps start c.queue
  kept rows c h = chain_keeps u past key rows start c.queue h.chain fine

  here : (rows : List Row) (c : Core) → At rows c → slice_get u.queues c.queue.site ≡ Some c.queue.settings
  here rows c h = ap (λ n. slice_get u.queues n) (sym (kept rows c h).site) ∙ home ∙ ap (λ y. Some y) (kept rows c h).settings

  traces : (rows : List Row) (c : Core) → At rows c → AreTraced u (past ++ rows) c.queue
  traces rows c h = chain_traces u past key rows start c.queue home fine h.chain traced

  stocked : (rows : List Row) (c : Core) → At rows c → IsStocked c.queue
  stocked rows c h = (kept rows c h).stocked

  -- a task that starts or is cancelled
  with_one : (rows : List Row) (c : Core) (n : ℕ) (t x : Task) → task_numbered n c ≡ Some t → x.number ≡ t.number → At rows c → At rows (with_task c x)
  with_one rows c n t x e f h =
      let own : length u.queues + length u.actors ≤ t.number = find_all (is_task n) (λ y. length u.queues + length u.actors ≤ y.number) c.tasks t h.tasks e in
      record { chain = h.chain; numbers = h.numbers; actors = h.actors; polls = h.polls; tasks = all_changed (is_task x.number) (λ y. length u.queues + length u.actors ≤ y.number) (λ _. x) (λ _ _. omega (arith, f, own)) c.tasks h.tasks }

  -- what actors hold, of a queue that follows another
  informed : (c : Core) (q : Queue) (actors : List Actor) → Keeps c.queue q → actors ≡ c.actors → All (IsInformed c.queue.site c.queue.arrivals) c.actors → All (IsInformed q.site q.arrivals) actors
  informed c q actors k e h =
      let later : All (IsInformed c.queue.site q.arrivals) c.actors = All-weaker (IsInformed c.queue.site c.queue.arrivals) (IsInformed c.queue.site q.arrivals) (informed_later c.queue.site c.queue.arrivals q.arrivals k.arrivals) c.actors h in
      subst (λ others. All (IsInformed q.site q.arrivals) others) (sym e) (subst (λ s. All (IsInformed s q.arrivals) c.actors) k.site later)

  extends : (rows : List Row) (c : Core) (e : Effect) → At rows c → IsChain u (past ++ rows) key c e → After rows e
  extends rows c e h i = (
    record {
      chain = chain_append u past key rows e.rows start c.queue e.core.queue h.chain i.chain;
      numbers = subst (AreOfScenario u) (sym (ap (λ x. x.0) i.actors)) h.numbers;
      actors = informed c e.core.queue e.core.actors (chain_keeps u (past ++ rows) key e.rows c.queue e.core.queue i.chain (stocked rows c h)) (ap (λ x. x.0) i.actors) h.actors;
      polls = subst (All (IsOpen (past ++ (rows ++ e.rows)))) (sym (ap (λ x. x.1) i.actors)) (open_later rows e.rows c.polls h.polls);
      tasks = subst (All (λ t. length u.queues + length u.actors ≤ t.number)) (sym (ap (λ x. x.2) i.actors)) h.tasks;
    },
    subst (λ r. All (FitsSender u r) e.sent) (append_assoc past rows e.rows) i.sent,
  )

  -- what two effects send, one after the other
  both_sent : (rows : List Row) (e f : Effect) → All (FitsSender u (past ++ (rows ++ e.rows))) e.sent → All (FitsSender u (past ++ ((rows ++ e.rows) ++ f.rows))) f.sent → All (FitsSender u (past ++ (rows ++ (e.rows ++ f.rows)))) (e.sent ++ f.sent)
  both_sent rows e f g h =
      let whole : List Row = past ++ (rows ++ (e.rows ++ f.rows)) in
      let same : past ++ ((rows ++ e.rows) ++ f.rows) ≡ whole = ap (λ r. past ++ r) (append_assoc rows e.rows f.rows) in
      let more : All (FitsSender u ((past ++ (rows ++ e.rows)) ++ f.rows)) e.sent = sent_later u (past ++ (rows ++ e.rows)) f.rows e.sent g in
      All-append (FitsSender u whole) e.sent f.sent (subst (λ r. All (FitsSender u r) e.sent) (append_assoc past (rows ++ e.rows) f.rows ∙ same) more) (subst (λ r. All (FitsSender u r) f.sent) same h)

  at_rows : (rows more : List Row) (c : Core) → rows ≡ more → At rows c → At more c
  at_rows rows more c e h = subst (λ r. At r c) e h

  quietly : (rows : List Row) (c d : Core) (r : Row) → IsNameless key c r → At rows c → At rows d → After rows (says d r)
  quietly rows c d r i h k = (
    record {
      chain = chain_append u past key rows (r ∷ []) start d.queue d.queue k.chain (one_move u (past ++ rows) key d.queue r d.queue (quiet_move key c d.queue r (sym (kept rows c h).site ∙ (kept rows d k).site) i) (nameless_none u (past ++ rows) d.queue r i));
      numbers = k.numbers;
      actors = k.actors;
      polls = open_later rows (r ∷ []) d.polls k.polls;
      tasks = k.tasks;
    },
    none_sent (rows ++ r ∷ []),
  )

  abbrev pub Hears : Core → List Got → Type 0
  Hears c gots = AreKnown c.queue.site c.queue.arrivals gots

  later_heard : (c : Core) (q : Queue) (gots : List Got) → Keeps c.queue q → AreKnown c.queue.site c.queue.arrivals gots → AreKnown q.site q.arrivals gots
  later_heard c q gots k h = subst (λ s. AreKnown s q.arrivals gots) k.site (known_later c.queue.site c.queue.arrivals q.arrivals k.arrivals gots h)

  -- who asks for what is received
  abbrev pub AsksAfter : List Row → ℕ → Option ℕ → Type 0
  AsksAfter rows agent timeout = IsAskedFor u (past ++ rows) agent key.at timeout

  givingly : (rows : List Row) (c : Core) (agent max : ℕ) (timeout : Option ℕ) (set : ℕ) → AsksAfter rows agent timeout → At rows c
      → After rows (given key c agent timeout (give_most c.queue key.at max timeout set)) × Hears (given key c agent timeout (give_most c.queue key.at max timeout set)).core (give_most c.queue key.at max timeout set).1
  givingly rows c agent max timeout set a h =
      let x : Queue × List Got = give_most c.queue key.at max timeout set in
      let e : Effect = given key c agent timeout x in
      let behind : List Row = past ++ rows in
      let g : IsGiven u behind key c agent timeout a (here rows c h) (traces rows c h) x = most_given u behind key c agent timeout a (here rows c h) (traces rows c h) max set (stocked rows c h) in (
        extends rows c e h (record { chain = g.chain; actors = g.actors; sent = g.sent }),
        later_heard c e.core.queue x.1 (chain_keeps u behind key e.rows c.queue e.core.queue g.chain (stocked rows c h)) g.known,
      )

  -- what holds of an actor after its turn
  abbrev pub Stands : Queue → List Actor → Actor → Type 0
  Stands q actors a = IsInformed q.site q.arrivals a × Fits u a × (find (is_actor a.number) actors ≡ Some a)

  told_known : (c : Core) (n : ℕ) (w : Answer) → IsTold Hears (IsAwake key) (HasActed u key) c n w → HearsOfKnown c.queue.site c.queue.arrivals w
  told_known c n (told_by.Got gots) h = h
  told_known c n w h = tt

  told_awake : (c : Core) (n : ℕ) (a : Actor) (w : Answer) → actor_numbered n c ≡ Some a → IsTold Hears (IsAwake key) (HasActed u key) c n w → (st : Standing) → w ≡ told_by.Wake st → a.wake ≡ Some key.at
  told_awake c n a (told_by.Wake s) e h st f = h a e
  told_awake c n a w e h st f = cc

  told_acted : (c : Core) (n : ℕ) (a : Actor) (w : Answer) → actor_numbered n c ≡ Some a → IsTold Hears (IsAwake key) (HasActed u key) c n w → w ≡ told_by.Other → HasSent u.seed a.settings.role key.at a
  told_acted c n a told_by.Other e h f = h a e
  told_acted c n a w e h f = cc

  -- what an act may be: it serves a message that is known, and gives the group that is told
  abbrev pub Allows : Core → Actor → Act → Type 0
  Allows c a x = ServesKnown c.queue.site c.queue.arrivals (AsksOwn a.settings.role) x × MayGive u key.at a x × Sends (IsForwardOf u) x

  turning : (rows : List Row) (n : ℕ) (c : Core) (a : Actor) (w : Answer) → actor_numbered n c ≡ Some a → IsTold Hears (IsAwake key) (HasActed u key) c n w → At rows c
      → At rows (with_actor c (next a key.at w).1) × Stands c.queue (with_actor c (next a key.at w).1).actors (next a key.at w).1 × Allows (with_actor c (next a key.at w).1) (next a key.at w).1 (next a key.at w).0
  turning rows n c a w e t h =
      let one = find_all (is_actor n) (IsInformed c.queue.site c.queue.arrivals) c.actors a h.actors e in
      let x = next_acts c.queue.site c.queue.arrivals key.at a w one (told_known c n w t) in
      let b : Actor = (next a key.at w).1 in
      let f : Fits u b = standing u c.actors key n a w e h.numbers (told_acted c n a w e t) in (
        record { chain = h.chain; numbers = stands u c.actors b f h.numbers; actors = all_changed (is_actor b.number) (IsInformed c.queue.site c.queue.arrivals) (λ _. b) (λ _ _. x.informed) c.actors h.actors; polls = h.polls; tasks = h.tasks },
        (x.informed, f, turned_found u c.actors key n a w e),
        (subst (λ (y : ActorSettings). ServesKnown c.queue.site c.queue.arrivals (AsksOwn y.role) (next a key.at w).0) (sym (next_decides key.at a w).settings) x.serves, turn_gives u c.actors key n a w e h.numbers f (told_awake c n a w e t), own_forwards u key.at a w (find_all (is_actor n) (Fits u) c.actors a h.numbers.fit e).inside),
      )

  polling : (rows : List Row) (a : Actor) (c : Core) (max wait : ℕ) (timeout : Option ℕ) → is_bad_timeout timeout ≡ false → Stands c.queue c.actors a → Allows c a (acts.Receive max wait timeout) → (w : Row) → In (past ++ rows) w → w.key.at ≡ key.at → At rows c → At rows (with_poll key a c max wait timeout)
  polling rows a c max wait timeout t (i, f, e) m w n o h =
      let b : Actor = record a { polls = a.polls + 1 } in
      let j : IsInformed c.queue.site c.queue.arrivals b = record { held = i.held; done = i.done; failed = i.failed } in
      record { chain = h.chain; numbers = stands u c.actors b (polled_fits u a (a.polls + 1) f) h.numbers; actors = all_changed (is_actor b.number) (IsInformed c.queue.site c.queue.arrivals) (λ _. b) (λ _ _. j) c.actors h.actors; polls = All-push (IsOpen (past ++ rows)) c.polls _ h.polls (waits_now u (past ++ rows) key.at max wait _ a.settings f.settings m.0 m.1.1 t w n o refl, omega arith); tasks = h.tasks }

  -- an actor that has acted
  sent_leaves : (a : Actor) (c : Core) (body : List ℕ) (x : Result Sent Refusal × Queue) → (send_made key a c body x).effect.core.actors ≡ c.actors
  sent_leaves a c body (x, q) = refl

  others_act : (a : Actor) (c : Core) (x : Act) → Fits u a → IsNoProducer a.settings.role → AreOfScenario u (act_made key a c x).effect.core.actors → HasActed u key (act_made key a c x).effect.core a.number
  others_act a c x f i h = other_acted u key a (act_made key a c x).effect.core f i h

  acting : (a : Actor) (c : Core) (x : Act) → IsDone x → Fits u a → find (is_actor a.number) c.actors ≡ Some a → MayGive u key.at a x → AreOfScenario u (act_made key a c x).effect.core.actors → HasActed u key (act_made key a c x).effect.core a.number
  unfolding act_made
  acting a c (acts.Send body delay group id) i f e m n =
      λ b y.
      let found : find (is_actor a.number) c.actors ≡ Some b = ap (λ l. find (is_actor a.number) l) (sym (sent_leaves a c body (sends c.queue.settings.kind c.queue key.at body delay group id))) ∙ y in
      let is : a ≡ b = let both : Some a ≡ Some b = sym e ∙ found in cc in
      subst (λ (z : Actor). HasSent u.seed z.settings.role key.at z) is m.1
  acting a c (acts.Receive max wait timeout) i f e m n = others_act a c (acts.Receive max wait timeout) f m.0 n
  acting a c (acts.Delete text) i f e m n = others_act a c (acts.Delete text) f m n
  acting a c (acts.Change text timeout) i f e m n = others_act a c (acts.Change text timeout) f m.0 n
  acting a c (acts.Prolong text timeout) i f e m n = others_act a c (acts.Prolong text timeout) f m.0 n
  acting a c (acts.Start task) i f e m n = others_act a c (acts.Start task) f m n
  acting a c (acts.Cancel task) i f e m n = others_act a c (acts.Cancel task) f m n
  acting a c (acts.Serve id receipt failed forward) i f e m n = others_act a c (acts.Serve id receipt failed forward) f m n
  acting a c (acts.Scale from to) i f e m n = others_act a c (acts.Scale from to) f m n
  acting a c acts.Nothing i f e m n = absurd i

  -- the law by calls
  abbrev chains : CallLaw key
  chains =
      record {
        Past = List Row;
        At = At;
        Goes = After;
        after = λ rows e. rows ++ e.rows;
        done = λ rows e g. g.0;
        joins = λ rows e f g h. (at_rows ((rows ++ e.rows) ++ (f e.core).rows) (rows ++ (e.rows ++ (f e.core).rows)) (f e.core).core (append_assoc rows e.rows (f e.core).rows) h.0, both_sent rows e (f e.core) g.1 h.1);
        nothing = λ rows c h. (at_rows rows (rows ++ []) c (sym (append-nil rows)) h, none_sent (rows ++ []));
        quiet = quietly;
        Hears = Hears;
        hears_none = λ c. tt;
        Woken = IsAwake key;
        Acted = HasActed u key;
        Asks = AsksAfter;
        later = λ rows e agent timeout a. subst (λ r. IsAskedFor u r agent key.at timeout) (append_assoc past rows e.rows) (asks_later u (past ++ rows) e.rows agent key.at timeout a);
        Fine = λ timeout. is_bad_timeout timeout ≡ false;
        fine = λ timeout b. b;
        asked = λ rows a c max wait timeout b s m h. asks_now u (past ++ rows) a.number key.at max wait timeout a.settings s.1.settings m.0 m.1.1 b;
        waiting = λ rows c h. each_all (λ p. AsksAfter rows p.actor p.timeout) c.polls (All-weaker (IsOpen (past ++ rows)) (λ p. AsksAfter rows p.actor p.timeout) (λ p x. polled_asks u (past ++ rows) key.at p x.1 x.0) c.polls h.polls);
        gives = givingly;
        changes = λ rows a c x text timeout i m h. extends rows c _ h (change_chain u (past ++ rows) key a c text timeout (change_asked u key.at c.queue.site c.queue.arrivals a c.queue x text timeout i m.0 m.1) (stocked rows c h) (here rows c h) (traces rows c h));
        deletes = λ rows a c text h. extends rows c _ h (delete_chain u (past ++ rows) key a c text (stocked rows c h));
        sends = λ rows a c body delay group id m h. extends rows c _ h (sends_chain u (past ++ rows) key a c (record { body = body; delay = delay; group = group; id = id }) m.1.0 (stocked rows c h) c.queue.settings.kind refl);
        draws = λ rows c hosts h. record { chain = h.chain; numbers = h.numbers; actors = h.actors; polls = h.polls; tasks = h.tasks };
        starts = λ rows c n t e h. with_one rows c n t _ e refl h;
        cancels = λ rows c n t e h. with_one rows c n t _ e refl h;
        Stands = Stands;
        May = Allows;
        turns = turning;
        acted = λ rows a c x i s m h g. acting a c x i s.1 s.2 m.1 g.0.numbers;
        polls = λ rows a c max wait timeout e b s m i h.
            let row : Row = receive_row key c a.number answers.Wait in
            let within : In (past ++ (rows ++ row ∷ [])) row = in_right past (rows ++ row ∷ []) row (in_right rows (row ∷ []) row (inl refl)) in
            (polling (rows ++ row ∷ []) a c max wait timeout b s m row within refl (quietly rows c c row i h h).0, none_sent (rows ++ row ∷ []));
        serves = λ rows a c id r failed o m h. extends rows c _ h (serve_chain u (past ++ rows) key a c id r failed o m.0.0 m.0.1 (all_each (IsForwardOf u) (λ x. (behind : List Row) → FitsSender u behind x) (λ x y behind. forward_fits u behind x x.load y.0 y.1) o m.2));
      }

  expires_by : (rows : List Row) (c : Core) (o : Option Message) → numbered key.number c.queue.records ≡ o → IsFound o → AreOver Expiry key c → At rows c → After rows (handle_expiry key c)
  expires_by rows c None f t l h = absurd t
  expires_by rows c (Some m) f t l h = extends rows c (handle_expiry key c) h (expiry_chain u (past ++ rows) key c m f ((l m f).retention refl))

  releases_by : (rows : List Row) (c : Core) (o : Option Message) → numbered key.number c.queue.records ≡ o → IsFound o → AreOver Release key c → At rows c → After rows (release_done key c (released c.queue key.number))
  releases_by rows c None f t l h = absurd t
  releases_by rows c (Some m) f t l h = extends rows c (release_done key c (released c.queue key.number)) h (release_chain u (past ++ rows) key c m (stocked rows c h) f ((l m f).release refl) (here rows c h) (traces rows c h))

  abbrev due : DueLaw key chains
  due =
      record {
        IsDue = λ k c. IsDueThere key k c × AreOver k key c × (k ≡ Wake → IsAwake key c key.agent);
        woken = λ c d. d.2 refl;
        answers = λ rows c h. record { chain = h.chain; numbers = h.numbers; actors = h.actors; polls = All-drop (IsOpen (past ++ rows)) 1 c.polls h.polls; tasks = h.tasks };
        ends = λ rows c h. record { chain = h.chain; numbers = h.numbers; actors = h.actors; polls = all_without (ends_at key) (IsOpen (past ++ rows)) c.polls h.polls; tasks = h.tasks };
        expires = λ rows c d h. expires_by rows c (numbered key.number c.queue.records) refl d.0 d.1 h;
        releases = λ rows c d h. releases_by rows c (numbered key.number c.queue.records) refl d.0 d.1 h;
        Comes = λ rows o c. At rows c × ((x : Outbound) → o ≡ Some x → IsArriving u (past ++ rows) key c x);
        absent = λ rows c h. h.0;
        arrives = λ rows o c h. extends rows c (arrival_done key o.load c (arrived c.queue key.at o.load)) h.0 (arrived_chain u (past ++ rows) key c o (h.1 o refl) (stocked rows c h.0));
        samples = λ rows c h. record { chain = h.chain; numbers = h.numbers; actors = h.actors; polls = h.polls; tasks = h.tasks };
        steps = λ rows c t e h.
            let own : length u.queues + length u.actors ≤ t.number = find_all (is_task key.agent) (λ x. length u.queues + length u.actors ≤ x.number) c.tasks t h.tasks e in
            let x = extends rows c (step_of u (past ++ rows) key c t) h (step_chain u (past ++ rows) key c t own (stocked rows c h) (traces rows c h)) in
            (record { chain = x.0.chain; numbers = x.0.numbers; actors = x.0.actors; polls = x.0.polls; tasks = stepped_task u (past ++ rows) key c t h.tasks own }, x.1);
      }

-- the rows of a handling at a site in order are a chain, which leaves it in order
pub record IsMoved (u : Scenario) (past : List Row) (key : Key) (c : Core) (rows : List Row) (d : Core) (out : List Outbound) : Type 0 where
  pub chain : Chain u past key c.queue rows d.queue
  pub order : IsInOrder u (past ++ rows) d
  pub sent : All (FitsSender u (past ++ rows)) out

-- transfers on their way to a queue
abbrev pub AreComing : Scenario → List Row → Site → Type 0
AreComing u rows s = All (λ o. FitsSender u rows o × (o.to ≡ s.core.queue.site)) s.arriving

pub handled_moves : (u : Scenario) (past : List Row) (key : Key) (s : Site) → IsInOrder u past s.core → slice_get u.queues s.core.queue.site ≡ Some s.core.queue.settings → AreTraced u past s.core.queue → AreComing u past s → All (λ p. key.at ≤ p.end) s.core.polls → (is_arrival key.class ≡ false → IsDueThere key key.class s.core) → AreOver key.class key s.core → (key.class ≡ Wake → IsAwake key s.core key.agent) → IsMoved u past key s.core (handled key s).rows (handled key s).site.core (handled key s).sent
handled_moves u past key s i home traced fits n d l w =
    let start : At u past key s.core.queue i.stocked home traced [] s.core = record { chain = refl; numbers = i.numbers; actors = i.actors; polls = subst (λ r. All (IsOpen u past key s.core.queue i.stocked home traced r) s.core.polls) (sym (append-nil past)) (λ j e k. (i.polls j e k, n j e k)); tasks = i.tasks } in
    let came : (x : Outbound) → find (has_key key) s.arriving ≡ Some x → IsArriving u (past ++ []) key s.core x =
    λ x e.
    let f = find_all (has_key key) (λ o. FitsSender u past o × (o.to ≡ s.core.queue.site)) s.arriving x fits e in
    let tied : key ≡ transfer_key x = key_tied key (transfer_key x) (find_picked (has_key key) s.arriving x e) in
    record { fits = subst (λ r. FitsSender u r x) (sym (append-nil past)) f.0; to = f.1; sender = ap (λ (y : Key). y.agent) (sym tied); at = ap (λ (y : Key). y.at) (sym tied) } in
    let g : After u past key s.core.queue i.stocked home traced [] (effect_of (handled key s)) = handled_goes key (chains u past key s.core.queue i.stocked home traced) (due u past key s.core.queue i.stocked home traced) [] s (λ e. ((d e, l, w), start)) (λ _. (start, came)) in
    let h : At u past key s.core.queue i.stocked home traced (handled key s).rows (handled key s).site.core = g.0 in
    record { chain = h.chain; sent = g.1; order = record { stocked = stocked u past key s.core.queue i.stocked home traced (handled key s).rows (handled key s).site.core h; numbers = h.numbers; actors = h.actors; polls = All-weaker (IsOpen u past key s.core.queue i.stocked home traced (past ++ (handled key s).rows)) (IsPolled u (past ++ (handled key s).rows)) (λ p x. x.0) (handled key s).site.core.polls h.polls; tasks = h.tasks } }

-- what is on its way after it
pub arriving_fits : (P : Outbound → Type 0) (key : Key) (s : Site) → All P s.arriving → All P (handled key s).site.arriving
unfolding handled
arriving_fits P key s h = elim (is_arrival key.class) as (λ b. All P (handled_when b key s).site.arriving) [ true ↦ all_without (has_key key) P s.arriving h | false ↦ h ]

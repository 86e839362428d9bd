-- Where an act, a poll or a step is refused because of a count, its effect takes that count past the limit.
use Rattle.std.specs.Prelude.{Any, Bool, Err, IsOk, List, Option, Result, Some, [], length, map, max, min, nat_le, slice_index_or, suc, take, zero, ℕ, ◌&&◌, ◌+◌, ◌<◌, ◌==◌, ◌∷◌, ◌≡◌, ◌≤◌}
use Rattle.std.specs.Prelude.{if◌then◌else◌}
use Rattle.std.proofs.Common.{ap, arith, drop, drop-cons, false, get_or, refl, subst, sym, true, ◌∙◌}
use Rattle.std.proofs.Math.Nat.{le-max_left, le-max_right, max-le}
use Rattle.std.proofs.lemmas.Bool.{false≢true}
use Rattle.std.proofs.lemmas.Bool.Decides.{nat_tests}
use Rattle.sim_clock.specs.declared.key.Key.{Key}
use Rattle.sim_clock.specs.declared.refusal.Refusal.{Refusal}
use Rattle.sim_clock.specs.declared.refusal.Refusal.TheVariants as refusals
use Rattle.sqs_message.specs.declared.message.Message.{Message}
use Rattle.sqs_redrive.specs.declared.answers.Got.{Got}
use Rattle.sqs_redrive.specs.declared.transfers.Load.{Load}
use Rattle.sqs_redrive.specs.declared.transfers.Outbound.{Outbound}
use Rattle.sqs_message.specs.declared.ids.MessageId.{MessageId}
use Rattle.sqs_model.specs.Actor.{Actor}
use Rattle.sqs_model.specs.Acts.{all_came_back, came_back, forward_made, forwards_made, given, hosts_from, got_row, receive_made, receive_none, receive_some, short_poll}
use Rattle.sqs_model.specs.Answers.{most_count}
use Rattle.sqs_model.specs.Available.{available}
use Rattle.sqs_model.specs.Draw.{Draws, drawn_latency}
use Rattle.sqs_model.specs.Limits.{PassesCount, rows_count}
use Rattle.sqs_model.specs.Counts.{actor_count, greatest, site_count, task_count}
use Rattle.sqs_model.specs.Queue.{Queue, in_flight, room}
use Rattle.sqs_model.specs.Receive.{answered, give, give_after, give_most, given_one, is_bad_timeout, receive, timeout_of}
use Rattle.sqs_model.specs.Site.{Core, Effect, actor_numbered, and_then, is_task, task_numbered, with_actor, with_queue, with_task}
use Rattle.sqs_model.specs.Step.{moves, one_sent, step_moved}
use Rattle.sqs_model.specs.Task.{Task}
use Rattle.sqs_redrive.specs.MoveTasks.{MoveTask}
use Rattle.sqs_redrive.specs.declared.answers.Rest.{Rest}
use Rattle.sqs_model.proofs.Counts.{find_picked}
use Rattle.sqs_model.proofs.Kept.{give_up}
use Rattle.sqs_model.proofs.Branches.{either}
use Rattle.sqs_model.proofs.Growth.{Grows, MayStand, all_back_up, moves_up, same, some_up}
use Rattle.sqs_model.specs.Receive.{to_give}
use Rattle.sim_site.specs.Steps.{stepped_moves}
use Rattle.sim_site.proofs.Rewriting.{is_its_number}
use Rattle.sim_site.proofs.Passing.{actor_passes, passes_before, passes_site, rows_pass, site_passes, task_passes, words_within}

-- a receive that waits for one more poll
pub polls_pass :
    (key : Key) (c : Core) (n max wait : ℕ) (timeout : Option ℕ) (a : Actor) → a.number ≡ n → actor_numbered n c ≡ Some a → ¬ (wait ≡ 0) → a.polls ≡ most_count
    → PassesCount (receive_none key a c max wait timeout).effect
polls_pass key c n max wait timeout a e f long full =
    let z : (wait == 0) ≡ false = grind (arith, nat_tests) in
    let b : Actor = record a { polls = a.polls + 1 } in
    let found : actor_numbered b.number c ≡ Some a = subst (λ i. actor_numbered i c ≡ Some a) (sym e) f in
    let l : b.polls ≤ greatest (b.polls ∷ b.sent ∷ b.draws.taken ∷ []) = le-max_left _ _ in
    let m : greatest (b.polls ∷ b.sent ∷ b.draws.taken ∷ []) ≤ actor_count b = le-max_right _ _ in
    let p : most_count < actor_count b = omega (arith, l, m, full) in
    let q : most_count < site_count (with_actor c b) = actor_passes c a b found p in
    rw z (site_passes (receive_none key a c max 1 timeout).effect (site_count (with_actor c b)) q (omega arith))

-- how often each that was given was received
abbrev pub counts_of : List Got → ℕ
counts_of gots = greatest (map (λ (g : Got). g.receipt.count) gots)

rows_tell : (key : Key) (c : Core) (n : ℕ) (gots : List Got) → rows_count (map (got_row key c n) gots) ≡ counts_of gots
rows_tell key c n [] = refl
rows_tell key c n (g ∷ gs) = ap (max g.receipt.count) (rows_tell key c n gs)

pub given_passes : (key : Key) (c : Core) (n : ℕ) (timeout : Option ℕ) (q : Queue) (gots : List Got) → most_count < counts_of gots → PassesCount (given key c n timeout (q, gots))
given_passes key c n timeout q gots p =
    let e : Effect = record { core = with_queue c q; rows = map (got_row key c n) gots; sent = [] } in
    let first : PassesCount e = rows_pass e (omega (arith, p, rows_tell key c n gots)) in
    either PassesCount (timeout_of q timeout == 0) (and_then e (all_came_back key gots)) e
    (passes_before e (all_came_back key gots) (all_back_up e.core key gots e.core (same e.core)) first) first

-- a message that was received as often as may be counted is received once more
after_counts : (others : Queue → Queue × List Got) (m : Message) (x : Queue × Option Load) → counts_of (give_after others m x).1 ≡ max (m.receives + 1) (counts_of (others x.0).1)
after_counts others m (q, left) = refl

gives_past :
    (now timeout : ℕ) (k : ℕ) (x : Message) (ms : List Message) (q : Queue) → k < length ms → slice_index_or ms k x ≡ x → x.receives ≡ most_count
    → most_count < counts_of (give now timeout ms q).1
gives_past now timeout k x [] q l e h = absurd (omega (arith, l))
gives_past now timeout zero x (m ∷ ms) q l e h =
    let is : m ≡ x = e in
    let full : m.receives ≡ most_count = ap (λ (y : Message). y.receives) is ∙ h in
    let c = after_counts (give now timeout ms) m (given_one q now timeout m) in
    let up = le-max_left (m.receives + 1) (counts_of (give now timeout ms (given_one q now timeout m).0).1) in
    omega (arith, c, up, full)
gives_past now timeout (suc k) x (m ∷ ms) q l e h =
    let c = after_counts (give now timeout ms) m (given_one q now timeout m) in
    let up = le-max_right (m.receives + 1) (counts_of (give now timeout ms (given_one q now timeout m).0).1) in
    let more = gives_past now timeout k x ms (given_one q now timeout m).0 (omega (arith, l)) e h in
    omega (arith, c, up, more)

pub most_past :
    (q : Queue) (now max : ℕ) (timeout : Option ℕ) (set : ℕ) → Any (λ m. m.receives ≡ most_count) (to_give q max set) → most_count < counts_of (give_most q now max timeout set).1
most_past q now max timeout set (k, x, l, e, h) = gives_past now (timeout_of q timeout) k x (to_give q max set) q l e h

-- a receive that is not refused
ok_else : (b : Bool) (q : Queue) (e : Refusal) (x : Result (List Got) Refusal × Queue) → IsOk (if b then (Err e, q) else x).0 → (if b then (Err e, q) else x) ≡ x
ok_else true q e x h = absurd (false≢true h)
ok_else false q e x h = refl

pub receive_answered :
    (q : Queue) (now max : ℕ) (timeout : Option ℕ) (set : ℕ) (short : Bool) → IsOk (receive q now max timeout set short).0
    → receive q now max timeout set short ≡ answered (give_most q now max timeout set)
receive_answered q now max timeout set short h =
    let inner : Result (List Got) Refusal × Queue = if short && nat_le q.settings.in_flight_limit (in_flight q) then (Err refusals.OverLimit, q) else answered (give_most q now max timeout set) in
    let a : receive q now max timeout set short ≡ inner = ok_else (is_bad_timeout timeout) q refusals.BadTimeout inner h in
    let k : IsOk inner.0 = subst (λ (x : Result (List Got) Refusal × Queue). IsOk x.0) a h in
    a ∙ ok_else (short && nat_le q.settings.in_flight_limit (in_flight q)) q refusals.OverLimit (answered (give_most q now max timeout set)) k

some_passes : (key : Key) (a : Actor) (c : Core) (max wait : ℕ) (timeout : Option ℕ) (q : Queue) (gots : List Got) → most_count < counts_of gots → PassesCount (receive_some key a c max wait timeout q gots).effect
some_passes key a c max wait timeout q [] p = absurd (omega (arith, p))
some_passes key a c max wait timeout q (g ∷ gs) p = given_passes key c a.number timeout q (g ∷ gs) p

answered_passes :
    (key : Key) (a : Actor) (c drawn : Core) (max wait : ℕ) (timeout : Option ℕ) (x : Queue × List Got) → most_count < counts_of x.1
    → PassesCount (receive_made key a c drawn max wait timeout (answered x)).effect
answered_passes key a c drawn max wait timeout (q, gots) p = some_passes key a drawn max wait timeout q gots p

-- a receive of one that can be received no more
pub receive_passes :
    (key : Key) (a : Actor) (c drawn : Core) (max wait : ℕ) (timeout : Option ℕ) (set : ℕ) (short : Bool)
    → Any (λ m. m.receives ≡ most_count) (to_give c.queue max set) × IsOk (receive c.queue key.at max timeout set short).0
    → PassesCount (receive_made key a c drawn max wait timeout (receive c.queue key.at max timeout set short)).effect
receive_passes key a c drawn max wait timeout set short (any, ok) =
    let e = receive_answered c.queue key.at max timeout set short ok in
    subst (λ x. PassesCount (receive_made key a c drawn max wait timeout x).effect) (sym e)
    (answered_passes key a c drawn max wait timeout (give_most c.queue key.at max timeout set) (most_past c.queue key.at max timeout set any))

-- a short poll whose first host takes a word past the limit
pub words_pass :
    (key : Key) (c : Core) (n max : ℕ) (timeout : Option ℕ) (hosts sampled start : ℕ) (draws : Draws) (a : Actor) → a.number ≡ n → actor_numbered n c ≡ Some a
    → receive c.queue key.at max timeout (hosts_from hosts sampled start) true ≡ answered (give_most c.queue key.at max timeout (hosts_from hosts sampled start))
    → most_count < draws.taken → PassesCount (short_poll key a c max timeout hosts sampled (start, draws)).effect
words_pass key c n max timeout hosts sampled start draws a e f allowed p =
    let d : Core = record c { draws = draws } in
    let set : ℕ = hosts_from hosts sampled start in
    let x : Queue × List Got = give_most c.queue key.at max timeout set in
    let kept : c.queue.arrivals ≤ x.0.arrivals = give_up c.queue.arrivals key.at (timeout_of c.queue timeout) (take (min max (room c.queue)) (available c.queue set)) c.queue (omega arith) in
    let stand : MayStand d a = λ y k. let found : Some y ≡ Some a = sym k ∙ ap (λ i. actor_numbered i c) e ∙ f in let is : y ≡ a = cc in rw is (omega arith) in
    let up : Grows d (receive_some key a d max 0 timeout x.0 x.1).effect.core = some_up d key a d max 0 timeout x.0 x.1 stand (same d) kept in
    subst (λ y. PassesCount (receive_made key a c d max 0 timeout y).effect) (sym allowed)
    (passes_site d (receive_some key a d max 0 timeout x.0 x.1).effect up (omega (arith, p, words_within d)))

-- one of those that come back
pub back_one_limited :
    (key : Key) (gots : List Got) (i : ℕ) (d : Got) (c : Core) → i < length gots → PassesCount (came_back key c (get_or gots i d).id.number (get_or gots i d).left)
    → PassesCount (all_came_back key (drop i gots) c)
back_one_limited key gots i d c l h =
    let g : Got = get_or gots i d in
    let more : List Got = drop (suc i) gots in
    let list : drop i gots ≡ g ∷ more = drop-cons gots i d l in
    let first : Effect = came_back key c g.id.number g.left in
    rw list (passes_before first (all_came_back key more) (all_back_up first.core key more first.core (same first.core)) h)

-- a forward among others
forwards_core : (key : Key) (a : Actor) (id : MessageId) (os : List Outbound) (c : Core) → (forwards_made key a id os c).core ≡ c
forwards_core key a id [] c = refl
forwards_core key a id (o ∷ os) c = forwards_core key a id os c

pub forward_limited : (key : Key) (a : Actor) (id : MessageId) (o : Outbound) (os : List Outbound) (c : Core) → PassesCount (forward_made key a id o c) → PassesCount (forwards_made key a id (o ∷ os) c)
forward_limited key a id o os c h =
    passes_before (forward_made key a id o c) (forwards_made key a id os) (subst (Grows c) (sym (forwards_core key a id os c)) (same c)) h

-- a task whose transfers or words pass the limit as it sends one on
pub moves_pass :
    (key : Key) (c : Core) (t : Task) (to : ℕ) (load : Load) (more : List (ℕ × Load)) → most_count < task_count (one_sent t (drawn_latency t.move.settings.latency t.draws).1)
    → most_count < task_count (moves key c t ((to, load) ∷ more)).task
moves_pass key c t to load more p =
    let u : Task = one_sent t (drawn_latency t.move.settings.latency t.draws).1 in
    let m = moves_up c key c u more in omega (arith, p, m.2)

-- one whose steps do
pub steps_pass : (key : Key) (c : Core) (t : Task) (loads : List (ℕ × Load)) (rest : Rest) → most_count ≤ t.move.steps → most_count < task_count (stepped_moves key c t loads rest).task
steps_pass key c t loads rest full =
    let m = moves_up c key c t loads in
    let after : Task = (stepped_moves key c t loads rest).task in
    let steps : after.move.steps ≡ t.move.steps + 1 = ap (λ (x : MoveTask). x.steps + 1) m.1 in
    let l : after.move.steps ≤ task_count after = le-max_left _ _ in
    omega (arith, steps, l, full)

-- a step keeps what is counted of the moves
pub after_passes :
    (key : Key) (c : Core) (t : Task) (loads : List (ℕ × Load)) (rest : Rest) → most_count < task_count (moves key c t loads).task
    → most_count < task_count (stepped_moves key c t loads rest).task
after_passes key c t loads rest p =
    let m : Task = (moves key c t loads).task in
    let after : Task = (stepped_moves key c t loads rest).task in
    let up : task_count m ≤ task_count after =
    max-le (let l : after.move.steps ≤ task_count after = le-max_left _ _ in let n : after.move.steps ≡ m.move.steps + 1 = refl in omega (arith, l, n)) (le-max_right after.move.steps (greatest (m.sent ∷ m.draws.taken ∷ []))) in
    omega (arith, p, up)

-- a step of a site's task
pub step_passes :
    (key : Key) (c : Core) (t : Task) (loads : List (ℕ × Load)) (rest : Rest) → task_numbered key.agent c ≡ Some t
    → most_count < task_count (stepped_moves key c t loads rest).task
    → PassesCount (step_moved key c (length loads) rest (moves key c t loads))
step_passes key c t loads rest found p =
    let after : Task = (stepped_moves key c t loads rest).task in
    let m = moves_up c key c t loads in
    let its : t.number ≡ key.agent = is_its_number key.agent t (find_picked (is_task key.agent) c.tasks t found) in
    let there : task_numbered after.number c ≡ Some t = subst (λ i. task_numbered i c ≡ Some t) (sym (m.0 ∙ its)) found in
    let past : most_count < site_count (with_task c after) = task_passes c t after there p in
    site_passes (step_moved key c (length loads) rest (moves key c t loads)) (site_count (with_task c after)) past (omega arith)

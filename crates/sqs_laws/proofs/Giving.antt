-- The rows of a receive are a chain of single moves: all messages are received, and with a timeout of 0 all then come back.
use Rattle.sqs_laws.proofs.Terms.{All-cons, All-head, All-nil, All-tail, All-take, all_came_back, and_parts, and_then, Apart, append_assoc, available, available_at, Core, Effect, eqb-false, eqb-true, Fifo, find_all, first_apart, first_stand, firsts, give, give_most, given, Got, got_of, got_row, has_host, has_number, is_delayed, is_in_flight, is_open, is_visible, Key, Kind, length-take, list_any, Message, numbered, open_from, Queue, received, room, Row, same_group, Scenario, Stand, Standard, timeout_of, to_give, with_change, with_queue}
use Rattle.std.specs.Prelude.{All, Bool, List, None, Option, Some, [], cond, false, filter, get_or, if◌then◌else◌, length, map, min, not, true, ℕ, ◌&&◌, ◌%◌, ◌++◌, ◌<◌, ◌==◌, ◌∷◌, ◌≡◌, ◌≤◌, ◌+◌, slice_get}
use Rattle.std.proofs.Common.{ap, arith, refl, subst, sym, ◌∙◌}
use Rattle.sqs_model.specs.Giving.{all_got, all_left, all_received, all_released, given_then_returned}
use Rattle.sqs_model.proofs.Giving.{gives}
use Rattle.sqs_model.proofs.Grouped.{all_groups}
use Rattle.sqs_model.proofs.QueueAccounts.{same_timeout}
use Rattle.sqs_laws.proofs.Calls.{AreNext, AreThere, AreToldOf, IsDueNow, Told, Returns, all_told, back_chain, back_got, other_changed, own_changed, received_chain, received_stand, told_got, told_kept}
use Rattle.sqs_laws.proofs.Next.{all_next}
use Rattle.sqs_laws.proofs.Turns.{available_turns, kept_by}
use Rattle.sqs_laws.specs.Sends.{milliseconds_or}
use Rattle.sqs_laws.proofs.Moves.{FitsSender, IsAskedFor, Chain, IsStocked, Keeps, actors_of, chain_append, chain_keeps, AreTraced}
use Rattle.sqs_laws.proofs.Traces.{chain_traces}

-- what a receive tells of messages of a queue: each came there before
pub record IsKnown (site arrivals : ℕ) (g : Got) : Type 0 where
  pub here : g.id.site ≡ site
  pub old : g.id.number < arrivals

abbrev pub AreKnown : ℕ → ℕ → List Got → Type 0
AreKnown site arrivals [] = Unit {0}
AreKnown site arrivals (g ∷ gs) = IsKnown site arrivals g × AreKnown site arrivals gs

known_told : (site arrivals : ℕ) (ms : List Message) (gots : List Got) → AreToldOf site ms gots → All (λ m. m.number < arrivals) ms → AreKnown site arrivals gots
known_told site arrivals [] [] t h = tt
known_told site arrivals (m ∷ ms) (g ∷ gs) t h = (
  record { here = ap (λ i. i.site) t.0.id; old = let n : g.id.number ≡ m.number = ap (λ i. i.number) t.0.id in omega (arith, n, All-head (λ x. x.number < arrivals) m ms h) },
  known_told site arrivals ms gs t.1 (All-tail (λ x. x.number < arrivals) m ms h),
)
known_told site arrivals [] (g ∷ gs) t h = absurd t
known_told site arrivals (m ∷ ms) [] t h = absurd t

-- what may be given is visible
visible_open : (all earlier ms : List Message) → All (λ x. is_visible x ≡ true) (open_from all earlier ms)
visible_open all earlier [] = All-nil (λ x. is_visible x ≡ true)
visible_open all earlier (m ∷ ms) =
    let x : Bool = is_visible m in
    let y : Bool = not (list_any (λ z. same_group m z && is_in_flight z) all) in
    let z : Bool = not (list_any (λ z. same_group m z && is_delayed z) earlier) in
    kept_by (λ x. is_visible x ≡ true) (is_open all earlier m) m (open_from all (m ∷ earlier) ms) (λ e. (and_parts x y (and_parts (x && y) z e).0).0) (visible_open all (m ∷ earlier) ms)

visible_filter : (p : Message → Bool) (ms : List Message) → All (λ x. is_visible x ≡ true) (filter (λ m. is_visible m && p m) ms)
visible_filter p [] = All-nil (λ x. is_visible x ≡ true)
visible_filter p (m ∷ ms) =
    elim (is_visible m && p m) as (λ b. (is_visible m && p m) ≡ b → All (λ x. is_visible x ≡ true) (cond b (m ∷ filter (λ m. is_visible m && p m) ms) (filter (λ m. is_visible m && p m) ms))) [
      | true ↦ λ e. All-cons (λ x. is_visible x ≡ true) m _ (and_parts (is_visible m) (p m) e).0 (visible_filter p ms)
      | false ↦ λ e. visible_filter p ms
    ] refl

pub visible_available : (k : Kind) (set : ℕ) (ms : List Message) → All (λ x. is_visible x ≡ true) (available_at k set ms)
visible_available (Standard hosts sampled) set ms = visible_filter (λ m. has_host set (m.number % hosts)) ms
visible_available (Fifo content scope) set ms = let opened : List Message = open_from ms [] ms in all_groups (λ x. is_visible x ≡ true) opened (firsts [] opened) (visible_open ms [] ms)

-- what was received with a timeout of 0 is due at once, whatever else is received then
module _ (key : Key) where
  due_changed : (b : Bool) (q : Queue) (n k : ℕ) → (n == k) ≡ b → (o : Option Message) → numbered n q.records ≡ o → IsDueNow key o → IsDueNow key (numbered n (with_change q k (received key.at 0)).records)
  due_changed b q n k e None s h = absurd h
  due_changed true q n k e (Some m) s h =
      let is : k ≡ n = sym (eqb-true n k e) in
      let now : Some (key.at + 0) ≡ Some key.at = ap (λ t. Some t) (let same : key.at + 0 ≡ key.at = omega arith in same) in
      subst (λ j. IsDueNow key (numbered n (with_change q j (received key.at 0)).records)) (sym is) (subst (IsDueNow key) (sym (own_changed n (received key.at 0) (λ x. refl) q.records m s)) now)
  due_changed false q n k e (Some m) s h = subst (IsDueNow key) (sym (other_changed n k (received key.at 0) (λ x. refl) (eqb-false n k e) q.records ∙ s)) h

  due_received : (n : ℕ) (ms : List Message) (q : Queue) → IsDueNow key (numbered n q.records) → IsDueNow key (numbered n (all_received key.at 0 ms q).records)
  due_received n [] q h = h
  due_received n (m ∷ ms) q h = due_received n ms (with_change q m.number (received key.at 0)) (due_changed (n == m.number) q n m.number refl (numbered n q.records) refl h)

  all_due : (ms : List Message) (q : Queue) → Apart ms → Stand q ms → AreThere key (all_received key.at 0 ms q) ms
  all_due [] q a s = All-nil (λ m. IsDueNow key (numbered m.number q.records))
  all_due (m ∷ ms) q a s =
      let x : Queue = with_change q m.number (received key.at 0) in
      let there : numbered m.number q.records ≡ Some m = All-head (λ y. numbered y.number q.records ≡ Some y) m ms s in
      let now : Some (key.at + 0) ≡ Some key.at = ap (λ t. Some t) (let same : key.at + 0 ≡ key.at = omega arith in same) in
      All-cons (λ y. IsDueNow key (numbered y.number (all_received key.at 0 ms x).records)) m ms
      (due_received m.number ms x (subst (IsDueNow key) (sym (own_changed m.number (received key.at 0) (λ y. refl) q.records m there)) now))
      (all_due ms x a.1 (received_stand key 0 q m ms a.0 (All-tail (λ y. numbered y.number q.records ≡ Some y) m ms s)))

-- the timeout of a receive
timeout_alike : (q : Queue) (own : Option ℕ) → timeout_of q own ≡ milliseconds_or q.settings.visibility own
timeout_alike q None = refl
timeout_alike q (Some seconds) = refl

module _ (u : Scenario) (past : List Row) (key : Key) (c : Core) (agent : ℕ) (timeout : Option ℕ) (asked : IsAskedFor u past agent key.at timeout) (home : slice_get u.queues c.queue.site ≡ Some c.queue.settings) (traced : AreTraced u past c.queue) where
  -- the rows of a receive
  pub record IsGiven (x : Queue × List Got) : Type 0 where
    pub chain : Chain u past key c.queue (given key c agent timeout x).rows (given key c agent timeout x).core.queue
    pub actors : actors_of (given key c agent timeout x).core ≡ actors_of c
    pub sent : All (FitsSender u (past ++ (given key c agent timeout x).rows)) (given key c agent timeout x).sent
    pub known : AreKnown c.queue.site c.queue.arrivals x.1

  module _ (ms : List Message) (apart : Apart ms) (stand : Stand c.queue ms) (visible : All (λ m. is_visible m ≡ true) ms) (few : length ms ≤ room c.queue) (stocked : IsStocked c.queue)
      (next : (t : ℕ) (gots : List Got) → AreToldOf c.queue.site ms gots → AreNext key c agent t past ms gots c.queue) where
    known_of : (gots : List Got) → AreToldOf c.queue.site ms gots → AreKnown c.queue.site c.queue.arrivals gots
    known_of gots t =
        known_told c.queue.site c.queue.arrivals ms gots t
        (λ i e l. let m : Message = get_or ms i e in find_all (has_number m.number) (λ x. x.number < c.queue.arrivals) c.queue.records m stocked.given_out (stand i e l))

    -- with a timeout none comes back
    given_kept : (gots : List Got) → AreToldOf c.queue.site ms gots → (t : ℕ) → t ≡ timeout_of c.queue timeout → (timeout_of (all_received key.at t ms c.queue) timeout == 0) ≡ false → IsGiven (all_received key.at t ms c.queue, gots)
    given_kept gots told t own e =
        let q : Queue = all_received key.at t ms c.queue in
        let f : Effect = record { core = with_queue c q; rows = map (got_row key c agent) gots; sent = [] } in
        let chain : Chain u past key c.queue f.rows q = received_chain key u past c agent t ms gots c.queue (timeout, asked, own ∙ timeout_alike c.queue timeout) refl told apart stand visible few (next t gots told) in
        let same : f ≡ given key c agent timeout (q, gots) = sym (ap (λ z. if z then and_then f (all_came_back key gots) else f) e) in
        record {
          chain = subst (λ g. Chain u past key c.queue g.rows g.core.queue) same chain;
          actors = subst (λ (g : Effect). actors_of g.core ≡ actors_of c) same refl;
          sent = subst (λ (g : Effect). All (FitsSender u (past ++ g.rows)) g.sent) same (All-nil (FitsSender u (past ++ f.rows)));
          known = known_of gots told;
        }

    -- with a timeout of 0 all do
    given_back : (timeout_of c.queue timeout == 0) ≡ true → IsGiven (given_then_returned key.at ms c.queue)
    given_back e =
        let taken : Queue = all_received key.at 0 ms c.queue in
        let q : Queue = all_released ms taken in
        let gots : List Got = all_got c.queue ms (all_left ms taken) in
        let d : Core = with_queue c q in
        let f : Effect = record { core = d; rows = map (got_row key c agent) gots; sent = [] } in
        let told : AreToldOf c.queue.site ms gots = told_got c.queue taken ms in
        let first : Chain u past key c.queue f.rows taken = received_chain key u past c agent 0 ms gots c.queue (timeout, asked, sym (eqb-true (timeout_of c.queue timeout) 0 e) ∙ timeout_alike c.queue timeout) refl told apart stand visible few (next 0 gots told) in
        let behind : List Row = past ++ f.rows in
        let kept : Keeps c.queue taken = chain_keeps u past key f.rows c.queue taken first stocked in
        let there : AreThere key taken ms = all_due key ms c.queue apart stand in
        let place : slice_get u.queues taken.site ≡ Some taken.settings = ap (λ n. slice_get u.queues n) (sym kept.site) ∙ home ∙ ap (λ y. Some y) kept.settings in
        let back : (e : Core) → e.queue.site ≡ taken.site → e.queue.settings ≡ taken.settings → Returns key u behind taken q (all_came_back key gots e) =
        λ e s t. back_chain key u behind ms gots taken e place kept.stocked (chain_traces u past key f.rows c.queue taken home stocked first traced) s t (back_got key c.queue taken ms) apart there in
        let from_old : Keeps taken q = chain_keeps u behind key (all_came_back key gots c).rows taken q (back c kept.site kept.settings).chain kept.stocked in
        let second : Returns key u behind taken q (all_came_back key gots d) = back d (sym from_old.site) (sym from_old.settings) in
        let after : Told key d (all_came_back key gots d).core = all_told key gots d in
        let whole : Effect = and_then f (all_came_back key gots) in
        let zero : (timeout_of q timeout == 0) ≡ true = ap (λ n. n == 0) (same_timeout c.queue q timeout (sym (kept.settings ∙ from_old.settings))) ∙ e in
        let same : whole ≡ given key c agent timeout (q, gots) = sym (ap (λ z. if z then whole else f) zero) in
        let chain : Chain u past key c.queue whole.rows whole.core.queue = subst (Chain u past key c.queue whole.rows) (sym after.queue) (chain_append u past key f.rows (all_came_back key gots d).rows c.queue taken q first second.chain) in
        record {
          chain = subst (λ g. Chain u past key c.queue g.rows g.core.queue) same chain;
          actors = subst (λ (g : Effect). actors_of g.core ≡ actors_of c) same after.actors;
          sent = subst (λ (g : Effect). All (FitsSender u (past ++ g.rows)) g.sent) same (subst (λ r. All (FitsSender u r) (all_came_back key gots d).sent) (append_assoc past f.rows (all_came_back key gots d).rows) second.sent);
          known = known_of gots told;
        }

    give_by : (b : Bool) → (timeout_of c.queue timeout == 0) ≡ b → IsGiven (give key.at (timeout_of c.queue timeout) ms c.queue)
    give_by true e =
        let zero : timeout_of c.queue timeout ≡ 0 = eqb-true (timeout_of c.queue timeout) 0 e in
        subst IsGiven (sym (ap (λ t. give key.at t ms c.queue) zero ∙ (gives key.at c.queue).at_once ms apart)) (given_back e)
    give_by false e =
        let t : ℕ = timeout_of c.queue timeout in
        let gots : List Got = map (λ m. got_of c.queue m None) ms in
        let told : AreToldOf c.queue.site ms gots = told_kept c.queue ms in
        let more : 0 < t = grind (arith, eqb-false t 0 e) in
        let chain : Chain u past key c.queue (map (got_row key c agent) gots) (all_received key.at t ms c.queue) = received_chain key u past c agent t ms gots c.queue (timeout, asked, timeout_alike c.queue timeout) refl told apart stand visible few (next t gots told) in
        let kept : Keeps c.queue (all_received key.at t ms c.queue) = chain_keeps u past key _ c.queue _ chain stocked in
        subst IsGiven (sym ((gives key.at c.queue).later t ms more))
        (given_kept gots told t refl (ap (λ n. n == 0) (same_timeout c.queue (all_received key.at t ms c.queue) timeout (sym kept.settings)) ∙ e))

  pub most_given : (max set : ℕ) → IsStocked c.queue → IsGiven (give_most c.queue key.at max timeout set)
  most_given max set s =
      let most : ℕ = min max (room c.queue) in
      give_by (to_give c.queue max set) (first_apart c.queue set most s.ordered) (first_stand c.queue set most s.ordered)
      (All-take (λ m. is_visible m ≡ true) most (available c.queue set) (visible_available c.queue.settings.kind set c.queue.records)) (omega (arith, length-take most (available c.queue set))) s
      (λ t gots told. all_next key c agent t c.queue (to_give c.queue max set) gots past told (first_apart c.queue set most s.ordered) (first_stand c.queue set most s.ordered) (λ e. available_turns c.queue.settings.kind set most c.queue.records e s.ordered))
      (timeout_of c.queue timeout == 0) refl

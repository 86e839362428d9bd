-- Delays: a message that was sent is not received before its delay is over, and is released just then.
use Rattle.std.specs.Prelude.{Bool, List, None, Option, Some, [], false, if◌then◌else◌, is_none, nat_lt, true, ℕ, ◌&&◌, ◌+◌, ◌++◌, ◌<◌, ◌==◌, ◌∷◌, ◌≡◌, ◌≤◌, ◌⊎◌, ◌||◌, nat_le, length}
use Rattle.std.proofs.Common.{ap, arith, inl, inr, refl, subst, sym, ◌∙◌, is_none, nat_lt}
use Rattle.sqs_laws.proofs.Terms.{and-false, by_cases, Forward, id_of, In, in_left, in_right, is_delayed, is_in_flight, is_visible, IsRunOf, IsSoundScenario, Key, Load, Message, MessageId, nat_tests, numbered, of_all, or-false, or-true, Place, Queue, Redrive, Row, Run, Scenario, visible_again}
use Rattle.sqs_message.specs.declared.message.Place.TheVariants as places
use Rattle.sqs_laws.specs.Laws.{is_actor_of, delay_brought, CameWith, IsDelayed, Delays}
use Rattle.sqs_laws.specs.Sends.{delay_given, GivesAs}
use Rattle.sqs_laws.specs.Words.{came_by, is_release, is_send, names, was_released, flying, EachRow}
use Rattle.sqs_laws.specs.Words as words
use Rattle.sqs_laws.proofs.End as end
use Rattle.sqs_laws.proofs.Flights.{flies_of, flights}
use Rattle.sqs_laws.proofs.Lasts.{IsLast, last_of}
use Rattle.sqs_laws.proofs.Moments.{timely_at}
use Rattle.sqs_laws.proofs.Moves.{Comes, Does, Ends, IsStocked, Move, Names, Releases, Tells, Waits, changes, comes, ends, receives, redrives, releases, stays, Move, Names, IsBrought, FitsLoad, IsMadeBy}
use Rattle.sqs_laws.proofs.Order.{rows_in_time}
use Rattle.sqs_laws.proofs.Said.{any_push, names_same, none_leaves, last_as}
use Rattle.sqs_laws.proofs.Slots.{IsStep, MessageLaw, Slot, by_messages, gone, of_there, of_unborn, there, unborn}
use Rattle.sqs_laws.proofs.Worlds.{IsNow, RowLaw, both, every_row_by}
use Rattle.sqs_redrive.specs.declared.transfers.Load.TheVariants.{Move as Moves}

-- what waits is delayed until the end of its delay, and else it is visible
pub waits_delayed : (at delay : ℕ) (m : Message) → Waits at delay m → is_delayed m ≡ true → (0 < delay) × (m.release ≡ Some (at + delay))
waits_delayed at delay m w d =
    by_cases (delay == 0) (λ e. let seen : m.place ≡ places.Visible = w.place ∙ ap (λ b. if b then places.Visible else places.Delayed) e in let not : is_delayed m ≡ false = ap (λ p. elim p as (λ _. Bool) [ places.Delayed ↦ true | places.Visible ↦ false | places.InFlight ↦ false ]) seen in cc)
    (λ e. (grind (arith, e), w.release ∙ ap (λ b. if b then None else Some (at + delay)) e))

pub waits_visible : (at delay : ℕ) (m : Message) → Waits at delay m → is_delayed m ≡ false → (delay ≡ 0) × (m.release ≡ None)
waits_visible at delay m w d =
    by_cases (delay == 0) (λ e. (grind (arith, e), w.release ∙ ap (λ b. if b then None else Some (at + delay)) e))
    (λ e. let held : m.place ≡ places.Delayed = w.place ∙ ap (λ b. if b then places.Visible else places.Delayed) e in let so : is_delayed m ≡ true = ap (λ p. elim p as (λ _. Bool) [ places.Delayed ↦ true | places.Visible ↦ false | places.InFlight ↦ false ]) held in cc)

-- what is visible or in flight is not delayed, and what is neither delayed nor in flight is visible
pub readies : (m : Message) (p : Place) → m.place ≡ p → (is_visible m ≡ true → is_delayed m ≡ false) × (is_in_flight m ≡ true → is_delayed m ≡ false) × (is_delayed m ≡ false → is_in_flight m ≡ false → is_visible m ≡ true)
readies m places.Delayed e = rw e (λ t. cc, λ t. cc, λ t u. cc)
readies m places.Visible e = rw e (λ t. refl, λ t. refl, λ t u. refl)
readies m places.InFlight e = rw e (λ t. refl, λ t. refl, λ t u. cc)

pub visible_ready : (m : Message) → is_visible m ≡ true → is_delayed m ≡ false
visible_ready m = (readies m m.place refl).0

pub flying_ready : (m : Message) → is_in_flight m ≡ true → is_delayed m ≡ false
flying_ready m = (readies m m.place refl).1

-- whether a message was released, with one more row
released_as : (m : MessageId) (rows : List Row) (r : Row) (b : Bool) → (is_release r.kind && names m r) ≡ b → was_released m (rows ++ r ∷ []) ≡ (was_released m rows || b)
released_as m rows r b e = any_push (λ x. is_release x.kind && names m x) rows r ∙ ap (λ y. was_released m rows || y) e

-- what a transfer brings waits as it should
brought_waits : (s : Scenario) (rows : List Row) (q : Queue) (r : Row) (m : Message) (b : IsBrought s rows q r m) (load : Load) → FitsLoad s rows b.transfer load → IsMadeBy q r.key.at load m → Waits r.key.at (delay_brought s q.settings r) m
brought_waits s rows q r m b (Redrive id group origin body enqueued) f e =
    let early : nat_le (length s.queues) r.agent ≡ false = grind (arith, nat_tests, f.sender, b.sender) in
    let none : delay_brought s q.settings r ≡ 0 = ap (λ x. if x && nat_lt r.agent (length s.queues + length s.actors) then q.settings.delay else 0) early in
    subst (λ n. Waits r.key.at n m) (sym none) (subst (Waits r.key.at 0) (sym e) (record { place = refl; release = refl }))
brought_waits s rows q r m b (Moves id group origin body) f e =
    let late : nat_lt r.agent (length s.queues + length s.actors) ≡ false = grind (arith, nat_tests, f.0, b.sender) in
    let none : delay_brought s q.settings r ≡ 0 = ap (λ x. if nat_le (length s.queues) r.agent && x then q.settings.delay else 0) late ∙ ap (λ x. if x then q.settings.delay else 0) (and-false (nat_le (length s.queues) r.agent)) in
    subst (λ n. Waits r.key.at n m) (sym none) (subst (Waits r.key.at 0) (sym e) (record { place = refl; release = refl }))
brought_waits s rows q r m b (Forward id group body) f e = subst (λ n. Waits r.key.at n m) (sym (ap (λ x. if x then q.settings.delay else 0) (ap (is_actor_of s) (sym b.sender) ∙ f))) e.1

module _ (s : Scenario) where
  -- what the rows so far say of a message: while it is delayed it is not released, and else it was, or had no delay
  pub record Held (rows : List Row) (i : MessageId) (m : Message) : Type 0 where
    pub visible : is_visible m ≡ true → m.release ≡ None
    pub delayed : is_delayed m ≡ true → (by : Row) (delay : ℕ) → CameWith s rows i by delay → (was_released i rows ≡ false) × (0 < delay) × (m.release ≡ Some (by.key.at + delay))
    pub over : is_delayed m ≡ false → (by : Row) (delay : ℕ) → CameWith s rows i by delay → (0 < delay → was_released i rows ≡ true) × ((x : Row) × In rows x × (by.key.at + delay ≤ x.key.at))

  abbrev pub IsSaid : List Row → MessageId → Slot → Type 0
  IsSaid rows i (there m) = Held rows i m
  IsSaid rows i gone = Unit {0}
  IsSaid rows i unborn = (was_released i rows ≡ false) × (came_by i rows ≡ None)

  -- one more row by which a message neither comes nor is released
  came_before : (rows : List Row) (r : Row) (i : MessageId) (by : Row) (delay : ℕ) → came_by i (rows ++ r ∷ []) ≡ came_by i rows → CameWith s (rows ++ r ∷ []) i by delay → CameWith s rows i by delay
  came_before rows r i by delay e c = record { queue = c.queue; settings = c.settings; came = sym e ∙ c.came; sent = c.sent; arrived = c.arrived }

  kept : (rows : List Row) (r : Row) (i : MessageId) (m : Message) → came_by i (rows ++ r ∷ []) ≡ came_by i rows → was_released i (rows ++ r ∷ []) ≡ was_released i rows → Held rows i m → Held (rows ++ r ∷ []) i m
  kept rows r i m e f h =
      record {
        visible = h.visible;
        delayed = λ d by delay c. let x = h.delayed d by delay (came_before rows r i by delay e c) in (f ∙ x.0, x.1, x.2);
        over = λ d by delay c. let x = h.over d by delay (came_before rows r i by delay e c) in (λ l. f ∙ x.0 l, (x.1.0, in_left rows (r ∷ []) x.1.0 x.1.1, x.1.2));
      }

  pub kept_slot : (rows : List Row) (r : Row) (i : MessageId) (x : Slot) → came_by i (rows ++ r ∷ []) ≡ came_by i rows → was_released i (rows ++ r ∷ []) ≡ was_released i rows → IsSaid rows i x → IsSaid (rows ++ r ∷ []) i x
  kept_slot rows r i (there m) e f h = kept rows r i m e f h
  kept_slot rows r i gone e f h = tt
  kept_slot rows r i unborn e f h = (f ∙ h.0, e ∙ h.1)

  pub same_came : (rows : List Row) (r : Row) (i : MessageId) → (words.comes r && names i r) ≡ false → came_by i (rows ++ r ∷ []) ≡ came_by i rows
  same_came rows r i e = last_as words.comes i rows r false e

  pub same_released : (rows : List Row) (r : Row) (i : MessageId) → (is_release r.kind && names i r) ≡ false → was_released i (rows ++ r ∷ []) ≡ was_released i rows
  same_released rows r i e = released_as i rows r false e ∙ or-false (was_released i rows)

  pub still : (rows : List Row) (r : Row) (i : MessageId) (x : Slot) → words.comes r ≡ false → is_release r.kind ≡ false → IsSaid rows i x → IsSaid (rows ++ r ∷ []) i x
  still rows r i x c e h = kept_slot rows r i x (same_came rows r i (rw c refl)) (same_released rows r i (rw e refl)) h

  -- one that is in flight from now on
  pub flies : (rows : List Row) (i : MessageId) (one two : Message) → is_delayed one ≡ false → is_delayed two ≡ false → is_visible two ≡ false → Held rows i one → Held rows i two
  flies rows i one two ready d v h = record { visible = λ t. cc; delayed = λ t. cc; over = λ _. h.over ready }

  -- one that is released: its delay is over now, or was so before
  pub comes_back : (rows : List Row) (key : Key) (q : Queue) (r : Row) (p : Queue) → IsStep s rows key q r p → (d : Releases key q r p) → Held rows (id_of q d.number) d.one → Held (rows ++ r ∷ []) (id_of q d.number) (visible_again d.one)
  comes_back rows key q r p a d was =
      let i : MessageId = id_of q d.number in
      let once : was_released i (rows ++ r ∷ []) ≡ true = released_as i rows r true (rw (d.tells.released_so, names_same i r d.names.message) refl) ∙ or-true (was_released i rows) in
      record {
        visible = λ _. refl;
        delayed = λ t. cc;
        over = λ _ by delay c.
            let old : CameWith s rows i by delay = came_before rows r i by delay (same_came rows r i (rw d.tells.comes_so refl)) c in (
              λ _. once,
              by_cases (is_delayed d.one)
                  (λ e.
                  let x = was.delayed e by delay old in
                  let due : Some (by.key.at + delay) ≡ Some key.at = sym x.2 ∙ d.due in
                  let now : r.key.at ≡ key.at = ap (λ (y : Key). y.at) a.at_key in
                  let is : by.key.at + delay ≡ key.at = cc in
                  (r, in_right rows (r ∷ []) r (inl refl), omega (arith, is, now)))
                  (λ e. let x = was.over e by delay old in (x.1.0, in_left rows (r ∷ []) x.1.0 x.1.1, x.1.2)),
            );
      }

  -- one that comes
  module _ (sound : IsSoundScenario s) (rows : List Row) (key : Key) (q : Queue) (r : Row) (p : Queue) (a : IsStep s rows key q r p) (d : Comes key q r p) (found : numbered q.arrivals p.records ≡ Some d.one) where
    own_waits : (by : Row) (delay : ℕ) → CameWith s (rows ++ r ∷ []) (id_of q q.arrivals) by delay → (by ≡ r) × Waits r.key.at delay d.one
    own_waits by delay c =
        let i : MessageId = id_of q q.arrivals in
        let now : came_by i (rows ++ r ∷ []) ≡ Some r = last_as words.comes i rows r true (rw (d.tells.comes_so, names_same i r d.message) refl) in
        let is : by ≡ r = cc in
        let queue : c.queue ≡ q.settings = let same : Some c.queue ≡ Some q.settings = sym c.settings ∙ a.settings in cc in (
          is,
          by_cases (is_send r.kind)
              (λ t.
              let x = c.sent (ap (λ (y : Row). is_send y.kind) is ∙ t) in
              let given : Waits r.key.at (delay_given q.settings x.0) d.one = (a.behind.given (rw (t, d.tells.comes_so) refl) d.one found sound.actors x.0 (subst (λ (y : Row). GivesAs s y.agent y.key.at x.0) is x.1)).delay in
              subst (λ n. Waits r.key.at n d.one) (ap (λ y. delay_given y x.0) (sym queue) ∙ sym x.2) given)
              (λ t.
              let b : IsBrought s rows q r d.one = a.behind.brought d.tells.comes_so t d.one found in
              let mine : delay ≡ delay_brought s q.settings r = c.arrived (ap (λ (y : Row). is_send y.kind) is ∙ t) ∙ ap (λ y. delay_brought s y by) queue ∙ ap (delay_brought s q.settings) is in
              subst (λ n. Waits r.key.at n d.one) (sym mine) (brought_waits s rows q r d.one b b.transfer.load b.fits b.made)),
        )

    pub own_held : was_released (id_of q q.arrivals) rows ≡ false → Held (rows ++ r ∷ []) (id_of q q.arrivals) d.one
    own_held h =
        let none : was_released (id_of q q.arrivals) (rows ++ r ∷ []) ≡ false = same_released rows r (id_of q q.arrivals) (rw d.tells.released_so refl) ∙ h in
        record {
          visible = λ t. (waits_visible key.at d.delay d.one d.waits (visible_ready d.one t)).1;
          delayed = λ t by delay c.
              let x = own_waits by delay c in
              let w = waits_delayed r.key.at delay d.one x.1 t in
              (none, w.0, w.1 ∙ ap (λ (y : Row). Some (y.key.at + delay)) (sym x.0));
          over = λ t by delay c.
              let x = own_waits by delay c in
              let zero : delay ≡ 0 = (waits_visible r.key.at delay d.one x.1 t).0 in
              let at : by.key.at ≡ r.key.at = ap (λ (y : Row). y.key.at) x.0 in
              (λ l. absurd (omega (arith, l, zero)), (r, in_right rows (r ∷ []) r (inl refl), omega (arith, zero, at)));
        }

  abbrev pub delay_law : IsSoundScenario s → MessageLaw s
  delay_law sound =
      record {
        Said = λ q rows i x. IsSaid rows i x;
        opens = λ q i. (refl, refl);
        other = λ q rows r i x e h. kept_slot rows r i x (same_came rows r i (ap (λ b. words.comes r && b) e ∙ and-false (words.comes r))) (same_released rows r i (ap (λ b. is_release r.kind && b) e ∙ and-false (is_release r.kind))) h;
        stays = λ rows key q r p a t n e x y h. still rows r (id_of q n) x t.comes_so t.released_so h;
        comes = λ rows key q r p a d e h. own_held sound rows key q r p a d e h.0;
        receives = λ rows key q r p a d e h. flies (rows ++ r ∷ []) (id_of q d.number) d.one _ (visible_ready d.one d.rested) refl refl (still rows r (id_of q d.number) (there d.one) d.tells.comes_so d.tells.released_so h);
        changes = λ rows key q r p a d h. flies (rows ++ r ∷ []) (id_of q d.number) d.one _ (flying_ready d.one d.flies) refl refl (still rows r (id_of q d.number) (there d.one) d.tells.comes_so d.tells.released_so h);
        releases = λ rows key q r p a d h. comes_back rows key q r p a d h;
        leaves = λ rows key q r p a t one n d h. tt;
      }

module _ (s : Scenario) (sound : IsSoundScenario s) where
  abbrev told : RowLaw s
  told = both s (by_messages s (delay_law s sound)) (both s (end.the_end s) (flights s))

  -- what the law says of a row: the delay of the message that it names was over by a row before it, or is over now
  record IsAsTold (before : List Row) (r : Row) (m : MessageId) (by : Row) (delay : ℕ) : Type 0 where
    pub over : words.touches r ≡ true → ((x : Row) × In before x × (by.key.at + delay ≤ x.key.at)) ⊎ (by.key.at + delay ≤ r.key.at)
    pub ends : is_release r.kind ≡ true → flying m before ≡ false → (was_released m before ≡ false) × (0 < delay) × (r.key.at ≡ by.key.at + delay)

  -- a delay that goes on ends when its message is released
  release_of : (rows : List Row) (q : Queue) → IsStocked q → told.Holds rows q → (n : ℕ) (by : Row) (delay : ℕ) → IsDelayed s rows (id_of q n) by delay → (m : Message) × (numbered n q.records ≡ Some m) × (m.release ≡ Some (by.key.at + delay))
  release_of rows q k h n by delay d =
      by_cases (nat_lt n q.arrivals)
      (λ e. let old : n < q.arrivals = grind (arith, nat_tests, e) in release_by (numbered n q.records) refl (sym (end.left_of s rows q h.1.0.1 n old) ∙ d.there))
      (λ e. let none : came_by (id_of q n) rows ≡ None = (of_unborn s (delay_law s sound) rows q k h.0 n (let late : q.arrivals ≤ n = grind (arith, nat_tests, e) in late)).1 in let came : came_by (id_of q n) rows ≡ Some by = d.came.came in cc)
    where
      release_by : (o : Option Message) → numbered n q.records ≡ o → is_none o ≡ false → (m : Message) × (numbered n q.records ≡ Some m) × (m.release ≡ Some (by.key.at + delay))
      release_by None e f = cc
      release_by (Some m) e f =
          let held : Held s rows (id_of q n) m = of_there s (delay_law s sound) rows q h.0 n m e in
          by_cases (is_delayed m) (λ t. (m, e, (held.delayed t by delay d.came).2))
          (λ t. let was : was_released (id_of q n) rows ≡ true = (held.over t by delay d.came).0 d.some in let not : was_released (id_of q n) rows ≡ false = d.waits in cc)

  module _ (rows : List Row) (key : Key) (q : Queue) (r : Row) (p : Queue) (now : IsNow s rows key q) (d : Move key q r p) (k : IsStocked q) (h : told.Holds rows q) where
    at_now : r.key.at ≡ key.at
    at_now = ap (λ (y : Key). y.at) d.at_key

    -- a message that a row touches
    abbrev Ready : Message → Type 0
    Ready one = (is_delayed one ≡ false) ⊎ (one.release ≡ Some key.at)

    abbrev IsOver : MessageId → Row → ℕ → Type 0
    IsOver m by delay = ((x : Row) × In rows x × (by.key.at + delay ≤ x.key.at)) ⊎ (by.key.at + delay ≤ r.key.at)

    touched : (one : Message) (n : ℕ) → numbered n q.records ≡ Some one → Ready one → (by : Row) (delay : ℕ) → CameWith s rows (id_of q n) by delay → IsOver (id_of q n) by delay
    touched one n found (inl ready) by delay c = inl ((of_there s (delay_law s sound) rows q h.0 n one found).over ready by delay c).1
    touched one n found (inr due) by delay c =
        by_cases (is_delayed one)
        (λ e. let x = (of_there s (delay_law s sound) rows q h.0 n one found).delayed e by delay c in let is : by.key.at + delay ≡ key.at = (let both : Some (by.key.at + delay) ≡ Some key.at = sym x.2 ∙ due in cc) in inr (omega (arith, is, at_now)))
        (λ e. inl ((of_there s (delay_law s sound) rows q h.0 n one found).over e by delay c).1)

    abbrev IsTold : MessageId → Type 0
    IsTold m = (by : Row) (delay : ℕ) → CameWith s rows m by delay → IsAsTold rows r m by delay

    named : (one : Message) (n : ℕ) → Names key q r p one n → (words.touches r ≡ true → Ready one) → is_release r.kind ≡ false → (m : MessageId) → r.message ≡ Some m → IsTold m
    named one n x ready kept_back m e = let is : id_of q n ≡ m = cc in subst IsTold is (λ by delay y. record { over = λ t. touched one n x.there (ready t) by delay y; ends = λ t. cc })

    quiet : (c : Bool) → Tells r c false false false false → (m : MessageId) → r.message ≡ Some m → IsTold m
    quiet c t m e by delay y =
        let l = none_leaves r t.leaves_so in
        let none : words.touches r ≡ false = rw (t.received_so, t.changed_so, t.released_so, l.0, l.1) refl in
        record { over = λ u. cc; ends = λ u. cc }

    -- one that is released and was not in flight
    delay_ends : (x : Releases key q r p) → flying (id_of q x.number) rows ≡ false → (by : Row) (delay : ℕ) → CameWith s rows (id_of q x.number) by delay → (was_released (id_of q x.number) rows ≡ false) × (0 < delay) × (r.key.at ≡ by.key.at + delay)
    delay_ends x f by delay c =
        let held : Held s rows (id_of q x.number) x.one = of_there s (delay_law s sound) rows q h.0 x.number x.one x.names.there in
        let rests : is_in_flight x.one ≡ false = sym (flies_of s rows q h.1.1 x.number x.one x.names.there) ∙ f in
        by_cases (is_delayed x.one)
        (λ e. let y = held.delayed e by delay c in let is : by.key.at + delay ≡ key.at = (let both : Some (by.key.at + delay) ≡ Some key.at = sym y.2 ∙ x.due in cc) in (y.0, y.1, at_now ∙ sym is))
        (λ e. let none : x.one.release ≡ None = held.visible ((readies x.one x.one.place refl).2 e rests) in let due : x.one.release ≡ Some key.at = x.due in cc)

    back_by : Releases key q r p → (m : MessageId) → r.message ≡ Some m → IsTold m
    back_by x m e = let is : id_of q x.number ≡ m = cc in subst IsTold is (λ by delay y. record { over = λ t. touched x.one x.number x.names.there (inr x.due) by delay y; ends = λ t f. delay_ends x (subst (λ i. flying i rows ≡ false) refl f) by delay y })

    moved : (x : Ends key q r p) → words.touches r ≡ true → words.is_move r.kind ≡ true
    moved x t = sym (ap (λ b. b || words.is_move r.kind) (let none : (words.received r || words.changed r || is_release r.kind || words.is_redrive r.kind) ≡ false = rw (x.tells.received_so, x.tells.changed_so, x.tells.released_so, x.kind) refl in none)) ∙ t

    names_by : Does key q r p → (m : MessageId) → r.message ≡ Some m → IsTold m
    names_by (receives x) = named x.one x.number x.names (λ _. inl (visible_ready x.one x.rested)) x.tells.released_so
    names_by (changes x) = named x.one x.number x.names (λ _. inl (flying_ready x.one x.flies)) x.tells.released_so
    names_by (redrives x) = named x.one x.number x.names (λ _. inr x.due) x.tells.released_so
    names_by (ends x) = named x.one x.number x.names (λ t. inl (visible_ready x.one (x.rested (moved x t)))) x.tells.released_so
    names_by (releases x) = back_by x
    names_by (stays x) = quiet false x.tells
    names_by (comes x) = quiet true x.tells

    goes_by : (m : MessageId) (by : Row) (delay : ℕ) → m.site ≡ r.queue → IsDelayed s rows m by delay → r.key.at ≤ by.key.at + delay
    goes_by m by delay i y =
        let is : id_of q m.number ≡ m = ap (λ n. record { site = n; number = m.number }) (sym d.at_site ∙ sym i) in
        let x = release_of rows q k h m.number by delay (subst (λ j. IsDelayed s rows j by delay) (sym is) y) in
        let late : key.at ≤ by.key.at + delay = timely_at key.at q m.number x.0 (by.key.at + delay) now.timely x.1 x.2 in
        omega (arith, late, at_now)

  -- the law
  pub delays_are_kept : (x : Run) → IsRunOf s x → Delays s x.rows
  delays_are_kept x is =
      let each : EachRow x.rows (λ before r. (m : MessageId) → r.message ≡ Some m → (by : Row) (delay : ℕ) → CameWith s before m by delay → IsAsTold before r m by delay) =
      every_row_by s told _ (λ rows key q r p now d g k h j. names_by rows key q r p now d k h d.does) x is in
      record {
        over = λ before r after e m i t by delay c.
            elim ((each before r after e m i by delay c).over t) as (λ _. by.key.at + delay ≤ r.key.at) [
              | inl y ↦ let no_later : y.0.key.at ≤ r.key.at = of_all (λ (z : Row). z.key.at ≤ r.key.at) before y.0 ((rows_in_time s sound x is).order before r after e) y.1 in omega (arith, y.2, no_later)
              | inr l ↦ l
            ];
        ends = λ before r after e m i t f by delay c. (each before r after e m i by delay c).ends t f;
        goes_on = every_row_by s told _ (λ rows key q r p now d g k h j. goes_by rows key q r p now d k h) x is;
        at_last = λ m by delay d.
            let y : IsLast s told x m.site = last_of s told x is m.site d.came.queue d.came.settings in
            let q : Queue = y.site.core.queue in
            let same : id_of q m.number ≡ m = ap (λ n. record { site = n; number = m.number }) y.number in
            let z = release_of x.rows q y.good.order.stocked y.good.holds m.number by delay (subst (λ j. IsDelayed s x.rows j by delay) (sym same) d) in
            let late : s.horizon + 1 ≤ by.key.at + delay = timely_at (s.horizon + 1) q m.number z.0 (by.key.at + delay) y.timely z.1 z.2 in
            omega (arith, late);
      }

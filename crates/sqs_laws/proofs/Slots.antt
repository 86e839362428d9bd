-- Laws of the messages of queues, each by itself: what the rows so far say of a message that has not come, is there or has gone.
use Rattle.std.specs.Prelude.{Bool, List, None, Option, Some, [], false, nat_lt, slice_get, true, ℕ, ◌*◌, ◌+◌, ◌++◌, ◌<◌, ◌==◌, ◌∷◌, ◌≡◌, ◌≢◌, ◌≤◌, ◌&&◌}
use Rattle.std.proofs.Common.{ap, arith, refl, subst, sym, ◌∙◌}
use Rattle.sqs_laws.proofs.Terms.{All-weaker, and_parts, by_cases, eqb-false, eqb-true, id_of, in_flight_until, Key, Message, MessageId, nat_tests, numbered, other_without, Queue, QueueSettings, received, Row, Scenario, taken_out, visible_again, with_change}
use Rattle.sqs_laws.specs.Words.{names}
use Rattle.sqs_laws.proofs.Calls.{found_old, other_changed, own_changed}
use Rattle.sqs_laws.proofs.Moves.{Changes, Comes, Does, IsBehind, IsStocked, Names, Receives, Releases, Tells, changes, comes, ends, receives, redrives, releases, stays}
use Rattle.sqs_laws.proofs.Said.{names_apart, names_other, not_there, pushed_other, taken_absent}
use Rattle.sqs_laws.proofs.Worlds.{IsNow, RowLaw}
use Rattle.sqs_laws.proofs.Traces.{pushed_found}

pub data Slot : Type 0 where
  unborn : Slot
  gone : Slot
  there : Message → Slot

abbrev pub slot_of : Option Message → Bool → Slot
slot_of (Some m) born = there m
slot_of None true = gone
slot_of None false = unborn

abbrev pub slot : Queue → ℕ → Slot
slot q n = slot_of (numbered n q.records) (nat_lt n q.arrivals)

-- a row of a handling at a queue of the scenario
pub record IsStep (s : Scenario) (rows : List Row) (key : Key) (q : Queue) (r : Row) (p : Queue) : Type 0 where
  pub at_key : r.key ≡ key
  pub at_site : r.queue ≡ q.site
  pub settings : slice_get s.queues q.site ≡ Some q.settings
  pub behind : IsBehind s rows q r p
  pub now : IsNow s rows key q

-- A law of messages. A row that names another one leaves what was said; each other field is a way in which a row changes its own.
pub record MessageLaw (s : Scenario) : Type 1 where
  pub Said : QueueSettings → List Row → MessageId → Slot → Type 0
  pub opens : (q : QueueSettings) (i : MessageId) → Said q [] i unborn
  pub other : (q : QueueSettings) (rows : List Row) (r : Row) (i : MessageId) (x : Slot) → names i r ≡ false → Said q rows i x → Said q (rows ++ r ∷ []) i x
  pub stays :
      (rows : List Row) (key : Key) (q : Queue) (r : Row) (p : Queue) → IsStep s rows key q r p → Tells r false false false false false → (n : ℕ) → r.message ≡ Some (id_of q n) → (x : Slot) → x ≡ slot q n
      → Said q.settings rows (id_of q n) x → Said q.settings (rows ++ r ∷ []) (id_of q n) x
  pub comes :
      (rows : List Row) (key : Key) (q : Queue) (r : Row) (p : Queue) → IsStep s rows key q r p → (d : Comes key q r p) → numbered q.arrivals p.records ≡ Some d.one
      → Said q.settings rows (id_of q q.arrivals) unborn → Said q.settings (rows ++ r ∷ []) (id_of q q.arrivals) (there d.one)
  pub receives :
      (rows : List Row) (key : Key) (q : Queue) (r : Row) (p : Queue) → IsStep s rows key q r p → (d : Receives key q r p) → numbered d.number p.records ≡ Some (received key.at d.timeout d.one)
      → Said q.settings rows (id_of q d.number) (there d.one) → Said q.settings (rows ++ r ∷ []) (id_of q d.number) (there (received key.at d.timeout d.one))
  pub changes :
      (rows : List Row) (key : Key) (q : Queue) (r : Row) (p : Queue) → IsStep s rows key q r p → (d : Changes key q r p)
      → Said q.settings rows (id_of q d.number) (there d.one) → Said q.settings (rows ++ r ∷ []) (id_of q d.number) (there (in_flight_until (key.at + 1000 * d.timeout) d.one))
  pub releases :
      (rows : List Row) (key : Key) (q : Queue) (r : Row) (p : Queue) → IsStep s rows key q r p → (d : Releases key q r p)
      → Said q.settings rows (id_of q d.number) (there d.one) → Said q.settings (rows ++ r ∷ []) (id_of q d.number) (there (visible_again d.one))
  pub leaves :
      (rows : List Row) (key : Key) (q : Queue) (r : Row) (p : Queue) → IsStep s rows key q r p → Tells r false false false false true → (one : Message) (n : ℕ) → Names key q r p one n
      → Said q.settings rows (id_of q n) (there one) → Said q.settings (rows ++ r ∷ []) (id_of q n) gone

-- a row that names a message has it
named_by : (i : MessageId) (r : Row) (o : Option MessageId) → r.message ≡ o → names i r ≡ true → r.message ≡ Some i
named_by i r None e t = let none : names i r ≡ false = rw e refl in cc
named_by i r (Some j) e t =
    let both = and_parts (i.site == j.site) (i.number == j.number) (let same : names i r ≡ (i.site == j.site && i.number == j.number) = rw e refl in sym same ∙ t) in
    let site : i.site ≡ j.site = eqb-true i.site j.site both.0 in
    let number : i.number ≡ j.number = eqb-true i.number j.number both.1 in
    e ∙ ap (λ n. Some (record { site = n; number = j.number })) (sym site) ∙ ap (λ n. Some (record { site = i.site; number = n })) (sym number)

module _ (s : Scenario) (law : MessageLaw s) where
  open law use {Said}

  pub record Holds (rows : List Row) (q : Queue) : Type 0 where
    pub settings : slice_get s.queues q.site ≡ Some q.settings
    pub each : (n : ℕ) → Said q.settings rows (id_of q n) (slot q n)

  -- what is said of a message that is there, or has not come
  pub of_there : (rows : List Row) (q : Queue) → Holds rows q → (n : ℕ) (m : Message) → numbered n q.records ≡ Some m → Said q.settings rows (id_of q n) (there m)
  of_there rows q h n m e = subst (λ o. Said q.settings rows (id_of q n) (slot_of o (nat_lt n q.arrivals))) e (h.each n)

  pub of_unborn : (rows : List Row) (q : Queue) → IsStocked q → Holds rows q → (n : ℕ) → q.arrivals ≤ n → Said q.settings rows (id_of q n) unborn
  of_unborn rows q k h n l =
      let late : nat_lt n q.arrivals ≡ false = grind (arith, nat_tests, l) in
      let none : numbered n q.records ≡ None = not_there n q.records (All-weaker (λ (m : Message). m.number < q.arrivals) (λ m. m.number < n) (λ m x. omega (arith, x, l)) q.records k.given_out) in
      subst (λ b. Said q.settings rows (id_of q n) (slot_of None b)) late (subst (λ o. Said q.settings rows (id_of q n) (slot_of o (nat_lt n q.arrivals))) none (h.each n))

  module _ (rows : List Row) (key : Key) (q : Queue) (r : Row) (p : Queue) (k : IsStocked q) (at_key : r.key ≡ key) (at_site : r.queue ≡ q.site) (o : IsBehind s rows q r p) (now : IsNow s rows key q) (h : Holds rows q) where
    abbrev Now : ℕ → Slot → Type 0
    Now n x = Said q.settings (rows ++ r ∷ []) (id_of q n) x

    step : IsStep s rows key q r p
    step = record { at_key = at_key; at_site = at_site; settings = h.settings; behind = o; now = now }

    -- another message than the one that a row names, and that one
    holds_but : (n : ℕ) (x : Queue) → x.site ≡ q.site → x.settings ≡ q.settings → r.message ≡ Some (id_of q n) → ((i : ℕ) → i ≢ n → slot x i ≡ slot q i) → Now n (slot x n) → (i : ℕ) → Now i (slot x i)
    holds_but n x e f m same own i =
        by_cases (i == n) (λ t. let is : n ≡ i = sym (eqb-true i n t) in subst (λ j. Now j (slot x j)) is own)
        (λ t. let far : i ≢ n = eqb-false i n t in subst (Now i) (sym (same i far)) (law.other q.settings rows r (id_of q i) (slot q i) (names_other (id_of q i) (id_of q n) r m far) (h.each i)))

    changed : (n : ℕ) (f : Message → Message) (one : Message) → ((m : Message) → (f m).number ≡ m.number) → Names key q r p one n → Now n (there (f one)) → with_change q n f ≡ p → Holds (rows ++ r ∷ []) p
    changed n f one same d own a =
        subst (Holds (rows ++ r ∷ [])) a
        (record {
          settings = h.settings;
          each =
              holds_but n (with_change q n f) refl refl d.message (λ i far. ap (λ x. slot_of x (nat_lt i q.arrivals)) (other_changed i n f same far q.records))
              (subst (Now n) (sym (ap (λ x. slot_of x (nat_lt n q.arrivals)) (own_changed n f same q.records one d.there))) own);
        })

    left : (n : ℕ) (one : Message) → Names key q r p one n → Tells r false false false false true → taken_out q n ≡ p → Holds (rows ++ r ∷ []) p
    left n one d t a =
        let born : nat_lt n q.arrivals ≡ true = let old : n < q.arrivals = found_old q n one k d.there in grind (arith, nat_tests, old) in
        let slotted : slot (taken_out q n) n ≡ gone = ap (λ x. slot_of x (nat_lt n q.arrivals)) (taken_absent n 0 q.records k.ordered) ∙ ap (slot_of None) born in
        subst (Holds (rows ++ r ∷ [])) a
        (record {
          settings = h.settings;
          each =
              holds_but n (taken_out q n) refl refl d.message (λ i far. ap (λ x. slot_of x (nat_lt i q.arrivals)) (other_without n i q.records far))
              (subst (Now n) (sym slotted) (law.leaves rows key q r p step t one n d (of_there rows q h n one d.there)));
        })

    same_born : (i : ℕ) → i ≢ q.arrivals → nat_lt i (q.arrivals + 1) ≡ nat_lt i q.arrivals
    same_born i far =
        by_cases (nat_lt i q.arrivals) (λ e. (let more : nat_lt i (q.arrivals + 1) ≡ true = grind (arith, nat_tests, e) in more) ∙ sym e)
        (λ e. (let less : nat_lt i (q.arrivals + 1) ≡ false = grind (arith, nat_tests, e, far) in less) ∙ sym e)

    came : Comes key q r p → Holds (rows ++ r ∷ []) p
    came d =
        let x : Queue = record q { records = q.records ++ d.one ∷ []; entries = d.entries; arrivals = q.arrivals + 1 } in
        let own : numbered q.arrivals (q.records ++ d.one ∷ []) ≡ Some d.one = pushed_found q.arrivals q.records d.one d.number k.given_out in
        let now : Now q.arrivals (there d.one) = law.comes rows key q r p step d (subst (λ (y : Queue). numbered q.arrivals y.records ≡ Some d.one) d.after own) (of_unborn rows q k h q.arrivals (omega arith)) in
        subst (Holds (rows ++ r ∷ [])) d.after
        (record {
          settings = h.settings;
          each =
              holds_but q.arrivals x refl refl d.message
              (λ i far. ap (λ y. slot_of y (nat_lt i (q.arrivals + 1))) (pushed_other i q.records d.one (λ e. far (e ∙ d.number))) ∙ ap (slot_of (numbered i q.records)) (same_born i far))
              (subst (Now q.arrivals) (sym (ap (λ y. slot_of y (nat_lt q.arrivals (q.arrivals + 1))) own)) now);
        })

    stayed : Tells r false false false false false → Holds (rows ++ r ∷ []) q
    stayed t =
        record {
          settings = h.settings;
          each = λ n.
              by_cases (names (id_of q n) r) (λ e. law.stays rows key q r p step t n (named_by (id_of q n) r r.message refl e) (slot q n) refl (h.each n))
              (λ e. law.other q.settings rows r (id_of q n) (slot q n) e (h.each n));
        }

    pub does_hold : Does key q r p → Holds (rows ++ r ∷ []) p
    does_hold (stays d) = subst (Holds (rows ++ r ∷ [])) d.same (stayed d.tells)
    does_hold (comes d) = came d
    does_hold (receives d) =
        let f : Message → Message = received key.at d.timeout in
        changed d.number f d.one (λ m. refl) d.names
        (law.receives rows key q r p step d (subst (λ (y : Queue). numbered d.number y.records ≡ Some (f d.one)) d.after (own_changed d.number f (λ m. refl) q.records d.one d.names.there)) (of_there rows q h d.number d.one d.names.there)) d.after
    does_hold (changes d) = changed d.number (in_flight_until (key.at + 1000 * d.timeout)) d.one (λ m. refl) d.names (law.changes rows key q r p step d (of_there rows q h d.number d.one d.names.there)) d.after
    does_hold (releases d) = changed d.number visible_again d.one (λ m. refl) d.names (law.releases rows key q r p step d (of_there rows q h d.number d.one d.names.there)) d.after
    does_hold (redrives d) = left d.number d.one d.names d.tells d.after
    does_hold (ends d) = left d.number d.one d.names d.tells d.after

  -- the law of rows
  abbrev pub by_messages : RowLaw s
  by_messages =
      record {
        Holds = Holds;
        Meets = λ rows r. Unit {0};
        moves = λ rows key q r p by m g k h. (tt, does_hold rows key q r p k m.at_key m.at_site g by h m.does);
        apart = λ rows r q d own h. record { settings = h.settings; each = λ n. law.other q.settings rows r (id_of q n) (slot q n) (names_apart (id_of q n) r own d) (h.each n) };
        opens = λ n settings e. record { settings = e; each = λ i. (let none : nat_lt i 0 ≡ false = grind (arith, nat_tests) in subst (λ b. Said settings [] (record { site = n; number = i }) (slot_of None b)) (sym none) (law.opens settings (record { site = n; number = i }))) };
      }

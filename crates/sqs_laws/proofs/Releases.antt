-- Releases: a message in flight comes back exactly at the end of the timeout of its last receive or change.
use Rattle.std.specs.Prelude.{All, Bool, List, None, Option, Some, [], false, nat_lt, slice_get, true, ℕ, ◌&&◌, ◌*◌, ◌+◌, ◌++◌, ◌∷◌, ◌≡◌, ◌≤◌, ◌||◌}
use Rattle.std.proofs.Common.{ap, arith, inl, inr, refl, subst, sym, true≢false, ◌∙◌, true≢false}
use Rattle.sqs_model.specs.Receive.{is_bad_timeout}
use Rattle.sqs_laws.proofs.Terms.{and-false, append-nil, append_assoc, id_of, in_flight_until, is_in_flight, IsQueueSettings, IsRunOf, IsSoundScenario, Key, longest_flight, longest_timeout, Message, MessageId, nat_tests, numbered, of_all, Queue, QueueSettings, received, Row, Run, Scenario, ScriptCall}
use Rattle.sqs_message.specs.declared.row.Detail.TheVariants as details
use Rattle.sqs_laws.specs.Laws.{EndsAt, Releases as Law}
use Rattle.sqs_laws.specs.Sends.{MayGiveAt, milliseconds_or}
use Rattle.sqs_laws.specs.Words.{EachRow, flight, is_release, is_redrive, names, received_by}
use Rattle.sqs_laws.specs.Words as words
use Rattle.sqs_laws.proofs.Lasts.{IsLast, last_of}
use Rattle.sqs_laws.proofs.Moments.{timely_at}
use Rattle.sqs_laws.proofs.Moves.{Does, IsAskedFor, IsCalled, IsStocked, Move, Names, Tells, asks_as, changes, comes, ends, receives, redrives, releases, stays, waits_rest, as_told}
use Rattle.sqs_laws.proofs.Flights.{flight_now, flight_over, flight_quiet}
use Rattle.sqs_laws.proofs.Naming.{at_place, flight_stays}
use Rattle.sqs_laws.proofs.Order.{rows_in_time}
use Rattle.sqs_laws.proofs.Said.{last_as, names_same, none_leaves}
use Rattle.sqs_laws.proofs.Slots.{Holds, MessageLaw, Slot, by_messages, gone, of_there, slot_of, there, unborn}
use Rattle.sqs_laws.proofs.Worlds.{IsNow, every_row_by}

-- the last receive of a message that is in flight
abbrev pub WasReceived : List Row → MessageId → Slot → Type 0
WasReceived rows i (there m) = is_in_flight m ≡ true → (f : Row) × (received_by i rows ≡ Some f) × (f.key.at ≡ m.received)
WasReceived rows i x = Unit {0}

pub received_still : (rows : List Row) (r : Row) (i : MessageId) (x : Slot) → (words.received r && names i r) ≡ false → WasReceived rows i x → WasReceived (rows ++ r ∷ []) i x
received_still rows r i (there m) e h = λ t. let x = h t in (x.0, last_as words.received i rows r false e ∙ x.1, x.2)
received_still rows r i gone e h = tt
received_still rows r i unborn e h = tt

abbrev pub receipt_law : (s : Scenario) → MessageLaw s
receipt_law s =
    record {
      Said = λ q rows i x. WasReceived rows i x;
      opens = λ q i. tt;
      other = λ q rows r i x e h. received_still rows r i x (ap (λ b. words.received r && b) e ∙ and-false (words.received r)) h;
      stays = λ rows key q r p a t n e x y h. received_still rows r (id_of q n) x (rw t.received_so refl) h;
      comes = λ rows key q r p a d e h t. absurd (true≢false (sym t ∙ waits_rest key.at d.delay d.one d.waits));
      receives = λ rows key q r p a d e h t. (r, last_as words.received (id_of q d.number) rows r true (rw (d.tells.received_so, names_same (id_of q d.number) r d.names.message) refl), ap (λ (y : Key). y.at) a.at_key);
      changes = λ rows key q r p a d h t. received_still rows r (id_of q d.number) (there d.one) (rw d.tells.received_so refl) h d.flies;
      releases = λ rows key q r p a d h t. cc;
      leaves = λ rows key q r p a t one n d h. tt;
    }

module _ (s : Scenario) where
  -- a receive or a change among some rows, behind those before it, and when its timeout ends
  pub record Began (rows : List Row) (f : Row) (end : ℕ) : Type 0 where
    pub before : List Row
    pub after : List Row
    pub split : rows ≡ before ++ (f ∷ after)
    pub by_receive : words.received f ≡ true → (q : QueueSettings) × (timeout : Option ℕ) × (slice_get s.queues f.queue ≡ Some q) × IsAskedFor s before f.agent f.key.at timeout × (end ≡ f.key.at + milliseconds_or q.visibility timeout)
    pub by_change : words.changed f ≡ true → (seconds : ℕ) × (f.detail ≡ details.Timeout seconds) × (end ≡ f.key.at + 1000 * seconds)

  -- a message that is in flight by it
  abbrev pub Flown : List Row → Row → Message → Type 0
  Flown rows f m = (end : ℕ) × Began rows f end × (m.release ≡ Some end)

  abbrev pub AreFlown : List Row → MessageId → Message → Type 0
  AreFlown rows i m = (f : Row) → flight i rows ≡ Some f → Flown rows f m

  abbrev pub IsSaid : List Row → MessageId → Slot → Type 0
  IsSaid rows i (there m) = AreFlown rows i m
  IsSaid rows i x = flight i rows ≡ None

  began_later : (rows : List Row) (r f : Row) (end : ℕ) → Began rows f end → Began (rows ++ r ∷ []) f end
  began_later rows r f end b =
      record { before = b.before; after = b.after ++ r ∷ []; split = ap (λ x. x ++ r ∷ []) b.split ∙ append_assoc b.before (f ∷ b.after) (r ∷ []); by_receive = b.by_receive; by_change = b.by_change }

  pub kept : (rows : List Row) (r : Row) (i : MessageId) (x : Slot) → flight i (rows ++ r ∷ []) ≡ flight i rows → IsSaid rows i x → IsSaid (rows ++ r ∷ []) i x
  kept rows r i (there m) e h = λ f g. let x = h f (sym e ∙ g) in (x.0, began_later rows r f x.0 x.1, x.2)
  kept rows r i gone e h = e ∙ h
  kept rows r i unborn e h = e ∙ h

  -- it begins to fly by a row
  pub begins : (rows : List Row) (q : Queue) (r : Row) (n end : ℕ) (m : Message) → r.queue ≡ q.site → slice_get s.queues q.site ≡ Some q.settings → r.message ≡ Some (id_of q n) → (words.received r || words.changed r) ≡ true → m.release ≡ Some end
      → (words.received r ≡ true → (timeout : Option ℕ) × IsAskedFor s rows r.agent r.key.at timeout × (end ≡ r.key.at + milliseconds_or q.settings.visibility timeout))
      → (words.changed r ≡ true → (seconds : ℕ) × (r.detail ≡ details.Timeout seconds) × (end ≡ r.key.at + 1000 * seconds)) → AreFlown (rows ++ r ∷ []) (id_of q n) m
  begins rows q r n end m here own e b l x y f g =
      let now : flight (id_of q n) (rows ++ r ∷ []) ≡ Some r = flight_now rows r (id_of q n) e b in
      let is : r ≡ f = cc in
      let began : Began (rows ++ r ∷ []) r end =
      record {
        before = rows;
        after = [];
        split = refl;
        by_receive = λ t. let z = x t in (q.settings, z.0, ap (λ i. slice_get s.queues i) here ∙ own, z.1, z.2);
        by_change = y;
      } in
      (end, subst (λ z. Began (rows ++ r ∷ []) z end) is began, l)

  abbrev pub flown : MessageLaw s
  flown =
      record {
        Said = λ q rows i x. IsSaid rows i x;
        opens = λ q i. refl;
        other = λ q rows r i x e h. kept rows r i x (flight_stays i rows r e) h;
        stays = λ rows key q r p a t n e x y h. kept rows r (id_of q n) x (flight_quiet rows r (id_of q n) false t) h;
        comes = λ rows key q r p a d e h f g. let none : flight (id_of q q.arrivals) (rows ++ r ∷ []) ≡ None = flight_quiet rows r (id_of q q.arrivals) true d.tells ∙ h in cc;
        receives = λ rows key q r p a d e h.
            let x = a.behind.timed d.tells.received_so d.number (received key.at d.timeout d.one) d.names.message e in
            begins rows q r d.number (r.key.at + milliseconds_or q.settings.visibility x.timeout) (received key.at d.timeout d.one) a.at_site a.settings d.names.message (rw d.tells.received_so refl) x.release (λ _. (x.timeout, x.asked, refl)) (λ t. absurd (true≢false (sym t ∙ d.tells.changed_so)));
        changes = λ rows key q r p a d h.
            let now : r.key.at ≡ key.at = ap (λ (y : Key). y.at) a.at_key in
            let end : ℕ = key.at + 1000 * d.timeout in
            begins rows q r d.number end (in_flight_until end d.one) a.at_site a.settings d.names.message (rw (d.tells.received_so, d.tells.changed_so) refl) refl (λ t. absurd (true≢false (sym t ∙ d.tells.received_so))) (λ _. (d.timeout, d.told, omega (arith, now)));
        releases = λ rows key q r p a d h f g. let none : flight (id_of q d.number) (rows ++ r ∷ []) ≡ None = flight_over rows r (id_of q d.number) d.names.message (rw (d.tells.received_so, d.tells.changed_so) refl) (rw d.tells.released_so refl) in cc;
        leaves = λ rows key q r p a t one n d h. flight_over rows r (id_of q n) d.message (rw (t.received_so, t.changed_so) refl) (rw (t.released_so, t.leaves_so) refl);
      }

  abbrev pub Says : List Row → Queue → Type 0
  Says rows q = Holds s flown rows q

  -- a message that is in flight is there, with the end of its timeout
  flown_by : (rows : List Row) (i : MessageId) (o : Option Message) (b : Bool) (f : Row) → IsSaid rows i (slot_of o b) → flight i rows ≡ Some f → (m : Message) × (o ≡ Some m) × Flown rows f m
  flown_by rows i (Some m) b f h e = (m, refl, h f e)
  flown_by rows i None true f h e = cc
  flown_by rows i None false f h e = cc

  -- what the law says of a row
  record IsAsTold (before : List Row) (r : Row) : Type 0 where
    pub ends : (m : MessageId) → r.message ≡ Some m → (is_release r.kind || is_redrive r.kind) ≡ true → (f : Row) → flight m before ≡ Some f → Began before f r.key.at
    pub goes_on : (m : MessageId) (f : Row) → m.site ≡ r.queue → flight m before ≡ Some f → (end : ℕ) × Began before f end × (r.key.at ≤ end)

  module _ (rows : List Row) (key : Key) (q : Queue) (r : Row) (p : Queue) (now : IsNow s rows key q) (d : Move key q r p) (k : IsStocked q) (h : Says rows q) where
    at_now : r.key.at ≡ key.at
    at_now = ap (λ (y : Key). y.at) d.at_key

    abbrev Ends : MessageId → Type 0
    Ends m = (f : Row) → flight m rows ≡ Some f → Began rows f r.key.at

    due_ends : (one : Message) (n : ℕ) → Names key q r p one n → one.release ≡ Some key.at → (m : MessageId) → r.message ≡ Some m → Ends m
    due_ends one n x due m e =
        let is : id_of q n ≡ m = cc in
        subst Ends is
        (λ f g.
        let y = of_there s flown rows q h n one x.there f g in
        let same : y.0 ≡ r.key.at = let both : Some y.0 ≡ Some key.at = sym y.2 ∙ due in let end : y.0 ≡ key.at = cc in end ∙ sym at_now in
        subst (Began rows f) same y.1)

    no_end : (c u v w : Bool) → Tells r c u v false w → is_redrive r.kind ≡ false → (is_release r.kind || is_redrive r.kind) ≡ true → ⊥
    no_end c u v w t e f = let none : (is_release r.kind || is_redrive r.kind) ≡ false = rw (t.released_so, e) refl in true≢false (sym f ∙ none)

    ends_by : Does key q r p → (m : MessageId) → r.message ≡ Some m → (is_release r.kind || is_redrive r.kind) ≡ true → Ends m
    ends_by (releases x) m e t = due_ends x.one x.number x.names x.due m e
    ends_by (redrives x) m e t = due_ends x.one x.number x.names x.due m e
    ends_by (stays x) m e t = absurd (no_end false false false false x.tells (none_leaves r x.tells.leaves_so).0 t)
    ends_by (comes x) m e t = absurd (no_end true false false false x.tells (none_leaves r x.tells.leaves_so).0 t)
    ends_by (receives x) m e t = absurd (no_end false true false false x.tells (none_leaves r x.tells.leaves_so).0 t)
    ends_by (changes x) m e t = absurd (no_end false false true false x.tells (none_leaves r x.tells.leaves_so).0 t)
    ends_by (ends x) m e t = absurd (no_end false false false true x.tells x.kind t)

    tells_by : IsAsTold rows r
    tells_by =
        record {
          ends = ends_by d.does;
          goes_on = λ m f i g.
              let is : id_of q m.number ≡ m = ap (λ n. record { site = n; number = m.number }) (sym d.at_site ∙ sym i) in
              let x = flown_by rows (id_of q m.number) (numbered m.number q.records) (nat_lt m.number q.arrivals) f (h.each m.number) (subst (λ j. flight j rows ≡ Some f) (sym is) g) in
              let late : key.at ≤ x.2.0 = timely_at key.at q m.number x.0 x.2.0 now.timely x.1 x.2.2 in
              (x.2.0, x.2.1, omega (arith, late, at_now));
        }

  -- a timeout of a receive that is not refused is at most 12 hours
  within : (visibility : ℕ) (timeout : Option ℕ) → visibility ≤ 1000 * longest_timeout → is_bad_timeout timeout ≡ false → milliseconds_or visibility timeout ≤ longest_flight
  within visibility None l b = omega (arith, l)
  within visibility (Some seconds) l b = let few : seconds ≤ 43200 = grind (arith, nat_tests, b) in omega (arith, few)

  -- a call that a row tells of, or that is made now, was made by now
  module _ (valid : All IsQueueSettings s.queues) (total : List Row) (order : EachRow total (λ before r. All (λ x. x.key.at ≤ r.key.at) before)) where
    ends_at : (rows more : List Row) (f : Row) (end : ℕ) → total ≡ rows ++ more → Began rows f end → EndsAt s f end
    ends_at rows more f end e b =
        let whole : total ≡ b.before ++ (f ∷ (b.after ++ more)) = e ∙ ap (λ x. x ++ more) b.split ∙ append_assoc b.before (f ∷ b.after) more in
        let earlier : All (λ x. x.key.at ≤ f.key.at) b.before = order b.before f (b.after ++ more) whole in
        record {
          by_receive = λ t.
              let x = b.by_receive t in
              let asked = x.3 in
              (x.0, x.1, x.2, (asked.0, asked.1, asks_as (IsCalled b.before f.key.at x.1) (MayGiveAt f.key.at x.1) (λ c y. made c x.1 y earlier) asked.0.role x.1 asked.2), x.4);
          at_most = λ t.
              let x = b.by_receive t in
              let own : IsQueueSettings x.0 = at_place IsQueueSettings s.queues f.queue x.0 valid x.2 in
              let most : milliseconds_or x.0.visibility x.1 ≤ longest_flight = within x.0.visibility x.1 own.visibility x.3.3 in
              omega (arith, x.4, most);
          by_change = b.by_change;
        }
      where
        made : (c : ScriptCall) (timeout : Option ℕ) → IsCalled b.before f.key.at timeout c → All (λ x. x.key.at ≤ f.key.at) b.before → MayGiveAt f.key.at timeout c
        made c timeout y earlier =
            record {
              most = y.most;
              wait = y.wait;
              call = y.call;
              made = elim y.begun as (λ _. c.at ≤ f.key.at) [ inl n ↦ omega (arith, n) | inr w ↦ (let l : w.0.key.at ≤ f.key.at = of_all (λ (x : Row). x.key.at ≤ f.key.at) b.before w.0 earlier w.1 in omega (arith, l, w.2)) ];
              waits = y.waits;
            }

  -- the law
  pub releases_are_kept : All IsQueueSettings s.queues → IsSoundScenario s → (x : Run) → IsRunOf s x → Law s x.rows
  releases_are_kept valid sound x is =
      let order = (rows_in_time s sound x is).order in
      let each : EachRow x.rows IsAsTold = every_row_by s (by_messages s flown) IsAsTold (λ rows key q r p now d g k h j. tells_by rows key q r p now d k h) x is in
      record {
        ends = λ before r after e m i t f g. ends_at valid x.rows order before (r ∷ after) f r.key.at e ((each before r after e).ends m i t f g);
        goes_on = λ before r after e m f i g. let y = (each before r after e).goes_on m f i g in (y.0, ends_at valid x.rows order before (r ∷ after) f y.0 e y.1, y.2);
        longest =
            every_row_by s (by_messages s (receipt_law s)) _
            (λ rows key q r p now d g k h j m e t seconds f.
            let x = (as_told key q r p d.does).changes t in
            let is : id_of q x.number ≡ m = let named : Some (id_of q x.number) ≡ Some m = sym x.names.message ∙ e in cc in
            let same : x.timeout ≡ seconds = let both : details.Timeout x.timeout ≡ details.Timeout seconds = sym x.told ∙ f in cc in
            let z = of_there s (receipt_law s) rows q h x.number x.one x.names.there x.flies in
            let at : r.key.at ≡ key.at = ap (λ (y : Key). y.at) d.at_key in
            (z.0, subst (λ i. received_by i rows ≡ Some z.0) is z.1, omega (arith, x.limit, z.2, same, at))) x is;
        at_last = λ m q f e g.
            let y : IsLast s (by_messages s flown) x m.site = last_of s (by_messages s flown) x is m.site q e in
            let w : Queue = y.site.core.queue in
            let same : id_of w m.number ≡ m = ap (λ n. record { site = n; number = m.number }) y.number in
            let z = flown_by x.rows (id_of w m.number) (numbered m.number w.records) (nat_lt m.number w.arrivals) f (y.good.holds.each m.number) (subst (λ j. flight j x.rows ≡ Some f) (sym same) g) in
            let late : s.horizon + 1 ≤ z.2.0 = timely_at (s.horizon + 1) w m.number z.0 z.2.0 y.timely z.1 z.2.2 in
            (z.2.0, ends_at valid x.rows order x.rows [] f z.2.0 (sym (append-nil x.rows)) z.2.1, omega (arith, late));
      }

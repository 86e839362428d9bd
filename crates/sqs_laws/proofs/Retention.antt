-- Retention: a message expires exactly at the end of its retention, and a delete or an expiry tells its age.
use Rattle.std.specs.Prelude.{All, Bool, List, None, Option, Some, [], false, max, nat_lt, slice_get, true, ℕ, ◌&&◌, ◌+◌, ◌-◌, ◌++◌, ◌<◌, ◌∷◌, ◌≡◌, ◌≤◌, ◌⊎◌, ◌||◌}
use Rattle.std.proofs.Common.{ap, arith, inl, inr, refl, subst, sym, true≢false, ◌∙◌}
use Rattle.sqs_laws.proofs.Terms.{and-false, eqb-true, find_all, find_picked, has_number, id_of, In, in_left, in_right, is_deleted, is_expired, IsRunOf, IsSoundScenario, IsSoundSettings, Key, Message, MessageId, numbered, of_all, or-true, Queue, QueueSettings, Row, Run, Scenario}
use Rattle.std.proofs.Math.Nat.{le-max_left, le-max_right, max-eq_left, max-eq_right}
use Rattle.sqs_message.specs.declared.row.Detail.TheVariants as details
use Rattle.sqs_laws.specs.Laws.{EnqueuedAt, IsKeptUntil, Retention, TellsAge}
use Rattle.sqs_laws.specs.Words.{came_by, has_left, names}
use Rattle.sqs_laws.specs.Words as words
use Rattle.sqs_laws.proofs.Lasts.{IsLast, last_of}
use Rattle.sqs_laws.proofs.Moves.{CameNow, IsEnd}
use Rattle.sqs_laws.proofs.Order.{rows_in_time}
use Rattle.sqs_laws.proofs.Said.{last_as, left_as, left_now, names_same}
use Rattle.sqs_laws.proofs.Slots.{IsStep, MessageLaw, Slot, by_messages, gone, slot, slot_of, there, unborn}
use Rattle.sqs_laws.proofs.Traces.{comes_since, since_later}
use Rattle.sqs_laws.proofs.Worlds.{EachAfter, each_append, each_row}
use Rattle.sqs_laws.proofs.Naming.{at_place}

-- what a row tells of a message that came by another one and is there
record TellsSo (retention : ℕ) (before : List Row) (r by : Row) (moment : ℕ) : Type 0 where
  pub came : In before by
  pub over : (r.key.at ≤ moment + retention) ⊎ (by.key.at ≡ r.key.at)
  pub expires : is_expired r.answer ≡ true → (r.key.at ≡ moment + retention) ⊎ ((moment + retention ≤ r.key.at) × (by.key.at ≡ r.key.at))
  pub age : (is_deleted r.answer || is_expired r.answer) ≡ true → r.detail ≡ details.Age (r.key.at - moment)

abbrev IsTold : QueueSettings → MessageId → Row → ℕ → List Row → Row → Type 0
IsTold q i by moment before r = (n : MessageId) → r.message ≡ Some n → n ≡ i → came_by i before ≡ Some by → has_left i before ≡ false → TellsSo q.retention before r by moment

-- what the rows so far say of a message that came by a row and counts as enqueued at a moment
record Kept (s : Scenario) (rows : List Row) (q : QueueSettings) (i : MessageId) (by : Row) (moment : ℕ) : Type 0 where
  pub came : came_by i rows ≡ Some by
  pub among : In rows by
  pub since : EnqueuedAt s rows i moment
  pub told : EachAfter (IsTold q i by moment) [] rows

-- of each row so far follows what it says
each_weaker : (P Q : List Row → Row → Type 0) → ((before : List Row) (r : Row) → P before r → Q before r) → (before rows : List Row) → EachAfter P before rows → EachAfter Q before rows
each_weaker P Q f before [] h = tt
each_weaker P Q f before (r ∷ rs) h = (f before r h.0, each_weaker P Q f (before ++ r ∷ []) rs h.1)

module _ (s : Scenario) where
  abbrev IsSaid : QueueSettings → List Row → MessageId → Slot → Type 0
  IsSaid q rows i (there m) = (by : Row) × Kept s rows q i by m.enqueued
  IsSaid q rows i gone = (by : Row) × (moment : ℕ) × Kept s rows q i by moment × (has_left i rows ≡ true)
  IsSaid q rows i unborn = (came_by i rows ≡ None) × EachAfter (λ before r. came_by i before ≡ None) [] rows

  -- with one more row, by which it does not come
  kept : (rows : List Row) (r : Row) (q : QueueSettings) (i : MessageId) (by : Row) (moment : ℕ) → (words.comes r && names i r) ≡ false → IsTold q i by moment rows r → Kept s rows q i by moment → Kept s (rows ++ r ∷ []) q i by moment
  kept rows r q i by moment e t k =
      record {
        came = last_as words.comes i rows r false e ∙ k.came;
        among = in_left rows (r ∷ []) by k.among;
        since = since_later s rows r i moment e k.since;
        told = each_append (IsTold q i by moment) [] rows (r ∷ []) k.told (t, tt);
      }

  -- a row that says nothing of a message that has gone, or has not come
  gone_more : (rows : List Row) (r : Row) (q : QueueSettings) (i : MessageId) → (words.comes r && names i r) ≡ false → IsSaid q rows i gone → IsSaid q (rows ++ r ∷ []) i gone
  gone_more rows r q i e (by, moment, k, l) = (by, moment, kept rows r q i by moment e (λ n f g c t. absurd (true≢false (sym l ∙ t))) k, left_as i rows r (words.leaves r && names i r) refl ∙ ap (λ b. b || (words.leaves r && names i r)) l)

  unborn_more : (rows : List Row) (r : Row) (q : QueueSettings) (i : MessageId) → (words.comes r && names i r) ≡ false → IsSaid q rows i unborn → IsSaid q (rows ++ r ∷ []) i unborn
  unborn_more rows r q i e (c, h) = (last_as words.comes i rows r false e ∙ c, each_append (λ before r. came_by i before ≡ None) [] rows (r ∷ []) h (c, tt))

  other : (rows : List Row) (r : Row) (q : QueueSettings) (i : MessageId) (x : Slot) → names i r ≡ false → IsSaid q rows i x → IsSaid q (rows ++ r ∷ []) i x
  other rows r q i (there m) e (by, k) = (by, kept rows r q i by m.enqueued (ap (λ b. words.comes r && b) e ∙ and-false (words.comes r)) (λ n f g. absurd (true≢false (sym (names_same i r (f ∙ ap (λ y. Some y) g)) ∙ e))) k)
  other rows r q i gone e h = gone_more rows r q i (ap (λ b. words.comes r && b) e ∙ and-false (words.comes r)) h
  other rows r q i unborn e h = unborn_more rows r q i (ap (λ b. words.comes r && b) e ∙ and-false (words.comes r)) h

  -- the retention of a queue is some time
  module _ (sound : IsSoundScenario s) where
    lasts : (n : ℕ) (q : QueueSettings) → slice_get s.queues n ≡ Some q → 0 < q.retention
    lasts n q e = let one : IsSoundSettings q = at_place IsSoundSettings s.queues n q sound.queues e in omega (arith, one.retention)

    module _ (rows : List Row) (key : Key) (q : Queue) (r : Row) (p : Queue) (a : IsStep s rows key q r p) where
      -- a row that names a message which is there
      told : (n : ℕ) (m : Message) (by : Row) → numbered n q.records ≡ Some m → Kept s rows q.settings (id_of q n) by m.enqueued → r.message ≡ Some (id_of q n) → IsTold q.settings (id_of q n) by m.enqueued rows r
      told n m by f k e j g w c t =
          let at : r.key.at ≡ key.at = ap (λ (y : Key). y.at) a.at_key in
          let number : m.number ≡ n = eqb-true m.number n (find_picked (has_number n) q.records m f) in
          let same : (x : Row) → came_by (id_of q n) rows ≡ Some x → x.key.at ≡ by.key.at = λ x d. let both : Some x ≡ Some by = sym d ∙ k.came in let is : x ≡ by = cc in ap (λ (y : Row). y.key.at) is in
          let open_ : (key.at ≤ m.enqueued + q.settings.retention) ⊎ CameNow rows (id_of q m.number) key.at = find_all (has_number n) (λ x. (key.at ≤ x.enqueued + q.settings.retention) ⊎ CameNow rows (id_of q x.number) key.at) q.records m a.now.lasts f in
          let end : (is_deleted r.answer || is_expired r.answer) ≡ true → IsEnd rows q r n m = λ x. a.behind.ends (lasts q.site q.settings a.settings) x n m e f in
          record {
            came = k.among;
            over =
                elim open_ as (λ _. (r.key.at ≤ m.enqueued + q.settings.retention) ⊎ (by.key.at ≡ r.key.at)) [
                  | inl l ↦ inl (omega (arith, l, at))
                  | inr (x, d, y) ↦ inr (sym (same x (subst (λ i. came_by (id_of q i) rows ≡ Some x) number d)) ∙ y ∙ sym at)
                ];
            expires = λ x.
                let both : (is_deleted r.answer || is_expired r.answer) ≡ true = ap (λ b. is_deleted r.answer || b) x ∙ or-true (is_deleted r.answer) in
                elim ((end both).over x) as (λ _. (r.key.at ≡ m.enqueued + q.settings.retention) ⊎ ((m.enqueued + q.settings.retention ≤ r.key.at) × (by.key.at ≡ r.key.at))) [
                  | inl l ↦ inl l
                  | inr w ↦ inr (w.0, sym (same w.1.0 w.1.1) ∙ w.1.2)
                ];
            age = λ x. (end x).age;
          }

      -- one that is there after it
      stays_there : (n : ℕ) (m : Message) → words.comes r ≡ false → numbered n q.records ≡ Some m → r.message ≡ Some (id_of q n) → IsSaid q.settings rows (id_of q n) (there m) → (by : Row) × Kept s (rows ++ r ∷ []) q.settings (id_of q n) by m.enqueued
      stays_there n m c f e (by, k) = (by, kept rows r q.settings (id_of q n) by m.enqueued (rw c refl) (told n m by f k e) k)

      found_there : (o : Option Message) (b : Bool) (m : Message) → there m ≡ slot_of o b → o ≡ Some m
      found_there (Some x) b m e = let is : m ≡ x = cc in ap (λ y. Some y) (sym is)
      found_there None true m e = cc
      found_there None false m e = cc

      stays_so : (n : ℕ) → words.comes r ≡ false → r.message ≡ Some (id_of q n) → (x : Slot) → x ≡ slot q n → IsSaid q.settings rows (id_of q n) x → IsSaid q.settings (rows ++ r ∷ []) (id_of q n) x
      stays_so n c e (there m) y h = stays_there n m c (found_there (numbered n q.records) (nat_lt n q.arrivals) m y) e h
      stays_so n c e gone y h = gone_more rows r q.settings (id_of q n) (rw c refl) h
      stays_so n c e unborn y h = unborn_more rows r q.settings (id_of q n) (rw c refl) h

      goes : (n : ℕ) (m : Message) → words.comes r ≡ false → words.leaves r ≡ true → numbered n q.records ≡ Some m → r.message ≡ Some (id_of q n) → IsSaid q.settings rows (id_of q n) (there m) → IsSaid q.settings (rows ++ r ∷ []) (id_of q n) gone
      goes n m c l f e h = let x = stays_there n m c f e h in (x.0, m.enqueued, x.1, left_now (id_of q n) rows r l e)

    abbrev retention_law : MessageLaw s
    retention_law =
        record {
          Said = IsSaid;
          opens = λ q i. (refl, tt);
          other = λ q rows r i x e h. other rows r q i x e h;
          stays = λ rows key q r p a t n e x y h. stays_so rows key q r p a n t.comes_so e x y h;
          comes = λ rows key q r p a d e h. (
            r,
            record {
              came = last_as words.comes (id_of q q.arrivals) rows r true (rw (d.tells.comes_so, names_same (id_of q q.arrivals) r d.message) refl);
              among = in_right rows (r ∷ []) r (inl refl);
              since = comes_since s rows key q r p a.at_key a.at_site a.settings a.behind d e;
              told =
                  each_weaker (λ before x. came_by (id_of q q.arrivals) before ≡ None) (IsTold q.settings (id_of q q.arrivals) r d.one.enqueued) (λ before x none n f g c. cc) [] (rows ++ r ∷ [])
                  (each_append (λ before x. came_by (id_of q q.arrivals) before ≡ None) [] rows (r ∷ []) h.1 (h.0, tt));
            },
          );
          receives = λ rows key q r p a d e h. stays_there rows key q r p a d.number d.one d.tells.comes_so d.names.there d.names.message h;
          changes = λ rows key q r p a d h. stays_there rows key q r p a d.number d.one d.tells.comes_so d.names.there d.names.message h;
          releases = λ rows key q r p a d h. stays_there rows key q r p a d.number d.one d.tells.comes_so d.names.there d.names.message h;
          leaves = λ rows key q r p a t one n d h. goes rows key q r p a n one t.comes_so t.leaves_so d.there d.message h;
        }

    -- what a row tells, by the order of time
    tells_age : (q : QueueSettings) (before : List Row) (r by : Row) (moment : ℕ) → All (λ x. x.key.at ≤ r.key.at) before → TellsSo q.retention before r by moment → TellsAge r moment (max by.key.at (moment + q.retention))
    tells_age q before r by moment o t =
        let early : by.key.at ≤ r.key.at = of_all (λ (x : Row). x.key.at ≤ r.key.at) before by o t.came in
        let left : by.key.at ≤ max by.key.at (moment + q.retention) = le-max_left by.key.at (moment + q.retention) in
        let right : moment + q.retention ≤ max by.key.at (moment + q.retention) = le-max_right by.key.at (moment + q.retention) in
        record {
          over = elim t.over as (λ _. r.key.at ≤ max by.key.at (moment + q.retention)) [ inl l ↦ omega (arith, l, right) | inr e ↦ omega (arith, e, left) ];
          expires = λ x.
              elim (t.expires x) as (λ _. r.key.at ≡ max by.key.at (moment + q.retention)) [
                | inl e ↦ e ∙ sym (max-eq_right (let l : by.key.at ≤ moment + q.retention = omega (arith, early, e) in l))
                | inr (l, e) ↦ sym e ∙ sym (max-eq_left (let k : moment + q.retention ≤ by.key.at = omega (arith, l, e) in k))
              ];
          age = t.age;
        }

    abbrev IsKept : Run → MessageId → Row → QueueSettings → Type 0
    IsKept x i by q = (moment : ℕ) × IsKeptUntil s x.rows i by moment (max by.key.at (moment + q.retention))

    module _ (x : Run) (is : IsRunOf s x) (q : QueueSettings) (i : MessageId) (by : Row) where
      kept_until : (moment : ℕ) → (has_left i x.rows ≡ false → s.horizon < moment + q.retention) → Kept s x.rows q i by moment → IsKept x i by q
      kept_until moment l k = (
        moment,
        record {
          enqueued = k.since;
          there = λ before r after e n f g c t. tells_age q before r by moment ((rows_in_time s sound x is).order before r after e) (each_row (IsTold q i by moment) x.rows k.told before r after e n f g c t);
          at_last = λ t. let late : s.horizon < moment + q.retention = l t in let right : moment + q.retention ≤ max by.key.at (moment + q.retention) = le-max_right by.key.at (moment + q.retention) in omega (arith, late, right);
        },
      )

      -- one that came by this row
      kept_as : (o : Row) (moment : ℕ) → came_by i x.rows ≡ Some by → Kept s x.rows q i o moment → Kept s x.rows q i by moment
      kept_as o moment c k = let both : Some o ≡ Some by = sym k.came ∙ c in let same : o ≡ by = cc in subst (λ y. Kept s x.rows q i y moment) same k

      kept_by : (n : ℕ) (records : List Message) → All (λ m. s.horizon + 1 ≤ m.enqueued + q.retention) records → (o : Option Message) (b : Bool) → numbered n records ≡ o → IsSaid q x.rows i (slot_of o b) → came_by i x.rows ≡ Some by → IsKept x i by q
      kept_by n records l (Some m) b f (y, k) c = kept_until m.enqueued (λ t. let late : s.horizon + 1 ≤ m.enqueued + q.retention = find_all (has_number n) (λ z. s.horizon + 1 ≤ z.enqueued + q.retention) records m l f in omega (arith, late)) (kept_as y m.enqueued c k)
      kept_by n records l None true f (y, moment, k, g) c = kept_until moment (λ t. absurd (true≢false (sym g ∙ t))) (kept_as y moment c k)
      kept_by n records l None false f (none, h) c = cc

    -- the law
    pub messages_are_kept : (x : Run) → IsRunOf s x → Retention s x.rows
    messages_are_kept x is =
        record {
          kept = λ m by q c e.
              let y : IsLast s (by_messages s retention_law) x m.site = last_of s (by_messages s retention_law) x is m.site q e in
              let w : Queue = y.site.core.queue in
              let same : id_of w m.number ≡ m = ap (λ n. record { site = n; number = m.number }) y.number in
              let own : w.settings ≡ q = let both : Some w.settings ≡ Some q = sym y.good.holds.settings ∙ ap (λ n. slice_get s.queues n) y.number ∙ e in cc in
              subst (IsKept x m by) own (subst (λ i. IsKept x i by w.settings) same (kept_by x is w.settings (id_of w m.number) by m.number w.records y.lasts (numbered m.number w.records) (nat_lt m.number w.arrivals) refl (y.good.holds.each m.number) (subst (λ i. came_by i x.rows ≡ Some by) (sym same) c)));
        }

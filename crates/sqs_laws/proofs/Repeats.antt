-- Repeats: a row that repeats a message names one that came to its FIFO queue less than 5 minutes before; and what is sent
-- again within 5 minutes is a repeat.
use Rattle.std.specs.Prelude.{All, Bool, List, Some, [], false, nat_lt, slice_get, true, ◌&&◌, ◌+◌, ◌++◌, ◌<◌, ◌∷◌, ◌≡◌, ◌≢◌, ◌≤◌, ◌⊎◌, ◌||◌}
use Rattle.std.proofs.Common.{ap, arith, inl, inr, refl, subst, sym, ◌∙◌}
use Rattle.sqs_laws.proofs.Terms.{and-false, and_parts, by_cases, deduplication_interval, Entry, id_of, In, in_append, in_left, in_right, IsRunOf, IsSoundScenario, Key, Message, nat_tests, of_all, Queue, QueueSettings, Row, RowKind, Run, Scenario, with_records}
use Rattle.sqs_message.specs.declared.row.RowKind.TheVariants as kinds
use Rattle.sqs_laws.specs.Sends.{Given, key_given}
use Rattle.sqs_laws.specs.Laws.{Repeats, RepeatsRecent, MaySendTheSame, fifo_at, is_fifo}
use Rattle.sqs_laws.specs.Words.{came_by, is_send, names}
use Rattle.sqs_laws.specs.Words as words
use Rattle.sqs_laws.proofs.Moves.{AddsEntry, Asks, Comes, Does, HasKey, Keeps, IsEntered, IsBehind, IsSendAnswer, IsStocked, Move, RepeatsEntry, changes, comes, ends, receives, redrives, releases, stays, does_keep, entries_stay}
use Rattle.sqs_laws.proofs.Order.{rows_in_time}
use Rattle.sqs_laws.proofs.Said.{names_apart, names_other, names_same, last_as}
use Rattle.sqs_laws.proofs.Traces.{fifo_there}
use Rattle.sqs_laws.proofs.Worlds.{RowLaw, every_row_by}
use Rattle.sqs_laws.proofs.Naming.{NamesOwn}

-- the row of an entry: that by which its message came, 5 minutes before its end
record Entered (s : Scenario) (rows : List Row) (q : Queue) (e : Entry) : Type 0 where
  pub by : Row
  pub came : came_by (id_of q e.number) rows ≡ Some by
  pub ends : by.key.at + deduplication_interval ≡ e.end
  pub same : is_send by.kind ≡ true → HasKey s q by e

-- what the rows so far say of a queue: how each of its entries was made
record Says (s : Scenario) (rows : List Row) (q : Queue) : Type 0 where
  pub settings : slice_get s.queues q.site ≡ Some q.settings
  pub entered : (e : Entry) → In q.entries e → Entered s rows q e

module _ (s : Scenario) (key : Key) (rows : List Row) (q : Queue) (r : Row) (p : Queue) (k : IsStocked q) (at_key : r.key ≡ key) (o : IsBehind s rows q r p) (h : Says s rows q) where
  other : (e : Entry) → (words.comes r && names (id_of q e.number) r) ≡ false → Entered s rows q e → Entered s (rows ++ r ∷ []) q e
  other e n x = record { by = x.by; came = last_as words.comes (id_of q e.number) rows r false n ∙ x.came; ends = x.ends; same = x.same }

  still : words.comes r ≡ false → Says s (rows ++ r ∷ []) q
  still c = record { settings = h.settings; entered = λ e i. other e (rw c refl) (h.entered e i) }

  kept : (records : List Message) → words.comes r ≡ false → Says s (rows ++ r ∷ []) (with_records q records)
  kept records c = record { settings = h.settings; entered = λ e i. let x : Entered s (rows ++ r ∷ []) q e = (still c).entered e i in record { by = x.by; came = x.came; ends = x.ends; same = x.same } }

  entered_by : (d : Comes key q r p) (e : Entry) → In p.entries e → IsEntered key q e → Entered s (rows ++ r ∷ []) q e
  entered_by d e l (inl i) =
      let old : e.number < q.arrivals = of_all (λ (x : Entry). x.number < q.arrivals) q.entries e k.entries i in
      other e (ap (λ b. words.comes r && b) (names_other (id_of q e.number) (id_of q q.arrivals) r d.message (λ y. absurd (omega (arith, old, y)))) ∙ and-false (words.comes r)) (h.entered e i)
  entered_by d e l (inr i) =
      let named : r.message ≡ Some (id_of q e.number) = d.message ∙ ap (λ n. Some (id_of q n)) (sym i.0) in
      record {
        by = r;
        came = last_as words.comes (id_of q e.number) rows r true (rw (d.tells.comes_so, names_same (id_of q e.number) r named) refl);
        ends = ap (λ (x : Key). x.at + deduplication_interval) at_key ∙ sym i.1;
        same = λ t. o.enters (rw (t, d.tells.comes_so) refl) e l i.0;
      }

  does_enter : Does key q r p → Says s (rows ++ r ∷ []) p
  does_enter (stays d) = subst (Says s (rows ++ r ∷ [])) d.same (still d.tells.comes_so)
  does_enter (comes d) =
      subst (Says s (rows ++ r ∷ [])) d.after
      (record { settings = h.settings; entered = λ e i. let x : Entered s (rows ++ r ∷ []) q e = entered_by d e (subst (λ (y : Queue). In y.entries e) d.after i) (of_all (IsEntered key q) d.entries e d.entered.each i) in record { by = x.by; came = x.came; ends = x.ends; same = x.same } })
  does_enter (receives d) = subst (Says s (rows ++ r ∷ [])) d.after (kept _ d.tells.comes_so)
  does_enter (changes d) = subst (Says s (rows ++ r ∷ [])) d.after (kept _ d.tells.comes_so)
  does_enter (releases d) = subst (Says s (rows ++ r ∷ [])) d.after (kept _ d.tells.comes_so)
  does_enter (redrives d) = subst (Says s (rows ++ r ∷ [])) d.after (kept _ d.tells.comes_so)
  does_enter (ends d) = subst (Says s (rows ++ r ∷ [])) d.after (kept _ d.tells.comes_so)

apart : (s : Scenario) (rows : List Row) (r : Row) (q : Queue) → r.queue ≢ q.site → NamesOwn r → Says s rows q → Says s (rows ++ r ∷ []) q
apart s rows r q d own h =
    record {
      settings = h.settings;
      entered = λ e i.
          let x : Entered s rows q e = h.entered e i in
          record { by = x.by; came = last_as words.comes (id_of q e.number) rows r false (ap (λ b. words.comes r && b) (names_apart (id_of q e.number) r own d) ∙ and-false (words.comes r)) ∙ x.came; ends = x.ends; same = x.same };
    }

-- the law that each entry of a queue was made by a row
abbrev entries : (s : Scenario) → RowLaw s
entries s =
    record {
      Holds = Says s;
      Meets = λ rows r. Unit {0};
      moves = λ rows key q r p by m g k h. (tt, does_enter s key rows q r p k m.at_key g h m.does);
      apart = apart s;
      opens = λ n settings e. record { settings = e; entered = λ x i. absurd i };
    }

-- what it says of a row
told : (s : Scenario) → IsSoundScenario s → (rows : List Row) (key : Key) (q : Queue) (r : Row) (p : Queue) → Move key q r p → IsBehind s rows q r p → Says s rows q → words.is_repeat r.answer ≡ true → (fifo_at s r ≡ true) × RepeatsRecent s rows r
told s sound rows key q r p d g h t =
    let own : slice_get s.queues r.queue ≡ Some q.settings = ap (λ n. slice_get s.queues n) d.at_site ∙ h.settings in
    let x : RepeatsEntry s q r = g.repeats t in
    let e : Entered s rows q x.entry = h.entered x.entry x.there in (
      fifo_there s r q d.at_site h.settings ∙ x.fifo,
      record {
        message = id_of q x.entry.number;
        by = e.by;
        names = x.names;
        came = e.came;
        recent = omega (arith, x.lives, e.ends);
        same = λ y f u a b v w.
            let is : q.settings ≡ y = cc in
            let both = and_parts (is_send r.kind) (is_send e.by.kind) u in
            ap (λ (z : QueueSettings). key_given z.kind a) (sym is) ∙ x.same both.0 sound.actors a v ∙ sym (e.same both.1 sound.actors b w) ∙ ap (λ (z : QueueSettings). key_given z.kind b) is;
      },
    )

-- the entry of a message that a row sent
record EntryOf (s : Scenario) (q : Queue) (x : Row) : Type 0 where
  pub entry : Entry
  pub there : In q.entries entry
  pub lives : entry.end ≡ x.key.at + deduplication_interval
  pub key : HasKey s q x entry

-- it is there, unless a row is from after its end
abbrev IsRemembered : Scenario → List Row → Queue → Row → Type 0
IsRemembered s rows q x = EntryOf s q x ⊎ ((w : Row) × In rows w × (x.key.at + deduplication_interval ≤ w.key.at))

abbrev sends_in : Row → Bool
sends_in x = is_send x.kind && words.comes x

send_answer : (key : Key) (q : Queue) (r : Row) (k : RowKind) → is_send k ≡ true → Asks key q r k → IsSendAnswer r.answer
send_answer key q r kinds.Send e a = a
send_answer key q r k e a = cc

-- what a FIFO queue remembers of the rows so far
record Remembers (s : Scenario) (rows : List Row) (q : Queue) : Type 0 where
  pub settings : slice_get s.queues q.site ≡ Some q.settings
  pub each : is_fifo q.settings.kind ≡ true → (x : Row) → In rows x → x.queue ≡ q.site → sends_in x ≡ true → IsRemembered s rows q x

rows_later : (s : Scenario) (rows : List Row) (r : Row) (q : Queue) (x : Row) → IsRemembered s rows q x → IsRemembered s (rows ++ r ∷ []) q x
rows_later s rows r q x (inl e) = inl e
rows_later s rows r q x (inr w) = inr (w.0, in_left rows (r ∷ []) w.0 w.1, w.2)

module _ (s : Scenario) (key : Key) (rows : List Row) (q : Queue) (r : Row) (p : Queue) (m : Move key q r p) (o : IsBehind s rows q r p) (keeps : Keeps q p) (h : Remembers s rows q) where
  moved : (x : Row) (e : Entry) → HasKey s q x e → HasKey s p x e
  moved x e k = λ t z g. ap (λ (y : QueueSettings). key_given y.kind z) (sym keeps.settings) ∙ k t z g

  stays_by : (x : Row) (b : Bool) → (e : EntryOf s q x) → nat_lt key.at e.entry.end ≡ b → IsRemembered s (rows ++ r ∷ []) p x
  stays_by x true e t =
      let more : key.at < e.entry.end = grind (arith, nat_tests, t) in
      inl (record { entry = e.entry; there = entries_stay key q r p m.does e.entry e.there more; lives = e.lives; key = moved x e.entry e.key })
  stays_by x false e t =
      let less : e.entry.end ≤ key.at = grind (arith, nat_tests, t) in
      let now : r.key.at ≡ key.at = ap (λ (y : Key). y.at) m.at_key in
      inr (r, in_right rows (r ∷ []) r (inl refl), omega (arith, less, now, e.lives))

  later : (x : Row) → IsRemembered s rows q x → IsRemembered s (rows ++ r ∷ []) p x
  later x (inl e) = stays_by x (nat_lt key.at e.entry.end) e refl
  later x (inr w) = inr (w.0, in_left rows (r ∷ []) w.0 w.1, w.2)

  added : is_fifo q.settings.kind ≡ true → sends_in r ≡ true → EntryOf s p r
  added f t = let w : AddsEntry s q r p = o.anew t f in record { entry = w.entry; there = w.there; lives = w.lives; key = moved r w.entry (o.enters t w.entry w.there w.number) }

  does_remember : Remembers s (rows ++ r ∷ []) p
  does_remember =
      record {
        settings = ap (λ n. slice_get s.queues n) (sym keeps.site) ∙ h.settings ∙ ap (λ y. Some y) keeps.settings;
        each = λ f x i a t.
            let fifo : is_fifo q.settings.kind ≡ true = ap (λ (y : QueueSettings). is_fifo y.kind) keeps.settings ∙ f in
            elim (in_append rows (r ∷ []) x i) as (λ _. IsRemembered s (rows ++ r ∷ []) p x) [
              | inl j ↦ later x (h.each fifo x j (a ∙ sym keeps.site) t)
              | inr j ↦ elim j as (λ _. IsRemembered s (rows ++ r ∷ []) p x) [
                | inl is ↦ subst (IsRemembered s (rows ++ r ∷ []) p) is (inl (added fifo (ap sends_in is ∙ t)))
                | inr none ↦ absurd none
              ]
            ];
      }

  -- a row that sends, behind one that sent the same
  module _ (sound : IsSoundScenario s) (f : fifo_at s r ≡ true) (order : All (λ x. x.key.at ≤ r.key.at) rows) (x : Row) (i : In rows x) (a : x.queue ≡ r.queue) (u : sends_in x ≡ true) (l : r.key.at < x.key.at + deduplication_interval) (same : MaySendTheSame s r x) where
    not_anew : sends_in r ≡ true → ⊥
    not_anew t =
        let y : QueueSettings = same.0 in
        let g : Given = same.2 in
        let b : Given = same.3 in
        let own : slice_get s.queues r.queue ≡ Some q.settings = ap (λ n. slice_get s.queues n) m.at_site ∙ h.settings in
        let is : q.settings ≡ y = let both : Some q.settings ≡ Some y = sym own ∙ same.1 in cc in
        let fifo : is_fifo q.settings.kind ≡ true = sym (fifo_there s r q m.at_site h.settings) ∙ f in
        elim (h.each fifo x i (a ∙ m.at_site) u) as (λ _. ⊥) [
          | inl z ↦
              (o.anew t fifo).differs z.entry z.there (omega (arith, l, z.lives)) sound.actors g same.4
              (ap (λ (k : QueueSettings). key_given k.kind g) is ∙ same.6 ∙ ap (λ (k : QueueSettings). key_given k.kind b) (sym is) ∙ z.key sound.actors b same.5)
          | inr z ↦ let past : z.0.key.at ≤ r.key.at = of_all (λ (k : Row). k.key.at ≤ r.key.at) rows z.0 order z.1 in absurd (omega (arith, past, l, z.2))
        ]

    told_again : is_send r.kind ≡ true → (words.is_repeat r.answer || words.is_refused r.answer) ≡ true
    told_again t =
        by_cases (words.comes r) (λ e. absurd (not_anew (rw (t, e) refl)))
        (λ e. sym (ap (λ b. b || words.is_repeat r.answer || words.is_refused r.answer) e) ∙ send_answer key q r r.kind t m.asked)

-- the law that a queue remembers what is sent
abbrev remembers : (s : Scenario) → RowLaw s
remembers s =
    record {
      Holds = Remembers s;
      Meets = λ rows r. Unit {0};
      moves = λ rows key q r p by m g k h. (tt, does_remember s key rows q r p m g (does_keep key q r p m.does k) h);
      apart = λ rows r q d own h. record {
        settings = h.settings;
        each = λ f x i a t.
            elim (in_append rows (r ∷ []) x i) as (λ _. IsRemembered s (rows ++ r ∷ []) q x) [
              | inl j ↦ rows_later s rows r q x (h.each f x j a t)
              | inr j ↦ elim j as (λ _. IsRemembered s (rows ++ r ∷ []) q x) [
                | inl is ↦ absurd (d (ap (λ (y : Row). y.queue) is ∙ a))
                | inr none ↦ absurd none
              ]
            ];
      };
      opens = λ n settings e. record { settings = e; each = λ f x i. absurd i };
    }

-- a row that sends what was sent less than 5 minutes before
abbrev SentAgain : Scenario → List Row → Row → Type 0
SentAgain s rows r =
    fifo_at s r ≡ true → All (λ x. x.key.at ≤ r.key.at) rows → (x : Row) → In rows x → x.queue ≡ r.queue → sends_in x ≡ true
    → r.key.at < x.key.at + deduplication_interval → MaySendTheSame s r x → is_send r.kind ≡ true → (words.is_repeat r.answer || words.is_refused r.answer) ≡ true

-- the law
pub repeats_are_recent : (s : Scenario) → IsSoundScenario s → (x : Run) → IsRunOf s x → Repeats s x.rows
repeats_are_recent s sound x is =
    record {
      fifo = every_row_by s (entries s) _ (λ rows key q r p now d g k h j t. (told s sound rows key q r p d g h t).0) x is;
      recent = every_row_by s (entries s) _ (λ rows key q r p now d g k h j t. (told s sound rows key q r p d g h t).1) x is;
      again = λ before r after e t y i a u l w.
          let both = and_parts (is_send r.kind) (fifo_at s r) t in
          every_row_by s (remembers s) (SentAgain s)
          (λ rows key q r p now d g k h j f o y i a u l w t. told_again s key rows q r p d g (does_keep key q r p d.does k) h sound f o y i a u l w t) x is before r after e both.1 ((rows_in_time s sound x is).order before r after e) y i a u l w both.0;
    }

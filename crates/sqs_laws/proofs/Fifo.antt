-- FIFO: the messages of a group are received in the order in which they came, and none while another one is in flight.
use Rattle.std.specs.Prelude.{List, None, Option, Some, false, is_none, length, slice_get, true, ℕ, ◌&&◌, ◌-◌, ◌<◌, ◌≡◌}
use Rattle.std.proofs.Common.{ap, arith, refl, subst, sym, true≢false, ◌∙◌}
use Rattle.sqs_laws.proofs.Terms.{ActorSettings, and_parts, id_of, IsRunOf, IsSoundScenario, Key, Message, MessageId, numbered, Queue, Row, Run, same_group, same_text_decides, Scenario}
use Rattle.md5.specs.Md5.{md5}
use Rattle.sqs_message.specs.declared.row.Detail.TheVariants as details
use Rattle.sqs_laws.specs.Sends.{Given, GivesAs, IsByCall, IsSender}
use Rattle.sqs_laws.specs.Laws.{FifoOrder, Sends, fifo_at, is_fifo, HasGroup}
use Rattle.sqs_laws.specs.Words.{EachRow, flight, flying, has_left, accepted_by}
use Rattle.sqs_laws.specs.Words as words
use Rattle.sqs_laws.proofs.Calls.{found_old}
use Rattle.sqs_laws.proofs.End as end
use Rattle.sqs_laws.proofs.Flights.{flies_of, flights, rests_of}
use Rattle.sqs_laws.proofs.Moves.{IsNext, IsBehind, IsStocked, Move, Receives, as_told, IsTraced}
use Rattle.sqs_laws.proofs.Worlds.{RowLaw, both, every_row_by, traces}
use Rattle.sqs_laws.proofs.Traces.{fifo_there, traced_of}

module _ (s : Scenario) (sound : IsSoundScenario s) where
  abbrev told : RowLaw s
  told = both s (traces s) (both s (end.the_end s) (flights s))

  -- two messages of a group, of which one is received: what the law says of the other one
  record IsAsTold (before : List Row) (r : Row) (m n : MessageId) : Type 0 where
    pub earlier : n.number < m.number → has_left n before ≡ false → IsByCall r (flight n before)
    pub later : m.number < n.number → flying n before ≡ false

  abbrev Tells : List Row → Row → Type 0
  Tells before r = (m : MessageId) → r.message ≡ Some m → (words.received r && fifo_at s r) ≡ true → (n : MessageId) (g : List ℕ) → n.site ≡ r.queue → HasGroup s before m g → HasGroup s before n g → IsAsTold before r m n

  module _ (rows : List Row) (key : Key) (q : Queue) (r : Row) (p : Queue) (d : Move key q r p) (o : IsBehind s rows q r p) (k : IsStocked q) (h : told.Holds rows q) where
    fifo : fifo_at s r ≡ true → is_fifo q.settings.kind ≡ true
    fifo e = sym (fifo_there s r q d.at_site h.0.0) ∙ e

    group_is : is_fifo q.settings.kind ≡ true → (i : ℕ) (m : Message) (g : List ℕ) → numbered i q.records ≡ Some m → HasGroup s rows (id_of q i) g → m.group ≡ Some g
    group_is f i m g e x =
        let t : IsTraced s rows (id_of q i) m = traced_of s rows q h.0.1 i m e in
        let origin : x.origin ≡ m.origin = let both : Some x.origin ≡ Some m.origin = sym x.told ∙ t.origin in cc in
        let by : t.group.0 ≡ x.by = let both : Some t.group.0 ≡ Some x.by = sym t.group.1 ∙ ap (λ o. accepted_by o rows) (sym origin) ∙ x.accepted in cc in
        t.group.2 (ap (λ (y : Row). words.is_send y.kind && fifo_at s y) by ∙ x.sent) sound.actors x.given.0 (subst (λ (y : Row). GivesAs s y.agent y.key.at x.given.0) (sym by) x.given.1) ∙ x.given.2

    alike : (a b : Message) (g : List ℕ) → a.group ≡ Some g → b.group ≡ Some g → same_group a b ≡ true
    alike a b g x y = (same_text_decides a.group b.group).1 (x ∙ sym y)

    other : (x : Receives key q r p) (i : ℕ) (g : List ℕ) → is_fifo q.settings.kind ≡ true → HasGroup s rows (id_of q x.number) g → HasGroup s rows (id_of q i) g → (z : Option Message) → numbered i q.records ≡ z → IsAsTold rows r (id_of q x.number) (id_of q i)
    other x i g f a b None e =
        record {
          earlier = λ l t.
              let old : x.number < q.arrivals = found_old q x.number x.one k x.names.there in
              let gone : has_left (id_of q i) rows ≡ true = end.left_of s rows q h.1.0.1 i (omega (arith, l, old)) ∙ ap is_none e in
              absurd (true≢false (sym gone ∙ t));
          later = λ l. rests_of s rows q h.1.1 i e;
        }
    other x i g f a b (Some m) e =
        let next : IsNext rows q r x.number x.one = o.next x.tells.received_so f x.number x.one x.names.message x.names.there in
        let same : same_group x.one m ≡ true = alike x.one m g (group_is f x.number x.one g x.names.there a) (group_is f i m g e b) in
        record {
          earlier = λ l t. next.before i m e same l;
          later = λ l. flies_of s rows q h.1.1 i m e ∙ next.after i m e same l;
        }

    of_site : (n : MessageId) → n.site ≡ r.queue → id_of q n.number ≡ n
    of_site n e = ap (λ y. record { site = y; number = n.number }) (sym d.at_site ∙ sym e)

    told_by : Tells rows r
    told_by m e t n g w a b =
        let both = and_parts (words.received r) (fifo_at s r) t in
        let x = (as_told key q r p d.does).receives both.0 in
        let is : id_of q x.number ≡ m = let named : Some (id_of q x.number) ≡ Some m = sym x.names.message ∙ e in cc in
        let that : id_of q n.number ≡ n = of_site n w in
        subst (IsAsTold rows r m) that
        (subst (λ y. IsAsTold rows r y (id_of q n.number)) is
        (other x n.number g (fifo both.1) (subst (λ y. HasGroup s rows y g) (sym is) a) (subst (λ y. HasGroup s rows y g) (sym that) b) (numbered n.number q.records) refl))

  -- the law
  pub groups_are_in_order : (x : Run) → IsRunOf s x → FifoOrder s x.rows
  groups_are_in_order x is =
      let each : EachRow x.rows Tells = every_row_by s told Tells (λ rows key q r p now d g k h j. told_by rows key q r p d g k h) x is in
      record {
        before = λ before r after e m i t n g w a b l. (each before r after e m i t n g w a b).earlier l;
        after = λ before r after e m i t n g w a b l. (each before r after e m i t n g w a b).later l;
      }

-- each send is what its actor gives
pub sends_are_given : (s : Scenario) (x : Run) → IsRunOf s x → Sends s x.rows
sends_are_given s x is = record { given = every_row_by s (traces s) (λ before r. (words.is_send r.kind && words.comes r) ≡ true → (a : ActorSettings) → slice_get s.actors (r.agent - length s.queues) ≡ Some a → IsSender a.role → (y : Given) × GivesAs s r.agent r.key.at y × (r.detail ≡ details.Digest (md5 y.body))) (λ rows key q r p now d g k h j. g.sends) x is }

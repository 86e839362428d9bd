-- Messages by their numbers, which go up: each is found by its own.
use Rattle.std.specs.Prelude.{All, Bool, List, Some, cond, false, is_some, true, ℕ, ◌+◌, ◌∷◌, ◌≡◌}
use Rattle.std.proofs.Common.{ap, arith, refl, ◌∙◌, sym}
use Rattle.sqs_laws.proofs.Terms.{All-weaker, Arrival, Climbs, Core, dues, each_is_numbered, Expiry, has_number, In, Key, Message, numbered, of_all, of_site, PollEnd, Release, Sample, Site, Step, Wake}
use Rattle.sim_clock.specs.declared.key.Class.{Class}
use Rattle.sqs_laws.proofs.Moves.{IsStocked}
use Rattle.sqs_laws.proofs.Said.{absent_above}

-- a message of another number is not the one that is looked for
pub found_by : (b : Bool) (i : ℕ) (m : Message) (ms : List Message) → has_number i m ≡ b → is_some (numbered i (m ∷ ms)) ≡ cond b true (is_some (numbered i ms))
found_by true i m ms e = rw e refl
found_by false i m ms e = rw e refl

pub none_below : (i : ℕ) (ms : List Message) → Climbs (i + 1) ms → is_some (numbered i ms) ≡ false
none_below i ms h = ap is_some (absent_above i (i + 1) ms (omega arith) h)

-- what holds of each message of its number holds of all
pub found_all : (P : Message → Type 0) (low : ℕ) (ms : List Message) → Climbs low ms → ((n : ℕ) (m : Message) → numbered n ms ≡ Some m → n ≡ m.number → P m) → All P ms
found_all P low ms c h = All-weaker (λ m. numbered m.number ms ≡ Some m) P (λ m e. h m.number m e refl) ms (each_is_numbered low ms c)

in_numbered : (low : ℕ) (ms : List Message) (m : Message) → Climbs low ms → In ms m → numbered m.number ms ≡ Some m
in_numbered low ms m c i = of_all (λ x. numbered x.number ms ≡ Some x) ms m (each_is_numbered low ms c) i

-- the time of the message that a key expires or releases is over
pub record IsOver (class : Class) (key : Key) (c : Core) (m : Message) : Type 0 where
  pub retention : class ≡ Expiry → key.at ≡ m.enqueued + c.queue.settings.retention
  pub release : class ≡ Release → m.release ≡ Some key.at

abbrev pub AreOver : Class → Key → Core → Type 0
AreOver class key c = (m : Message) → numbered key.number c.queue.records ≡ Some m → IsOver class key c m

never_over : (class : Class) (key : Key) (c : Core) → (class ≡ Expiry → ⊥) → (class ≡ Release → ⊥) → AreOver class key c
never_over class key c e r m f = record { retention = λ t. absurd (e t); release = λ t. absurd (r t) }

pub due_over : (key : Key) (s : Site) → IsStocked s.core.queue → In (dues s) key → AreOver key.class key s.core
due_over key s k =
    of_site (λ y. AreOver y.class y s.core) key s (λ o i. never_over Arrival _ s.core (λ t. cc) (λ t. cc))
    (record {
      expiry = λ m i x f.
          let own : numbered m.number s.core.queue.records ≡ Some m = in_numbered 0 s.core.queue.records m k.ordered i in
          let is : m ≡ x = cc in
          record { retention = λ _. ap (λ (y : Message). y.enqueued + s.core.queue.settings.retention) is; release = λ t. cc };
      release = λ m at i r x f.
          let own : numbered m.number s.core.queue.records ≡ Some m = in_numbered 0 s.core.queue.records m k.ordered i in
          let is : m ≡ x = cc in
          record { retention = λ t. cc; release = λ _. ap (λ (y : Message). y.release) (sym is) ∙ r };
      poll = λ p i. never_over PollEnd _ s.core (λ t. cc) (λ t. cc);
      wake = λ a at i w. never_over Wake _ s.core (λ t. cc) (λ t. cc);
      sample = λ z. never_over Sample _ s.core (λ t. cc) (λ t. cc);
      step = λ t i r. never_over Step _ s.core (λ t. cc) (λ t. cc);
    })

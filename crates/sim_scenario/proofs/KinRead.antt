-- What each queue and each move task of a text says: its name, its ranges, and the queues that it names.
use Rattle.std.proofs.Common.{◌≡◌, ◌∙◌, ℕ, zero, suc, ◌<◌, ◌≤◌, ◌==◌, Bool, true, false, not, codes, List, [], ◌∷◌, length, Option, Some, None, Ok, refl, sym, ap, arith, lit≤}
use Rattle.std.specs.Prelude.{All, get_or, if◌then◌else◌, map, unwrap_or, ◌≢◌}
use Rattle.std.proofs.lemmas.Bool.{true≢false}
use Rattle.std.proofs.lemmas.Bool.Decides.{Decides-eqb}
use Rattle.std.proofs.lemmas.List.Elements.{All-head, All-tail}
use Rattle.toml.specs.Data.{Data}
use Rattle.sqs_redrive.specs.declared.settings.Kind.{Kind}
use Rattle.sqs_redrive.specs.declared.settings.Policy.{Policy}
use Rattle.sqs_redrive.specs.declared.settings.QueueSettings.{QueueSettings}
use Rattle.sqs_redrive.specs.declared.settings.TaskSettings.{TaskSettings}
use Rattle.sqs_model.specs.Longest.{longest_delay, longest_timeout}
use Rattle.sqs_model.specs.Scenario.{LeadsWithin}
use Rattle.sqs_model.specs.Valid.{IsKind, IsQueueSettings, IsTaskSettings}
use Rattle.sqs_formats.specs.Keys.{Table, at, has, is_among, is_there, optional, optional_when, place_of, required, text_when}
use Rattle.sqs_formats.specs.Names.{is_agent_name, is_fifo, is_queue_name}
use Rattle.sqs_formats.specs.Outline.{Outline, dead_letter_named, is_fresh, kind_at, name_of, other_kin_named, queue_named, queue_number, same_kind, source_named, task_place}
use Rattle.sqs_formats.specs.Queues.{dead_letter, kind, policy, queue}
use Rattle.sqs_formats.specs.Tasks.{task}
use Rattle.sim_scenario.specs.Kinds.{dead_letter_of, is_fifo_kind}
use Rattle.sim_scenario.proofs.ItemsRead.{text_is}
use Rattle.sim_scenario.proofs.Links.{below, found}
use Rattle.sim_scenario.proofs.QueueRanges.{latency_in_range, policy_says}
use Rattle.sqs_formats.proofs.Readings.{parts, picked, same_ok}
use Rattle.sim_scenario.proofs.Admits.{maybe_admits, optional_within, required_read, seconds_within}
use Rattle.sqs_formats.specs.Reading.{and_then}

-- a name is that of its table, well-formed, and no name before it
pub record IsNamed (is_well_formed : List ℕ → Bool) (o : Outline) (number : ℕ) (t : Table) (s : List ℕ) : Type 0 where
  pub text : s ≡ text_when (at t (codes "name"))
  pub form : is_well_formed s ≡ true
  pub first : is_fresh o number s ≡ true

pub name_says : (f : List ℕ → Bool) (o : Outline) (number : ℕ) (t : Table) (s : List ℕ) → required (name_of f o number) t (codes "name") ≡ Ok s → IsNamed f o number t s
unfolding name_of
name_says f o number t s e =
    let read = required_read (name_of f o number) t (codes "name") s e in
    let text = parts _ _ _ read.2 in
    let formed = parts _ _ _ text.2 in
    let a = picked _ _ _ formed.0 formed.1 in
    let b = picked _ _ _ s formed.2 in
    let is : text_when (at t (codes "name")) ≡ text.0 = ap text_when read.1 ∙ text_is (place_of t (codes "name")) read.0 text.0 text.1 in
    record { text = sym (is ∙ b.1); form = rw (← b.1) a.0; first = rw (← b.1) b.0 }

-- another queue of the home's kind, if there is one, as an outline has them
abbrev pub IsOtherKin : Outline → ℕ → Option ℕ → Type 0
IsOtherKin o home None = Unit {0}
IsOtherKin o home (Some n) = (n < length o.queues) × (n ≢ home) × (kind_at o n ≡ kind_at o home)

same_by : (a b : Bool) → (if a then b else not b) ≡ true → a ≡ b
same_by true b e = sym e
same_by false true e = cc e
same_by false false e = refl

pub same_kind_says : (o : Outline) (home : ℕ) (place : List ℕ) (n m : ℕ) → same_kind o home place n ≡ Ok m → (kind_at o n ≡ kind_at o home) × (n ≡ m)
same_kind_says o home place n m e = let p = picked _ _ n m e in (same_by (kind_at o n) (kind_at o home) p.0, p.1)

apart : (b : Bool) (m home : ℕ) → (m == home) ≡ b → not b ≡ true → m ≢ home
apart true m home e h = cc h
apart false m home e h = λ same. absurd (true≢false (sym ((Decides-eqb m home).1 same) ∙ e))

pub queue_says_number : (o : Outline) (place : List ℕ) (d : Data) (n : ℕ) → queue_named o place d ≡ Ok n → queue_number o (text_when (Some d)) ≡ Some n
unfolding queue_named
queue_says_number o place d n e =
    let s = parts _ _ _ e in
    ap (queue_number o) (text_is place d s.0 s.1) ∙ found (queue_number o s.0) _ n s.2

other_kin_says : (o : Outline) (home : ℕ) (place : List ℕ) (d : Data) (n : ℕ) → other_kin_named o home place d ≡ Ok n → (queue_number o (text_when (Some d)) ≡ Some n) × (n ≢ home) × (kind_at o n ≡ kind_at o home)
unfolding other_kin_named
other_kin_says o home place d n e =
    let m = parts _ _ _ e in
    let other = parts _ _ _ m.2 in
    let here = queue_says_number o place d m.0 m.1 in
    let p = picked _ _ m.0 other.0 other.1 in
    let kin = same_kind_says o home place m.0 n other.2 in
    rw (← kin.1) (here, apart (m.0 == home) m.0 home refl p.0, kin.0)

other_kin_is : (o : Outline) (home : ℕ) (place : List ℕ) (d : Data) (n : ℕ) → other_kin_named o home place d ≡ Ok n → IsOtherKin o home (Some n)
other_kin_is o home place d n e = let says = other_kin_says o home place d n e in (below o (text_when (Some d)) n says.0, says.1, says.2)

-- the queue that a policy leads to is that of its text
pub led_to : (o : Outline) (t : Table) (x : Option Data) (n : ℕ) → at t (codes "dead_letter") ≡ x → required (dead_letter_named o) t (codes "dead_letter") ≡ Ok n → unwrap_or (queue_number o (text_when x)) 0 ≡ n
unfolding dead_letter_named
led_to o t x n is e =
    let read = required_read (dead_letter_named o) t (codes "dead_letter") n e in
    let s = parts _ _ _ read.2 in
    let text : text_when x ≡ s.0 = ap text_when (sym is ∙ read.1) ∙ text_is (place_of t (codes "dead_letter")) read.0 s.0 s.1 in
    ap (λ (s : List ℕ). unwrap_or (queue_number o s) 0) text ∙ same_ok _ _ s.2

-- a queue: its name, its kind, where its policy leads, and its ranges
pub record QueueSays (o : Outline) (number : ℕ) (t : Table) (q : List ℕ × QueueSettings) : Type 0 where
  pub named : IsNamed is_queue_name o number t q.0
  pub kind : is_fifo_kind q.1.kind ≡ is_fifo q.0
  pub policy : policy o (has t (codes "dead_letter")) t ≡ Ok q.1.policy
  pub leads : 1 ≤ length o.queues → LeadsWithin (length o.queues) q.1.policy
  pub range : IsQueueSettings q.1

kind_says : (b : Bool) (t : Table) (k : Kind) → kind b t ≡ Ok k → (is_fifo_kind k ≡ b) × IsKind k
unfolding kind
kind_says true t k e =
    let content = parts _ _ _ e in
    let scope = parts _ _ _ content.2 in
    rw (← same_ok _ _ scope.2) (refl, tt)
kind_says false t k e =
    let hosts = parts _ _ _ e in
    let sampled = parts _ _ _ hosts.2 in
    let h = optional_within 1 16 1 t (codes "hosts") hosts.0 (lit≤ tt, lit≤ tt) hosts.1 in
    let s = optional_within 1 hosts.0 hosts.0 t (codes "sampled") sampled.0 (h.0, omega arith) sampled.1 in
    rw (← same_ok _ _ sampled.2) (refl, (h, s))

pub queue_says : (o : Outline) (number : ℕ) (t : Table) (q : List ℕ × QueueSettings) → queue o number t ≡ Ok q → QueueSays o number t q
unfolding queue
queue_says o number t q e =
    let name = parts _ _ _ e in
    let known = parts _ _ _ name.2 in
    let visibility = parts _ _ _ known.2 in
    let delay = parts _ _ _ visibility.2 in
    let retention = parts _ _ _ delay.2 in
    let limit = parts _ _ _ retention.2 in
    let kind = parts _ _ _ limit.2 in
    let policy = parts _ _ _ kind.2 in
    let v = seconds_within 0 longest_timeout 30000 t (codes "visibility_s") visibility.0 (lit≤ tt, lit≤ tt) visibility.1 in
    let d = seconds_within 0 longest_delay 0 t (codes "delay_s") delay.0 (lit≤ tt, lit≤ tt) delay.1 in
    let r = seconds_within 60 1209600 345600000 t (codes "retention_s") retention.0 (lit≤ tt, lit≤ tt) retention.1 in
    let l = optional_within 1 120000 120000 t (codes "in_flight") limit.0 (lit≤ tt, lit≤ tt) limit.1 in
    let of_kind = kind_says (is_fifo name.0) t kind.0 kind.1 in
    let onward = policy_says o (has t (codes "dead_letter")) t policy.0 policy.1 in
    rw (← same_ok _ _ policy.2) (record {
      named = name_says is_queue_name o number t name.0 name.1;
      kind = of_kind.0;
      policy = policy.1;
      leads = onward.1;
      range = record {
        kind = of_kind.1;
        visibility = v.1;
        delay = d.1;
        retention = r;
        limit = l;
        policy = onward.0;
      };
    })

leads : (o : Outline) (number : ℕ) (place : List ℕ) (x : Option Data) (t : Table) (p : Option Policy) (v : Option ℕ) → at t (codes "dead_letter") ≡ x
    → policy o (is_there x) t ≡ Ok p → optional_when None (λ place d. and_then (other_kin_named o number place d) (λ x. Ok (Some x))) place x ≡ Ok v → IsOtherKin o number (dead_letter_of p)
unfolding policy
leads o number place None t p v is e k = rw (← same_ok _ _ e) tt
leads o number place (Some d) t p v is e k =
    let letter = parts _ _ _ e in
    let most = parts _ _ _ letter.2 in
    let within = parts _ _ _ most.2 in
    let n = parts _ _ _ k in
    let says = other_kin_says o number place d n.0 n.1 in
    let led : letter.0 ≡ n.0 = sym (led_to o t (Some d) letter.0 is letter.1) ∙ ap (λ (m : Option ℕ). unwrap_or m 0) says.0 in
    rw (← same_ok _ _ within.2, led) (below o (text_when (Some d)) n.0 says.0, says.1, says.2)

pub queue_kin : (o : Outline) (number : ℕ) (t : Table) (q : List ℕ × QueueSettings) (v : Option ℕ) → queue o number t ≡ Ok q → dead_letter o number t ≡ Ok v → IsOtherKin o number (dead_letter_of q.1.policy)
unfolding dead_letter optional
queue_kin o number t q v e k = let says = queue_says o number t q e in leads o number (place_of t (codes "dead_letter")) (at t (codes "dead_letter")) t q.1.policy v refl says.policy k

-- a move task: its name, its home, which some queue names as its dead-letter queue, where it moves messages, and its ranges
pub record TaskSays (o : Outline) (index : ℕ) (t : Table) (k : List ℕ × TaskSettings) : Type 0 where
  pub named : IsNamed is_agent_name o (task_place o index) t k.0
  pub home : queue_number o (text_when (at t (codes "queue"))) ≡ Some k.1.home
  pub source : is_among o.dead_letters (text_when (at t (codes "queue"))) ≡ true
  pub to : IsOtherKin o k.1.home k.1.to
  pub range : IsTaskSettings k.1

source_says : (o : Outline) (t : Table) (n : ℕ) → required (source_named o) t (codes "queue") ≡ Ok n → (queue_number o (text_when (at t (codes "queue"))) ≡ Some n) × (is_among o.dead_letters (text_when (at t (codes "queue"))) ≡ true)
unfolding source_named
source_says o t n e =
    let read = required_read (source_named o) t (codes "queue") n e in
    let s = parts _ _ _ read.2 in
    let m = parts _ _ _ s.2 in
    let p = picked _ _ m.0 n m.2 in
    let is : text_when (Some read.0) ≡ s.0 = text_is (place_of t (codes "queue")) read.0 s.0 s.1 in
    let here = queue_says_number o (place_of t (codes "queue")) read.0 m.0 m.1 in (
      ap (λ x. queue_number o (text_when x)) read.1 ∙ here ∙ ap (λ (n : ℕ). Some n) p.1,
      ap (λ x. is_among o.dead_letters (text_when x)) read.1 ∙ ap (is_among o.dead_letters) is ∙ p.0,
    )

pub task_says : (o : Outline) (index : ℕ) (t : Table) (k : List ℕ × TaskSettings) → task o index t ≡ Ok k → TaskSays o index t k
unfolding task
task_says o index t k e =
    let name = parts _ _ _ e in
    let home = parts _ _ _ name.2 in
    let known = parts _ _ _ home.2 in
    let to = parts _ _ _ known.2 in
    let rate = parts _ _ _ to.2 in
    let within = parts _ _ _ rate.2 in
    let source = source_says o t home.0 home.1 in
    rw (← same_ok _ _ within.2) (record {
      named = name_says is_agent_name o (task_place o index) t name.0 name.1;
      home = source.0;
      source = source.1;
      to = maybe_admits (IsOtherKin o home.0) (other_kin_named o home.0) tt (other_kin_is o home.0) t (codes "to") to.0 to.1;
      range = record {
        per_second = optional_within 1 500 500 t (codes "per_second") rate.0 (lit≤ tt, lit≤ tt) rate.1;
        latency = latency_in_range o.version t within.0 within.1;
      };
    })

-- a queue is FIFO exactly where its name says so
abbrev pub IsOfNamedKind : List ℕ × QueueSettings → Type 0
IsOfNamedKind q = is_fifo_kind q.1.kind ≡ is_fifo q.0

-- the kinds of some queues, by their numbers, are those of their names
pub kinds_are : (qs : List (List ℕ × QueueSettings)) → All IsOfNamedKind qs → (n : ℕ) → get_or (map (λ q. is_fifo_kind q.kind) (map (λ q. q.1) qs)) n false ≡ is_fifo (get_or (map (λ q. q.0) qs) n [])
kinds_are [] h n = refl
kinds_are (q ∷ qs) h zero = All-head IsOfNamedKind q qs h
kinds_are (q ∷ qs) h (suc n) = kinds_are qs (All-tail IsOfNamedKind q qs h) n

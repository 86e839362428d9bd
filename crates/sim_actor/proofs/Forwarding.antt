-- Transfers of a consumer to the queues to which it forwards, one after another.
use Rattle.std.proofs.Common.{List, [], ap, arith, drop, get_or, length, nat_lt, refl, subst, sym, ℕ, ◌++◌, ◌+◌, ◌-◌, ◌<◌, ◌∙◌, ◌∷◌, ◌≡◌, ◌≤◌}
use Rattle.std.proofs.lemmas.List.{append-nil, append_assoc, drop_all, drop_more}
use Rattle.std.proofs.lemmas.Bool.Decides.{nat_tests}
use Rattle.sqs_model.proofs.Branches.{by_cases, either_by}
use Rattle.sqs_model.specs.Actor.{Actor, forwards, has_forwarded, sent_one}
use Rattle.sqs_model.specs.Answers.{most_count}
use Rattle.sqs_model.specs.Draw.{Draws, drawn_latency, drawn_uniform}
use Rattle.sqs_model.specs.declared.agents.ActorSettings.{ActorSettings}
use Rattle.sqs_model.specs.declared.agents.Forwarding.{Forwarding}
use Rattle.sqs_model.specs.declared.agents.Role.TheVariants.{Script}
use Rattle.sqs_redrive.specs.declared.answers.Got.{Got}
use Rattle.sqs_redrive.specs.declared.settings.Latency.{Latency}
use Rattle.sqs_redrive.specs.declared.transfers.Outbound.{Outbound}
use Rattle.sim_actor.specs.Lives.{HasRoom, Life, SendsAll, SendsOne, greatest_count, lived, load_of}

-- the words that a latency takes
latency_most : (l : Latency) (d : Draws) → (drawn_latency l d).1.taken ≤ d.taken + 1
latency_most l d =
    either_by (λ (x : ℕ × Draws). x.1.taken ≤ d.taken + 1) (nat_lt l.least l.greatest) (drawn_uniform l.least l.greatest d) (l.least, d)
    (λ e. omega arith) (λ e. omega arith)

latency_varies : (l : Latency) (d : Draws) → l.least < l.greatest → (drawn_latency l d).1.taken ≡ d.taken + 1
latency_varies l d h =
    either_by (λ (x : ℕ × Draws). x.1.taken ≡ d.taken + 1) (nat_lt l.least l.greatest) (drawn_uniform l.least l.greatest d) (l.least, d)
    (λ e. refl) (λ e. absurd (grind (arith, nat_tests)))

latency_stays : (l : Latency) (d : Draws) → l.greatest ≤ l.least → (drawn_latency l d).1.taken ≡ d.taken
latency_stays l d h =
    either_by (λ (x : ℕ × Draws). x.1.taken ≡ d.taken) (nat_lt l.least l.greatest) (drawn_uniform l.least l.greatest d) (l.least, d)
    (λ e. absurd (grind (arith, nat_tests))) (λ e. refl)

-- the counts of an actor that forwarded to some queues
wakes_after : (l : Latency) (tos : List ℕ) (a : Actor) → (has_forwarded l tos a).wakes ≡ a.wakes
wakes_after l [] a = refl
wakes_after l (to ∷ tos) a = wakes_after l tos (sent_one l a)

sent_after : (l : Latency) (tos : List ℕ) (a : Actor) → (has_forwarded l tos a).sent ≡ a.sent + length tos
sent_after l [] a = omega arith
sent_after l (to ∷ tos) a = omega (arith, sent_after l tos (sent_one l a))

words_varying : (l : Latency) (tos : List ℕ) (a : Actor) → l.least < l.greatest → (has_forwarded l tos a).draws.taken ≡ a.draws.taken + length tos
words_varying l [] a h = omega arith
words_varying l (to ∷ tos) a h = omega (arith, words_varying l tos (sent_one l a) h, latency_varies l a.draws h)

words_fixed : (l : Latency) (tos : List ℕ) (a : Actor) → l.greatest ≤ l.least → (has_forwarded l tos a).draws.taken ≡ a.draws.taken
words_fixed l [] a h = refl
words_fixed l (to ∷ tos) a h = words_fixed l tos (sent_one l a) h ∙ latency_stays l a.draws h

-- a life that has room for its transfers counts within the limit, and one that has none past it
pub room_within :
    (l : Latency) (tos : List ℕ) (life : Life) (s : ActorSettings) → HasRoom (length tos) l life → life.wakes ≤ most_count → life.draws.taken ≤ most_count
    → greatest_count (has_forwarded l tos (lived s life)) ≤ most_count
room_within l tos life s room wakes words =
    let a : Actor = lived s life in
    let varying : l.least < l.greatest → (has_forwarded l tos a).draws.taken ≤ most_count = λ h. omega (arith, words_varying l tos a h, room.1 h) in
    let fixed : l.greatest ≤ l.least → (has_forwarded l tos a).draws.taken ≤ most_count = λ h. omega (arith, words_fixed l tos a h) in
    let some : (has_forwarded l tos a).draws.taken ≤ most_count =
    by_cases (nat_lt l.least l.greatest) (λ e. varying (grind (arith, nat_tests))) (λ e. fixed (grind (arith, nat_tests))) in
    omega (arith, some, room.0, wakes_after l tos a, sent_after l tos a)

pub no_room_past : (l : Latency) (tos : List ℕ) (life : Life) (s : ActorSettings) → (HasRoom (length tos) l life → ⊥) → most_count < greatest_count (has_forwarded l tos (lived s life))
no_room_past l tos life s none =
    let a : Actor = lived s life in
    let past : greatest_count (has_forwarded l tos a) ≤ most_count → ⊥ =
    λ within. none (omega (arith, within, sent_after l tos a), λ h. omega (arith, within, words_varying l tos a h)) in
    by_cases (nat_lt most_count (greatest_count (has_forwarded l tos a))) (λ e. grind (arith, nat_tests)) (λ e. absurd (past (grind (arith, nat_tests))))

-- what is still to be sent, after transfers to the queues before an index
pub record IsSending (home now : ℕ) (g : Got) (l : Latency) (queues : List ℕ) (index : ℕ) (sent : List Outbound) (first life : Life) : Type 0 where
  pub told : (s : ActorSettings) → s.home ≡ home → sent ++ forwards (lived s life) now g l (drop index queues) ≡ forwards (lived s first) now g l queues
  pub rest : (s : ActorSettings) → s.home ≡ home → has_forwarded l (drop index queues) (lived s life) ≡ has_forwarded l queues (lived s first)
  pub room : HasRoom (length queues - index) l life
  pub number : life.number ≡ first.number

-- the actor with a life that is at home there, and has no other settings
abbrev scripted : ℕ → Life → Actor
scripted home life = lived (record { home = home; role = Script [] }) life

-- one transfer more
pub sends_next :
    (home now : ℕ) (g : Got) (l : Latency) (queues : List ℕ) (index to : ℕ) (sent : List Outbound) (o : Outbound) (first life next : Life) → index < length queues → to ≡ get_or queues index 0
    → SendsOne home now (load_of g) to l o life next → next.number ≡ life.number → IsSending home now g l queues index sent first life → IsSending home now g l queues (index + 1) (sent ++ o ∷ []) first next
sends_next home now g l queues index to sent o first life next within is one number so =
    let left : drop index queues ≡ to ∷ drop (index + 1) queues = drop_more queues index 0 within ∙ ap (λ x. x ∷ drop (index + 1) queues) (sym is) in
    let after : sent_one l (scripted home life) ≡ scripted home next = (one (record { home = home; role = Script [] }) g refl refl).1 in
    let counted : life.sent + 1 ≡ next.sent = ap (λ (a : Actor). a.sent) after in
    let words : (drawn_latency l life.draws).1.taken ≡ next.draws.taken = ap (λ (a : Actor). a.draws.taken) after in
    record {
      told = λ s at_home.
          let x = one s g at_home refl in
          append_assoc sent (o ∷ []) (forwards (lived s next) now g l (drop (index + 1) queues))
          ∙ ap (λ ys. sent ++ ys) (ap (λ (a : Actor). o ∷ forwards a now g l (drop (index + 1) queues)) (sym x.1) ∙ ap (λ y. y ∷ forwards (sent_one l (lived s life)) now g l (drop (index + 1) queues)) (sym x.0))
          ∙ ap (λ ys. sent ++ forwards (lived s life) now g l ys) (sym left)
          ∙ so.told s at_home;
      rest = λ s at_home.
          let x = one s g at_home refl in
          ap (has_forwarded l (drop (index + 1) queues)) (sym x.1) ∙ ap (λ ys. has_forwarded l ys (lived s life)) (sym left) ∙ so.rest s at_home;
      room = (omega (arith, so.room.0), λ h. omega (arith, so.room.1 h, latency_most l life.draws));
      number = number ∙ so.number;
    }

-- all transfers
pub sent_all :
    (home now : ℕ) (g : Got) (f : Forwarding) (queues : List ℕ) (index : ℕ) (sent : List Outbound) (first life : Life) → queues ≡ f.to → length queues ≤ index
    → IsSending home now g f.latency queues index sent first life → SendsAll home now g f sent first life
sent_all home now g f queues index sent first life is past so s at_home =
    let none : drop index queues ≡ [] = drop_all index queues past in
    let told : sent ++ [] ≡ forwards (lived s first) now g f.latency queues = ap (λ ys. sent ++ forwards (lived s life) now g f.latency ys) (sym none) ∙ so.told s at_home in
    let rest : lived s life ≡ has_forwarded f.latency queues (lived s first) = ap (λ ys. has_forwarded f.latency ys (lived s life)) (sym none) ∙ so.rest s at_home in
    (ap (forwards (lived s first) now g f.latency) (sym is) ∙ sym told ∙ append-nil sent, ap (λ ys. has_forwarded f.latency ys (lived s first)) (sym is) ∙ sym rest)

-- the transfer to the only queue
one_queue : (queues : List ℕ) → 1 ≤ length queues → length queues ≤ 1 → queues ≡ get_or queues 0 0 ∷ []
one_queue [] some few = absurd (omega arith)
one_queue (to ∷ []) some few = refl
one_queue (to ∷ (next ∷ tos)) some few = absurd (omega arith)

pub one_sent :
    (home now : ℕ) (g : Got) (f : Forwarding) (queues : List ℕ) (o : Outbound) (first next : Life) → queues ≡ f.to → 1 ≤ length f.to → length queues ≤ 1
    → SendsOne home now (load_of g) (get_or queues 0 0) f.latency o first next → SendsAll home now g f (o ∷ []) first next
one_sent home now g f queues o first next is some few one s at_home =
    let x = one s g at_home refl in
    let only : f.to ≡ get_or queues 0 0 ∷ [] = sym is ∙ one_queue queues (subst (λ (tos : List ℕ). 1 ≤ length tos) (sym is) some) few in
    (ap (forwards (lived s first) now g f.latency) only ∙ ap (λ y. y ∷ []) x.0, ap (λ tos. has_forwarded f.latency tos (lived s first)) only ∙ x.1)

use Rattle.std.proofs.Common.{List, ap, arith, false, length, rules, subst, sym, true, [], ◌++◌, ◌∙◌, ◌∷◌, ◌≡◌, ◌≤◌, ℕ}
use Rattle.sqs_model.specs.declared.agents.ActorSettings.{ActorSettings}
use Rattle.sqs_redrive.specs.declared.settings.Latency.{Latency}
use Rattle.sqs_redrive.specs.declared.transfers.Outbound.{Outbound}
use Rattle.sqs_model.specs.Actor.{has_forwarded}
use Rattle.sqs_model.specs.Answers.{most_count}
use Rattle.sim_actor.specs.Lives.{HasRoom, Life, SendsAll, greatest_count, lived}
use Rattle.sim_actor.proofs.Forwarding.{no_room_past, one_sent, room_within}
use Rattle.sim_actor.proofs.life.Life.forward.Goals as goal

-- a life with room for its transfers counts within the limit after them
within : (l : Latency) (queues tos : List ℕ) (own life : Life) → queues ≡ tos → own ≡ life → HasRoom (length queues) l life → own.wakes ≤ most_count → own.draws.taken ≤ most_count
    → (s : ActorSettings) → greatest_count (has_forwarded l tos (lived s life)) ≤ most_count
within l queues tos own life are is room wakes words s =
    room_within l tos life s (subst (λ (xs : List ℕ). HasRoom (length xs) l life) are room) (subst (λ (l : Life). l.wakes ≤ most_count) is wakes) (subst (λ (l : Life). l.draws.taken ≤ most_count) is words)

pub returns-then-not-has_room-clause-sent : goal.returns-then-not-has_room-clause-sent
returns-then-not-has_room-clause-sent c s =
    let none : HasRoom (length c.args.forwarding.now.to) c.args.forwarding.now.latency c.args.self.now → ⊥ =
    λ room. let yes : c.has_room.result ≡ true = c.has_room.ensures.1 (subst (λ (queues : List ℕ). HasRoom (length queues) c.args.forwarding.now.latency c.args.self.now) (sym c.as_slice-queues.ensures) room) in let no : c.has_room.result ≡ false = c.if-not-has_room.true in cc in
    no_room_past c.args.forwarding.now.latency c.args.forwarding.now.to c.args.self.now s none

pub returns-in_err-sent-clause-sent : goal.returns-in_err-sent-clause-sent
returns-in_err-sent-clause-sent c =
    let kept = within c.args.forwarding.now.latency _ _ _ _ c.as_slice-queues.ensures c.self.view_is (c.has_room.ensures.0 c.if-not-has_room.false) c.self.invariant.0 c.self.invariant.3 in
    search rules

pub returns-in_err-sent-2-clause-sent : goal.returns-in_err-sent-2-clause-sent
returns-in_err-sent-2-clause-sent c =
    let kept = within c.args.forwarding.now.latency _ _ _ _ c.as_slice-queues.ensures c.self.view_is (c.has_room.ensures.0 c.if-not-has_room.false) c.self.invariant.0 c.self.invariant.3 in
    search rules

pub returns-clause-sent : goal.returns-clause-sent
returns-clause-sent c =
    let few : length c.as_slice-queues.result.now ≤ 1 = omega (arith, c.if-queues-gt1.false) in
    let one = rw c.take_room.ensures at c.send_to.ensures.sent in
    let all = one_sent c.args.home c.args.now c.args.got c.args.forwarding.now c.as_slice-queues.result.now c.send_to.result c.args.self.now c.send_to.new.self c.as_slice-queues.ensures c.requires.forwarding.count.0 few one in
    let listed : c.new-2.result ≡ c.send_to.result ∷ [] = c.new-2.ensures ∙ c.push_reserved.ensures.items ∙ ap (λ (sent : List Outbound). sent ++ c.send_to.result ∷ []) c.in_ok-sent-2.ensures.none in
    subst (λ sent. SendsAll c.args.home c.args.now c.args.got c.args.forwarding.now sent c.args.self.now c.send_to.new.self) (sym listed) all

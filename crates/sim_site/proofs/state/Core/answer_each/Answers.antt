use Rattle.sqs_model.specs.Limits.{PassesCount}
use Rattle.std.specs.Prelude.{All}
use Rattle.std.proofs.lemmas.List.{drop_all}
use Rattle.std.proofs.lemmas.List.Elements.{All-head}
use Rattle.sim_site.proofs.Answering.{polls_limited}
use Rattle.sim_site.proofs.Grown.{BeginWith, answered_begins, begins_all, begins_first, begins_some}
use Rattle.sim_site.proofs.Going.{goes_both, stays}
use Rattle.sim_site.proofs.Passing.{passes_rest, stops_up}
use Rattle.sim_site.proofs.Recent.{goes_recent, poll_recent}
use Rattle.sim_clock.specs.declared.key.Key.{Key}
use Rattle.sim_site.specs.Effects.{Did}
use Rattle.std.proofs.Common.{ℕ, ◌≡◌, ◌∙◌, ◌∷◌, ◌+◌, ◌<◌, [], List, ap, arith, drop, get_or, length, subst, sym, true, false}
use Rattle.sqs_model.specs.Polls.{answer_polls, can_give, poll_answered, poll_given}
use Rattle.sqs_model.specs.Site.{Core, Effect, Poll}
use Rattle.sqs_model.specs.Valid.{MayBeTimeout}
use Rattle.sim_site.proofs.Carried.{remains_all, remains_none, remains_then}
use Rattle.sim_site.proofs.Polling.{polls_go, polls_stop}
use Rattle.sim_site.proofs.state.Core.answer_each.Goals as goal

-- the poll that is answered is the next of those that waited at first
first_of :
    (ps inside now : List Poll) (i : ℕ) (p : Poll) → i < length ps → inside ≡ now → BeginWith (drop i ps) now → inside ≡ p ∷ drop 1 inside → p ≡ get_or ps i p
first_of ps inside now i p within is waits next = begins_first ps now i p within waits (subst (λ xs. xs ≡ p ∷ drop 1 xs) is next)

pub answer_poll-requires-clause-allowed : goal.answer_poll-requires-clause-allowed
answer_poll-requires-clause-allowed c =
    All-head (λ (p : Poll). MayBeTimeout p.timeout) c.in-Some.poll (drop 1 c.self-in-loop.inside.polls)
    (subst (All (λ (p : Poll). MayBeTimeout p.timeout)) c.in-Some.ensures c.self-in-loop.invariant.2)

pub loop-preserved : goal.loop-preserved
loop-preserved c =
    let now = c.loop in
    let key = c.args.handling.now.key in
    let ps : List Poll = c.args.self.now.polls in
    let within : now.counter < length ps = omega (arith, c.loop-test.true, c.len-end.ensures, ap (λ (x : Core). length x.polls) c.self.view_is) in
    let first = first_of ps _ now.self.polls now.counter c.in-Some.poll within (ap (λ (x : Core). x.polls) c.self-in-loop.view_is) now.invariant.waits c.in-Some.ensures in
    let gives : can_give now.self.queue ≡ true = ap (λ (x : Core). can_give x.queue) (sym c.self-in-loop.view_is) ∙ sym c.can_give-gives.ensures ∙ c.if-not-gives.false in
    let done : Key → Effect = λ k. poll_answered k c.in-Some.poll now.self (poll_given k c.in-Some.poll now.self.queue) in
    let went = c.in_ok-answer_poll.ensures.0 in
    let did = c.in_ok-answer_poll.ensures.1 in
    let did_first = subst (λ k. Did now.handling.effects.now c.answer_poll.new.handling.effects.now c.answer_poll.new.self (done k)) now.invariant.on.key did in
    record {
      on = goes_both c.args.handling.now now.handling c.answer_poll.new.handling now.invariant.on went;
      remains = remains_then c.args.handling.now.effects.now now.handling.effects.now c.answer_poll.new.handling.effects.now c.answer_poll.new.self _ _ (done key) (answer_polls key (drop (now.counter + 1) ps))
          now.invariant.remains (polls_go key now.self ps now.counter c.in-Some.poll within first gives) did_first;
      recent = goes_recent now.handling c.answer_poll.new.handling c.answer_poll.new.self (done now.handling.key) c.in_ok-answer_poll.ensures (poll_recent now.handling.key c.in-Some.poll now.self gives now.invariant.recent);
      waits = answered_begins key c.in-Some.poll now.self c.answer_poll.new.self (poll_given key c.in-Some.poll now.self.queue) ps now.counter within now.invariant.waits did_first.core;
    }

pub returns-then-not-gives : goal.returns-then-not-gives
returns-then-not-gives c =
    let ps : List Poll = c.args.self.now.polls in
    let stops : can_give c.loop.self.queue ≡ false = ap (λ (x : Core). can_give x.queue) (sym c.self-in-loop.view_is) ∙ sym c.can_give-gives.ensures ∙ c.if-not-gives.true in
    (c.loop.invariant.on, remains_none c.args.handling.now.effects.now c.loop.handling.effects.now c.loop.self _ (answer_polls c.args.handling.now.key ps c.args.self.now) c.loop.invariant.remains (polls_stop c.args.handling.now.key c.loop.self (drop c.loop.counter ps) stops))

pub returns-in_err-answer_poll : goal.returns-in_err-answer_poll
returns-in_err-answer_poll c =
    let now = c.loop in
    let ps : List Poll = c.args.self.now.polls in
    let within : now.counter < length ps = omega (arith, c.loop-test.true, c.len-end.ensures, ap (λ (x : Core). length x.polls) c.self.view_is) in
    let first = first_of ps _ now.self.polls now.counter c.in-Some.poll within (ap (λ (x : Core). x.polls) c.self-in-loop.view_is) now.invariant.waits c.in-Some.ensures in
    let gives : can_give now.self.queue ≡ true = ap (λ (x : Core). can_give x.queue) (sym c.self-in-loop.view_is) ∙ sym c.can_give-gives.ensures ∙ c.if-not-gives.false in
    stops_up _ _ (PassesCount (answer_polls c.args.handling.now.key ps c.args.self.now)) c.from_residual.result c.in_err-answer_poll.field-0.0 c.from_residual.ensures.1
    (λ h. passes_rest c.args.handling.now.effects.now now.handling.effects.now (answer_polls c.args.handling.now.key (drop now.counter ps) now.self) (answer_polls c.args.handling.now.key ps c.args.self.now) now.invariant.remains
    (polls_limited c.args.handling.now.key now.self ps now.counter c.in-Some.poll within first gives (subst (λ k. PassesCount (poll_answered k c.in-Some.poll now.self (poll_given k c.in-Some.poll now.self.queue))) now.invariant.on.key h))) c.in_err-answer_poll.ensures

pub loop-init : goal.loop-init
loop-init c = record {
  on = stays c.args.handling.now;
  remains = remains_all c.args.handling.now.effects.now (answer_polls c.args.handling.now.key c.args.self.now.polls c.args.self.now);
  recent = c.requires;
  waits = begins_all c.args.self.now.polls;
}

pub answer_poll-requires-clause-recent : goal.answer_poll-requires-clause-recent
answer_poll-requires-clause-recent c = c.loop.invariant.recent

pub unreachable-requires : goal.unreachable-requires
unreachable-requires c =
    let ps : List Poll = c.args.self.now.polls in
    let within : c.loop.counter < length ps = omega (arith, c.loop-test.true, c.len-end.ensures, ap (λ (x : Core). length x.polls) c.self.view_is) in
    begins_some ps c.loop.self.polls c.loop.counter within c.loop.invariant.waits (sym (ap (λ (x : Core). x.polls) c.self-in-loop.view_is) ∙ c.in_default.ensures)

pub returns : goal.returns
returns c =
    let ps : List Poll = c.args.self.now.polls in
    let none : drop c.loop.counter ps ≡ [] = drop_all c.loop.counter ps (omega (arith, c.loop-test.false, c.len-end.ensures, ap (λ (x : Core). length x.polls) c.self.view_is)) in
    (c.loop.invariant.on, remains_none c.args.handling.now.effects.now c.loop.handling.effects.now c.loop.self _ (answer_polls c.args.handling.now.key ps c.args.self.now) c.loop.invariant.remains (ap (λ qs. answer_polls c.args.handling.now.key qs c.loop.self) none))

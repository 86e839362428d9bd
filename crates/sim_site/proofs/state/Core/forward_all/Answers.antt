use Rattle.std.proofs.Common.{List, [], ap, arith, length, refl, subst, sym, ◌∙◌, ◌≡◌, ℕ}
use Rattle.std.proofs.lemmas.List.{nil_from_length}
use Rattle.sim_clock.specs.declared.key.Key.{Key}
use Rattle.sqs_redrive.specs.declared.transfers.Outbound.{Outbound}
use Rattle.sqs_model.specs.Actor.{Actor}
use Rattle.sqs_model.specs.Acts.{forward_made, forwards_made}
use Rattle.sqs_model.specs.Limits.{PassesCount}
use Rattle.sqs_model.specs.Scenario.{opening_actor}
use Rattle.sqs_model.specs.declared.agents.Role.TheVariants.{Script}
use Rattle.sim_site.specs.Effects.{Did, Remains}
use Rattle.sim_site.proofs.Carried.{remains_all, remains_none, remains_then}
use Rattle.sim_site.proofs.Going.{goes_both, stays}
use Rattle.sim_site.proofs.Limiting.{forward_limited}
use Rattle.sim_site.proofs.Passing.{passes_rest, stops_up}
use Rattle.sqs_model.specs.Site.{Effect}
use Rattle.sim_site.proofs.state.Core.forward_all.Goals as goal

-- an actor of this number
abbrev some_actor : ℕ → Actor
some_actor n = opening_actor 0 (n, record { home = 0; role = Script [] })

pub loop-transfer-init : goal.loop-transfer-init
loop-transfer-init c =
    let handling = c.args.handling.now in
    record {
      on = stays handling;
      remains = λ a own. subst (λ (os : List Outbound). Remains handling.effects.now handling.effects.now (forwards_made handling.key a c.args.id os c.args.self.now) (forwards_made handling.key a c.args.id c.args.forwards c.args.self.now)) (sym (c.into_iter-transfer-iterator.ensures.into_iter_gives.0 ∙ c.into_vec-transfer-items.ensures)) (remains_all handling.effects.now (forwards_made handling.key a c.args.id c.args.forwards c.args.self.now));
    }

pub loop-transfer-preserved : goal.loop-transfer-preserved
loop-transfer-preserved c =
    let old = c.loop-transfer in
    let handling = c.args.handling.now in
    let id = c.args.id in
    let core = c.args.self.now in
    let o : Outbound = c.in-Some.transfer in
    let left : List Outbound = c.next.new.self.rest.items in
    let went = c.in_ok-forward.ensures in
    record {
      on = goes_both handling old.handling c.forward.new.handling old.invariant.on (went (some_actor old.handling.agent) refl).0;
      remains = λ a own.
          let key : Key = handling.key in
          let did = (went a (own ∙ sym old.invariant.on.agent)).1 in
          let did_one = subst (λ k. Did old.handling.effects.now c.forward.new.handling.effects.now core (forward_made k a id o core)) old.invariant.on.key did in
          remains_then handling.effects.now old.handling.effects.now c.forward.new.handling.effects.now core (forwards_made key a id old.transfer-iterator.rest.items core) (forwards_made key a id c.args.forwards core) (forward_made key a id o core) (forwards_made key a id left)
          (old.invariant.remains a own) (ap (λ os. forwards_made key a id os core) c.in-Some.ensures.steps.0) did_one;
    }

pub returns : goal.returns
returns c a own =
    let now = c.loop-transfer in
    let handling = c.args.handling.now in
    let none : length now.transfer-iterator.rest.items ≡ 0 = omega (arith, c.in-None.ensures.steps.0, now.transfer-iterator.rest.ok.0) in
    let core = c.args.self.now in (
      now.invariant.on,
      remains_none handling.effects.now now.handling.effects.now core (forwards_made handling.key a c.args.id now.transfer-iterator.rest.items core) (forwards_made handling.key a c.args.id c.args.forwards core) (now.invariant.remains a own)
          (ap (λ os. forwards_made handling.key a c.args.id os core) (nil_from_length now.transfer-iterator.rest.items none)),
    )

pub returns-in_err-forward : goal.returns-in_err-forward
returns-in_err-forward c a own =
    let now = c.loop-transfer in
    let handling = c.args.handling.now in
    let core = c.args.self.now in
    let whole : Effect = forwards_made handling.key a c.args.id c.args.forwards core in
    let rest : Effect = forwards_made handling.key a c.args.id now.transfer-iterator.rest.items core in
    stops_up _ _ (PassesCount whole) c.from_residual.result c.in_err-forward.field-0.0 c.from_residual.ensures.1
    (λ h. passes_rest handling.effects.now now.handling.effects.now rest whole (now.invariant.remains a own)
    (subst (λ (os : List Outbound). PassesCount (forwards_made handling.key a c.args.id os core)) (sym c.in-Some.ensures.steps.0)
    (forward_limited handling.key a c.args.id c.in-Some.transfer c.next.new.self.rest.items core (subst (λ k. PassesCount (forward_made k a c.args.id c.in-Some.transfer core)) now.invariant.on.key h))))
    (c.in_err-forward.ensures a (own ∙ sym now.invariant.on.agent))

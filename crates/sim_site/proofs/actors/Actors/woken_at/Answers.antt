use Rattle.std.specs.Prelude.{All, IfOk, List}
use Rattle.std.proofs.Common.{ap, map, set, subst, sym, ◌∙◌, ◌≡◌}
use Rattle.sqs_model.specs.declared.acts.Answer.TheVariants.{Wake}
use Rattle.sqs_model.specs.declared.agents.ActorSettings.{ActorSettings}
use Rattle.sqs_model.specs.Actor.{Actor}
use Rattle.sim_clock.specs.Places.{Stands}
use Rattle.sqs_model.specs.Site.{is_actor}
use Rattle.sim_site.specs.Kept.{HasShortWaits}
use Rattle.sim_site.specs.Marked.{IsFirst}
use Rattle.sim_site.specs.Turns.{Turned}
use Rattle.sim_site.proofs.Firsts.{stands_first}
use Rattle.sim_site.proofs.Marked.{told_marked}
use Rattle.sim_site.proofs.Ordered.{number, rise_alike}
use Rattle.sim_site.proofs.Turning.{numbers_at, settings_at, turned_if, waits_if}
use Rattle.sim_site.proofs.actors.Actors.woken_at.Goals as goal

-- the actors as they were, before the mark of another was brought up
same : (c : goal.After-self-2-1) → c.turn_to.new.actors.values ≡ c.args.self.now
same c = c.turn_to.ensures.values ∙ c.self.view_is

stands : (c : goal.After-self-2-1) → Stands (is_actor c.args.number) c.turn_to.new.actors.values c.args.place
stands c = subst (λ (xs : List Actor). Stands (is_actor c.args.number) xs c.args.place) (sym (same c)) c.requires.place

pub returns-clause-turned : goal.returns-clause-turned
returns-clause-turned c =
    let now = c.turn_to.new.actors.values in
    subst (λ (xs : List Actor). IfOk c.woken.result (λ act. Turned c.args.number c.args.now (Wake c.args.standing) act xs (set now c.args.place c.woken.new.self))) (same c)
    (turned_if c.args.number now c.args.place (stands c) c.value_mut.result.now c.value_mut.ensures.value c.args.now (Wake c.args.standing) c.woken.result c.woken.new.self c.woken.ensures.decision c.woken.ensures.framed)

pub returns-clause-settings : goal.returns-clause-settings
returns-clause-settings c =
    settings_at c.args.number c.turn_to.new.actors.values c.args.place (stands c) c.value_mut.result.now c.value_mut.ensures.value c.woken.new.self c.woken.ensures.framed.settings
    ∙ ap (map (λ (a : Actor). a.settings)) (same c)

pub returns-clause-waits : goal.returns-clause-waits
returns-clause-waits c h =
    let before = subst (λ (xs : List Actor). All (λ (a : ActorSettings). HasShortWaits a.role) (map (λ (a : Actor). a.settings) xs)) (sym (same c)) h in
    waits_if c.args.number c.turn_to.new.actors.values c.args.place (stands c) c.value_mut.result.now c.value_mut.ensures.value c.args.now (Wake c.args.standing) c.woken.result c.woken.new.self c.woken.ensures.decision before

pub invariant_of-self : goal.invariant_of-self
invariant_of-self c =
    let now = c.turn_to.new.actors.values in
    let same = c.turn_to.ensures.values ∙ c.self.view_is in
    let here = subst (λ (xs : List Actor). Stands (is_actor c.args.number) xs c.args.place) (sym same) c.requires.place in
    let after = set now c.args.place c.woken.new.self in
    let numbers : map number after ≡ map number now = numbers_at c.args.number now c.args.place here c.value_mut.result.now c.value_mut.ensures.value c.woken.new.self c.woken.ensures.framed.number in
    let old = numbers ∙ ap (map number) c.turn_to.ensures.values in
    record {
      order = λ e. rise_alike c.self.inside.list.values after old (c.self.invariant.order e);
      first = subst (λ ns. IsFirst ns c.args.place) (sym numbers) (stands_first c.args.number now c.args.place here);
      marked = λ many. told_marked c.turn_to.new.actors c.args.place c.woken.new.self here.within (c.turn_to.ensures.marked many);
    }

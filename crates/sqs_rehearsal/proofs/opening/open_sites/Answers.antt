use Rattle.std.proofs.Common.{◌≡◌, ◌∙◌, ◌+◌, ◌++◌, ◌∷◌, ◌<◌, [], All, List, ap, append_assoc, arith, length, map, subst, sym, ℕ}
use Rattle.std.proofs.lemmas.List.{length-append}
use Rattle.std.proofs.lemmas.List.Elements.{All-tail}
use Rattle.sqs_redrive.specs.declared.settings.QueueSettings.{QueueSettings}
use Rattle.sqs_model.specs.Scenario.{numbered_actors, numbered_tasks}
use Rattle.sqs_rehearsal.specs.declared.opening.Home.{Home}
use Rattle.sqs_rehearsal.specs.Homes.{AtHome, IsFit, actors_in, tasks_in}
use Rattle.sqs_rehearsal.proofs.Openings.{one_site, opened_with}
use Rattle.sqs_rehearsal.proofs.opening.open_sites.Goals as goal

pub loop-home-preserved : goal.loop-home-preserved
loop-home-preserved c =
    let home : Home = c.in-Some.home in
    let number : ℕ = c.loop-home.number in
    let so_far : List Home = c.loop-home.yielded in
    let more : List Home = c.next.new.self.rest.items in
    let queues : List QueueSettings = c.args.queues.now in
    let v = c.loop-home.invariant in
    let steps : c.loop-home.home-iterator.rest.items ≡ home ∷ more = c.in-Some.ensures.steps.0 in
    let whole : so_far ++ home ∷ more ≡ c.args.homes.items = ap (λ r. so_far ++ r) (sym steps) ∙ v.rest in
    let within : number < length queues = omega (arith, v.number, ap length whole, length-append so_far (home ∷ more), c.requires.count) in
    let count : length (so_far ++ home ∷ []) ≡ length so_far + 1 = length-append so_far (home ∷ []) in
    record {
      number = omega (arith, v.number, count);
      rest = append_assoc so_far (home ∷ []) more ∙ whole;
      fit = All-tail IsFit home more (subst (All IsFit) steps v.fit);
      actors = λ s h. (subst (λ hs. AtHome (λ a. a.home) number (map actors_in hs) (numbered_actors s)) steps (v.actors s h)).1;
      tasks = λ s h. (subst (λ hs. AtHome (λ t. t.home) number (map tasks_in hs) (numbered_tasks s)) steps (v.tasks s h)).1;
      opened = λ s seed sample same h.
          let actors : AtHome (λ a. a.home) number (map actors_in (home ∷ more)) (numbered_actors s) = subst (λ hs. AtHome (λ a. a.home) number (map actors_in hs) (numbered_actors s)) steps (v.actors s h) in
          let tasks : AtHome (λ t. t.home) number (map tasks_in (home ∷ more)) (numbered_tasks s) = subst (λ hs. AtHome (λ t. t.home) number (map tasks_in hs) (numbered_tasks s)) steps (v.tasks s h) in
          one_site s number queues _ c.loop-home.sites.items c.push.new.self.items c.in_ok-site.site within (opened_with s number _ _ _ _ _ c.in_ok-site.site c.in_ok-site.ensures seed sample actors.0 tasks.0) c.in_ok-push.ensures.items
          ∙ v.opened s seed sample same h;
    }

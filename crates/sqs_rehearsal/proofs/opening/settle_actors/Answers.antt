use Rattle.std.proofs.Common.{◌≡◌, [], arith, refl}
use Rattle.std.proofs.lemmas.Grind.{common_steps}
use Rattle.sqs_model.specs.declared.agents.ActorSettings.{ActorSettings}
use Rattle.sqs_rehearsal.specs.declared.opening.Home.{Home}
use Rattle.sqs_rehearsal.specs.Homes.{actors_in, tasks_in}
use Rattle.sqs_rehearsal.proofs.Openings.{settles_all, settles_one}
use Rattle.sqs_rehearsal.proofs.opening.settle_actors.Goals as goal

pub loop-settings-preserved : goal.loop-settings-preserved
loop-settings-preserved c =
    let l = c.loop-settings in
    let d : Home = c.index_mut.result.now in
    let left : Home = record { actors = c.push.new.self; tasks = d.tasks } in
    settles_one (λ (x : ActorSettings). x.home) actors_in tasks_in c.args.first l.number l.yielded l.settings-iterator.rest.items c.args.actors.items c.args.homes.now.items l.homes.items
    c.in-Some.settings c.next.new.self.rest.items d left l.invariant c.in-Some.ensures.steps.0 c.index_mut.ensures.value c.in_ok-push.ensures.items refl

pub returns-clause-settled : goal.returns-clause-settled
returns-clause-settled c =
    let l = c.loop-settings in
    let none : l.settings-iterator.rest.items ≡ [] = grind (arith, common_steps) in
    settles_all (λ (x : ActorSettings). x.home) actors_in tasks_in c.args.first l.number l.yielded l.settings-iterator.rest.items c.args.actors.items c.args.homes.now.items l.homes.items l.invariant none

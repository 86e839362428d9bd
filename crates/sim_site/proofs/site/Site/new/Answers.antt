use Rattle.std.proofs.Common.{◌≡◌, ◌∙◌, ap, map}
use Rattle.sqs_model.specs.Actor.{Actor}
use Rattle.sqs_model.specs.Queue.{Queue}
use Rattle.sqs_model.specs.Scenario.{opening_task}
use Rattle.sim_site.specs.Kept.{numbered_settings}
use Rattle.sim_site.proofs.Openings.{numbers_open, settings_open}
use Rattle.sim_site.proofs.site.Site.new.Goals as goal

pub new-core-requires-clause-set_up : goal.new-core-requires-clause-set_up
new-core-requires-clause-set_up c =
    let queue : c.new-queue.result.settings ≡ c.args.settings = ap (λ (q : Queue). q.settings) c.new-queue.ensures in
    let actors : map (λ (a : Actor). a.settings) c.in_ok-actors.actors ≡ map (λ x. x.1) c.args.actors.items =
    ap (map (λ (a : Actor). a.settings)) c.in_ok-actors.ensures ∙ settings_open c.args.seed c.args.actors.items in
    let tasks : map numbered_settings c.in_ok-tasks.tasks.items ≡ c.args.tasks.items =
    ap (map numbered_settings) (c.in_ok-tasks.ensures ∙ ap (map (opening_task c.args.seed)) c.as_slice.ensures.value) ∙ numbers_open c.args.seed c.args.tasks.items in
    rw (queue, actors, tasks) c.requires.set_up

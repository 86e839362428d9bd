use Rattle.sim_clock.specs.Places.{place_from_position}
use Rattle.sqs_model.specs.Site.{is_task}
use Rattle.sim_site.proofs.places.place_of_task.Goals as goal

pub returns : goal.returns
returns c = place_from_position (is_task c.args.number) c.args.tasks.now _ c.first_task.ensures

use Rattle.sim_site.proofs.Ending.{first_matched}
use Rattle.sim_site.proofs.polls.place_of_first.Goals as goal

pub returns : goal.returns
returns c = first_matched c.args.places.now c.requires c.next.result c.next.ensures.first

use Rattle.std.proofs.Common.{arith}
use Rattle.sim_scenario.specs.Sections.{table_of}
use Rattle.sim_scenario.proofs.ActorsRead.{copies_most}
use Rattle.sim_scenario.proofs.actors.copies.Goals as goal

pub copy_names-requires : goal.copy_names-requires
copy_names-requires c = let most = copies_most (table_of c.newer-newer.result) c.in_ok-copies.copies c.in_ok-copies.ensures in omega (arith, most)

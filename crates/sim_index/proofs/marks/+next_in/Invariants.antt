use Rattle.sim_index.proofs.marks.+next_in.Given as goal

abbrev pub decreases-next_in : goal.decreases-next_in
decreases-next_in l = l.row

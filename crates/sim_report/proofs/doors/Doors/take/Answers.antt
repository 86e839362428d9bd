use Rattle.sim_report.proofs.doors.Doors.take.Goals as goal

pub returns-in-Came : goal.returns-in-Came
returns-in-Came c = c.take_forward.ensures c.args.wanted

pub returns-in-Forwarded : goal.returns-in-Forwarded
returns-in-Forwarded c = c.take_forwarded.ensures c.args.wanted

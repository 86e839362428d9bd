use Rattle.std.proofs.Common.{rules, ◌≡◌, length}
use Rattle.sim_report.proofs.FiguresEnd.{figured-none}
use Rattle.sim_report.proofs.figures.Figures.new.Goals as goal

pub returns : goal.returns
returns c =
    let queues = c.in_ok-fresh_queues.ensures in
    let actors = c.in_ok-fresh_actors.ensures in
    let doors = c.in_ok-doors.ensures in
    let so_many : c.len.result ≡ length c.args.queues.items = search rules in
    let many : c.len-2.result ≡ length c.args.actors.items = search rules in
    let none = figured-none (record { queues = c.args.queues.items; actors = c.args.actors.items; ways = c.args.ways.items; wanted = c.args.wanted }) in
    rw (queues, actors, doors, so_many, many) none

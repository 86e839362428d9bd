use Rattle.std.proofs.Common.{rules}
use Rattle.sqs_model.specs.Site.{Site}
use Rattle.sim_site.proofs.Due.{arrives_timely, least_is_due}
use Rattle.sim_site.proofs.Taking.{Takes, arrival_done, first_arrives}
use Rattle.sim_site.proofs.site.handle_due.Goals as goal

pub handle-requires : goal.handle-requires
handle-requires c =
    record {
      agent = c.requires.agent;
      recent = c.requires.recent;
      due = least_is_due (record { core = c.args.core.now; arriving = c.args.arriving.now }) c.args.handling.now.key c.requires.due (search rules);
    }

pub handle_arrival-requires-clause-enqueued : goal.handle_arrival-requires-clause-enqueued
handle_arrival-requires-clause-enqueued c =
    let key = c.args.handling.now.key in
    let takes : Takes key c.args.arriving.now c.take_first-transfer.result c.take_first-transfer.new.self =
    first_arrives (record { core = c.args.core.now; arriving = c.args.arriving.now }) key _ _ c.requires.due (search rules) c.take_first-transfer.ensures.taken c.take_first-transfer.ensures.least in
    rw takes.found (arrives_timely key c.args.arriving.now c.requires.timely)

pub returns-then-eq : goal.returns-then-eq
returns-then-eq c =
    let key = c.args.handling.now.key in
    let site : Site = record { core = c.args.core.now; arriving = c.args.arriving.now } in
    let takes : Takes key c.args.arriving.now c.take_first-transfer.result c.take_first-transfer.new.self =
    first_arrives site key _ _ c.requires.due (search rules) c.take_first-transfer.ensures.taken c.take_first-transfer.ensures.least in
    arrival_done c.handle_arrival.result c.args.handling.now c.handle_arrival.new.handling c.handle_arrival.new.self site key _ _ (search rules) takes c.handle_arrival.ensures

use Rattle.sim_exchange.proofs.Dealing.{put_last}
use Rattle.sim_exchange.proofs.transfers.put.Goals as goal

pub returns-clause-put : goal.returns-clause-put
returns-clause-put g c = put_last (λ l. l.items) c.args.lists.now.items c.args.place c.args.transfer c.index_mut-list.result.now c.push.new.self c.requires c.index_mut-list.ensures.value c.in_ok-push.ensures.items

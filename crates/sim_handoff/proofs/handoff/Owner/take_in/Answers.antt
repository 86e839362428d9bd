use Rattle.std.proofs.Common.{arith}
use Rattle.sim_handoff.proofs.Comings.{joins_at}
use Rattle.sim_handoff.proofs.handoff.Owner.take_in.Goals as goal

pub join_seat-requires : goal.join_seat-requires
join_seat-requires g c = let m = c.args.self.now.seat in let h = c.args.hand.seat in let t = c.args.handoff.now in let sized = t.sized in
    (c.requires.here, c.requires.theirs, c.args.hand.seated.1, omega arith, joins_at g.W.Work.does t.table.shared.key t.table.shared.table_id.slots m.id h.id m.me.0 h.me.0 c.args.self.now.seated.0 c.args.hand.seated.0 c.requires.idle)

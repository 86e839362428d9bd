use Rattle.std.proofs.Common.{arith, sym}
use Rattle.sim_handoff.proofs.Comings.{looks_at}
use Rattle.sim_handoff.proofs.handoff.Hand.stopped.Goals as goal

pub load-flag-requires : goal.load-flag-requires
load-flag-requires g c = let m = c.args.self.now.seat in let t = c.args.handoff.now in let sized = t.sized in
    (c.requires.here, omega arith, looks_at g.W.Work.does t.table.shared.key t.table.shared.table_id.slots t.places m.id m.me.0 m.me.1 (sym t.sized.2) c.args.self.now.seated.0)

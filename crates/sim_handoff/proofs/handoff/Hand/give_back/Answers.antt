use Rattle.std.proofs.Common.{◌≡◌, ℕ, ◌<◌, length, sym, refl, ap, ◌∙◌, arith}
use Rattle.atomic_table.specs.Seated.{TableId}
use Rattle.sim_handoff.specs.declared.records.Slot.TheVariants.{Nothing, Answer}
use Rattle.sim_handoff.specs.Steps.{at, picked_up, returned}
use Rattle.sim_handoff.proofs.Keeps.{hand_picks_up}
use Rattle.sim_handoff.proofs.Calls.{held_within, give_back_step, swapped, put}
use Rattle.sim_handoff.proofs.handoff.Hand.give_back.Goals as goal

pub load-requires : goal.load-requires
load-requires g c = let t = c.args.handoff.now.sized in let k : ℕ = c.args.handoff.now.table.shared.key in let m = c.args.self.now.seat in let p = c.args.claimed.place in
    let wide : length m.me.0.by_place ≡ k = c.args.self.now.seated.2 ∙ ap (λ (z : TableId). z.slots) c.requires.here ∙ t.1 ∙ sym t.2 in
    let low : p < k = held_within m.me.0 p k c.requires.does.0 c.requires.does.1 wide in
    (c.requires.here, omega arith, hand_picks_up g.W.Work.does k c.args.handoff.now.table.shared.table_id.slots p low m.me.0 wide m.id c.args.self.now.seated.0 c.requires.does.0 m.me.1 c.requires.does.1 (c.args.self.now.rests p))

pub bring-brought-requires-clause-allowed : goal.bring-brought-requires-clause-allowed
bring-brought-requires-clause-allowed g c _ _ = let t = c.args.handoff.now.sized in let k : ℕ = c.args.handoff.now.table.shared.key in let m = c.args.self.now.seat in let p = c.args.claimed.place in
    let wide : length m.me.0.by_place ≡ k = c.args.self.now.seated.2 ∙ ap (λ (z : TableId). z.slots) c.requires.here ∙ t.1 ∙ sym t.2 in
    let low : p < k = held_within m.me.0 p k c.requires.does.0 c.requires.does.1 wide in
    give_back_step g.W.Work.does k c.args.handoff.now.table.shared.table_id.slots p low m.me.0 wide c.exchange.new.seat.id c.args.self.now.seated.0 c.requires.does.0 c.args.done m.me.1 c.exchange.new.seat.me c.requires.does.1 c.requires.does.2
    (swapped p (at p picked_up m.me.0) Nothing (Answer c.args.done) m.me.1 c.load.new.seat.me c.exchange.new.seat.me c.load.ensures.2 c.exchange.ensures.3)

pub returns-clause-returned : goal.returns-clause-returned
returns-clause-returned g c = let t = c.args.handoff.now.sized in let p = c.args.claimed.place in let m = c.args.self.now.seat in
    let wide : length m.me.0.by_place ≡ c.args.handoff.now.places = c.args.self.now.seated.2 ∙ ap (λ (z : TableId). z.slots) c.requires.here ∙ t.1 in
    let low : p < length m.me.0.by_place = held_within m.me.0 p (length m.me.0.by_place) c.requires.does.0 c.requires.does.1 refl in
    let filled = swapped p (at p picked_up m.me.0) Nothing (Answer c.args.done) m.me.1 c.load.new.seat.me c.exchange.new.seat.me c.load.ensures.2 c.exchange.ensures.3 in
    ap (λ z. z.0) (put p m.me.0 low m.me.1 c.exchange.new.seat.me c.bring-brought.new.seat.me picked_up returned (Answer c.args.done) filled c.bring-brought.ensures.stored)

use Rattle.std.proofs.Common.{◌≡◌, ℕ, ◌<◌, length, sym, refl, ap, ◌∙◌, arith}
use Rattle.atomic_table.specs.Seated.{TableId}
use Rattle.sim_handoff.specs.declared.records.Slot.TheVariants.{Nothing, Piece}
use Rattle.sim_handoff.specs.Steps.{at, raised, offered}
use Rattle.sim_handoff.proofs.Calls.{raise_step, offer_step, swapped, offered_after, sits}
use Rattle.sim_handoff.proofs.handoff.Owner.offer.Goals as goal

pub load-requires : goal.load-requires
load-requires g c = let t = c.args.handoff.now.sized in let k : ℕ = c.args.handoff.now.table.shared.key in let m = c.args.self.now.seat in
    let low : c.args.place < k = omega arith in
    let wide : length m.me.0.by_place ≡ k = c.args.self.now.seated.2 ∙ ap (λ (z : TableId). z.slots) c.requires.here ∙ t.1 ∙ sym t.2 in
    (c.requires.here, omega arith, raise_step g.W.Work.does k c.args.handoff.now.table.shared.table_id.slots c.args.place low m.me.0 wide m.id c.args.self.now.seated.0 m.me.1 c.requires.empty (c.args.self.now.rests c.args.place))

pub bring-brought-requires-clause-allowed : goal.bring-brought-requires-clause-allowed
bring-brought-requires-clause-allowed g c _ _ = let t = c.args.handoff.now.sized in let k : ℕ = c.args.handoff.now.table.shared.key in let m = c.args.self.now.seat in
    let low : c.args.place < k = omega arith in
    let wide : length m.me.0.by_place ≡ k = c.args.self.now.seated.2 ∙ ap (λ (z : TableId). z.slots) c.requires.here ∙ t.1 ∙ sym t.2 in
    let first : c.exchange.new.seat.id ≡ 0 = c.exchange.ensures.1 ∙ c.load.ensures.1 ∙ c.args.self.now.seated.0 in
    offer_step g.W.Work.does k c.args.handoff.now.table.shared.table_id.slots c.args.place low m.me.0 wide c.exchange.new.seat.id first c.args.piece m.me.1 c.exchange.new.seat.me
    (swapped c.args.place (at c.args.place raised m.me.0) Nothing (Piece c.args.piece) m.me.1 c.load.new.seat.me c.exchange.new.seat.me c.load.ensures.2 c.exchange.ensures.3)

pub invariant_of-self : goal.invariant_of-self
invariant_of-self g c = let t = c.args.handoff.now.sized in let p = c.args.place in let m = c.args.self.now.seat in
    let wide : length m.me.0.by_place ≡ c.args.handoff.now.places = c.args.self.now.seated.2 ∙ ap (λ (z : TableId). z.slots) c.requires.here ∙ t.1 in
    let low : p < length m.me.0.by_place = omega arith in
    let filled = swapped p (at p raised m.me.0) Nothing (Piece c.args.piece) m.me.1 c.load.new.seat.me c.exchange.new.seat.me c.load.ensures.2 c.exchange.ensures.3 in
    let is = offered_after p m.me.0 low m.me.1 c.exchange.new.seat.me c.bring-brought.new.seat.me c.args.handoff.now.table.shared.table_id.slots c.args.piece filled c.bring-brought.ensures.stored in
    let it = sits p m.me.0 low (offered c.args.piece) m.me.1 c.bring-brought.new.seat.me is c.args.self.now.seated.1 (λ e. refl) (λ e. e) in
    let here = c.bring-brought.ensures.here ∙ c.exchange.ensures.0 ∙ c.load.ensures.0 in
    record {
      seated = (c.bring-brought.ensures.party ∙ c.exchange.ensures.1 ∙ c.load.ensures.1 ∙ c.args.self.now.seated.0, it.carries, it.wide ∙ c.args.self.now.seated.2 ∙ ap (λ (z : TableId). z.slots) (sym here));
      rests = it.lifted c.args.self.now.rests;
    }

pub returns-clause-offered : goal.returns-clause-offered
returns-clause-offered g c = let t = c.args.handoff.now.sized in let p = c.args.place in let m = c.args.self.now.seat in
    let wide : length m.me.0.by_place ≡ c.args.handoff.now.places = c.args.self.now.seated.2 ∙ ap (λ (z : TableId). z.slots) c.requires.here ∙ t.1 in
    let low : p < length m.me.0.by_place = omega arith in
    let filled = swapped p (at p raised m.me.0) Nothing (Piece c.args.piece) m.me.1 c.load.new.seat.me c.exchange.new.seat.me c.load.ensures.2 c.exchange.ensures.3 in
    ap (λ z. z.0) (offered_after p m.me.0 low m.me.1 c.exchange.new.seat.me c.bring-brought.new.seat.me c.args.handoff.now.table.shared.table_id.slots c.args.piece filled c.bring-brought.ensures.stored)

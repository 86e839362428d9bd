use Rattle.std.proofs.Common.{◌≡◌, ℕ, ◌<◌, length, sym, ap, ◌∙◌, arith}
use Rattle.atomic_table.specs.Seated.{TableId}
use Rattle.sim_handoff.specs.declared.records.Slot.TheVariants.{Nothing, Piece}
use Rattle.sim_handoff.specs.Steps.{at, claimed, set_down, holding}
use Rattle.sim_handoff.proofs.Keeps.{hand_claims}
use Rattle.sim_handoff.proofs.Calls.{set_down_step, swapped, put, fronted, took, one_piece}
use Rattle.sim_handoff.proofs.handoff.Hand.claim.Goals as goal

pub compare_exchange-found-requires : goal.compare_exchange-found-requires
compare_exchange-found-requires g c = let t = c.args.handoff.now.sized in let k : ℕ = c.args.handoff.now.table.shared.key in let m = c.args.self.now.seat in
    let low : c.args.place < k = omega arith in
    let wide : length m.me.0.by_place ≡ k = c.args.self.now.seated.2 ∙ ap (λ (z : TableId). z.slots) c.requires.here ∙ t.1 ∙ sym t.2 in
    (c.requires.here, omega arith, hand_claims g.W.Work.does k c.args.handoff.now.table.shared.table_id.slots c.args.place low m.me.0 wide m.id c.args.self.now.seated.0 m.me.1)

pub exchange-value-requires : goal.exchange-value-requires
exchange-value-requires g c = let got = c.compare_exchange-found.ensures.2.0 c.if-found-ne-OFFERED.false in let m = c.args.self.now.seat in
    (c.compare_exchange-found.ensures.0 ∙ c.requires.here, (Piece got.0, fronted c.args.place (at c.args.place (claimed got.0) m.me.0) (Piece got.0) m.me.1 c.compare_exchange-found.new.seat.me got.1))

pub load-requires : goal.load-requires
load-requires g c = let t = c.args.handoff.now.sized in let k : ℕ = c.args.handoff.now.table.shared.key in let m = c.args.self.now.seat in
    let got = c.compare_exchange-found.ensures.2.0 c.if-found-ne-OFFERED.false in
    let low : c.args.place < k = omega arith in
    let wide : length m.me.0.by_place ≡ k = c.args.self.now.seated.2 ∙ ap (λ (z : TableId). z.slots) c.requires.here ∙ t.1 ∙ sym t.2 in (
      c.exchange-value.ensures.0 ∙ c.compare_exchange-found.ensures.0 ∙ c.requires.here,
      omega arith,
      set_down_step g.W.Work.does k c.args.handoff.now.table.shared.table_id.slots c.args.place low m.me.0 wide c.exchange-value.new.seat.id c.args.self.now.seated.0 got.0 m.me.1 c.exchange-value.new.seat.me
          (swapped c.args.place (at c.args.place (claimed got.0) m.me.0) (Piece got.0) Nothing m.me.1 c.compare_exchange-found.new.seat.me c.exchange-value.new.seat.me got.1 c.exchange-value.ensures.3),
    )

pub returns-clause-held : goal.returns-clause-held
returns-clause-held g c = let t = c.args.handoff.now.sized in let p = c.args.place in let m = c.args.self.now.seat in
    let got = c.compare_exchange-found.ensures.2.0 c.if-found-ne-OFFERED.false in
    let wide : length m.me.0.by_place ≡ c.args.handoff.now.places = c.args.self.now.seated.2 ∙ ap (λ (z : TableId). z.slots) c.requires.here ∙ t.1 in
    let low : p < length m.me.0.by_place = omega arith in
    let emptied = swapped p (at p (claimed got.0) m.me.0) (Piece got.0) Nothing m.me.1 c.compare_exchange-found.new.seat.me c.exchange-value.new.seat.me got.1 c.exchange-value.ensures.3 in
    let same = one_piece got.0 c.in-Piece.piece c.exchange-value.result (took p (at p (claimed got.0) m.me.0) (Piece got.0) c.exchange-value.result m.me.1 c.compare_exchange-found.new.seat.me got.1 c.exchange-value.ensures.2) c.in-Piece.is in
    ap (λ z. z.0) (put p m.me.0 low m.me.1 c.exchange-value.new.seat.me c.load.new.seat.me (claimed got.0) set_down Nothing emptied c.load.ensures.2) ∙ ap (λ x. at p (holding x) m.me.0) same

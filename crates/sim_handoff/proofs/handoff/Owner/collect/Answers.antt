use Rattle.std.proofs.Common.{◌≡◌, ℕ, ◌<◌, length, sym, ap, subst, ◌∙◌, arith}
use Rattle.atomic_table.specs.Seated.{TableId}
use Rattle.sim_handoff.specs.declared.records.Slot.TheVariants.{Nothing, Answer}
use Rattle.sim_handoff.specs.Place.{place_record}
use Rattle.sim_handoff.specs.Steps.{at, taken, lowered, collected}
use Rattle.sim_handoff.proofs.Calls.{collect_step, lower_step, swapped, put, fronted, took, one_done, place_record_after}
use Rattle.sim_handoff.proofs.handoff.Owner.collect.Goals as goal

pub compare_exchange-found-requires : goal.compare_exchange-found-requires
compare_exchange-found-requires g c = let t = c.args.handoff.now.sized in let k : ℕ = c.args.handoff.now.table.shared.key in let m = c.args.self.now.seat in
    let low : c.args.place < k = omega arith in
    let wide : length m.me.0.by_place ≡ k = c.args.self.now.seated.2 ∙ ap (λ (z : TableId). z.slots) c.requires.here ∙ t.1 ∙ sym t.2 in
    (c.requires.here, omega arith, collect_step g.W.Work.does k c.args.handoff.now.table.shared.table_id.slots c.args.place low m.me.0 wide m.id c.args.self.now.seated.0 m.me.1)

pub exchange-value-requires : goal.exchange-value-requires
exchange-value-requires g c = let got = c.compare_exchange-found.ensures.2.0 c.if-found-ne-DONE.false in let m = c.args.self.now.seat in
    (c.compare_exchange-found.ensures.0 ∙ c.requires.here, (Answer got.1, fronted c.args.place (at c.args.place taken m.me.0) (Answer got.1) m.me.1 c.compare_exchange-found.new.seat.me got.4))

pub load-requires : goal.load-requires
load-requires g c = let t = c.args.handoff.now.sized in let k : ℕ = c.args.handoff.now.table.shared.key in let m = c.args.self.now.seat in
    let got = c.compare_exchange-found.ensures.2.0 c.if-found-ne-DONE.false in
    let low : c.args.place < k = omega arith in
    let wide : length m.me.0.by_place ≡ k = c.args.self.now.seated.2 ∙ ap (λ (z : TableId). z.slots) c.requires.here ∙ t.1 ∙ sym t.2 in
    let first : c.exchange-value.new.seat.id ≡ 0 = c.exchange-value.ensures.1 ∙ c.compare_exchange-found.ensures.1 ∙ c.args.self.now.seated.0 in (
      c.exchange-value.ensures.0 ∙ c.compare_exchange-found.ensures.0 ∙ c.requires.here,
      omega arith,
      lower_step g.W.Work.does k c.args.handoff.now.table.shared.table_id.slots c.args.place low m.me.0 wide c.exchange-value.new.seat.id first m.me.1 c.exchange-value.new.seat.me
          (swapped c.args.place (at c.args.place taken m.me.0) (Answer got.1) Nothing m.me.1 c.compare_exchange-found.new.seat.me c.exchange-value.new.seat.me got.4 c.exchange-value.ensures.3),
    )

pub returns-clause-answer : goal.returns-clause-answer
returns-clause-answer g c = let p = c.args.place in let m = c.args.self.now.seat in
    let got = c.compare_exchange-found.ensures.2.0 c.if-found-ne-DONE.false in
    let same = one_done got.1 c.in-Answer.done c.exchange-value.result (took p (at p taken m.me.0) (Answer got.1) c.exchange-value.result m.me.1 c.compare_exchange-found.new.seat.me got.4 c.exchange-value.ensures.2) c.in-Answer.is in
    (got.0, got.2, subst (λ d. g.W.Work.does got.0 d) same got.3)

pub returns-clause-collected : goal.returns-clause-collected
returns-clause-collected g c = let t = c.args.handoff.now.sized in let p = c.args.place in let m = c.args.self.now.seat in
    let got = c.compare_exchange-found.ensures.2.0 c.if-found-ne-DONE.false in
    let wide : length m.me.0.by_place ≡ c.args.handoff.now.places = c.args.self.now.seated.2 ∙ ap (λ (z : TableId). z.slots) c.requires.here ∙ t.1 in
    let low : p < length m.me.0.by_place = omega arith in
    let emptied = swapped p (at p taken m.me.0) (Answer got.1) Nothing m.me.1 c.compare_exchange-found.new.seat.me c.exchange-value.new.seat.me got.4 c.exchange-value.ensures.3 in
    ap (λ z. z.0) (put p m.me.0 low m.me.1 c.exchange-value.new.seat.me c.load.new.seat.me taken lowered Nothing emptied c.load.ensures.2)

pub returns-clause-empty : goal.returns-clause-empty
returns-clause-empty g c = let t = c.args.handoff.now.sized in let p = c.args.place in let m = c.args.self.now.seat in
    let wide : length m.me.0.by_place ≡ c.args.handoff.now.places = c.args.self.now.seated.2 ∙ ap (λ (z : TableId). z.slots) c.requires.here ∙ t.1 in
    let low : p < length m.me.0.by_place = omega arith in
    ap (λ z. (place_record z p).pending) (returns-clause-collected g c) ∙ ap (λ s. s.pending) (place_record_after p m.me.0 low (collected (place_record m.me.0 p)))

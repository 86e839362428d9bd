use Rattle.std.proofs.Common.{arith, sym, ap, ◌∙◌, length}
use Rattle.std.proofs.lemmas.List.{length-map}
use Rattle.atomic_table.specs.Seated.{TableId}
use Rattle.sim_handoff.specs.Place.{blank, place_record}
use Rattle.sim_handoff.proofs.Comings.{splits_at, none_out, none_held}
use Rattle.sim_handoff.proofs.handoff.Owner.hand.Goals as goal

pub split_seat-seat-requires : goal.split_seat-seat-requires
split_seat-seat-requires g c = let m = c.args.self.now.seat in let t = c.args.handoff.now in let sized = t.sized in
    (c.requires.here, omega arith, splits_at g.W.Work.does t.table.shared.key t.table.shared.table_id.slots m.id m.me.0 c.args.self.now.seated.0)

pub invariant_of-result : goal.invariant_of-result
invariant_of-result g c = let m = c.args.self.now.seat in let is = c.split_seat-seat.ensures in
    record {
      seated = (ap (λ z. z.0.is_hand) is.4, ap (λ z. z.1) is.4, ap (λ z. length z.0.by_place) is.4 ∙ length-map m.me.0.by_place (λ _. blank) ∙ c.args.self.now.seated.2 ∙ ap (λ (z : TableId). z.slots) (sym is.3));
      rests = λ q. ap (λ z. (place_record z.0 q).out) is.4 ∙ none_out m.me.0 q;
    }

pub returns-clause-idle : goal.returns-clause-idle
returns-clause-idle g c = λ q. ap (λ z. (place_record z.0 q).held) c.split_seat-seat.ensures.4 ∙ none_held c.args.self.now.seat.me.0 q

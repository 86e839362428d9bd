use Rattle.std.proofs.Common.{List, [], ap, arith, length, sym, ◌++◌, ◌∙◌, ◌∷◌, ◌≡◌}
use Rattle.std.proofs.lemmas.List.{length-append}
use Rattle.sqs_redrive.specs.declared.transfers.Outbound.{Outbound}
use Rattle.sqs_model.specs.Acts.{forward_made, forwards_made}
use Rattle.sim_site.proofs.Carried.{did_nothing, did_then}
use Rattle.sim_site.proofs.state.Core.forward_listed.Goals as goal
use Rattle.sim_site.proofs.state.Core.forward_listed.Goals.{in-Some+in_ok-forward, in_default}

-- the last of a list of one is all of it
only_one : (xs ys : List Outbound) (o : Outbound) → xs ≡ ys ++ o ∷ [] → length xs ≡ 1 → xs ≡ o ∷ []
only_one xs [] o same one = same
only_one xs (y ∷ ys) o same one = absurd (omega (arith, ap length same, one, length-append ys (o ∷ [])))

pub returns-clause-done : goal.returns-clause-done
returns-clause-done c a own = elim c.match-pop.branch [
  | in-Some+in_ok-forward w ↦
      let went = w.in_ok-forward.ensures a own in
      let key = c.args.handling.now.key in
      let core = c.args.self.now in
      let popped = rw w.in-Some.is at c.pop.ensures.items in
      let one : length c.args.forwards ≡ 1 = omega (arith, ap length c.as_slice.ensures, c.if-as_slice-ne1.false) in
      let all : c.args.forwards ≡ w.in-Some.only ∷ [] = only_one c.args.forwards c.pop.new.self.items w.in-Some.only (sym c.into_vec-room.ensures ∙ popped) one in
      rw (w.handling-is, all) (went.0, did_then c.args.handling.now.effects.now w.forward.new.handling.effects.now w.forward.new.handling.effects.now core core (forward_made key a c.args.id w.in-Some.only core) (forwards_made key a c.args.id []) went.1 (did_nothing w.forward.new.handling.effects.now core))
  | in_default w ↦
      let none = rw w.in_default.is at c.pop.ensures.cases in
      absurd (omega (arith, none.0, ap length c.as_slice.ensures, ap length c.into_vec-room.ensures, c.into_vec-room.result.ok.0, c.if-as_slice-ne1.false))
]

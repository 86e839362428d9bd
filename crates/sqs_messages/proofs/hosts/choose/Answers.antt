use Rattle.std.proofs.Common.{◌+◌, ◌∷◌, [], ℕ, List, ap, arith, length, length-append, subst, sym}
use Rattle.sqs_messages.proofs.Wanted.{IsChosen, chosen_end, chosen_more}
use Rattle.sqs_messages.proofs.hosts.choose.Goals as goal

pub returns-in_default-clause-numbers : goal.returns-in_default-clause-numbers
returns-in_default-clause-numbers c =
    chosen_end c.args.shelf.now.items c.args.set c.args.most c.loop-count._count c.loop-count.from c.loop-count.choice.numbers.items c.in_default.ensures.found c.loop-count.invariant.chosen

pub loop-count-preserved : goal.loop-count-preserved
loop-count-preserved c =
    record {
      chosen = subst (λ (numbers : List ℕ). IsChosen c.args.shelf.now.items c.args.set c.args.most (c.loop-count._count + 1) (c.in-Some.number + 1) numbers) (sym c.in_ok-push.ensures.ok)
          (chosen_more c.args.shelf.now.items c.args.set c.args.most c.loop-count._count c.loop-count.from c.loop-count.choice.numbers.items c.in-Some.number c.in-Some._place c.next.ensures.ordered (omega arith) c.in-Some.ensures.found c.loop-count.invariant.chosen);
      looked = omega (arith, c.loop-count.invariant.looked);
      read = omega (arith, c.loop-count.invariant.read, ap length c.in_ok-push.ensures.ok, length-append c.loop-count.choice.numbers.items (c.in-Some.number ∷ []));
    }

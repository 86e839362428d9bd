use Rattle.std.specs.Fn.{FnReturnsAt}
use Rattle.std.specs.List.{AllZip}
use Rattle.std.proofs.lemmas.Fn.{says_at}
use Rattle.std.proofs.Common.{arith, get_or, refl, subst, sym, take, []}
use Rattle.std.proofs.lemmas.List.{take_all, take_more}
use Rattle.sim_index.proofs.Picked.{asked_more}
use Rattle.sim_index.proofs.marked.answers.Goals as goal

pub loop-value-preserved : goal.loop-value-preserved
loop-value-preserved g c =
    let place = c.loop-value.value-index in
    let values = c.args.values.now in
    let value = c.value-item.result in
    record {
      asked =
          rw (c.push_reserved.ensures.items, take_more values place value (omega arith))
          (asked_more _ (take place values) c.loop-value.told.items (get_or values place value) c.answer.result c.loop-value.invariant.asked
          (subst (λ v. FnReturnsAt g.F.Fn c.args.answer v c.answer.result) c.value-item.is (says_at g.F.Fn c.answer.ensures refl)));
      counted = omega arith;
      room = omega arith;
    }

pub loop-value-init : goal.loop-value-init
loop-value-init g c =
    record {
      asked = subst (AllZip (FnReturnsAt g.F.Fn c.args.answer) []) (sym c.in_ok-told.ensures.items) tt;
      counted = c.in_ok-told.ensures.len;
      room = c.in_ok-told.ensures.exact;
    }

pub returns : goal.returns
returns g c =
    let told = c.loop-value.told.items in
    let values = c.args.values.now in
    record {
      told = subst (λ xs. AllZip (FnReturnsAt g.F.Fn c.args.answer) xs told) (take_all c.loop-value.value-index values (omega (arith, c.loop-value-test.false))) c.loop-value.invariant.asked;
      length = omega (arith, c.loop-value-test.false, c.loop-value.auto.value-index-end, c.loop-value.invariant.counted, c.loop-value.told.ok.0);
    }

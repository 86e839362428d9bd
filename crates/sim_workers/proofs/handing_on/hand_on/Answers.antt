use Rattle.std.proofs.Common.{inr}
use Rattle.std.proofs.lemmas.Result.{err_from_is_err_and}
use Rattle.sim_workers.proofs.handing_on.hand_on.Goals as goal

pub returns-in_err-handed-clause-stops : goal.returns-in_err-handed-clause-stops
returns-in_err-handed-clause-stops g c =
    let told = err_from_is_err_and c.from_residual-in_err-handed.result c.from_residual-in_err-handed.ensures.1 in
    rw (told.1, told.2, c.in-Some.is) (inr (c.in_ok-lent.lent, (_, (c.in_ok-lent.ensures.next, c.in_err-handed.ensures.stops))))

pub returns-clause-handed : goal.returns-clause-handed
returns-clause-handed g c = rw c.in-Some.is (record { rows = _; are = c.in_ok-lent.ensures.next; taken = c.in_ok-handed.ensures.took; counted = c.in_ok-handed.ensures.count })

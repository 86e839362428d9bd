-- What it took in turn it took together.
use Rattle.std.proofs.Common.{◌++◌, [], List, arith, length-append}
use Rattle.sim_clock.specs.declared.refusal.Refusal.{Refusal}
use Rattle.sim_windows.specs.Limits.{Broke, Took}
use Rattle.sim_windows.specs.declared.limit.Limit.{Limit}

pub took_none : (R : Type 0) (sink : Limit) → Took {R = R} sink [] sink
took_none R sink = omega arith

pub took_both : {R : Type 0} (a b c : Limit) (xs ys : List R) → Took a xs b → Took b ys c → Took a (xs ++ ys) c
took_both a b c xs ys first second = omega (arith, length-append xs ys, first, second)

pub broke_later : {R : Type 0} (a b : Limit) (xs ys : List R) (refusal : Refusal) → Took a xs b → Broke b ys refusal → Broke a (xs ++ ys) refusal
broke_later a b xs ys refusal first broke = (omega (arith, length-append xs ys, first, broke.0), broke.1)

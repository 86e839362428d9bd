use Rattle.std.proofs.Common.{◌≡◌, length, take, vec_capacity, vec_len}
use Rattle.std.specs.Fn.{FnReturnsAt}
use Rattle.std.specs.List.{AllZip}
use Rattle.sim_index.proofs.marked.answers.Given as goal

abbrev pub invariant-loop-value : goal.invariant-loop-value
invariant-loop-value g l =
    record {
      asked : AllZip (FnReturnsAt g.F.Fn l.answer) (take l.value-index l.values) l.told.items;
      counted : vec_len l.told ≡ l.value-index;
      room : vec_capacity l.told ≡ length l.values;
    }

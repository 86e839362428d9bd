use Rattle.std.proofs.Common.{List, Result, drop, length, map, ℕ, ◌++◌, ◌≡◌}
use Rattle.sim_clock.specs.declared.refusal.Refusal.{Refusal}
use Rattle.sim_engine.specs.Setting.{Setting}
use Rattle.sim_windows.specs.Rounds.{AreWithin, HaveCome}
use Rattle.sim_windows.specs.Stages.{IsSame, StandsOn, standing_of, with_parts}
use Rattle.sim_windows.proofs.lent.Lent.come_back.Given as goal

-- those so far are back, and the others are still out
abbrev pub invariant-loop-one : goal.invariant-loop-one
invariant-loop-one g l = record {
  rest : l.yielded ++ l.one-iterator.rest.items ≡ l.fn.came.items;
  place : l.place ≡ length l.yielded;
  parts : l.parts.items ≡ map (λ c. c.part) l.yielded;
  rows : length l.kept.rows.items ≡ length l.fn.self.rows;
  bounds : l.kept.bounds.items ≡ l.fn.self.bounds;
  same : IsSame l.fn.self (standing_of l.kept l.parts.items);
  settled : l.kept.settled ≡ l.fn.self.settled;
  horizon : l.kept.horizon ≡ l.fn.self.horizon;
  back : (s : Setting _) (parts : List (Result (List _) Refusal)) (ends : List ℕ) → StandsOn g.S.Site.engine g.S.Site.conditions s (with_parts parts l.fn.self) → AreWithin ends l.fn.self.bounds → HaveCome g.S.Site.engine g.S.Site.conditions ends parts l.fn.came.items → StandsOn g.S.Site.engine g.S.Site.conditions s (standing_of l.kept (l.parts.items ++ drop l.place parts));
}

use Rattle.std.proofs.Common.{[], get_or, length, ℕ, ◌<◌, ◌≡◌}
use Rattle.sim_exchange.specs.Heads.{head_in, head_of}
use Rattle.sim_exchange.proofs.rows.heads_of.Given as goal

-- the heads so far
abbrev pub invariant-loop-place : goal.invariant-loop-place
invariant-loop-place g l = record {
  many : length l.heads ≡ length l.lists;
  each : (p : ℕ) → p < l.place → head_in l.heads p ≡ head_of g.S.Site.engine p (get_or l.lists p []);
}

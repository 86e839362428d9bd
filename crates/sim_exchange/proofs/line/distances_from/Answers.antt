use Rattle.std.proofs.Common.{List, None, Option, arith, drop, get_or, length, subst, sym, take, ◌++◌, ◌∙◌, ◌≡◌, ℕ}
use Rattle.std.proofs.lemmas.List.{take-append-le, take_all}
use Rattle.sim_engine.specs.Bounds.{IsDistance}
use Rattle.sim_exchange.specs.Layout.{owner_of}
use Rattle.sim_exchange.specs.Line.{IsSettled}
use Rattle.sim_exchange.proofs.Walks.{all_in, are_distances}
use Rattle.sim_exchange.proofs.line.distances_from.Goals as goal

pub returns-clause-distances : goal.returns-clause-distances
returns-clause-distances c =
    let line = c.shorten.new.line in
    let owner = owner_of c.args.layout.now in
    let e : take c.loop.line.len (line ++ drop (length line) c.loop.line.items) ≡ line =
    take-append-le c.loop.line.len line (drop (length line) c.loop.line.items) (omega (arith, c.shorten.auto.line, c.deref_mut.ensures.len)) ∙ take_all c.loop.line.len line (omega (arith, c.shorten.auto.line, c.deref_mut.ensures.len)) in
    subst (λ (ds : List (Option ℕ)). (p : ℕ) → IsDistance owner c.args.ways.now c.args.start p (get_or ds p None)) (sym e)
    (are_distances owner c.args.ways.now c.args.start line (all_in (IsSettled owner c.args.start line) c.args.ways.now (c.shorten.ensures.settled c.loop-test.false)) c.shorten.ensures.walked)

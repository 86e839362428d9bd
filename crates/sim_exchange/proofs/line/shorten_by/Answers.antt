use Rattle.std.proofs.Common.{Some, ap, arith, length, set, subst, sym, ◌*◌, ◌+◌, ◌∙◌, ◌<◌, ◌≡◌, ◌≤◌, ℕ}
use Rattle.sim_exchange.specs.Layout.{owner_of}
use Rattle.sim_exchange.specs.Line.{AreWalked, reached_count, so_far}
use Rattle.sim_exchange.proofs.Walks.{reached_le, short_set, so_far_short, total_falls, walked_set}
use Rattle.sim_exchange.proofs.line.shorten_by.Goals as goal

pub overflow_add-distance : goal.overflow_add-distance
overflow_add-distance c =
    let line = c.args.line.now in
    let x : c.in-Some.before ≤ 900000 * reached_count line = so_far_short c.args.start c.part_of.result c.in-Some.before line c.requires.short (sym c.distance_before.ensures ∙ c.in-Some.is) in
    let n : reached_count line ≤ length line = reached_le line in
    omega arith

pub returns-then-is_nearer-clause-short : goal.returns-then-is_nearer-clause-short
returns-then-is_nearer-clause-short c =
    let line = c.args.line.now in
    let x : c.in-Some.before ≤ 900000 * reached_count line = so_far_short c.args.start c.part_of.result c.in-Some.before line c.requires.short (sym c.distance_before.ensures ∙ c.in-Some.is) in
    short_set line c.part_of-to.result (c.in-Some.before + c.args.way.now.least) (omega (arith, c.part_of-to.ensures.below)) (c.is_nearer.ensures.nearer c.if-is_nearer.true) c.requires.short (omega arith)

pub returns-then-is_nearer-clause-walked : goal.returns-then-is_nearer-clause-walked
returns-then-is_nearer-clause-walked c = λ ways i w.
    let line = c.args.line.now in
    let owner = owner_of c.args.layout.now in
    let k : so_far c.args.start line (owner c.args.way.now.from) ≡ Some c.in-Some.before = ap (so_far c.args.start line) (sym c.part_of.ensures.owner) ∙ sym c.distance_before.ensures ∙ c.in-Some.is in
    let l : owner c.args.way.now.to < length line = omega (arith, c.part_of-to.ensures.below, c.part_of-to.ensures.owner) in
    subst (λ (p : ℕ). AreWalked owner ways c.args.start (set line p (Some (c.in-Some.before + c.args.way.now.least)))) (sym c.part_of-to.ensures.owner)
    (walked_set owner ways c.args.start c.in-Some.before line c.args.way.now i w k l)

pub returns-then-is_nearer-clause-nearer : goal.returns-then-is_nearer-clause-nearer
returns-then-is_nearer-clause-nearer c = λ t.
    let line = c.args.line.now in
    let x : c.in-Some.before ≤ 900000 * reached_count line = so_far_short c.args.start c.part_of.result c.in-Some.before line c.requires.short (sym c.distance_before.ensures ∙ c.in-Some.is) in
    let n : reached_count line ≤ length line = reached_le line in
    total_falls line c.part_of-to.result (c.in-Some.before + c.args.way.now.least) (omega (arith, c.part_of-to.ensures.below)) (c.is_nearer.ensures.nearer c.if-is_nearer.true) (omega arith)

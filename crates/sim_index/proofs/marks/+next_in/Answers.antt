use Rattle.std.proofs.Common.{ℕ, ◌+◌, ◌/◌, arith, subst}
use Rattle.sim_index.specs.Marks.{NoneIn, bare}
use Rattle.sim_index.proofs.Rows.{IsBelow, is_below, next_below, none_below}
use Rattle.sim_index.proofs.Trees.{long_bare}
use Rattle.sim_index.proofs.marks.+next_in.Goals as goal

pub next_in-requires : goal.next_in-requires
next_in-requires t c =
    let below : IsBelow (bare c.args.nodes.now) c.args.row = is_below (bare c.args.nodes.now) c.args.row c.requires.power c.if-row-eq1.false in
    let d = c.decreases in
    (omega (arith, below.some, below.twice), (below.power, (omega (arith, c.requires.within, below.twice), (c.requires.pairs, omega (arith, c.requires.from)))))

pub returns-in-None : goal.returns-in-None
returns-in-None t c =
    let below : IsBelow (bare c.args.nodes.now) c.args.row = is_below (bare c.args.nodes.now) c.args.row c.requires.power c.if-row-eq1.false in
    none_below (bare c.args.nodes.now) c.args.flags c.args.row c.args.from c.args.row c.requires.pairs (omega (arith, c.requires.within, long_bare c.args.nodes.now)) below c.requires.from (omega arith) c.in_default.ensures
    (subst (λ (end : ℕ). NoneIn (bare c.args.nodes.now) c.args.flags (c.args.from / 2 + 1) end) below.twice c.in-None.ensures)

pub returns-in-Some-next_in : goal.returns-in-Some-next_in
returns-in-Some-next_in t c =
    let below : IsBelow (bare c.args.nodes.now) c.args.row = is_below (bare c.args.nodes.now) c.args.row c.requires.power c.if-row-eq1.false in
    next_below (bare c.args.nodes.now) c.args.flags c.args.row c.args.from c.in-Some-next_in.node c.first_below.result c.requires.pairs (omega (arith, c.requires.within, long_bare c.args.nodes.now)) below c.requires.from
    c.in_default.ensures c.in-Some-next_in.ensures c.first_below.ensures

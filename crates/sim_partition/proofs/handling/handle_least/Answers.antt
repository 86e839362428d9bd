use Rattle.std.proofs.Common.{Some, sym, subst, ◌≡◌, ◌≤◌, ◌∙◌}
use Rattle.std.specs.Prelude.{IfErr, OnOk, None}
use Rattle.sim_clock.specs.declared.key.Key.{Key}
use Rattle.sim_engine.specs.Limits.{most_count}
use Rattle.sim_engine.specs.Rounds.{part_on}
use Rattle.sim_engine.specs.World.{handled_among}
use Rattle.sim_partition.specs.Steps.{StopsStep, part_made}
use Rattle.sim_partition.proofs.Marked.{marked_least, stands_least, told_least}
use Rattle.sim_partition.proofs.handling.handle_least.Goals as goal

one_key : (a b : Key) → Some a ≡ Some b → a ≡ b
one_key a b h = cc

no_key : (a : Key) → None ≡ Some a → ⊥
no_key a h = cc

pub unreachable-requires : goal.unreachable-requires
unreachable-requires g c =
    no_key c.requires.due.key (sym c.in_default.ensures.first ∙ marked_least g.S.Site.engine c.args.sites.now c.requires.kept.marked ∙ c.requires.due.due)

pub handle_at-requires-clause-due : goal.handle_at-requires-clause-due
handle_at-requires-clause-due g c = told_least g.S.Site.engine c.args.sites.now c.least.result c.in-Some-least.key c.requires.kept.marked c.least.ensures c.in-Some-least.is

pub handle_at-requires-clause-there : goal.handle_at-requires-clause-there
handle_at-requires-clause-there g c =
    stands_least g.S.Site.engine c.in-Some-least.key c.args.sites.now c.in-Some.place c.requires.kept.marked c.in-Some.ensures.first c.in-Some.ensures.there (sym c.least.ensures ∙ c.in-Some-least.is)

pub handle_at-requires-clause-moment : goal.handle_at-requires-clause-moment
handle_at-requires-clause-moment g c =
    let same : c.requires.due.key ≡ c.in-Some-least.key = one_key _ _ (sym c.requires.due.due ∙ told_least g.S.Site.engine c.args.sites.now c.least.result c.in-Some-least.key c.requires.kept.marked c.least.ensures c.in-Some-least.is) in
    subst (λ (k : Key). k.at ≤ most_count) same c.requires.due.moment

-- the least is the one key that is told
pub returns-clause-handled : goal.returns-clause-handled
returns-clause-handled g c key due =
    let e = g.S.Site.engine in
    let same : c.in-Some-least.key ≡ key = one_key _ _ (sym (told_least e c.args.sites.now c.least.result c.in-Some-least.key c.requires.kept.marked c.least.ensures c.in-Some-least.is) ∙ due) in
    subst (λ (k : Key). OnOk c.handle_at.result (part_made e c.handle_at.new.sites.values c.handle_at.new.effects ≡ part_on e (part_made e c.args.sites.now.values c.args.effects.now) (handled_among e k c.args.sites.now.values))) same c.handle_at.ensures.handled

pub returns-clause-stops : goal.returns-clause-stops
returns-clause-stops g c key due =
    let e = g.S.Site.engine in
    let same : c.in-Some-least.key ≡ key = one_key _ _ (sym (told_least e c.args.sites.now c.least.result c.in-Some-least.key c.requires.kept.marked c.least.ensures c.in-Some-least.is) ∙ due) in
    subst (λ (k : Key). IfErr c.handle_at.result (StopsStep e (handled_among e k c.args.sites.now.values))) same c.handle_at.ensures.stops

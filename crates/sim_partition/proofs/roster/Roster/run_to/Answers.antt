use Rattle.std.proofs.Common.{ap, map, sym, ◌∙◌}
use Rattle.std.specs.Prelude.{All}
use Rattle.sim_engine.specs.Rounds.{PartRun, part_begun}
use Rattle.sim_partition.specs.Sites.{spent_or}
use Rattle.sim_partition.specs.Steps.{Continues, StopsRun, part_made}
use Rattle.sim_partition.proofs.Runs.{after_more, numbers_more, stops_run}
use Rattle.sim_partition.proofs.Spent.{goes_on_with, lives_as, now_lives}
use Rattle.sim_partition.proofs.roster.Roster.run_to.Goals as goal

pub returns-in-Err-clause-stops : goal.returns-in-Err-clause-stops
returns-in-Err-clause-stops g c =
    let e = g.S.Site.engine in
    let w = c.self.inside.sites.values in
    let refusal = c.in-Err.refusal in
    lives_as (λ v. StopsRun e c.args.end v refusal) c.args.self.now w (now_lives c.self.inside.spent w c.args.self.now c.in_default.is c.self.view_is)
    (stops_run g.met.S.Site.laws c.args.end w refusal
    c.in-Err.ensures.stops)

pub returns-in-Ok-clause-ran : goal.returns-in-Ok-clause-ran
returns-in-Ok-clause-ran g c =
    let e = g.S.Site.engine in
    let w = c.self.inside.sites.values in
    let v = c.made_before.new.sites.values in
    let x : PartRun e = part_made e v c.in-Ok.effects in
    let on : Continues e c.args.end (part_begun e w) x = c.in-Ok.ensures.goes_on in
    lives_as _ c.args.self.now w (now_lives c.self.inside.spent w c.args.self.now c.in_default.is c.self.view_is)
    (record {
      sites = v;
      lives = ap (λ s. spent_or s v) c.in_default.is;
      run =
          record {
            steps = on.steps;
            reached = after_more g.met.S.Site.laws c.args.end on.steps w ∙ on.reached;
            done = c.in-Ok.ensures.done;
          };
    })

pub returns-in-Ok-clause-past : goal.returns-in-Ok-clause-past
returns-in-Ok-clause-past g c =
    let e = g.S.Site.engine in
    let w = c.self.inside.sites.values in
    let v = c.made_before.new.sites.values in
    lives_as _ c.args.self.now w (now_lives c.self.inside.spent w c.args.self.now c.in_default.is c.self.view_is)
    (λ moment l p. lives_as (All (g.S.Site.conditions.Past moment)) (spent_or c.self.inside.spent v) v (ap (λ s. spent_or s v) c.in_default.is) (c.in-Ok.ensures.past moment l p))

pub invariant_of-self : goal.invariant_of-self
invariant_of-self g c =
    let e = g.S.Site.engine in
    let i = c.self.inside in
    let w = i.sites.values in
    let on : Continues e c.args.end (part_begun e w) (part_made e c.made_before.new.sites.values c.in-Ok.effects) = c.in-Ok.ensures.goes_on in
    goes_on_with e g.S.Site.conditions i.spent i.numbers.items i.sites c.made_before.new.sites c.self.invariant.1 c.in-Ok.ensures.kept
    (sym (ap (λ (r : PartRun e). map e.number r.sites) on.reached) ∙ numbers_more g.met.S.Site.laws c.args.end on.steps (part_begun e w))

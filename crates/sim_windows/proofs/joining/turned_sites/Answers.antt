use Rattle.std.specs.Prelude.{[], map, ◌++◌, ◌∷◌}
use Rattle.std.proofs.Common.{ap, append_assoc, arith, sym, ◌∙◌}
use Rattle.std.proofs.lemmas.Grind.{common_steps}
use Rattle.sim_windows.proofs.Joined.{none_turned, turned_one}
use Rattle.sim_windows.proofs.joining.turned_sites.Goals as goal

pub loop-part-init : goal.loop-part-init
loop-part-init given c =
    let engine = given.S.Site.engine in
    record {
      rest = grind (arith, common_steps);
      turned = λ ws e. ap (map (λ x. x.items)) c.in_ok-lists.ensures.items ∙ none_turned engine ws e;
    }

pub loop-part-preserved : goal.loop-part-preserved
loop-part-preserved given c =
    let engine = given.S.Site.engine in
    let l = c.loop-part in
    let part = c.in-Some.part in
    let more = c.next.new.self.rest.items in
    record {
      rest = append_assoc l.yielded (part ∷ []) more ∙ ap (λ r. l.yielded ++ r) (sym c.in-Some.ensures.steps.0) ∙ l.invariant.rest;
      turned = turned_one engine (λ x. x.items) l.lists.items c.push.new.self.items c.reverse.new.self l.yielded part c.in_ok-sites.sites.items c.in_ok-push.ensures.items c.reverse.ensures.items c.in_ok-sites.ensures l.invariant.turned;
    }

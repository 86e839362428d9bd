use Rattle.std.specs.List.{range_with_len}
use Rattle.std.specs.Prelude.{IfOk, List, [], length, map, ℕ, ◌++◌, ◌<◌, ◌∷◌, ◌≡◌}
use Rattle.std.proofs.Common.{ap, append_assoc, arith, refl, subst, sym, ◌∙◌}
use Rattle.std.proofs.lemmas.List.{length-append, length-map, length-set}
use Rattle.std.proofs.lemmas.List.FromFn.{length-map-range_with_len}
use Rattle.std.proofs.lemmas.Grind.{common_steps}
use Rattle.sim_exchange.specs.Layout.{owner_of}
use Rattle.sim_engine.specs.Parts.{part_of}
use Rattle.sim_windows.proofs.Joined.{follows, part_alone, split_next}
use Rattle.sim_windows.proofs.parting.split_sites.Goals as goal

pub loop-site-init : goal.loop-site-init
loop-site-init given c =
    let none : ℕ → List _ = λ p. [] in
    let parts = c.parts-3.result in
    let made = c.in_ok-lists.ensures in
    record {
      number = refl;
      rest = grind (arith, common_steps);
      count = sym (length-map c.in_ok-lists.lists.items (λ x. x.items)) ∙ ap (λ z. length z) made ∙ length-map-range_with_len none 0 parts ∙ c.parts-3.ensures.parts;
      split = λ k. made ∙ ap (λ n. map none (range_with_len 0 n)) c.parts-3.ensures.parts;
    }

pub loop-site-preserved : goal.loop-site-preserved
loop-site-preserved given c =
    let engine = given.S.Site.engine in
    let l = c.loop-site in
    let v = l.invariant in
    let site = c.in-Some.site in
    let more : List _ = c.next.new.self.rest.items in
    let whole : l.yielded ++ site ∷ more ≡ c.args.sites.items = ap (λ r. l.yielded ++ r) (sym c.in-Some.ensures.steps.0) ∙ v.rest in
    record {
      number = omega (arith, v.number, length-append l.yielded (site ∷ []));
      rest = append_assoc l.yielded (site ∷ []) more ∙ whole;
      count = length-set l.lists.items c.part_of-part.result c.push.new.self ∙ v.count;
      split = λ k.
          split_next engine (λ x. x.items) l.lists.items c.index_mut.result.now c.push.new.self c.part_of-part.result (owner_of c.args.layout.now) c.args.layout.now.parts l.number c.args.sites.items site
          (follows engine 0 l.number l.number l.yielded site more c.args.sites.items whole k v.number (omega arith)) c.part_of-part.ensures.below c.part_of-part.ensures.owner v.count c.index_mut.ensures.value c.in_ok-push.ensures.items (v.split k);
    }

pub returns-then-parts-eq1 : goal.returns-then-parts-eq1
returns-then-parts-eq1 given c =
    let engine = given.S.Site.engine in
    let owner = owner_of c.args.layout.now in
    let sites = c.args.sites.items in
    let one : c.args.layout.now.parts ≡ 1 = sym c.parts.ensures.parts ∙ c.if-parts-eq1.true in
    let alone : part_of engine owner 0 sites ≡ sites = part_alone engine owner (λ n. subst (λ k. owner n < k) one (c.parts.ensures.below n)) sites in
    λ h.
    subst (λ z. IfOk c.list_alone.result (λ lists. map (λ l. l.items) lists.items ≡ z))
    (ap (λ z. z ∷ []) (sym alone) ∙ ap (λ k. map (λ p. part_of engine owner p sites) (range_with_len 0 k)) (sym one)) c.list_alone.ensures

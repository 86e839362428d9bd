use Rattle.std.specs.Prelude.{All, List, Ok, Result, Vec, [], map, ◌++◌, ◌∷◌, ◌≡◌}
use Rattle.std.proofs.Common.{Global, ap, append_assoc, subst, sym, ◌∙◌}
use Rattle.std.proofs.lemmas.List.Elements.{All-tail}
use Rattle.sim_clock.specs.declared.refusal.Refusal.{Refusal}
use Rattle.sim_partition.specs.Sites.{IsPart}
use Rattle.sim_windows.proofs.Places.{map_push}
use Rattle.sim_windows.proofs.parting.open_parts.Goals as goal

pub loop-sites-preserved : goal.loop-sites-preserved
loop-sites-preserved given c =
    let engine = given.S.Site.engine in
    let conditions = given.S.Site.conditions in
    let l = c.loop-sites in
    let v = l.invariant in
    let fits : Vec _ Global → Type 0 = λ x. IsPart engine conditions x.items in
    let opened : Vec _ Global → Result (List _) Refusal = λ x. Ok x.items in
    let sites = c.in-Some.sites in
    let more = c.next.new.self.rest.items in
    let steps : l.sites-iterator.rest.items ≡ sites ∷ more = c.in-Some.ensures.steps.0 in
    record {
      rest = append_assoc l.yielded (sites ∷ []) more ∙ ap (λ r. l.yielded ++ r) (sym steps) ∙ v.rest;
      fit = All-tail fits sites more (subst (All fits) steps v.fit);
      made = c.in_ok-push.ensures.items ∙ ap (λ z. z ++ c.in_ok-new.field-0 ∷ []) v.made ∙ ap (λ z. map opened l.yielded ++ z ∷ []) c.in_ok-new.ensures ∙ sym (map_push opened l.yielded sites);
    }

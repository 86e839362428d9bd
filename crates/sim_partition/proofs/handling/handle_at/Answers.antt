use Rattle.std.proofs.Common.{ap, set, subst, sym, ◌++◌, ◌≡◌, ◌∙◌}
use Rattle.std.proofs.lemmas.List.Elements.{All-append}
use Rattle.std.proofs.lemmas.Result.{err_from_is_err_and}
use Rattle.std.specs.Prelude.{All}
use Rattle.sim_engine.specs.World.{handled_among}
use Rattle.sim_partition.specs.Sites.{AreOfPast, IsPart, mark_of}
use Rattle.sim_partition.proofs.Handled.{due_at_place, handles_at, part_handled, sent_among}
use Rattle.sim_index.specs.Marked.{Marked}
use Rattle.sim_index.proofs.Kept.{marked_anew}
use Rattle.sim_partition.proofs.Runs.{stops_here}
use Rattle.sim_partition.proofs.handling.handle_at.Goals as goal

pub handle_into-requires-clause-due : goal.handle_into-requires-clause-due
handle_into-requires-clause-due g c = due_at_place g.met.S.Site.laws c.args.key c.args.sites.now.values c.args.place c.value_mut.result.now c.requires.there c.value_mut.ensures.value

pub returns-in_err-handle_into-clause-stops : goal.returns-in_err-handle_into-clause-stops
returns-in_err-handle_into-clause-stops g c =
    let d = c.value_mut.result.now in
    let key = c.args.key in
    let h = handles_at g.met.S.Site.laws key c.args.sites.now.values c.args.place d c.requires.there c.value_mut.ensures.value in
    let told = err_from_is_err_and c.from_residual.result c.from_residual.ensures.1 in
    rw (told.1, told.2) (stops_here g.met.S.Site.laws key c.args.sites.now.values d c.in_err-handle_into.field-0.0 h.among h.counted c.in_err-handle_into.ensures.stops)

pub returns-clause-handled : goal.returns-clause-handled
returns-clause-handled g c =
    let e = g.S.Site.engine in
    let key = c.args.key in
    let d = c.value_mut.result.now in
    let xs = c.args.sites.now.values in
    let h = handles_at g.met.S.Site.laws key xs c.args.place d c.requires.there c.value_mut.ensures.value in
    let sites : c.set_mark.new.self.values ≡ (handled_among e key xs).sites =
    ap (λ (s : Marked _). s.values) c.set_mark.ensures ∙ ap (set xs c.args.place) c.in_ok-handle_into.ensures.site ∙ h.after in
    λ k.
    record {
      sites = sites k;
      rows = (c.in_ok-handle_into.ensures.rows ∙ (λ j. c.args.effects.now.rows.items ++ (sym h.among j).rows)) k;
      sent = (c.in_ok-handle_into.ensures.sent ∙ (λ j. c.args.effects.now.sent.items ++ (sym h.among j).sent)) k;
    }

pub returns-clause-kept : goal.returns-clause-kept
returns-clause-kept g c =
    let sites : c.set_mark.new.self.values ≡ (handled_among g.S.Site.engine c.args.key c.args.sites.now.values).sites = λ k. (returns-clause-handled g c k).sites in
    record {
      part = subst (IsPart g.S.Site.engine g.S.Site.conditions) (sym sites) (part_handled g.met.S.Site.laws c.args.key c.args.sites.now.values c.requires.kept.part c.requires.due);
      marked =
          marked_anew (mark_of g.S.Site.engine) c.args.sites.now c.set_mark.new.self c.args.place c.handle_into.new.self c.index-values-place.result c.mark_of-mark.result c.values.result.now c.requires.kept.marked
          c.requires.there.within c.values.ensures.values c.index-values-place.is c.mark_of-mark.ensures c.set_mark.ensures;
    }

pub returns-clause-timely : goal.returns-clause-timely
returns-clause-timely g c timely =
    let e = g.S.Site.engine in
    let xs = c.args.sites.now.values in
    let past : All (g.S.Site.conditions.Past c.args.key.at) xs = subst (AreOfPast g.S.Site.conditions xs) c.requires.due c.requires.kept.part.past in
    subst (All g.S.Site.conditions.Timely) (sym (λ k. (returns-clause-handled g c k).sent)) (All-append g.S.Site.conditions.Timely c.args.effects.now.sent.items (handled_among e c.args.key xs).sent timely (sent_among g.met.S.Site.laws c.args.key xs past))

use Rattle.std.proofs.Common.{◌≡◌, ◌-◌, ◌++◌, ◌∙◌, true, false, List, ℕ, ap, map, zip}
use Rattle.std.specs.Prelude.{codes}
use Rattle.std.proofs.lemmas.Result.{on_ok_weaker}
use Rattle.sqs_formats.specs.Report.{ascending}
use Rattle.sqs_formats.specs.Rows.{lines}
use Rattle.sim_report.specs.declared.aged.Aged.{Aged}
use Rattle.sim_report.specs.Figured.{AgesApart, QueueState, age_bounds, bounds_named}
use Rattle.sim_report.specs.Figures.{Figure, ages_at, apart, bound_names, figure_fields}
use Rattle.sim_report.proofs.FiguresEnd.{bounds-lines}
use Rattle.sim_report.proofs.queue_figures.QueueFigures.write_bounds.Goals as goal

pub bounds-requires-2 : goal.bounds-requires-2
bounds-requires-2 c = rw c.as_slice-2.ensures.value c.in_ok-left-2.ensures.ascends

pub bounds-requires-3 : goal.bounds-requires-3
bounds-requires-3 c = rw c.as_slice-3.ensures.value c.in_ok-left-3.ensures.ascends

pub returns : goal.returns
returns c =
    let q : QueueState = c.args.self.now in
    let inside = c.self.inside in
    let w = c.args.wanted in
    let old = c.args.text.now in
    let said : List ℕ → List Figure → List ℕ = λ name figures. lines (map (figure_fields name) figures) in
    let of : c.as_bytes-of.result.now ≡ q.asked.name = c.as_bytes-of.ensures ∙ ap (λ (x : QueueState). x.asked.name) c.self.view_is in
    let left : List (ℕ × ℕ) → List ℕ = λ ms. ascending (ages_at (w.stretch.until - 1) ms) in
    let bounded : List ℕ → Aged → List ℕ → List Figure = λ name a ns. zip (bound_names name) (age_bounds w ns a) in
    let none_apart : c.as_slice.result.now ≡ left inside.there =
    c.as_slice.ensures.value ∙ c.in_ok-left.ensures.same ∙ ap (λ at. ascending (ages_at at inside.there)) c.last-at.ensures in
    let new_apart : c.as_slice-2.result.now ≡ left (apart false inside.moved inside.there) =
    c.as_slice-2.ensures.value ∙ c.in_ok-left-2.ensures.same ∙ ap (λ at. ascending (ages_at at (apart false inside.moved inside.there))) c.last-at.ensures in
    let moved_apart : c.as_slice-3.result.now ≡ left (apart true inside.moved inside.there) =
    c.as_slice-3.ensures.value ∙ c.in_ok-left-3.ensures.same ∙ ap (λ at. ascending (ages_at at (apart true inside.moved inside.there))) c.last-at.ensures in
    let all : c.in_ok-all.all ≡ bounds_named (codes "age") w q.there q.ages =
    c.in_ok-all.ensures ∙ ap (bounded (codes "age") c.all-ages.result.now) none_apart ∙ ap (λ (a : Aged). bounded (codes "age") a (left inside.there)) (c.all-ages.ensures ∙ ap (λ (a : AgesApart). a.all) c.requires)
    ∙ ap (λ (x : QueueState). bounds_named (codes "age") w x.there q.ages) c.self.view_is in
    let new : c.in_ok-new.new ≡ bounds_named (codes "new_age") w (apart false q.moved q.there) q.new_ages =
    c.in_ok-new.ensures ∙ ap (bounded (codes "new_age") c.others-ages.result.now) new_apart
    ∙ ap (λ (a : Aged). bounded (codes "new_age") a (left (apart false inside.moved inside.there))) (c.others-ages.ensures ∙ ap (λ (a : AgesApart). a.others) c.requires)
    ∙ ap (λ (x : QueueState). bounds_named (codes "new_age") w (apart false x.moved x.there) q.new_ages) c.self.view_is in
    let moved : c.in_ok-moved.moved ≡ bounds_named (codes "moved_age") w (apart true q.moved q.there) q.moved_ages =
    c.in_ok-moved.ensures ∙ ap (bounded (codes "moved_age") c.moved-ages.result.now) moved_apart
    ∙ ap (λ (a : Aged). bounded (codes "moved_age") a (left (apart true inside.moved inside.there))) (c.moved-ages.ensures ∙ ap (λ (a : AgesApart). a.moved) c.requires)
    ∙ ap (λ (x : QueueState). bounds_named (codes "moved_age") w (apart true x.moved x.there) q.moved_ages) c.self.view_is in
    let first : c.add_figures.new.text ≡ old ++ said q.asked.name (bounds_named (codes "age") w q.there q.ages) =
    c.in_ok-add_figures.ensures ∙ ap (λ (n : List ℕ). old ++ said n c.in_ok-all.all) of ∙ ap (λ (fs : List Figure). old ++ said q.asked.name fs) all in
    let second : c.add_figures-2.new.text
    ≡ (old ++ said q.asked.name (bounds_named (codes "age") w q.there q.ages)) ++ said q.asked.name (bounds_named (codes "new_age") w (apart false q.moved q.there) q.new_ages) =
    c.in_ok-add_figures-2.ensures ∙ ap (λ (n : List ℕ). c.add_figures.new.text ++ said n c.in_ok-new.new) of
    ∙ ap (λ (fs : List Figure). c.add_figures.new.text ++ said q.asked.name fs) new
    ∙ ap (λ (text : List ℕ). text ++ said q.asked.name (bounds_named (codes "new_age") w (apart false q.moved q.there) q.new_ages)) first in
    on_ok_weaker c.add_figures-3.result
    (λ taken. taken ∙ ap (λ (n : List ℕ). c.add_figures-2.new.text ++ said n c.in_ok-moved.moved) of
    ∙ ap (λ (fs : List Figure). c.add_figures-2.new.text ++ said q.asked.name fs) moved
    ∙ ap (λ (text : List ℕ). text ++ said q.asked.name (bounds_named (codes "moved_age") w (apart true q.moved q.there) q.moved_ages)) second
    ∙ bounds-lines (figure_fields q.asked.name) old w q)
    c.add_figures-3.ensures

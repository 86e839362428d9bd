use Rattle.std.proofs.Common.{◌≡◌, ◌++◌, ◌∙◌, List, ℕ, ap, map}
use Rattle.std.specs.Prelude.{codes}
use Rattle.std.proofs.lemmas.Result.{on_ok_weaker}
use Rattle.sqs_formats.specs.Rows.{lines}
use Rattle.sim_report.specs.Figured.{AgesApart, QueueState}
use Rattle.sim_report.specs.Figures.{ages_named}
use Rattle.sim_report.specs.Figures.{Figure, figure_fields}
use Rattle.sim_report.proofs.FiguresEnd.{ages-lines}
use Rattle.sim_report.proofs.queue_figures.QueueFigures.write_ages.Goals as goal

pub returns : goal.returns
returns c =
    let q : QueueState = c.args.self.now in
    let said : List ℕ → List Figure → List ℕ = λ name figures. lines (map (figure_fields name) figures) in
    let of : c.as_bytes-of.result.now ≡ q.asked.name = c.as_bytes-of.ensures ∙ ap (λ (x : QueueState). x.asked.name) c.self.view_is in
    let w = c.args.wanted in
    let all : c.figures-all.result ≡ ages_named (codes "age") w q.ages =
    c.figures-all.ensures ∙ ap (ages_named (codes "age") w) (c.all.ensures ∙ ap (λ (a : AgesApart). a.all) c.requires) in
    let new : c.figures-new.result ≡ ages_named (codes "new_age") w q.new_ages =
    c.figures-new.ensures ∙ ap (ages_named (codes "new_age") w) (c.others.ensures ∙ ap (λ (a : AgesApart). a.others) c.requires) in
    let moved : c.figures-moved.result ≡ ages_named (codes "moved_age") w q.moved_ages =
    c.figures-moved.ensures ∙ ap (ages_named (codes "moved_age") w) (c.moved.ensures ∙ ap (λ (a : AgesApart). a.moved) c.requires) in
    let first : c.add_figures.new.text ≡ c.args.text.now ++ said q.asked.name (ages_named (codes "age") w q.ages) =
    c.in_ok-add_figures.ensures ∙ ap (λ (n : List ℕ). c.args.text.now ++ said n c.figures-all.result) of
    ∙ ap (λ (fs : List Figure). c.args.text.now ++ said q.asked.name fs) all in
    let second : c.add_figures-2.new.text ≡ (c.args.text.now ++ said q.asked.name (ages_named (codes "age") w q.ages)) ++ said q.asked.name (ages_named (codes "new_age") w q.new_ages) =
    c.in_ok-add_figures-2.ensures ∙ ap (λ (n : List ℕ). c.add_figures.new.text ++ said n c.figures-new.result) of
    ∙ ap (λ (fs : List Figure). c.add_figures.new.text ++ said q.asked.name fs) new
    ∙ ap (λ (text : List ℕ). text ++ said q.asked.name (ages_named (codes "new_age") w q.new_ages)) first in
    on_ok_weaker c.add_figures-3.result
    (λ taken. taken ∙ ap (λ (n : List ℕ). c.add_figures-2.new.text ++ said n c.figures-moved.result) of
    ∙ ap (λ (fs : List Figure). c.add_figures-2.new.text ++ said q.asked.name fs) moved
    ∙ ap (λ (text : List ℕ). text ++ said q.asked.name (ages_named (codes "moved_age") w q.moved_ages)) second
    ∙ ages-lines (figure_fields q.asked.name) c.args.text.now w q)
    c.add_figures-3.ensures

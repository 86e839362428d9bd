use Rattle.std.proofs.Common.{◌≡◌, ◌∙◌, ◌++◌, ap, List, ℕ}
use Rattle.std.specs.Prelude.{flat_map}
use Rattle.std.proofs.lemmas.List.{append_assoc}
use Rattle.sqs_formats.specs.Rows.{line, lines}
use Rattle.sim_report.specs.declared.asked.Wanted.{Wanted}
use Rattle.sim_report.specs.Figured.{ActorState, FiguresState, QueueState, actor_records, door_records, figured, queue_records}
use Rattle.sim_report.specs.Written.{figures_header, figures_text}
use Rattle.sim_report.proofs.FiguresEnd.{text-is}
use Rattle.sim_report.proofs.Figuring.{wanted-is}
use Rattle.sim_report.proofs.figures.Figures.text.Goals as goal

pub returns : goal.returns
returns c = λ asked rows is.
    let state = figured asked rows in
    let same = c.self.view_is ∙ is in
    let wanted : c.self.inside.wanted ≡ asked.wanted = ap (λ (t : FiguresState). t.wanted) same ∙ wanted-is asked rows in
    let of_queues = c.as_slice.ensures.value ∙ ap (λ (t : FiguresState). t.of_queues) same in
    let of_actors = c.as_slice-2.ensures.value ∙ ap (λ (t : FiguresState). t.of_actors) same in
    let queue_lines = λ (w : Wanted) (qs : List QueueState). lines (flat_map (queue_records w) qs) in
    let actor_lines = λ (w : Wanted) (rest : List ActorState). lines (flat_map (actor_records w.stretch) rest) in
    let first = c.in_ok-add.ensures ∙ ap (λ (t : List ℕ). t ++ line figures_header) c.new-text.ensures in
    let second = c.in_ok-add_queues.ensures ∙ ap (λ (t : List ℕ). t ++ queue_lines c.self.inside.wanted c.as_slice.result.now) first in
    let queue_text = queue_lines c.self.inside.wanted c.as_slice.result.now in
    let actor_text = actor_lines c.self.inside.wanted c.as_slice-2.result.now in
    let third : c.add_actors.new.text ≡ (line figures_header ++ queue_text) ++ actor_text =
    c.in_ok-add_actors.ensures ∙ ap (λ (t : List ℕ). t ++ actor_text) second in
    let last = λ (t : FiguresState). lines (door_records t) in
    let whole : c.add_doors.new.text ≡ figures_text asked rows =
    c.in_ok-add_doors.ensures ∙ ap (λ (t : List ℕ). t ++ last c.args.self.now) third
    ∙ append_assoc (line figures_header ++ queue_text) actor_text (last c.args.self.now)
    ∙ append_assoc (line figures_header) queue_text (actor_text ++ last c.args.self.now)
    ∙ ap (λ (t : FiguresState). line figures_header ++ (queue_text ++ (actor_text ++ last t))) is
    ∙ ap (λ (w : Wanted). line figures_header ++ (queue_lines w c.as_slice.result.now ++ (actor_lines w c.as_slice-2.result.now ++ last state))) wanted
    ∙ ap (λ (qs : List QueueState). line figures_header ++ (queue_lines asked.wanted qs ++ (actor_lines asked.wanted c.as_slice-2.result.now ++ last state))) of_queues
    ∙ ap (λ (rest : List ActorState). line figures_header ++ (queue_lines asked.wanted state.of_queues ++ (actor_lines asked.wanted rest ++ last state))) of_actors
    ∙ text-is asked rows in
    rw whole at c.into_bytes.ensures

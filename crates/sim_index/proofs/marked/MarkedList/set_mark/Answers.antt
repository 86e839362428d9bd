use Rattle.std.proofs.Common.{ap, arith, length, set, take, vec_capacity, vec_len, ◌≡◌, ◌<◌, ◌∙◌}
use Rattle.std.proofs.Math.Seq.{take-set-lt}
use Rattle.std.proofs.lemmas.List.{length-set}
use Rattle.sim_index.specs.Marked.{Marked, is_ready}
use Rattle.sim_index.proofs.marked.MarkedList.set_mark.Goals as goal

pub returns : goal.returns
returns g c =
    let values = c.self.inside.values in
    let n = length values.items in
    let within : c.args.place < n = omega (arith, ap (λ (m : Marked _). length m.values) c.self.view_is) in
    let marks : take n c.put.new.self ≡ set (take n c.self.inside.tree) c.args.place c.args.mark.now = ap (take n) c.put.ensures ∙ take-set-lt n c.self.inside.tree c.args.place c.args.mark.now within in
    let long : length c.put.new.self ≡ length c.self.inside.tree = ap length c.put.ensures ∙ length-set c.self.inside.tree c.args.place c.args.mark.now in
    (λ j. record { values = values.items; marks = marks j; ready = is_ready (vec_len values) (vec_capacity values) (long j) })
    ∙ ap (λ (m : Marked _). record m { marks = set m.marks c.args.place c.args.mark.now }) c.self.view_is

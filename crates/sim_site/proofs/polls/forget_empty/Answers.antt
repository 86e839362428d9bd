use Rattle.std.proofs.Common.{ap, length, map, sym, ◌∙◌}
use Rattle.sim_site.specs.Marked.{end_mark, waiting}
use Rattle.sim_site.proofs.Ending.{none_marked_there, none_waiting}
use Rattle.sim_site.proofs.polls.forget_empty.Goals as goal

pub clear-requires : goal.clear-requires
clear-requires c = none_marked_there c.args.places.now c.args.count c.requires c.if-count-eq0.true

pub returns-then-count-eq0 : goal.returns-then-count-eq0
returns-then-count-eq0 c =
    record {
      are =
          record { marked = c.clear.ensures.marks ∙ ap (map end_mark) (sym c.clear.ensures.values); counted = c.if-count-eq0.true ∙ sym (ap (λ xs. length (waiting xs)) c.clear.ensures.values) };
      same = ap waiting c.clear.ensures.values ∙ sym (none_waiting c.args.places.now.values (sym c.if-count-eq0.true ∙ c.requires.counted));
    }

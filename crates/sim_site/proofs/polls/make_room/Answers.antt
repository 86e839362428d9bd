use Rattle.std.proofs.Common.{ap, rules, ◌∙◌}
use Rattle.std.specs.Option.{is_some}
use Rattle.sim_index.proofs.Picked.{picked_marked, picked_values}
use Rattle.sim_site.specs.Marked.{end_mark, waiting}
use Rattle.sim_site.proofs.Ending.{waiting_kept}
use Rattle.sim_site.proofs.polls.make_room.Goals as goal

pub returns : goal.returns
returns c =
    record {
      marked =
          picked_marked end_mark _ c.args.places.now c.retain.new.self c.in_ok-retain.ensures.picked c.requires;
      polls = ap waiting (picked_values _ is_some (λ x b k. search rules) c.args.places.now c.retain.new.self c.in_ok-retain.ensures.picked) ∙ waiting_kept c.args.places.now.values;
    }

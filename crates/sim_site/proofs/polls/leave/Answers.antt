use Rattle.std.proofs.Common.{None, ap, refl}
use Rattle.sim_index.specs.Marked.{Marked}
use Rattle.sim_index.specs.Marks.{no_mark}
use Rattle.sim_index.proofs.Kept.{marked_with}
use Rattle.sim_site.specs.Marked.{end_mark}
use Rattle.sim_site.proofs.polls.leave.Goals as goal

pub returns : goal.returns
returns c =
    record {
      left =
          ap (λ (s : Marked _). s.values) c.set_mark.ensures;
      marked = marked_with end_mark c.args.places.now c.set_mark.new.self c.args.place None no_mark c.requires.marked refl c.set_mark.ensures;
    }

use Rattle.std.proofs.Common.{ap, rules, ◌∙◌}
use Rattle.std.specs.Ordering.{on}
use Rattle.sim_clock.specs.Order.{inserted_by, key_cmp}
use Rattle.sqs_redrive.specs.Transfers.{transfer_key}
use Rattle.sim_site.proofs.Numbered.{one_inserted, values_inserted}
use Rattle.sim_site.proofs.later.Later.insert.Goals as goal

pub invariant_of-self-2 : goal.invariant_of-self-2
invariant_of-self-2 c =
    one_inserted c.self.inside.first c.self.inside.next c.args.transfer c.self.inside.map.entries c.insert.new.self.entries c.key.result _ c.self.invariant c.key.ensures c.in_ok-insert.ensures.entries
    (search rules) c.in_ok-insert.ensures.ordered

pub returns : goal.returns
returns c =
    record {
      added =
          values_inserted c.self.inside.first c.self.inside.next c.args.transfer c.self.inside.map.entries c.insert.new.self.entries c.key.result c.self.invariant c.key.ensures c.in_ok-insert.ensures.entries
          ∙ ap (inserted_by (on transfer_key key_cmp) c.args.transfer) c.self.view_is;
      same = search rules;
    }

use Rattle.sim_records.proofs.Ended.{behind_within}
use Rattle.sim_records.proofs.record.add_by_fields.Goals as goal

pub end-requires : goal.end-requires
end-requires g c = behind_within _ c.args.text.now _ _ _ c.len-behind.ensures c.in_ok-begin.ensures c.in_ok-add_to.ensures

use Rattle.sim_report.proofs.Comparing.{comparison-in-turn}
use Rattle.sim_report.proofs.comparison.comparison_lines.Goals as goal

pub returns : goal.returns
returns c =
    let whole = comparison-in-turn c.args.first.now c.args.second.now _ _ _ c.new-text.ensures c.in_ok-add_first.ensures c.in_ok-add_second.ensures in
    rw whole at c.into_bytes.ensures

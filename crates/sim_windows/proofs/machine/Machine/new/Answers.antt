use Rattle.std.specs.Prelude.{List, Ok, [], filter, ℕ, ◌≡◌}
use Rattle.std.proofs.Common.{ap, refl, rules, sym, ◌∙◌}
use Rattle.sim_engine.specs.Bounds.{least_bound}
use Rattle.sim_engine.specs.Engine.{Engine}
use Rattle.sim_engine.specs.Laws.{Conditions, SiteLaws}
use Rattle.sim_engine.specs.Prefixes.{is_before}
use Rattle.sim_engine.specs.Setting.{Setting}
use Rattle.sim_exchange.specs.Layout.{Layout}
use Rattle.sim_windows.specs.Machines.{IsMachineOf}
use Rattle.sim_windows.specs.Stages.{Standing, Stands, end_in, machine_at}
use Rattle.sim_windows.proofs.Beginning.{none_before_zero}
use Rattle.sim_windows.proofs.Reading.{end_is}
use Rattle.sim_windows.proofs.machine.Machine.new.Goals as goal

module _ {Site Row Transfer : Type 0} {engine : Engine Site Row Transfer} {conditions : Conditions Site Transfer} (basics : SiteLaws engine conditions) where
  -- a machine at which nothing was done
  begins :
      (layout : Layout) (s : Setting Site) (g : Standing Site Row Transfer) (rows : List Row) (end : ℕ) → Stands engine conditions s [] g → g.layout ≡ layout → g.settled ≡ 0 → rows ≡ [] → end ≡ end_in g
      → IsMachineOf engine conditions layout s [] (record { state = Ok g; rows = rows; end = end })
  begins layout s g rows end st split fresh none ends = record {
    standing = g;
    lives = refl;
    split = split;
    stands = st;
    ended = fresh;
    settled = λ r w. none ∙ sym (none_before_zero basics r.rows) ∙ ap (λ k. filter (is_before engine k) r.rows) (sym fresh);
    end = ends ∙ end_is basics s [] g st ∙ ap (λ (l : Layout). least_bound s.horizon (machine_at engine g s []).bounds l.parts) split;
  }

pub invariant_of-result : goal.invariant_of-result
invariant_of-result g c =
    let e = c.in_ok-stage.ensures in
    record {
      layout = c.args.layout;
      setting = c.args.world;
      picks = [];
      is = begins g.met.S.Site.laws c.args.layout c.args.world c.in_ok-stage.stage c.new.result.items c.window_end-end.result e.stands e.layout e.settled (search rules) c.window_end-end.ensures;
    }

pub returns : goal.returns
returns g c =
    let e = c.in_ok-stage.ensures in
    begins g.met.S.Site.laws c.args.layout c.args.world c.in_ok-stage.stage c.new.result.items c.window_end-end.result e.stands e.layout e.settled (search rules) c.window_end-end.ensures

use Rattle.std.specs.Prelude.{Err, List, Ok, Result, [], ℕ, ◌++◌, ◌≡◌}
use Rattle.std.proofs.Common.{ap, refl, subst, sym, ◌∙◌}
use Rattle.sim_clock.specs.declared.refusal.Refusal.{Refusal}
use Rattle.sim_engine.specs.Bounds.{least_bound, own_bound}
use Rattle.sim_engine.specs.Engine.{Engine}
use Rattle.sim_engine.specs.Laws.{Conditions, SiteLaws}
use Rattle.sim_engine.specs.Setting.{Setting}
use Rattle.sim_engine.specs.declared.picks.Pick.{Pick}
use Rattle.sim_exchange.specs.Layout.{Layout, owner_of}
use Rattle.sim_exchange.specs.Table.{Table, distance_in}
use Rattle.sim_windows.specs.Machines.{IsMachine, IsMachineOf, IsMachineUnless, Seen}
use Rattle.sim_windows.specs.Stages.{IsSame, Played, Plays, Standing, Stands, Tells, effective_picks_in, end_in, ended_after, ended_in, machine_at, machine_in}
use Rattle.sim_windows.proofs.Playing.{ended_append}
use Rattle.sim_windows.proofs.Reading.{end_is, same_state}
use Rattle.sim_windows.proofs.machine.Machine.play.Goals as goal

-- no refusal is a standing
never : {A : Type 0} {e : Refusal} {a : A} → (let x : Result A Refusal = Err e in x) ≡ Ok a → ⊥
never h = cc

module _ {Site Row Transfer : Type 0} {engine : Engine Site Row Transfer} {conditions : Conditions Site Transfer} (basics : SiteLaws engine conditions) where
  -- what ended by some picks and by some more
  ended_so :
      (s : Setting Site) (done more : List Pick) (g h : Standing Site Row Transfer) → IsSame g h → g.settled ≡ ended_in engine g s [] done 0 → h.settled ≡ ended_in engine g s done more g.settled
      → h.settled ≡ ended_in engine h s [] (done ++ more) 0
  ended_so s done more g h same before after =
      let rule : Layout → Table → List Site → ℕ → ℕ = λ l d. own_bound engine (owner_of l) (distance_in d) l.parts s.horizon in
      let there : Layout → Table → ℕ = λ l d. ended_after engine l s.horizon (rule l d) (done ++ more) (machine_in engine l d s []) 0 in
      after ∙ ap (ended_in engine g s done more) before ∙ sym (ended_append basics g.layout s.horizon (rule g.layout g.distances) done more (machine_in engine g.layout g.distances s []) 0)
      ∙ ap (λ l. there l g.distances) (sym same.layout) ∙ ap (there h.layout) (sym same.distances)

  -- a machine after some picks more
  after :
      (layout : Layout) (s : Setting Site) (done more : List Pick) (x : Seen Site Row Transfer) (was : IsMachineOf engine conditions layout s done x) (g h : Standing Site Row Transfer) (count end : ℕ) (rows : List Row)
      → x.state ≡ Ok g → Plays engine conditions g h more count → Tells engine conditions g x.rows h rows → end ≡ end_in h
      → IsMachineOf engine conditions layout s (done ++ more) (record { state = Ok h; rows = rows; end = end }) × (count ≡ effective_picks_in engine was.standing s done more)
  after layout s done more x was g h count end rows state plays tells ends =
      let same : g ≡ was.standing = same_state g was.standing (sym state ∙ was.lives) in
      let p : Played engine conditions was.standing h s done more count = subst (λ (y : Standing Site Row Transfer). Plays engine conditions y h more count) same plays s done was.stands in
      let split : h.layout ≡ layout = p.same.layout ∙ was.split in (
        record {
          standing = h;
          lives = refl;
          split = split;
          stands = p.stands;
          ended = ended_so s done more was.standing h p.same was.ended p.settled;
          settled = subst (λ (y : Standing Site Row Transfer). Tells engine conditions y x.rows h rows) same tells s (record { picks = done; stands = was.stands }) was.settled;
          end = ends ∙ end_is basics s (done ++ more) h p.stands ∙ ap (λ (l : Layout). least_bound s.horizon (machine_at engine h s (done ++ more)).bounds l.parts) split;
        },
        p.effects,
      )

pub invariant_of-self-in-Ok : goal.invariant_of-self-in-Ok
invariant_of-self-in-Ok g c =
    let e = g.S.Site.engine in
    let cs = g.S.Site.conditions in
    let inside = c.self.inside in
    let x : Seen _ _ _ = record { state = inside.state; rows = inside.rows.items; end = inside.end } in
    let state : inside.state ≡ Ok c.in_ok-state.field-0 = sym c.in_ok-state.ensures.value in
    let is : IsMachine e cs x = subst (λ (o : Result (Standing _ _ _) Refusal). IsMachineUnless e cs o x) state c.self.invariant in
    record {
      layout = is.layout;
      setting = is.setting;
      picks = is.picks ++ c.args.picks.now;
      is = (after g.met.S.Site.laws is.layout is.setting is.picks c.args.picks.now x is.is c.in_ok-state.field-0 c.in-Ok.stage c.in-Ok.count c.window_end-self-inside.result c.play.new.told.items state c.in-Ok.ensures.played c.in-Ok.ensures.tells c.window_end-self-inside.ensures).0;
    }

pub returns-in-Ok-clause-played : goal.returns-in-Ok-clause-played
returns-in-Ok-clause-played g c = λ layout s done was.
    let e = g.S.Site.engine in
    let cs = g.S.Site.conditions in
    let x : Seen _ _ _ = c.args.self.now in
    let state : x.state ≡ Ok c.in_ok-state.field-0 = sym (ap (λ (y : Seen _ _ _). y.state) c.self.view_is) ∙ sym c.in_ok-state.ensures.value in
    let tells : Tells e cs c.in_ok-state.field-0 x.rows c.in-Ok.stage c.play.new.told.items =
    subst (λ rows. Tells e cs c.in_ok-state.field-0 rows c.in-Ok.stage c.play.new.told.items) (ap (λ (y : Seen _ _ _). y.rows) c.self.view_is) c.in-Ok.ensures.tells in
    after g.met.S.Site.laws layout s done c.args.picks.now x was c.in_ok-state.field-0 c.in-Ok.stage c.in-Ok.count c.window_end-self-inside.result c.play.new.told.items state c.in-Ok.ensures.played tells c.window_end-self-inside.ensures

pub returns-in-Err-play-clause-stops : goal.returns-in-Err-play-clause-stops
returns-in-Err-play-clause-stops g c = λ layout s done was.
    let stage : Standing _ _ _ = c.in_ok-state.field-0 in
    let same : stage ≡ was.standing = same_state stage was.standing (sym (sym (ap (λ (y : Seen _ _ _). y.state) c.self.view_is) ∙ sym c.in_ok-state.ensures.value) ∙ was.lives) in
    c.in-Err-play.ensures.stops s (record { picks = done; stands = subst (Stands g.S.Site.engine g.S.Site.conditions s done) (sym same) was.stands })

pub returns-in-Err-clause-stops : goal.returns-in-Err-clause-stops
returns-in-Err-clause-stops g c = λ layout s done was. absurd (never (sym c.in-Err.is ∙ ap (λ (y : Seen _ _ _). y.state) c.self.view_is ∙ was.lives))

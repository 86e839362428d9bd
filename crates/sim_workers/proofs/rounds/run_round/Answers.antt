use Rattle.std.specs.Prelude.{[], length, ◌≡◌, ◌≤◌}
use Rattle.std.proofs.Common.{arith, subst, sym, ◌∙◌}
use Rattle.std.proofs.lemmas.Result.{err_from_is_err_and}
use Rattle.sim_windows.specs.Rounds.{AreWithin, HaveCome}
use Rattle.sim_windows.specs.Stages.{AreNext, GoesOn, with_parts}
use Rattle.sim_windows.proofs.Advancing.{next_within, round_less}
use Rattle.sim_windows.proofs.Back.{many_back}
use Rattle.sim_windows.proofs.Ranges.{ends_within}
use Rattle.sim_windows.proofs.Standing.{many_bounds, many_parts}
use Rattle.sim_windows.proofs.Stepped.{on}
use Rattle.sim_workers.specs.Rounds.{IsRefusedRound}
use Rattle.sim_workers.proofs.Prefixes.{memory_stops}
use Rattle.sim_workers.proofs.Handing.{Passed, stops_before, stops_handed, stops_handing, went_on}
use Rattle.sim_workers.proofs.Refused.{round_over}
use Rattle.sim_workers.proofs.rounds.run_round.Given.{Over}
use Rattle.sim_workers.proofs.rounds.run_round.Goals as goal

pub returns-in_err-loan-clause-stops : goal.returns-in_err-loan-clause-stops
returns-in_err-loan-clause-stops g c =
    let told = err_from_is_err_and c.from_residual.result c.from_residual.ensures.1 in
    rw told.1 (stops_before g.met.S.Site.laws g.K.RowSink.took g.K.RowSink.broke c.args.sink.now told.0 c.args.sink.now c.args.stage
    (g.met.K.RowSink.unchanged c.args.sink.now) (λ s on. memory_stops g.met.S.Site.laws s told.0 told.2))

pub returns-in_err-lent-clause-stops : goal.returns-in_err-lent-clause-stops
returns-in_err-lent-clause-stops g c =
    let e = g.S.Site.engine in
    let k = g.S.Site.conditions in
    let lent = c.in_ok-loan.ensures in
    let loan = c.in_ok-loan.loan in
    let stage = c.args.stage in
    let ends = loan.ends.items in
    let refusal = c.in_err-lent.field-0.0 in
    let told = err_from_is_err_and c.from_residual-in_err-lent.result c.from_residual-in_err-lent.ensures.1 in
    rw (told.1, told.2) (stops_handing g.met.S.Site.laws g.K.RowSink.took g.K.RowSink.broke c.args.sink.now refusal c.round_together.new.sink stage
    (IsRefusedRound e k ends loan.parts.items) c.settling_moment-moment.result loan.lent lent.lent_is c.settling_moment-moment.ensures.lower_bound
    (λ s on refused. round_over g.met.S.Site.laws s on.picks stage on.stands ends refusal (ends_within c.args.cut ends stage.bounds lent.ends_are) (subst (λ ps. IsRefusedRound e k ends ps refusal) lent.parts_are refused))
    c.in_err-lent.ensures.stops)

pub come_back-requires : goal.come_back-requires
come_back-requires g c =
    let e = g.S.Site.engine in
    let k = g.S.Site.conditions in
    let lent = c.in_ok-loan.ensures in
    let stage = c.args.stage in
    let ends = c.in_ok-loan.loan.ends.items in
    let handed = c.in_ok-lent.ensures.handed in
    let kept = c.in_ok-lent.field-0.lent in
    let went : Passed g.met.S.Site.laws stage (with_parts stage.parts kept) handed.rows =
    went_on g.met.S.Site.laws stage c.settling_moment-moment.result c.in_ok-loan.loan.lent kept handed.rows lent.lent_is c.settling_moment-moment.ensures.lower_bound handed.are in
    record {
      came = record {
        parts = stage.parts;
        ends = ends;
        stands = on g.met.S.Site.laws stage (with_parts stage.parts kept) [] went.follows lent.stands;
        within = subst (AreWithin ends) (sym went.bounds) (ends_within c.args.cut ends stage.bounds lent.ends_are);
        have = subst (λ ps. HaveCome e k ends ps c.in_ok-lent.field-0.came.items) lent.parts_are c.in_ok-lent.ensures.came;
      };
    }

pub returns-in_err-come_back-clause-stops : goal.returns-in_err-come_back-clause-stops
returns-in_err-come_back-clause-stops g c =
    let told = err_from_is_err_and c.from_residual-in_err-come_back.result c.from_residual-in_err-come_back.ensures.1 in
    rw told.1 (stops_handed g.met.S.Site.laws g.K.RowSink.took g.K.RowSink.broke c.args.sink.now told.0 c.round_together.new.sink c.args.stage
    c.settling_moment-moment.result c.in_ok-loan.loan.lent c.in_ok-lent.field-0.lent c.in_ok-lent.field-0.handed c.in_ok-loan.ensures.lent_is c.settling_moment-moment.ensures.lower_bound
    (λ s on. memory_stops g.met.S.Site.laws s told.0 told.2) c.in_ok-lent.ensures.handed)

-- the stage once its rows are handed on
passed : (g : Over) (c : goal.In_ok-come_back g) → Passed g.met.S.Site.laws c.args.stage (with_parts c.args.stage.parts c.in_ok-lent.field-0.lent) c.in_ok-lent.ensures.handed.rows
passed g c =
    went_on g.met.S.Site.laws c.args.stage c.settling_moment-moment.result c.in_ok-loan.loan.lent c.in_ok-lent.field-0.lent c.in_ok-lent.ensures.handed.rows
    c.in_ok-loan.ensures.lent_is c.settling_moment-moment.ensures.lower_bound c.in_ok-lent.ensures.handed.are

-- its partitions came back
have : (g : Over) (c : goal.In_ok-come_back g) → HaveCome g.S.Site.engine g.S.Site.conditions c.in_ok-loan.loan.ends.items c.args.stage.parts c.in_ok-lent.field-0.came.items
have g c = subst (λ ps. HaveCome g.S.Site.engine g.S.Site.conditions c.in_ok-loan.loan.ends.items ps c.in_ok-lent.field-0.came.items) c.in_ok-loan.ensures.parts_are c.in_ok-lent.ensures.came

-- and it goes on with them
back : (g : Over) (c : goal.In_ok-come_back g) → GoesOn g.S.Site.engine g.S.Site.conditions (with_parts c.args.stage.parts c.in_ok-lent.field-0.lent) c.in_ok-come_back.field-0
back g c =
    let ends = c.in_ok-loan.loan.ends.items in
    c.in_ok-come_back.ensures.back c.args.stage.parts ends (subst (AreWithin ends) (sym (passed g c).bounds) (ends_within c.args.cut ends c.args.stage.bounds c.in_ok-loan.ensures.ends_are)) (have g c)

pub returns-clause-on : goal.returns-clause-on
returns-clause-on g c = record {
  on = λ s on. (back g c).on s (record { picks = _; stands = (passed g c).follows.stands s on.picks on.stands });
  count = (back g c).count ∙ (passed g c).follows.count;
}

pub returns-clause-told : goal.returns-clause-told
returns-clause-told g c = λ s on.
    let handed = c.in_ok-lent.ensures.handed in
    (handed.rows, (subst (λ to. AreNext g.S.Site.engine s c.args.stage.settled to handed.rows) (sym (back g c).settled) ((passed g c).next s on), handed.taken))

pub returns-clause-less : goal.returns-clause-less
returns-clause-less g c = λ next is before.
    let laws = g.met.S.Site.laws in
    let lent = c.in_ok-loan.ensures in
    let stage = c.args.stage in
    let ends = c.in_ok-loan.loan.ends.items in
    let came = c.in_ok-lent.field-0.came.items in
    let st = lent.stands in
    let many : length came ≡ length stage.bounds =
    many_back laws ends stage.parts came (have g c) ∙ many_parts laws st.setting st.picks stage st.stands ∙ sym (many_bounds laws st.setting st.picks stage st.stands) in
    let within : next.at ≤ stage.horizon = next_within laws st.setting st.picks stage st.stands next is in
    round_less laws stage c.in_ok-come_back.field-0 c.args.cut ends stage.parts came ((back g c).horizon ∙ (passed g c).horizon) ((back g c).bounds ∙ (passed g c).bounds) c.in_ok-come_back.ensures.parts many lent.ends_are (have g c)
    next is (before (omega (arith, within, st.stands.range))) within

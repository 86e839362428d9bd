use Rattle.std.proofs.Common.{Some, ap, refl, subst, sym, ◌≡◌, ◌≤◌, ◌∙◌}
use Rattle.std.specs.Prelude.{All, IfOk, IsOk, [], ℕ}
use Rattle.std.proofs.lemmas.List.{append-nil}
use Rattle.std.proofs.lemmas.Result.{IfErr-weaker, err_from_is_err_and, on_ok_weaker}
use Rattle.sim_clock.specs.declared.key.Key.{Key}
use Rattle.sim_clock.specs.declared.refusal.Refusal.{Refusal}
use Rattle.sim_clock.specs.declared.refusal.Refusal.TheVariants.{Memory}
use Rattle.sim_engine.specs.World.{arrival, delivered, handled_among, world_due}
use Rattle.sim_partition.specs.Steps.{StopsStep}
use Rattle.sim_windows.specs.Gathered.{Breaks, Gathers, HaltsGathering, HandsFirst, gathered}
use Rattle.sim_windows.specs.Worlds.{sites_in}
use Rattle.sim_windows.proofs.Gathering.{gathers_none}
use Rattle.sim_windows.proofs.Handed.{delivered_after, made}
use Rattle.sim_windows.proofs.Whole.{at_sites, has_due, sent_later}
use Rattle.sim_windows.proofs.Sinking.{halts_handed, halts_unhanded, one_run}
use Rattle.sim_windows.proofs.alone.handle.Goals as goal

pub step_into-requires : goal.step_into-requires
step_into-requires g c = record { due = has_due g.met.S.Site.laws c.args.roster.now c.args.key c.requires.due c.requires.moment }

pub deliver_sent-requires-clause-past : goal.deliver_sent-requires-clause-past
deliver_sent-requires-clause-past g c =
    let e = g.S.Site.engine in
    let past = g.S.Site.conditions.Past in
    let key = c.args.key in
    let v = c.args.roster.now in
    let t = handled_among e key (sites_in v) in
    let x = c.step_into.new.effects in
    let m = made g.met.S.Site.laws key v c.step_into.new.self c.args.effects.now.rows.items x.rows.items c.args.effects.now.sent.items x.sent.items c.requires.none c.requires.due c.in_ok-step_into.ensures.handled in
    subst (λ y. IfOk y (λ w. All (λ o. All (past (arrival e o)) w) x.sent.items)) (sym m.left)
    (subst (All (λ o. All (past (arrival e o)) t.sites)) (sym m.sent_is) (sent_later g.met.S.Site.laws key (sites_in v) c.requires.sound c.requires.due c.requires.past))

pub returns-in_err-step_into-clause-stops : goal.returns-in_err-step_into-clause-stops
returns-in_err-step_into-clause-stops g c =
    let e = g.S.Site.engine in
    let took = g.K.RowSink.took in
    let key = c.args.key in
    let v = c.args.roster.now in
    let a = gathered c.args.sink.now c.args.effects.now.rows.items in
    let refusal : Refusal = c.in_err-step_into.field-0.0 in
    let stops = at_sites g.met.S.Site.laws (λ w. (k : Key) → world_due e w ≡ Some k → StopsStep e (handled_among e k w) refusal) v key c.requires.due c.in_err-step_into.ensures.stops key c.requires.due in
    let told = err_from_is_err_and c.from_residual.result c.from_residual.ensures.1 in
    rw (told.1, told.2)
    (λ horizon l. (a.waiting, halts_unhanded g.met.S.Site.laws (Gathers took) horizon (Breaks g.K.RowSink.broke) key (sites_in v) a refusal c.requires.due l (gathers_none took g.met.K.RowSink.unchanged a) stops))

pub returns-in_err-deliver_sent-clause-stops : goal.returns-in_err-deliver_sent-clause-stops
returns-in_err-deliver_sent-clause-stops g c =
    let e = g.S.Site.engine in
    let took = g.K.RowSink.took in
    let key = c.args.key in
    let v = c.args.roster.now in
    let a = gathered c.args.sink.now c.args.effects.now.rows.items in
    let x = c.step_into.new.effects in
    let refusal : Refusal = c.in_err-deliver_sent.field-0.0 in
    let m = made g.met.S.Site.laws key v c.step_into.new.self c.args.effects.now.rows.items x.rows.items c.args.effects.now.sent.items x.sent.items c.requires.none c.requires.due c.in_ok-step_into.ensures.handled in
    let memory : refusal ≡ Memory = subst (λ y. IfOk y (λ w. refusal ≡ Memory)) m.left c.in_err-deliver_sent.ensures.memory in
    let stops : StopsStep e (handled_among e key (sites_in v)) refusal = subst (StopsStep e (handled_among e key (sites_in v))) (sym memory) tt in
    let told = err_from_is_err_and c.from_residual-in_err-deliver_sent.result c.from_residual-in_err-deliver_sent.ensures.1 in
    rw (told.1, told.2)
    (λ horizon l. (a.waiting, halts_unhanded g.met.S.Site.laws (Gathers took) horizon (Breaks g.K.RowSink.broke) key (sites_in v) a refusal c.requires.due l (gathers_none took g.met.K.RowSink.unchanged a) stops))

pub returns-clause-lives : goal.returns-clause-lives
returns-clause-lives g c =
    let e = g.S.Site.engine in
    let key = c.args.key in
    let v = c.args.roster.now in
    let x = c.step_into.new.effects in
    let m = made g.met.S.Site.laws key v c.step_into.new.self c.args.effects.now.rows.items x.rows.items c.args.effects.now.sent.items x.sent.items c.requires.none c.requires.due c.in_ok-step_into.ensures.handled in
    let left = delivered_after g.met.S.Site.laws (handled_among e key (sites_in v)) c.step_into.new.self c.deliver_sent.new.roster x.sent.items m.left m.sent_is c.in_ok-deliver_sent.ensures.delivered in
    on_ok_weaker c.hand_many.result (λ _. subst (λ p. IsOk p) (sym left) refl) c.hand_many.ensures.ready

pub returns-clause-ran : goal.returns-clause-ran
returns-clause-ran g c =
    let e = g.S.Site.engine in
    let took = g.K.RowSink.took in
    let key = c.args.key in
    let v = c.args.roster.now in
    let t = handled_among e key (sites_in v) in
    let x = c.step_into.new.effects in
    let m = made g.met.S.Site.laws key v c.step_into.new.self c.args.effects.now.rows.items x.rows.items c.args.effects.now.sent.items x.sent.items c.requires.none c.requires.due c.in_ok-step_into.ensures.handled in
    let left : sites_in c.deliver_sent.new.roster ≡ delivered e t.sent t.sites = ap sites_in (delivered_after g.met.S.Site.laws t c.step_into.new.self c.deliver_sent.new.roster x.sent.items m.left m.sent_is c.in_ok-deliver_sent.ensures.delivered) in
    on_ok_weaker c.hand_many.result
    (λ taken horizon l.
    one_run g.met.S.Site.laws (Gathers took) horizon key (sites_in v) (sites_in c.deliver_sent.new.roster) (gathered c.args.sink.now c.args.effects.now.rows.items) (gathered c.hand_many.new.sink c.hand_many.new.rows.items) c.requires.due l left
    (subst (λ xs. HandsFirst took c.args.sink.now xs c.hand_many.new.sink c.hand_many.new.rows.items) m.wrote taken))
    c.hand_many.ensures.took

pub returns-clause-stops : goal.returns-clause-stops
returns-clause-stops g c =
    let e = g.S.Site.engine in
    let took = g.K.RowSink.took in
    let broke = g.K.RowSink.broke in
    let key = c.args.key in
    let v = c.args.roster.now in
    let t = handled_among e key (sites_in v) in
    let x = c.step_into.new.effects in
    let a = gathered c.args.sink.now c.args.effects.now.rows.items in
    let m = made g.met.S.Site.laws key v c.step_into.new.self c.args.effects.now.rows.items x.rows.items c.args.effects.now.sent.items x.sent.items c.requires.none c.requires.due c.in_ok-step_into.ensures.handled in
    IfErr-weaker c.hand_many.result (λ y. broke c.args.sink.now x.rows.items y c.hand_many.new.sink)
    (λ y. (horizon : ℕ) → key.at ≤ horizon → HaltsGathering e took broke horizon (sites_in v) a y c.hand_many.new.sink)
    (λ y broken horizon l. (
      [],
      halts_handed g.met.S.Site.laws (Gathers took) horizon (Breaks broke) key (sites_in v) a (gathered c.hand_many.new.sink []) y c.requires.due l
          (x.rows.items, ([], (sym m.wrote ∙ sym (append-nil x.rows.items), broken))),
    ))
    c.hand_many.ensures.broke

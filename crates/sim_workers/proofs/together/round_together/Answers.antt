use Rattle.std.proofs.Common.{ap, rules, ◌≡◌, ◌≤◌, length, arith, subst, ◌∙◌, inl, inr, vec_capacity}
use Rattle.std.proofs.lemmas.Result.{err_from_is_err_and}
use Rattle.sim_clock.specs.declared.refusal.Refusal.TheVariants as refusals
use Rattle.sim_windows.specs.Rounds.{AllCome}
use Rattle.sim_workers.proofs.Handing.{handing_weaker, stops_after}
use Rattle.sim_workers.specs.Rounds.{IsRefusedRound}
use Rattle.sim_handoff.specs.Seats.{owner_record}
use Rattle.sim_workers.proofs.Sendings.{as_many_homes, as_many_outcomes, resting_of, round_of}
use Rattle.sim_workers.proofs.together.round_together.Goals as goal

pub collect_all-outcomes-requires-clause-places : goal.collect_all-outcomes-requires-clause-places
collect_all-outcomes-requires-clause-places g c _ _ =
    let e = g.S.Site.engine in
    let k = g.S.Site.conditions in
    let owner = owner_record c.offer_due-homes.new.owner in
    as_many_homes e k g.W.Packs.packed owner c.deref.result.now 0 _ _ c.offer_due-homes.ensures.sent ∙ c.requires.places

pub collect_all-outcomes-requires-clause-resting : goal.collect_all-outcomes-requires-clause-resting
collect_all-outcomes-requires-clause-resting g c _ _ =
    let e = g.S.Site.engine in
    let k = g.S.Site.conditions in
    let owner = owner_record c.offer_due-homes.new.owner in
    resting_of e k g.W.Packs.packed owner c.deref.result.now 0 _ _ c.offer_due-homes.ensures.sent

pub collect_all-outcomes-requires-clause-after : goal.collect_all-outcomes-requires-clause-after
collect_all-outcomes-requires-clause-after g c _ _ place low =
    let e = g.S.Site.engine in
    let k = g.S.Site.conditions in
    let owner = owner_record c.offer_due-homes.new.owner in
    let homes = as_many_homes e k g.W.Packs.packed owner c.deref.result.now 0 _ _ c.offer_due-homes.ensures.sent in
    let low' : length c.args.loan.parts.items ≤ place = omega (arith, homes, low) in
    c.offer_due-homes.ensures.after place low'

pub collect_all-outcomes-requires-clause-room : goal.collect_all-outcomes-requires-clause-room
collect_all-outcomes-requires-clause-room g c _ _ =
    let e = g.S.Site.engine in
    let k = g.S.Site.conditions in
    let owner = owner_record c.offer_due-homes.new.owner in
    let homes = as_many_homes e k g.W.Packs.packed owner c.deref.result.now 0 _ _ c.offer_due-homes.ensures.sent in
    let room : length c.args.loan.parts.items ≤ vec_capacity c.in_ok-came.came = search rules in
    (c.in_ok-came.ensures.items, omega (arith, homes, room))

pub all_came-requires : goal.all_came-requires
all_came-requires g c =
    let e = g.S.Site.engine in
    let k = g.S.Site.conditions in
    let owner = owner_record c.offer_due-homes.new.owner in
    let homes = as_many_homes e k g.W.Packs.packed owner c.deref.result.now 0 _ _ c.offer_due-homes.ensures.sent in
    let outcomes = as_many_outcomes e k g.W.Packs.packed owner 0 _ _ c.collect_all-outcomes.ensures.collected in
    let room : length c.args.loan.parts.items ≤ vec_capacity c.in_ok-all.all = search rules in
    record { room = (c.in_ok-all.ensures.items, omega (arith, homes, outcomes, room)) }

pub returns-in_err-homes-clause-stops : goal.returns-in_err-homes-clause-stops
returns-in_err-homes-clause-stops g c =
    let told = err_from_is_err_and c.from_residual.result c.from_residual.ensures.1 in
    rw told.1 (inl (inl told.2, g.met.K.RowSink.unchanged c.args.sink.now))

pub returns-in_err-came-clause-stops : goal.returns-in_err-came-clause-stops
returns-in_err-came-clause-stops g c =
    let told = err_from_is_err_and c.from_residual-in_err-came.result c.from_residual-in_err-came.ensures.1 in
    rw told.1 (inl (inl told.2, g.met.K.RowSink.unchanged c.args.sink.now))

pub returns-in_err-all-clause-stops : goal.returns-in_err-all-clause-stops
returns-in_err-all-clause-stops g c =
    let told = err_from_is_err_and c.from_residual-in_err-all.result c.from_residual-in_err-all.ensures.1 in
    rw told.1 (inl (inl told.2, g.met.K.RowSink.unchanged c.args.sink.now))

pub returns-in_err-lent-clause-stops : goal.returns-in_err-lent-clause-stops
returns-in_err-lent-clause-stops g c =
    let told = err_from_is_err_and c.from_residual-in_err-lent.result c.from_residual-in_err-lent.ensures.1 in
    rw (told.1, told.2) (handing_weaker g.met.S.Site.laws g.K.RowSink.took g.K.RowSink.broke c.args.sink.now c.in_err-lent.field-0.0 c.hand_on-handed.new.sink
    (λ e. e ≡ refusals.Memory) (IsRefusedRound g.S.Site.engine g.S.Site.conditions c.args.loan.ends.items c.args.loan.parts.items) c.args.moment c.args.loan.lent (λ memory. inl memory) c.in_err-lent.ensures.stops)

pub returns-in_err-came-2-clause-stops : goal.returns-in_err-came-2-clause-stops
returns-in_err-came-2-clause-stops g c =
    let e = g.S.Site.engine in
    let k = g.S.Site.conditions in
    let owner = owner_record c.offer_due-homes.new.owner in
    let come = round_of e k g.W.Packs.packed owner c.deref.result.now _ _ _ (ap length c.deref.ensures.value ∙ c.requires.ends) c.offer_due-homes.ensures.sent c.collect_all-outcomes.ensures.collected in
    let come' = subst (λ bs. AllCome e k bs c.args.loan.parts.items c.collect_all-outcomes.result.items) c.deref.ensures.value come in
    let told = err_from_is_err_and c.from_residual-in_err-came-2.result c.from_residual-in_err-came-2.ensures.1 in
    let handed = c.in_ok-lent.ensures.handed in
    rw (told.1, told.2) (inr (_, (handed.rows, (handed.are, stops_after g.met.S.Site.laws g.K.RowSink.took g.K.RowSink.broke c.args.sink.now c.in_err-came-2.field-0.0 c.hand_on-handed.new.sink (IsRefusedRound e k c.args.loan.ends.items c.args.loan.parts.items) handed.rows handed.taken (inr (record { outcomes = c.collect_all-outcomes.result.items; come = come'; graver = c.in_err-came-2.ensures.refused }))))))

pub returns-clause-came : goal.returns-clause-came
returns-clause-came g c =
    let e = g.S.Site.engine in
    let k = g.S.Site.conditions in
    let owner = owner_record c.offer_due-homes.new.owner in
    let come = round_of e k g.W.Packs.packed owner c.deref.result.now _ _ _ (ap length c.deref.ensures.value ∙ c.requires.ends) c.offer_due-homes.ensures.sent c.collect_all-outcomes.ensures.collected in
    subst (λ os. AllCome e k c.args.loan.ends.items c.args.loan.parts.items os) c.in_ok-came-2.ensures.came
    (subst (λ bs. AllCome e k bs c.args.loan.parts.items c.collect_all-outcomes.result.items) c.deref.ensures.value come)

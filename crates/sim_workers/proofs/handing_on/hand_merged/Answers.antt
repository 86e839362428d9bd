use Rattle.std.proofs.Common.{[], List, ap, append_assoc, arith, inl, length, refl, rules, subst, sym, ◌++◌, ◌+◌, ◌∷◌, ◌≡◌, ◌∙◌}
use Rattle.std.proofs.lemmas.List.{append-nil}
use Rattle.std.proofs.lemmas.Result.{err_from_is_err_and}
use Rattle.sim_clock.specs.declared.refusal.Refusal.TheVariants as refusals
use Rattle.sim_engine.specs.Merge.{merged_all, row_cmp}
use Rattle.sim_workers.specs.Paces.{word_of}
use Rattle.sim_workers.proofs.Handing.{IsCounted, breaks_there, counted_all, counted_more, one_more, same_left, stops_there, takes_there}
use Rattle.sim_workers.proofs.handing_on.hand_merged.Goals as goal

pub returns-in_err-merged-clause-stops : goal.returns-in_err-merged-clause-stops
returns-in_err-merged-clause-stops g c =
    let told = err_from_is_err_and c.from_residual.result c.from_residual.ensures.1 in
    rw told.1 ([], (_, (refl, inl (g.met.K.RowSink.unchanged c.args.sink.now, told.2))))

pub returns-in_err-rows-clause-stops : goal.returns-in_err-rows-clause-stops
returns-in_err-rows-clause-stops g c =
    let told = err_from_is_err_and c.from_residual-in_err-rows.result c.from_residual-in_err-rows.ensures.1 in
    rw told.1 ([], (_, (refl, inl (g.met.K.RowSink.unchanged c.args.sink.now, told.2))))

pub loop-row-init : goal.loop-row-init
loop-row-init g c = record {
  ready = c.requires.ready;
  handing = record {
    told = [];
    parts = ap (λ z. z ++ c.in_ok-merged.merged) c.in_ok-rows.ensures.items ∙ c.in_ok-merged.ensures;
    taken = g.met.K.RowSink.unchanged c.args.sink.now;
  };
  counted = record {
    first = 0;
    whole = omega (arith, ap length (ap (λ z. z ++ c.in_ok-merged.merged) c.in_ok-rows.ensures.items ∙ c.in_ok-merged.ensures));
    word = refl;
  };
}

pub returns-in_err-push-clause-stops : goal.returns-in_err-push-clause-stops
returns-in_err-push-clause-stops g c =
    let all = merged_all (row_cmp g.S.Site.engine) c.args.lists.items in
    let told = err_from_is_err_and c.from_residual-in_err-push.result c.from_residual-in_err-push.ensures.1 in
    let l = c.loop-row in
    rw told.1 (stops_there g.S.Site.engine g.K.RowSink.took all c.args.sink.now l.sink g.K.RowSink.broke told.0 (l.rows.items ++ l.merged) l.invariant.handing (λ e. e ≡ refusals.Memory) told.2)

pub returns-in_err-take-clause-stops : goal.returns-in_err-take-clause-stops
returns-in_err-take-clause-stops g c =
    let all = merged_all (row_cmp g.S.Site.engine) c.args.lists.items in
    let told = err_from_is_err_and c.from_residual-in_err-take.result c.from_residual-in_err-take.ensures.1 in
    let l = c.loop-row in
    let more = c.push.new.self.items in
    let i = one_more g.S.Site.engine g.K.RowSink.took all c.args.sink.now l.sink l.rows.items l.merged more c.next.new.self c.in-Some.row c.in-Some.ensures c.in_ok-push.ensures.items l.invariant.handing in
    rw (told.1, told.2) (breaks_there g.S.Site.engine g.K.RowSink.took all c.args.sink.now l.sink g.K.RowSink.broke c.in_err-take.field-0.0 (more ++ c.next.new.self) i g.met.K.RowSink.broke_later (λ e. e ≡ refusals.Memory)
    c.deref.result.now c.next.new.self c.take.new.self (ap (λ z. z ++ c.next.new.self) (sym c.deref.ensures.value)) c.in_err-take.ensures.broke)

pub loop-row-preserved-then-len-ge-ROWS_AT_ONCE : goal.loop-row-preserved-then-len-ge-ROWS_AT_ONCE
loop-row-preserved-then-len-ge-ROWS_AT_ONCE g c =
    let all = merged_all (row_cmp g.S.Site.engine) c.args.lists.items in
    let l = c.loop-row in
    let more = c.push.new.self.items in
    let rest = c.next.new.self in
    let i = one_more g.S.Site.engine g.K.RowSink.took all c.args.sink.now l.sink l.rows.items l.merged more rest c.in-Some.row c.in-Some.ensures c.in_ok-push.ensures.items l.invariant.handing in
    let j = takes_there g.S.Site.engine g.K.RowSink.took all c.args.sink.now l.sink g.met.K.RowSink.took_both more rest c.take.new.self i (subst (λ z. g.K.RowSink.took l.sink z c.take.new.self) c.deref.ensures.value c.in_ok-take.ensures.took) in
    record {
      ready = c.in_ok-take.ensures.ready;
      handing = same_left g.S.Site.engine g.K.RowSink.took all c.args.sink.now c.take.new.self rest (c.clear.new.self.items ++ rest) (sym (ap (λ z. z ++ rest) c.clear.ensures.items)) j;
      counted =
          let left : List _ = more ++ rest in
          let is : IsCounted all l.handed left =
          subst (λ z. IsCounted all l.handed z) (sym (ap (λ z. z ++ rest) c.in_ok-push.ensures.items ∙ append_assoc l.rows.items (c.in-Some.row ∷ []) rest ∙ ap (λ z. l.rows.items ++ z) (sym c.in-Some.ensures))) l.invariant.counted in
          let count : c.saturating_add-handed.result ≡ word_of (l.handed + length more) = search rules in
          subst (λ n. IsCounted all n (c.clear.new.self.items ++ rest)) (sym count) (subst (λ z. IsCounted all (word_of (l.handed + length more)) z) (sym (ap (λ z. z ++ rest) c.clear.ensures.items)) (counted_more all more rest l.handed is));
    }

pub loop-row-preserved : goal.loop-row-preserved
loop-row-preserved g c =
    let all = merged_all (row_cmp g.S.Site.engine) c.args.lists.items in
    let l = c.loop-row in
    record {
      ready = l.invariant.ready;
      handing = one_more g.S.Site.engine g.K.RowSink.took all c.args.sink.now l.sink l.rows.items l.merged c.push.new.self.items c.next.new.self c.in-Some.row c.in-Some.ensures c.in_ok-push.ensures.items l.invariant.handing;
      counted = subst (λ z. IsCounted all l.handed z) (sym (ap (λ z. z ++ c.next.new.self) c.in_ok-push.ensures.items ∙ append_assoc l.rows.items (c.in-Some.row ∷ []) c.next.new.self ∙ ap (λ z. l.rows.items ++ z) (sym c.in-Some.ensures))) l.invariant.counted;
    }

pub returns-in_err-take-2-clause-stops : goal.returns-in_err-take-2-clause-stops
returns-in_err-take-2-clause-stops g c =
    let all = merged_all (row_cmp g.S.Site.engine) c.args.lists.items in
    let told = err_from_is_err_and c.from_residual-in_err-take-2.result c.from_residual-in_err-take-2.ensures.1 in
    let l = c.loop-row in
    let last = ap (λ z. l.rows.items ++ z) c.in_default.ensures.0 ∙ append-nil l.rows.items in
    rw (told.1, told.2) (breaks_there g.S.Site.engine g.K.RowSink.took all c.args.sink.now l.sink g.K.RowSink.broke c.in_err-take-2.field-0.0 (l.rows.items ++ l.merged) l.invariant.handing g.met.K.RowSink.broke_later (λ e. e ≡ refusals.Memory)
    c.deref-2.result.now [] c.take-2.new.self (last ∙ sym c.deref-2.ensures.value ∙ sym (append-nil c.deref-2.result.now)) c.in_err-take-2.ensures.broke)

pub returns-clause-took : goal.returns-clause-took
returns-clause-took g c =
    let all = merged_all (row_cmp g.S.Site.engine) c.args.lists.items in
    let l = c.loop-row in
    let i = same_left g.S.Site.engine g.K.RowSink.took all c.args.sink.now l.sink (l.rows.items ++ l.merged) (l.rows.items ++ []) (ap (λ z. l.rows.items ++ z) c.in_default.ensures.0) l.invariant.handing in
    let j = takes_there g.S.Site.engine g.K.RowSink.took all c.args.sink.now l.sink g.met.K.RowSink.took_both l.rows.items [] c.take-2.new.self i (subst (λ z. g.K.RowSink.took l.sink z c.take-2.new.self) c.deref-2.ensures.value c.in_ok-take-2.ensures.took) in
    subst (λ z. g.K.RowSink.took c.args.sink.now z c.take-2.new.self) (sym (append-nil j.told) ∙ j.parts) j.taken

pub returns-clause-count : goal.returns-clause-count
returns-clause-count g c =
    let all = merged_all (row_cmp g.S.Site.engine) c.args.lists.items in
    let l = c.loop-row in
    let is : IsCounted all l.handed (l.rows.items ++ []) = subst (λ z. IsCounted all l.handed (l.rows.items ++ z)) c.in_default.ensures.0 l.invariant.counted in
    let count : c.saturating_add.result ≡ word_of (l.handed + length l.rows.items) = search rules in
    count ∙ counted_all all l.rows.items l.handed is

use Rattle.std.proofs.Common.{Global, List, Vec, [], ℕ, ◌<◌, ap, arith, drop, flat_map, get_or, length, refl, rules, subst, sym, ◌++◌, ◌+◌, ◌≡◌, ◌∙◌}
use Rattle.std.proofs.lemmas.List.{drop_more}
use Rattle.std.proofs.lemmas.Result.{err_from_is_err_and}
use Rattle.sim_clock.specs.declared.refusal.Refusal.TheVariants as refusals
use Rattle.sim_workers.specs.Paces.{word_of}
use Rattle.sim_workers.proofs.Handing.{IsCounted, breaks_there, counted_more, same_left, takes_there}
use Rattle.sim_workers.proofs.handing_on.hand_each.Goals as goal

pub loop-rows-init : goal.loop-rows-init
loop-rows-init g c = record {
  ready = c.requires.ready;
  handing = record { told = []; parts = refl; taken = g.met.K.RowSink.unchanged c.args.sink.now };
  counted = record { first = 0; whole = omega arith; word = refl };
}

-- the next list comes first of those that are left
next_first : {A : Type 0} (lists : List (Vec A Global)) (i : ℕ) (v : Vec A Global) → i < length lists → v ≡ get_or lists i v → flat_map (λ u. u.items) (drop i lists) ≡ v.items ++ flat_map (λ u. u.items) (drop (i + 1) lists)
next_first lists i v within at =
    ap (flat_map (λ u. u.items)) (drop_more lists i v within) ∙ ap (λ (u : Vec _ Global). u.items ++ flat_map (λ x. x.items) (drop (i + 1) lists)) (sym at)

pub returns-in_err-take-clause-stops : goal.returns-in_err-take-clause-stops
returns-in_err-take-clause-stops g c =
    let l = c.loop-rows in
    let lists = c.args.lists.now in
    let i = l.rows-index in
    let v = c.rows-item.result in
    let at : v ≡ get_or lists i v = search rules in
    let rest = flat_map (λ u. u.items) (drop (i + 1) lists) in
    let told = err_from_is_err_and c.from_residual.result c.from_residual.ensures.1 in
    rw (told.1, told.2) (breaks_there g.S.Site.engine g.K.RowSink.took (flat_map (λ u. u.items) lists) c.args.sink.now l.sink g.K.RowSink.broke c.in_err-take.field-0.0
    (flat_map (λ u. u.items) (drop i lists)) l.invariant.handing g.met.K.RowSink.broke_later (λ e. e ≡ refusals.Memory)
    c.deref.result.now rest c.take.new.self (next_first lists i v (omega (arith, c.loop-rows-test.true)) at ∙ ap (λ z. z ++ rest) (sym c.deref.ensures.value)) c.in_err-take.ensures.broke)

pub loop-rows-preserved : goal.loop-rows-preserved
loop-rows-preserved g c =
    let l = c.loop-rows in
    let lists = c.args.lists.now in
    let all = flat_map (λ u. u.items) lists in
    let i = l.rows-index in
    let v = c.rows-item.result in
    let at : v ≡ get_or lists i v = search rules in
    let rest = flat_map (λ u. u.items) (drop (i + 1) lists) in
    let next : flat_map (λ u. u.items) (drop i lists) ≡ v.items ++ rest = next_first lists i v (omega (arith, c.loop-rows-test.true)) at in
    let count : c.saturating_add-handed.result ≡ word_of (l.handed + length v.items) = omega (arith, c.saturating_add-handed.ensures, c.len.ensures, v.ok.0) in
    record {
      ready = c.in_ok-take.ensures.ready;
      handing = takes_there g.S.Site.engine g.K.RowSink.took all c.args.sink.now l.sink g.met.K.RowSink.took_both v.items rest c.take.new.self
          (same_left g.S.Site.engine g.K.RowSink.took all c.args.sink.now l.sink (flat_map (λ u. u.items) (drop i lists)) (v.items ++ rest) next l.invariant.handing)
          (subst (λ z. g.K.RowSink.took l.sink z c.take.new.self) c.deref.ensures.value c.in_ok-take.ensures.took);
      counted = subst (λ n. IsCounted all n rest) (sym count) (counted_more all v.items rest l.handed (subst (λ z. IsCounted all l.handed z) next l.invariant.counted));
    }

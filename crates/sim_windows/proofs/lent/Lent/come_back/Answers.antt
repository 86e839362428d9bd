use Rattle.std.specs.Prelude.{List, Ok, Result, [], drop, get_or, length, map, set, ◌++◌, ◌+◌, ◌∷◌, ◌≡◌, ◌≤◌, ℕ}
use Rattle.std.proofs.Common.{ap, append_assoc, arith, length-append, refl, subst, sym, ◌∙◌}
use Rattle.std.proofs.lemmas.List.{append-nil, drop_all, length-map, length-set, nil_from_length}
use Rattle.sim_clock.specs.declared.refusal.Refusal.{Refusal}
use Rattle.sim_engine.specs.Engine.{Engine}
use Rattle.sim_engine.specs.Laws.{Conditions, SiteLaws}
use Rattle.sim_engine.specs.Setting.{Setting}
use Rattle.sim_windows.specs.Rounds.{CanComeBack, HaveCome}
use Rattle.sim_windows.specs.declared.kept.Kept.{Kept}
use Rattle.sim_windows.specs.declared.lent.Came.{Came}
use Rattle.sim_windows.specs.Stages.{GoesOn, Standing, StandsOn, standing_of, with_parts}
use Rattle.sim_windows.proofs.Back.{Next, before_all, in_order, many_back, next_back}
use Rattle.sim_windows.proofs.Places.{map_push}
use Rattle.sim_windows.proofs.Standing.{many_parts, many_rows}
use Rattle.sim_windows.proofs.Returned.{one_back, rows_back, within_rows}
use Rattle.sim_windows.proofs.lent.Lent.come_back.Goals as goal

module _ {Site Row Transfer : Type 0} {engine : Engine Site Row Transfer} {conditions : Conditions Site Transfer} (basics : SiteLaws engine conditions) where
  -- there is a list of rows for each that comes back
  has_room : (lent : Standing Site Row Transfer) (came : List (Came Site Row Transfer)) → CanComeBack engine conditions lent came → length came ≡ length lent.rows
  has_room lent came r =
      let g : Standing Site Row Transfer = with_parts r.parts lent in
      omega (
        arith,
        many_back basics r.ends r.parts came r.have,
        many_parts basics r.stands.setting r.stands.picks g r.stands.stands,
        many_rows basics r.stands.setting r.stands.picks g r.stands.stands,
      )

  -- all came that were yielded
  whole_of : (yielded rest came : List (Came Site Row Transfer)) → yielded ++ rest ≡ came → length rest ≡ 0 → yielded ≡ came
  whole_of yielded rest came order none = sym (append-nil yielded) ∙ ap (λ r. yielded ++ r) (sym (nil_from_length rest none)) ∙ order

  -- as many came as were lent
  all_came :
      (ps : List (Result (List Site) Refusal)) (ends : List ℕ) (yielded rest came : List (Came Site Row Transfer)) → yielded ++ rest ≡ came → length rest ≡ 0 → HaveCome engine conditions ends ps came
      → length yielded ≡ length ps
  all_came ps ends yielded rest came order none have =
      ap (λ z. length z) (whole_of yielded rest came order none) ∙ many_back basics ends ps came have

  -- none is out any more
  all_back :
      (s : Setting Site) (kept : Kept Site Row Transfer) (now ps : List (Result (List Site) Refusal)) (ends : List ℕ) (yielded rest came : List (Came Site Row Transfer)) (place : ℕ)
      → yielded ++ rest ≡ came → length rest ≡ 0 → place ≡ length yielded → HaveCome engine conditions ends ps came
      → StandsOn engine conditions s (standing_of kept (now ++ drop place ps)) → StandsOn engine conditions s (standing_of kept now)
  all_back s kept now ps ends yielded rest came place order none at have on =
      let last : place ≡ length ps = at ∙ all_came ps ends yielded rest came order none have in
      subst (λ (z : List (Result (List Site) Refusal)). StandsOn engine conditions s (standing_of kept z)) (ap (λ z. now ++ z) (drop_all place ps (omega (arith, last))) ∙ append-nil now) on

pub loop-one-init : goal.loop-one-init
loop-one-init g c = record {
  rest = c.into_iter-one-iterator.ensures.into_iter_gives.0;
  place = refl;
  parts = c.in_ok-parts.ensures.items;
  rows = ap (λ (x : Standing _ _ _). length x.rows) c.self.view_is;
  bounds = ap (λ (x : Standing _ _ _). x.bounds) c.self.view_is;
  same = record { layout = ap (λ (x : Standing _ _ _). x.layout) c.self.view_is; distances = ap (λ (x : Standing _ _ _). x.distances) c.self.view_is };
  settled = ap (λ (x : Standing _ _ _). x.settled) c.self.view_is;
  horizon = ap (λ (x : Standing _ _ _). x.horizon) c.self.view_is;
  back = λ s ps ends on under came.
      subst (λ z. StandsOn g.S.Site.engine g.S.Site.conditions s (standing_of c.self.inside.kept (z ++ ps))) (sym c.in_ok-parts.ensures.items)
      (subst (λ (x : Standing _ _ _). StandsOn g.S.Site.engine g.S.Site.conditions s (with_parts ps x)) (sym c.self.view_is) on);
}

pub index_mut-requires : goal.index_mut-requires
index_mut-requires g c =
    let l = c.loop-one in
    let one = c.in-Some.one in
    let more = c.next.new.self.rest.items in
    let n = before_all l.yielded more c.args.came.items one (in_order l.yielded l.one-iterator.rest.items more c.args.came.items one l.invariant.rest c.in-Some.ensures.steps.0) in
    omega (arith, n, l.invariant.place, l.invariant.rows, has_room g.met.S.Site.laws c.args.self c.args.came.items c.requires.came, l.kept.rows.ok.0)

pub loop-one-preserved : goal.loop-one-preserved
loop-one-preserved g c =
    let e = g.S.Site.engine in
    let cs = g.S.Site.conditions in
    let laws = g.met.S.Site.laws in
    let l = c.loop-one in
    let i = l.invariant in
    let one = c.in-Some.one in
    let more = c.next.new.self.rest.items in
    let h = standing_of l.kept l.parts.items in
    let k = l.place in
    let rows = l.kept.rows.items in
    let order = in_order l.yielded l.one-iterator.rest.items more c.args.came.items one i.rest c.in-Some.ensures.steps.0 in
    record {
      rest = append_assoc l.yielded (one ∷ []) more ∙ order;
      place = omega (arith, i.place, length-append l.yielded (one ∷ []));
      parts = c.in_ok-push.ensures.items ∙ ap (λ z. z ++ one.part ∷ []) i.parts ∙ sym (map_push _ l.yielded one);
      rows = length-set rows k c.add.new.self ∙ i.rows;
      bounds = i.bounds;
      same = record { layout = i.same.layout; distances = i.same.distances };
      settled = i.settled;
      horizon = i.horizon;
      back = λ s ps ends on under came.
          let st = i.back s ps ends on under came in
          let next : Next laws ends ps k (Ok []) one = subst (λ n. Next laws ends ps n (Ok []) one) (sym i.place) (next_back laws ends ps l.yielded one more (Ok []) (subst (HaveCome e cs ends ps) (sym order) came)) in
          let at : length h.parts ≡ k = ap (λ z. length z) i.parts ∙ length-map l.yielded _ ∙ sym i.place in
          let stands = one_back laws s h ps ends k one at st next (λ b. subst (λ z. get_or ends k 0 ≤ get_or z k 0) (sym i.bounds) (under k (omega (arith, b, ap (λ z. length z) i.bounds)))) in
          subst (λ z. StandsOn e cs s (record h { parts = c.push.new.self.items ++ drop (k + 1) ps; rows = z; waiting = c.add-in-loop-one.new.self }))
          (rows_back rows k c.index_mut.result.now c.add.new.self one.made.rows.items (within_rows laws s h ps ends k one at st next) c.index_mut.ensures.value c.in_ok-add.ensures)
          (subst (λ z. StandsOn e cs s (record h { parts = z; rows = set h.rows k (get_or h.rows k [] ++ one.made.rows.items); waiting = c.add-in-loop-one.new.self })) (ap (λ z. z ++ drop (k + 1) ps) (sym c.in_ok-push.ensures.items))
          (subst (λ z. StandsOn e cs s (record h { parts = h.parts ++ one.part ∷ [] ++ drop (k + 1) ps; rows = set h.rows k (get_or h.rows k [] ++ one.made.rows.items); waiting = z })) (sym c.in_ok-add-2.ensures) stands));
    }

pub stage_of-requires : goal.stage_of-requires
stage_of-requires g c =
    let l = c.loop-one in
    let r = c.requires.came in
    let on = all_back g.met.S.Site.laws r.stands.setting l.kept l.parts.items r.parts r.ends l.yielded l.one-iterator.rest.items c.args.came.items l.place l.invariant.rest
    (omega (arith, c.in-None.ensures.steps.0, l.one-iterator.rest.ok.0)) l.invariant.place r.have
    (l.invariant.back r.stands.setting r.parts r.ends (record { picks = r.stands.picks; stands = r.stands.stands }) r.within r.have) in
    record { setting = r.stands.setting; picks = on.picks; stands = on.stands }

pub returns : goal.returns
returns g c = record {
  back = λ ps ends under came.
      let l = c.loop-one in
      subst (λ (x : Standing _ _ _). GoesOn g.S.Site.engine g.S.Site.conditions (with_parts ps c.args.self) x) (sym c.stage_of.ensures)
      (record {
        on = λ s on.
            all_back g.met.S.Site.laws s l.kept l.parts.items ps ends l.yielded l.one-iterator.rest.items c.args.came.items l.place l.invariant.rest
            (omega (arith, c.in-None.ensures.steps.0, l.one-iterator.rest.ok.0)) l.invariant.place came (l.invariant.back s ps ends on under came);
        same = record { layout = l.invariant.same.layout; distances = l.invariant.same.distances };
        count =
            ap (λ xs. length xs) l.invariant.parts ∙ length-map l.yielded _
            ∙ all_came g.met.S.Site.laws ps ends l.yielded l.one-iterator.rest.items c.args.came.items l.invariant.rest (omega (arith, c.in-None.ensures.steps.0, l.one-iterator.rest.ok.0)) came;
        settled = l.invariant.settled;
        horizon = l.invariant.horizon;
        bounds = l.invariant.bounds;
      });
  parts =
      let l = c.loop-one in
      let whole = whole_of g.met.S.Site.laws l.yielded l.one-iterator.rest.items c.args.came.items l.invariant.rest (omega (arith, c.in-None.ensures.steps.0, l.one-iterator.rest.ok.0)) in
      ap (λ (x : Standing _ _ _). x.parts) c.stage_of.ensures ∙ l.invariant.parts ∙ ap (map (λ one. one.part)) whole;
}

use Rattle.std.proofs.Common.{rules, ◌≡◌, length, arith, sym, ap, subst, ◌∙◌, ◌∷◌, ◌++◌, [], None, Some, MatchOption}
use Rattle.std.proofs.Common.{Ok, Option, map}
use Rattle.std.proofs.lemmas.Iterator.Consumers.{YieldsList-end}
use Rattle.std.proofs.lemmas.Iterator.Adapters.{YieldsList-from_vec}
use Rattle.std.proofs.lemmas.List.{map-append, map-id}
use Rattle.sim_clock.specs.declared.refusal.Refusal.{Refusal}
use Rattle.sim_workers.specs.Rounds.{gravest, gravest_of}
use Rattle.sim_workers.proofs.Sendings.{one_more, less_left, gravest_ok, gravest_err, unless_refused}
use Rattle.sim_workers.proofs.outcomes.all_came.Goals as goal

pub loop-outcome-preserved-in-Ok : goal.loop-outcome-preserved-in-Ok
loop-outcome-preserved-in-Ok g c =
    let i = c.loop-outcome.invariant in
    let y = c.loop-outcome.yielded in
    let more = ap (λ o. y ++ o ∷ []) c.in-Ok.is in
    let here = one_more y c.in-Some.outcome in
    let there = one_more c.loop-outcome.all.items c.in-Ok.came in
    let grew = ap length c.push_reserved.ensures.items in
    record {
      can = tt;
      ends = tt;
      count = omega (arith, here, there, grew, i.count);
      rest = less_left y _ _ _ _ i.rest c.in-Some.ensures.steps.1;
      room = search rules;
      so_far = ap gravest more ∙ gravest_ok None y c.in-Ok.came ∙ i.so_far;
      came =
          unless_refused c.loop-outcome.refused
          (λ e. more ∙ ap (λ os. os ++ Ok c.in-Ok.came ∷ []) e
          ∙ sym (ap (map (λ d. Ok d)) c.push_reserved.ensures.items
          ∙ map-append (λ d. Ok d) c.loop-outcome.all.items (c.in-Ok.came ∷ [])))
          i.came;
    }

pub loop-outcome-preserved : goal.loop-outcome-preserved
loop-outcome-preserved g c =
    let i = c.loop-outcome.invariant in
    let y = c.loop-outcome.yielded in
    let more = ap (λ o. y ++ o ∷ []) c.in-Err.is in
    let here = one_more y c.in-Some.outcome in
    record {
      can = tt;
      ends = tt;
      count = omega (arith, here, i.count);
      rest = less_left y _ _ _ _ i.rest c.in-Some.ensures.steps.1;
      room = i.room;
      so_far =
          ap gravest more ∙ gravest_err None y c.in-Err.refusal
          ∙ ap Some (ap (λ b. gravest_of b c.in-Err.refusal) i.so_far ∙ sym c.graver.ensures);
      came = tt;
    }

pub returns-in-None-refused-clause-came : goal.returns-in-None-refused-clause-came
returns-in-None-refused-clause-came g c =
    let l = c.loop-outcome in
    let of = YieldsList-from_vec {s = c.into_iter-outcome-iterator.result} c.args.outcomes.items (search rules) (search rules) in
    let all : l.yielded ≡ c.args.outcomes.items = sym (map-id l.yielded) ∙ (YieldsList-end of l.yielded l.outcome-iterator l.yielded_by c.next.result c.next.new.self c.in-None.is c.next.ensures.steps).0 in
    let came : Option Refusal → Type 0 = λ r. MatchOption r (l.yielded ≡ map (λ d. Ok d) l.all.items) (λ _. Unit {0}) in
    sym all ∙ subst came c.in-None-refused.is l.invariant.came

pub returns-in-Some-refused-clause-refused : goal.returns-in-Some-refused-clause-refused
returns-in-Some-refused-clause-refused g c =
    let l = c.loop-outcome in
    let of = YieldsList-from_vec {s = c.into_iter-outcome-iterator.result} c.args.outcomes.items (search rules) (search rules) in
    let all : l.yielded ≡ c.args.outcomes.items = sym (map-id l.yielded) ∙ (YieldsList-end of l.yielded l.outcome-iterator l.yielded_by c.next.result c.next.new.self c.in-None.is c.next.ensures.steps).0 in
    ap gravest (sym all) ∙ l.invariant.so_far ∙ c.in-Some-refused.is

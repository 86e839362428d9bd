use Rattle.std.specs.Prelude.{IfOk, List, Ok, Result, Vec, [], drop, get_or, length, map, set, suc, ℕ, ◌+◌, ◌<◌, ◌∷◌, ◌≡◌}
use Rattle.std.proofs.Common.{Global, ap, arith, length-append, refl, subst, sym, ◌∙◌}
use Rattle.std.proofs.lemmas.List.{length-map}
use Rattle.std.proofs.lemmas.Result.{err_from_is_err_and}
use Rattle.sim_clock.specs.declared.refusal.Refusal.{Refusal}
use Rattle.sim_clock.specs.declared.refusal.Refusal.TheVariants.{Memory}
use Rattle.sim_windows.specs.Meeting.{AreReached, IsReached, delivered_each}
use Rattle.sim_windows.proofs.Delivering.{Next, drop_set, lives_at, next_of, set_next}
use Rattle.sim_windows.proofs.Places.{map_push}
use Rattle.sim_engine.specs.World.{delivered}
use Rattle.sim_engine.specs.Engine.{Engine}
use Rattle.sim_engine.specs.Laws.{Conditions, SiteLaws}
use Rattle.sim_windows.proofs.meeting.deliver_each.Goals as goal

-- the transfers of a list
abbrev items : {A : Type 0} → Vec A Global → List A
items v = v.items

module _ {Site Row Transfer : Type 0} {engine : Engine Site Row Transfer} {conditions : Conditions Site Transfer} (basics : SiteLaws engine conditions) where
  -- the next partition, of those that are left
  next_there :
      (parts : List (Result (List Site) Refusal)) (place : ℕ) (rest : List (Vec Transfer Global)) (now : Vec Transfer Global) (more : List (Vec Transfer Global))
      → rest ≡ now ∷ more → AreReached engine conditions (drop place parts) (map items rest) → Next basics parts place now.items (map items more)
  next_there parts place rest now more e h = next_of basics parts place now.items (map items more) (subst (λ r. AreReached engine conditions (drop place parts) (map items r)) e h)

pub index_mut-requires : goal.index_mut-requires
index_mut-requires given c =
    let laws = given.met.S.Site.laws in
    let within : c.loop-transfers.place < length c.loop-transfers.parts.items =
    (next_there laws c.loop-transfers.parts.items c.loop-transfers.place c.loop-transfers.transfers-iterator.rest.items c.in-Some.transfers c.next.new.self.rest.items c.in-Some.ensures.steps.0 c.loop-transfers.invariant.reached).within in
    omega (arith, c.loop-transfers.parts.ok.0)

module _ {Site Row Transfer : Type 0} {engine : Engine Site Row Transfer} {conditions : Conditions Site Transfer} (basics : SiteLaws engine conditions) where
  is_reached : (part now : Result (List Site) Refusal) (os : List Transfer) → now ≡ part → IsReached engine conditions part os → IsReached engine conditions now os
  is_reached part now os e h = subst (λ p. IsReached engine conditions p os) (sym e) h

pub deliver_later-requires-clause-past : goal.deliver_later-requires-clause-past
deliver_later-requires-clause-past given c =
    let laws = given.met.S.Site.laws in
    let d : Result (List _) Refusal = c.index_mut.result.now in
    (is_reached laws (get_or c.loop-transfers.parts.items c.loop-transfers.place d) d c.in-Some.transfers.items c.index_mut.ensures.value
    ((next_there laws c.loop-transfers.parts.items c.loop-transfers.place c.loop-transfers.transfers-iterator.rest.items c.in-Some.transfers c.next.new.self.rest.items c.in-Some.ensures.steps.0 c.loop-transfers.invariant.reached).reached d)).past

pub deliver_later-requires-clause-timely : goal.deliver_later-requires-clause-timely
deliver_later-requires-clause-timely given c =
    let laws = given.met.S.Site.laws in
    let d : Result (List _) Refusal = c.index_mut.result.now in
    ((next_there laws c.loop-transfers.parts.items c.loop-transfers.place c.loop-transfers.transfers-iterator.rest.items c.in-Some.transfers c.next.new.self.rest.items c.in-Some.ensures.steps.0 c.loop-transfers.invariant.reached).reached d).timely

module _ {Site Row Transfer : Type 0} {engine : Engine Site Row Transfer} {conditions : Conditions Site Transfer} (basics : SiteLaws engine conditions) where
  -- the partition that gets its own lives
  lives_now :
      (parts : List (Result (List Site) Refusal)) (place : ℕ) (yielded : List (Vec Transfer Global)) (ws : List (List Site)) (d : Result (List Site) Refusal)
      → parts ≡ map (λ w. Ok w) (delivered_each engine (map items yielded) ws) → place ≡ length yielded → place < length parts → d ≡ get_or parts place d
      → (w : List Site) × (d ≡ Ok w)
  lives_now parts place yielded ws d e p l is =
      let at : place ≡ length (map items yielded) = p ∙ sym (length-map yielded items) in
      let within : length (map items yielded) < length (map (λ w. let x : Result (List Site) Refusal = Ok w in x) (delivered_each engine (map items yielded) ws)) = omega (arith, l, at, ap (λ xs. length xs) e) in
      let lives : (w : List Site) × (get_or (map (λ w. let x : Result (List Site) Refusal = Ok w in x) (delivered_each engine (map items yielded) ws)) (length (map items yielded)) d ≡ Ok w) = lives_at basics (map items yielded) ws d within in
      (lives.0, is ∙ ap (λ xs. get_or xs place d) e ∙ ap (λ i. get_or (map (λ w. let x : Result (List Site) Refusal = Ok w in x) (delivered_each engine (map items yielded) ws)) i d) at ∙ lives.1)

pub returns-in_err-deliver_later-clause-memory : goal.returns-in_err-deliver_later-clause-memory
returns-in_err-deliver_later-clause-memory given c ws e =
    let laws = given.met.S.Site.laws in
    let d : Result (List _) Refusal = c.index_mut.result.now in
    let parts = c.loop-transfers.parts.items in
    let within : c.loop-transfers.place < length parts =
    (next_there laws parts c.loop-transfers.place c.loop-transfers.transfers-iterator.rest.items c.in-Some.transfers c.next.new.self.rest.items c.in-Some.ensures.steps.0 c.loop-transfers.invariant.reached).within in
    let lives : (w : List _) × (d ≡ Ok w) = lives_now laws parts c.loop-transfers.place c.loop-transfers.yielded ws d (c.loop-transfers.invariant.delivered ws e) c.loop-transfers.invariant.place within c.index_mut.ensures.value in
    let memory : c.in_err-deliver_later.field-0.0 ≡ Memory = subst (λ (x : Result (List _) Refusal). IfOk x (λ _. c.in_err-deliver_later.field-0.0 ≡ Memory)) lives.1 c.in_err-deliver_later.ensures.memory in
    let told = err_from_is_err_and c.from_residual.result c.from_residual.ensures.1 in
    rw (told.1, told.2, memory) refl

next_number : (i : ℕ) → suc i ≡ i + 1
next_number i = omega arith

pub loop-transfers-preserved : goal.loop-transfers-preserved
loop-transfers-preserved given c =
    let engine = given.S.Site.engine in
    let conditions = given.S.Site.conditions in
    let laws = given.met.S.Site.laws in
    let d : Result (List _) Refusal = c.index_mut.result.now in
    let parts = c.loop-transfers.parts.items in
    let place = c.loop-transfers.place in
    let yielded = c.loop-transfers.yielded in
    let now = c.in-Some.transfers in
    let made : Result (List _) Refusal = c.deliver_later.new.self in
    let next : Next laws parts place now.items (map items c.next.new.self.rest.items) =
    next_there laws parts place c.loop-transfers.transfers-iterator.rest.items now c.next.new.self.rest.items c.in-Some.ensures.steps.0 c.loop-transfers.invariant.reached in
    record {
      place = omega (arith, c.loop-transfers.invariant.place, length-append yielded (now ∷ []));
      reached = subst (λ i. AreReached engine conditions (drop i (set parts place made)) (map items c.next.new.self.rest.items)) (next_number place) (subst (λ xs. AreReached engine conditions xs (map items c.next.new.self.rest.items)) (sym (drop_set parts place made)) next.others);
      delivered = λ ws e.
          let is : parts ≡ map (λ w. Ok w) (delivered_each engine (map items yielded) ws) = c.loop-transfers.invariant.delivered ws e in
          let at : place ≡ length (map items yielded) = c.loop-transfers.invariant.place ∙ sym (length-map yielded items) in
          let within : length (map items yielded) < length (map (λ w. let x : Result (List _) Refusal = Ok w in x) (delivered_each engine (map items yielded) ws)) = omega (arith, next.within, at, ap (λ xs. length xs) is) in
          ap (λ xs. set xs place made) is
          ∙ ap (λ i. set (map (λ w. let x : Result (List _) Refusal = Ok w in x) (delivered_each engine (map items yielded) ws)) i made) at
          ∙ set_next laws (map items yielded) now.items ws made d within
          (λ w h.
          let lives : d ≡ Ok w = c.index_mut.ensures.value ∙ ap (λ xs. get_or xs place d) is ∙ ap (λ i. get_or (map (λ v. let x : Result (List _) Refusal = Ok v in x) (delivered_each engine (map items yielded) ws)) i d) at ∙ h in
          subst (λ (x : Result (List _) Refusal). IfOk x (λ v. made ≡ Ok (delivered engine now.items v))) lives c.in_ok-deliver_later.ensures.delivered)
          ∙ ap (λ os. map (λ w. let x : Result (List _) Refusal = Ok w in x) (delivered_each engine os ws)) (sym (map_push items yielded now));
    }

-- Picks one after another.
use Rattle.std.specs.Prelude.{Bool, List, [], false, if◌then◌else◌, true, ℕ, ◌++◌, ◌+◌, ◌∷◌, ◌≡◌}
use Rattle.std.proofs.Common.{ap, append_assoc, refl, subst, sym, ◌∙◌}
use Rattle.sim_clock.specs.declared.refusal.Refusal.{Refusal}
use Rattle.sim_exchange.specs.Layout.{Layout, owner_of}
use Rattle.sim_exchange.specs.Table.{Table, distance_in}
use Rattle.sim_engine.specs.Bounds.{own_bound}
use Rattle.sim_engine.specs.Machine.{Machine, effective_picks, played, played_all, takes_effect}
use Rattle.sim_engine.specs.declared.picks.Pick.{Pick}
use Rattle.sim_windows.specs.Stages.{BeginWith, Played, Plays, Standing, Stands, StopsAt, Takes, Tells, Took, ended_after, ended_by, machine_in}
use Rattle.sim_windows.proofs.Standing.{more_picks}
use Rattle.sim_engine.specs.Setting.{Setting}
use Rattle.sim_engine.specs.Engine.{Engine}
use Rattle.sim_engine.specs.Laws.{Conditions, SiteLaws}

-- one more, if it takes effect
abbrev pub one_more : Bool → ℕ → ℕ
one_more took n = if took then n + 1 else n

swapped_counts : (a b : Bool) (n : ℕ) → one_more a (one_more b n) ≡ one_more b (one_more a n)
swapped_counts true true n = refl
swapped_counts true false n = refl
swapped_counts false true n = refl
swapped_counts false false n = refl

-- rows that begin with others begin with what those begin with
pub begin_with : {Row : Type 0} (a b c : List Row) → BeginWith a b → BeginWith b c → BeginWith a c
begin_with a b c (more, first) (rest, second) = (more ++ rest, second ∙ ap (λ z. z ++ rest) first ∙ append_assoc a more rest)

module _ {Site Row Transfer : Type 0} {engine : Engine Site Row Transfer} {conditions : Conditions Site Transfer} (basics : SiteLaws engine conditions) where
  -- how many take effect, with one more
  effects_push :
      (owner : ℕ → ℕ) (horizon : ℕ) (rule : List Site → ℕ → ℕ) (xs : List Pick) (x : Pick) (m : Machine engine)
      → effective_picks engine owner horizon rule (xs ++ x ∷ []) m ≡ one_more (takes_effect engine owner horizon (played_all engine owner horizon rule xs m) x) (effective_picks engine owner horizon rule xs m)
  effects_push owner horizon rule [] x m = refl
  effects_push owner horizon rule (y ∷ ys) x m =
      let n : Machine engine = played engine owner horizon rule m y in
      let t : Bool = takes_effect engine owner horizon m y in
      ap (one_more t) (effects_push owner horizon rule ys x n) ∙ swapped_counts t (takes_effect engine owner horizon (played_all engine owner horizon rule ys n) x) (effective_picks engine owner horizon rule ys n)

  -- some picks, and then others, end what the others end where the first came to
  pub ended_append :
      (layout : Layout) (horizon : ℕ) (rule : List Site → ℕ → ℕ) (xs ys : List Pick) (m : Machine engine) (before : ℕ)
      → ended_after engine layout horizon rule (xs ++ ys) m before
      ≡ ended_after engine layout horizon rule ys (played_all engine (owner_of layout) horizon rule xs m) (ended_after engine layout horizon rule xs m before)
  ended_append layout horizon rule [] ys m before = refl
  ended_append layout horizon rule (x ∷ xs) ys m before =
      ended_append layout horizon rule xs ys (played engine (owner_of layout) horizon rule m x) (ended_by engine layout horizon m x before)

  -- a pick more
  pub played_on :
      (s : Setting Site) (done more : List Pick) (x : Pick) (g h k : Standing Site Row Transfer) (count : ℕ) (took : Bool) → Stands engine conditions s done g → Played engine conditions g h s done more count → Took engine conditions h k s (done ++ more) x took
      → Played engine conditions g k s done (more ++ x ∷ []) (one_more took count)
  played_on s done more x g h k count took st p t =
      let m : Machine engine = machine_in engine g.layout g.distances s done in
      let rule : List Site → ℕ → ℕ = own_bound engine (owner_of g.layout) (distance_in g.distances) g.layout.parts s.horizon in
      let there : took ≡ takes_effect engine (owner_of g.layout) s.horizon (machine_in engine g.layout g.distances s (done ++ more)) x =
      t.effect ∙ ap (λ (l : Layout). takes_effect engine (owner_of l) s.horizon (machine_in engine l h.distances s (done ++ more)) x) p.same.layout
      ∙ ap (λ (d : Table). takes_effect engine (owner_of g.layout) s.horizon (machine_in engine g.layout d s (done ++ more)) x) p.same.distances in
      let here : took ≡ takes_effect engine (owner_of g.layout) s.horizon (played_all engine (owner_of g.layout) s.horizon rule more m) x =
      there ∙ ap (λ (y : Machine engine). takes_effect engine (owner_of g.layout) s.horizon y x) (more_picks basics s done g st more) in
      let ended : k.settled ≡ ended_by engine g.layout s.horizon (played_all engine (owner_of g.layout) s.horizon rule more m) x h.settled =
      t.settled ∙ ap (λ (l : Layout). ended_by engine l s.horizon (machine_in engine l h.distances s (done ++ more)) x h.settled) p.same.layout
      ∙ ap (λ (d : Table). ended_by engine g.layout s.horizon (machine_in engine g.layout d s (done ++ more)) x h.settled) p.same.distances
      ∙ ap (λ (y : Machine engine). ended_by engine g.layout s.horizon y x h.settled) (more_picks basics s done g st more) in
      record {
        stands = subst (λ ps. Stands engine conditions s ps k) (append_assoc done more (x ∷ [])) t.stands;
        same = record { layout = t.same.layout ∙ p.same.layout; distances = t.same.distances ∙ p.same.distances };
        effects = ap (λ b. one_more b count) here ∙ ap (one_more (takes_effect engine (owner_of g.layout) s.horizon (played_all engine (owner_of g.layout) s.horizon rule more m) x)) p.effects ∙ sym (effects_push (owner_of g.layout) s.horizon rule more x m);
        settled =
            ended ∙ ap (ended_by engine g.layout s.horizon (played_all engine (owner_of g.layout) s.horizon rule more m) x) p.settled
            ∙ sym (ended_append g.layout s.horizon rule more (x ∷ []) m g.settled);
      }

  -- wherever it stands
  pub plays_on : (g h k : Standing Site Row Transfer) (more : List Pick) (x : Pick) (count : ℕ) (took : Bool) → Plays engine conditions g h more count → Takes engine conditions h k x took → Plays engine conditions g k (more ++ x ∷ []) (one_more took count)
  plays_on g h k more x count took plays takes s done st =
      let p : Played engine conditions g h s done more count = plays s done st in played_on s done more x g h k count took st p (takes s (done ++ more) p.stands)

  module _ (g h : Standing Site Row Transfer) (more : List Pick) (count : ℕ) where
    pub stops_on : (refusal : Refusal) → Plays engine conditions g h more count → StopsAt engine conditions h refusal → StopsAt engine conditions g refusal
    stops_on refusal plays stops s on = stops s (record { picks = on.picks ++ more; stands = (plays s on.picks on.stands).stands })

  pub tells_on : (g h k : Standing Site Row Transfer) (more : List Pick) (count : ℕ) (first told all : List Row) → Plays engine conditions g h more count → Tells engine conditions g first h told → Tells engine conditions h told k all → Tells engine conditions g first k all
  tells_on g h k more count first told all plays before after s on is = after s (record { picks = on.picks ++ more; stands = (plays s on.picks on.stands).stands }) (before s on is)

-- An actor gives to what it sends the group that the settings tell.
use Rattle.std.specs.Prelude.{All, List, Option, Some, [], drop, find, length, nat_lt, slice_get, suc, zero, ℕ, ◌+◌, ◌-◌, ◌<◌, ◌==◌, ◌∷◌, ◌≡◌, ◌≤◌, true, nat_le}
use Rattle.std.proofs.Common.{ap, arith, inl, inr, refl, subst, sym, ◌∙◌}
use Rattle.sqs_laws.proofs.Terms.{Act, act_of, Actor, actor_numbered, ActorSettings, all_changed, Answer, Ascends, ascends_changed, cases_order, changed, Consumer, Core, drawn_time, Draws, dues, either, eq-eqb, eqb-true, find_all, find_changed, find_picked, first_at, first_wake, found_by_number, group_of, has_come, id_given, In, is_actor, IsSoundDistribution, IsSoundRole, Key, nat_tests, next_as, of_site, opening_actor, opening_draws, Producer, producer_sends, Role, Scaler, Scenario, Script, script_wake, ScriptCall, Site, slice_get_within, Standing, Wake, wakes_after, wakes_first, WakesFor, woken}
use Rattle.sqs_message.specs.declared.calls.Call.{Call}
use Rattle.sqs_message.specs.declared.calls.Call.TheVariants as calls
use Rattle.sqs_model.specs.declared.acts.Act.TheVariants as acts
use Rattle.sqs_model.specs.declared.acts.Answer.TheVariants as told_by
use Rattle.sqs_model.specs.declared.agents.ProducerSettings.{ProducerSettings}
use Rattle.std.specs.Fmt.{decimal}
use Rattle.sqs_message.specs.Bodies.{filled}
use Rattle.sqs_model.specs.Actor.{next}
use Rattle.sqs_model.proofs.ActorMoves.{drop_next}
use Rattle.sqs_model.proofs.Decisions.{next_decides}
use Rattle.sqs_model.proofs.Effects.{time_least}
use Rattle.sqs_laws.specs.Sends.{Given, GivesAs, GivesAt, IsSender, after_gap, given_in, message_given, next_sending, sending}
use Rattle.sqs_laws.specs.Laws.{is_actor_of}
use Rattle.sqs_laws.proofs.Naming.{at_place}

-- a script waits for its next call, and a producer for its next message
abbrev pub Waits : ℕ → Role → Actor → Type 0
Waits seed (Script cs) a = WakesFor (Script cs) a
Waits seed (Producer p) a = (t : ℕ) → a.wake ≡ Some t → sending (opening_draws seed a.number) p a.wakes ≡ (t, a.draws)
Waits seed (Consumer c) a = Unit {0}
Waits seed (Scaler s) a = Unit {0}

-- a producer that has just sent a message
pub record JustSent (opening : Draws) (p : ProducerSettings) (at : ℕ) (a : Actor) : Type 0 where
  pub n : ℕ
  pub draws : Draws
  pub sent : a.wakes ≡ suc n
  pub now : sending opening p n ≡ (at, draws)
  pub drawn : a.draws ≡ (group_of p.groups n draws).1

abbrev pub HasSent : ℕ → Role → ℕ → Actor → Type 0
HasSent seed (Script cs) at a = Unit {0}
HasSent seed (Producer p) at a = JustSent (opening_draws seed a.number) p at a
HasSent seed (Consumer c) at a = Unit {0}
HasSent seed (Scaler s) at a = Unit {0}

abbrev pub IsNoProducer : Role → Type 0
IsNoProducer (Script cs) = Unit {0}
IsNoProducer (Producer p) = ⊥
IsNoProducer (Consumer c) = Unit {0}
IsNoProducer (Scaler s) = Unit {0}

not_sent : (seed : ℕ) (role : Role) (at : ℕ) (a : Actor) → IsNoProducer role → HasSent seed role at a
not_sent seed (Script cs) at a h = tt
not_sent seed (Producer p) at a h = absurd h
not_sent seed (Consumer c) at a h = tt
not_sent seed (Scaler s) at a h = tt

-- a receive is a call of a script of this moment, if it is a script's
abbrev pub IsOwnCall : Role → ℕ → ℕ → ℕ → Option ℕ → Type 0
IsOwnCall (Script cs) at max wait timeout = (c : ScriptCall) × In cs c × (c.at ≡ at) × (c.call ≡ calls.Receive max wait timeout)
IsOwnCall role at max wait timeout = Unit {0}

-- a change is a call of a script of this moment, if it is a script's
abbrev pub IsOwnChange : Role → ℕ → List ℕ → ℕ → Type 0
IsOwnChange (Script cs) at text seconds = (c : ScriptCall) × In cs c × (c.at ≡ at) × (c.call ≡ calls.Change text seconds)
IsOwnChange role at text seconds = Unit {0}

-- what an act says of groups: what is sent has the group that the settings tell
abbrev Tells : ℕ → Role → ℕ → Act → Actor → Type 0
Tells seed role at (acts.Send body delay group id) b =
    (IsSender role → GivesAt (opening_draws seed b.number) role at (record { body = body; delay = delay; group = group; id = id }))
    × (IsSoundRole role → (x : Given) → GivesAt (opening_draws seed b.number) role at x → record { body = body; delay = delay; group = group; id = id } ≡ x) × HasSent seed role at b
Tells seed role at (acts.Receive max wait timeout) b = IsNoProducer role × IsOwnCall role at max wait timeout
Tells seed role at (acts.Change text timeout) b = IsNoProducer role × IsOwnChange role at text timeout
Tells seed role at (acts.Prolong text timeout) b = IsNoProducer role × ((own : List ℕ) (seconds : ℕ) → IsOwnChange role at own seconds)
Tells seed role at acts.Nothing b = Unit {0}
Tells seed role at act b = IsNoProducer role

untold : (seed : ℕ) (role : Role) (at : ℕ) (x : Act) (b : Actor) → IsNoProducer role → ((max wait : ℕ) (timeout : Option ℕ) → IsOwnCall role at max wait timeout) → ((text : List ℕ) (timeout : ℕ) → IsOwnChange role at text timeout) → (IsSender role → ⊥) → ((d : Draws) (g : Given) → GivesAt d role at g → ⊥) → Tells seed role at x b
untold seed role at (acts.Send body delay group id) b n o k i f = (λ s. absurd (i s), λ s g h. absurd (f (opening_draws seed b.number) g h), not_sent seed role at b n)
untold seed role at (acts.Receive max wait timeout) b n o k i f = (n, o max wait timeout)
untold seed role at (acts.Change text timeout) b n o k i f = (n, k text timeout)
untold seed role at (acts.Prolong text timeout) b n o k i f = (n, k)
untold seed role at acts.Nothing b n o k i f = tt
untold seed role at x b n o k i f = n

called : (seed : ℕ) (cs : List ScriptCall) (at : ℕ) (c : Call) (b : Actor) → ((max wait : ℕ) (timeout : Option ℕ) → c ≡ calls.Receive max wait timeout → IsOwnCall (Script cs) at max wait timeout) → ((text : List ℕ) (timeout : ℕ) → c ≡ calls.Change text timeout → IsOwnChange (Script cs) at text timeout) → ((x : Given) → given_in c ≡ Some x → GivesAt (opening_draws seed b.number) (Script cs) at x) → (IsSoundRole (Script cs) → (x : Given) → GivesAt (opening_draws seed b.number) (Script cs) at x → given_in c ≡ Some x) → Tells seed (Script cs) at (act_of c) b
called seed cs at (calls.Send body delay group id) b o k v e = (λ s. v (record { body = body; delay = delay; group = group; id = id }) refl, λ s x y. let is : Some (record { body = body; delay = delay; group = group; id = id }) ≡ Some x = e s x y in cc, tt)
called seed cs at (calls.Receive max wait timeout) b o k v e = (tt, o max wait timeout refl)
called seed cs at (calls.Delete receipt) b o k v e = tt
called seed cs at (calls.Change receipt timeout) b o k v e = (tt, k receipt timeout refl)
called seed cs at (calls.Start task) b o k v e = tt
called seed cs at (calls.Cancel task) b o k v e = tt

-- a script's next call is its only one at its moment
drop_first : (cs : List ScriptCall) (n : ℕ) (c : ScriptCall) (rest : List ScriptCall) → drop n cs ≡ c ∷ rest → In cs c
drop_first [] zero c rest e = cc
drop_first [] (suc n) c rest e = cc
drop_first (x ∷ xs) zero c rest e = inl cc
drop_first (x ∷ xs) (suc n) c rest e = inr (drop_first xs n c rest e)

only_then : (cs : List ScriptCall) (c x : ScriptCall) → Ascends (λ y. y.at) 0 cs → In cs c → In cs x → x.at ≡ c.at → x ≡ c
only_then cs c x s i j e =
    let one : find (λ y. y.at == c.at) cs ≡ Some c = found_by_number (λ (y : ScriptCall). y.at) 0 cs c s i in
    let other : find (λ y. y.at == x.at) cs ≡ Some x = found_by_number (λ (y : ScriptCall). y.at) 0 cs x s j in
    let same : Some x ≡ Some c = sym other ∙ ap (λ n. find (λ y. y.at == n) cs) e ∙ one in
    cc

script_gives : (seed : ℕ) (a : Actor) (cs : List ScriptCall) (at : ℕ) (rest : List ScriptCall) → drop a.wakes cs ≡ rest → first_at rest ≡ Some at → Tells seed (Script cs) at (script_wake a rest).0 (script_wake a rest).1
script_gives seed a cs at [] e w = tt
script_gives seed a cs at (c ∷ rest) e w =
    let now : c.at ≡ at = cc in
    called seed cs at c.call (script_wake a (c ∷ rest)).1 (λ max wait timeout y. (c, drop_first cs a.wakes c rest e, now, y)) (λ text timeout y. (c, drop_first cs a.wakes c rest e, now, y)) (λ x y. (c, drop_first cs a.wakes c rest e, now, y))
    (λ s g x. let is : x.0 ≡ c = only_then cs c x.0 s (drop_first cs a.wakes c rest e) x.1 (x.2 ∙ sym now) in ap (λ (y : ScriptCall). given_in y.call) (sym is) ∙ x.3)

script_wakes : (a : Actor) (cs rest : List ScriptCall) → drop a.wakes cs ≡ rest → WakesFor (Script cs) (script_wake a rest).1
script_wakes a cs [] e = ap first_at (sym e)
script_wakes a cs (c ∷ rest) e = ap first_at (sym (drop_next a.wakes cs c rest e))

-- the moments of a producer's messages go up
gap_by : (at : ℕ) (x : ℕ × Draws) → 1 ≤ x.0 → at < (after_gap at x).0
gap_by at (gap, draws) l = omega (arith, l)

gap_more : (p : ProducerSettings) (n : ℕ) (x : ℕ × Draws) → IsSoundDistribution p.gap → x.0 < (next_sending p n x).0
gap_more p n (at, draws) s = gap_by at (drawn_time p.gap (group_of p.groups n draws).1) (time_least p.gap (group_of p.groups n draws).1 s)

moments_up : (o : Draws) (p : ProducerSettings) (m n k : ℕ) → IsSoundDistribution p.gap → n + m ≡ k → (sending o p m).0 ≤ (sending o p k).0
moments_up o p m zero k s e =
    let same : (sending o p m).0 ≡ (sending o p k).0 = ap (λ i. (sending o p i).0) (let is : m ≡ k = omega (arith, e) in is) in omega (arith, same)
moments_up o p m (suc n) k s e =
    let j : ℕ = n + m in
    let up : (sending o p m).0 ≤ (sending o p j).0 = moments_up o p m n j s refl in
    let more : (sending o p j).0 < (sending o p (suc j)).0 = gap_more p j (sending o p j) s in
    let same : (sending o p (suc j)).0 ≡ (sending o p k).0 = ap (λ i. (sending o p i).0) (let is : suc j ≡ k = omega (arith, e) in is) in
    omega (arith, up, more, same)

moments_less : (o : Draws) (p : ProducerSettings) (m n : ℕ) → IsSoundDistribution p.gap → m < n → (sending o p m).0 < (sending o p n).0
moments_less o p m n s l =
    let more : (sending o p m).0 < (sending o p (suc m)).0 = gap_more p m (sending o p m) s in
    let up : (sending o p (suc m)).0 ≤ (sending o p n).0 = moments_up o p (suc m) (n - suc m) n s (omega (arith, l)) in
    omega (arith, more, up)

one_message : (o : Draws) (p : ProducerSettings) (m n : ℕ) → IsSoundDistribution p.gap → (sending o p m).0 ≡ (sending o p n).0 → m ≡ n
one_message o p m n s e =
    elim (cases_order m n) as (λ _. m ≡ n) [
      | inl k ↦ k
      | inr l ↦
          elim l as (λ _. m ≡ n) [
            | inl k ↦ absurd (let less : (sending o p m).0 < (sending o p n).0 = moments_less o p m n s k in omega (arith, less, e))
            | inr k ↦ absurd (let less : (sending o p n).0 < (sending o p m).0 = moments_less o p n m s k in omega (arith, less, e))
          ]
    ]

-- a producer's next message
sends_gives : (seed : ℕ) (a : Actor) (p : ProducerSettings) (at : ℕ) (x : Option (List ℕ) × Draws) → group_of p.groups a.wakes a.draws ≡ x → sending (opening_draws seed a.number) p a.wakes ≡ (at, a.draws) → Tells seed (Producer p) at (producer_sends a p x).0 (producer_sends a p x).1
sends_gives seed a p at (group, draws) e w = (
  λ s. (a.wakes, ap (λ (z : ℕ × Draws). z.0) w, ap (λ (z : ℕ × Draws). message_given p a.number a.wakes z.1) w ∙ ap (λ (z : Option (List ℕ) × Draws). record { body = filled (decimal a.wakes) p.body; delay = p.delay; group = z.0; id = id_given p a.number a.wakes }) e),
  λ s g (i, t, y).
      let o : Draws = opening_draws seed a.number in
      let is : i ≡ a.wakes = one_message o p i a.wakes s (t ∙ sym (ap (λ (z : ℕ × Draws). z.0) w)) in
      let own : message_given p a.number a.wakes a.draws ≡ message_given p a.number i (sending o p i).1 = ap (λ (z : ℕ × Draws). message_given p a.number a.wakes z.1) (sym w) ∙ ap (λ k. message_given p a.number k (sending o p k).1) (sym is) in
      ap (λ (z : Option (List ℕ) × Draws). record { body = filled (decimal a.wakes) p.body; delay = p.delay; group = z.0; id = id_given p a.number a.wakes }) (sym e) ∙ own ∙ y,
  record { n = a.wakes; draws = a.draws; sent = omega arith; now = w; drawn = ap (λ (z : Option (List ℕ) × Draws). z.1) (sym e) },
)

sends_waits : (seed : ℕ) (a : Actor) (p : ProducerSettings) (x : Option (List ℕ) × Draws) → Waits seed (Producer p) (producer_sends a p x).1
sends_waits seed a p (group, draws) = λ t e. cc

after_waits : (seed : ℕ) (a : Actor) (p : ProducerSettings) (now : ℕ) (y : ℕ × Draws) → drawn_time p.gap a.draws ≡ y → JustSent (opening_draws seed a.number) p now a → Waits seed (Producer p) (wakes_after a now y)
after_waits seed a p now (gap, draws) e h =
    λ t w.
    let o : Draws = opening_draws seed a.number in
    let at : now + gap ≡ t = cc in
    let next : sending o p (suc h.n) ≡ after_gap now (drawn_time p.gap (group_of p.groups h.n h.draws).1) = ap (next_sending p h.n) h.now in
    let drawn : after_gap now (drawn_time p.gap (group_of p.groups h.n h.draws).1) ≡ (now + gap, draws) = ap (λ d. after_gap now (drawn_time p.gap d)) (sym h.drawn) ∙ ap (after_gap now) e in
    ap (sending o p) h.sent ∙ next ∙ drawn ∙ ap (λ k. (k, draws)) at

-- an actor that has its turn, of a role
as_gives : (seed : ℕ) (role : Role) (a : Actor) (now : ℕ) (w : Answer) → Waits seed role a → ((st : Standing) → w ≡ told_by.Wake st → a.wake ≡ Some now) → Tells seed role now (next_as role a now w).0 (next_as role a now w).1
as_gives seed (Script cs) a now (told_by.Wake st) f h = script_gives seed a cs now (drop a.wakes cs) refl (sym f ∙ h st refl)
as_gives seed (Script cs) a now w f h = tt
as_gives seed (Producer p) a now (told_by.Wake st) f h =
    either (λ (x : Act × Actor). Tells seed (Producer p) now x.0 x.1) (has_come p.stop now) (acts.Nothing, woken a) (producer_sends a p (group_of p.groups a.wakes a.draws)) tt
    (sends_gives seed a p now (group_of p.groups a.wakes a.draws) refl (f now (h st refl)))
as_gives seed (Producer p) a now told_by.Other f h = either (λ (x : Act × Actor). Tells seed (Producer p) now x.0 x.1) (nat_lt a.wakes p.count) (acts.Nothing, wakes_after a now (drawn_time p.gap a.draws)) (acts.Nothing, a) tt tt
as_gives seed (Producer p) a now w f h = tt
as_gives seed (Consumer c) a now w f h = untold seed (Consumer c) now (next_as (Consumer c) a now w).0 (next_as (Consumer c) a now w).1 tt (λ _ _ _. tt) (λ _ _. tt) (λ h. h) (λ d g e. e)
as_gives seed (Scaler s) a now w f h = untold seed (Scaler s) now (next_as (Scaler s) a now w).0 (next_as (Scaler s) a now w).1 tt (λ _ _ _. tt) (λ _ _. tt) (λ h. h) (λ d g e. e)

as_waits : (seed : ℕ) (role : Role) (a : Actor) (now : ℕ) (w : Answer) → Waits seed role a → (w ≡ told_by.Other → HasSent seed role now a) → Waits seed role (next_as role a now w).1
as_waits seed (Script cs) a now (told_by.Wake st) f h = script_wakes a cs (drop a.wakes cs) refl
as_waits seed (Script cs) a now w f h = f
as_waits seed (Producer p) a now (told_by.Wake st) f h =
    either (λ (x : Act × Actor). Waits seed (Producer p) x.1) (has_come p.stop now) (acts.Nothing, woken a) (producer_sends a p (group_of p.groups a.wakes a.draws)) (λ t e. cc)
    (sends_waits seed a p (group_of p.groups a.wakes a.draws))
as_waits seed (Producer p) a now told_by.Other f h =
    either (λ (x : Act × Actor). Waits seed (Producer p) x.1) (nat_lt a.wakes p.count) (acts.Nothing, wakes_after a now (drawn_time p.gap a.draws)) (acts.Nothing, a)
    (after_waits seed a p now (drawn_time p.gap a.draws) refl (h refl)) f
as_waits seed (Producer p) a now w f h = f
as_waits seed (Consumer c) a now w f h = tt
as_waits seed (Scaler s) a now w f h = tt

next_gives : (seed : ℕ) (a : Actor) (now : ℕ) (w : Answer) → Waits seed a.settings.role a → ((st : Standing) → w ≡ told_by.Wake st → a.wake ≡ Some now) → Tells seed a.settings.role now (next a now w).0 (next a now w).1
unfolding next
next_gives seed a now w f h = as_gives seed a.settings.role a now w f h

next_waits : (seed : ℕ) (a : Actor) (now : ℕ) (w : Answer) → Waits seed a.settings.role a → (w ≡ told_by.Other → HasSent seed a.settings.role now a) → Waits seed a.settings.role (next a now w).1
unfolding next
next_waits seed a now w f h = as_waits seed a.settings.role a now w f h

polled_waits : (seed : ℕ) (role : Role) (a : Actor) (n : ℕ) → Waits seed role a → Waits seed role (record a { polls = n })
polled_waits seed (Script cs) a n f = f
polled_waits seed (Producer p) a n f = f
polled_waits seed (Consumer c) a n f = tt
polled_waits seed (Scaler s) a n f = tt

-- an actor has the settings of its number, and waits for what it does next
pub record Fits (u : Scenario) (a : Actor) : Type 0 where
  pub settings : slice_get u.actors (a.number - length u.queues) ≡ Some a.settings
  pub inside : is_actor_of u a.number ≡ true
  pub waits : Waits u.seed a.settings.role a

first_waits : (u : Scenario) (n : ℕ) (a : ActorSettings) (role : Role) → a.role ≡ role → Waits u.seed role (opening_actor u.seed (n, a))
first_waits u n a (Script cs) e = wakes_first u n a (Script cs) e
first_waits u n a (Producer p) e = λ t w. let at : p.start ≡ t = let first : first_wake (Producer p) ≡ Some t = ap first_wake (sym e) ∙ w in cc in ap (λ k. (k, opening_draws u.seed n)) at
first_waits u n a (Consumer c) e = tt
first_waits u n a (Scaler s) e = tt

pub first_fits : (u : Scenario) (n : ℕ) (a : ActorSettings) → slice_get u.actors (n - length u.queues) ≡ Some a → length u.queues ≤ n → Fits u (opening_actor u.seed (n, a))
first_fits u n a e l =
    let within : n - length u.queues < length u.actors = slice_get_within u.actors (n - length u.queues) a e in
    let low : nat_le (length u.queues) n ≡ true = grind (arith, nat_tests, l) in
    let high : nat_lt n (length u.queues + length u.actors) ≡ true = grind (arith, nat_tests, l, within) in
    record { inside = rw (low, high) refl; settings = e; waits = first_waits u n a a.role refl }

pub polled_fits : (u : Scenario) (a : Actor) (n : ℕ) → Fits u a → Fits u (record a { polls = n })
polled_fits u a n f = record { inside = f.inside; settings = f.settings; waits = polled_waits u.seed a.settings.role a n f.waits }

-- the actors of a site, in the order of their numbers
pub record AreOfScenario (u : Scenario) (actors : List Actor) : Type 0 where
  pub fit : All (Fits u) actors
  pub climb : Ascends (λ a. a.number) 0 actors

-- what an actor gives at a moment, by the settings
abbrev pub Gives : Scenario → ℕ → ℕ → Given → Type 0
Gives u at agent given =
    ((x : ActorSettings) → slice_get u.actors (agent - length u.queues) ≡ Some x → IsSender x.role → GivesAs u agent at given)
    × (All (λ x. IsSoundRole x.role) u.actors → (x : Given) → GivesAs u agent at x → given ≡ x)

abbrev pub MayGive : Scenario → ℕ → Actor → Act → Type 0
MayGive u at a (acts.Send body delay group id) = Gives u at a.number (record { body = body; delay = delay; group = group; id = id }) × HasSent u.seed a.settings.role at a
MayGive u at a (acts.Receive max wait timeout) = IsNoProducer a.settings.role × IsOwnCall a.settings.role at max wait timeout
MayGive u at a (acts.Change text timeout) = IsNoProducer a.settings.role × (slice_get u.actors (a.number - length u.queues) ≡ Some a.settings) × IsOwnChange a.settings.role at text timeout
MayGive u at a (acts.Prolong text timeout) = IsNoProducer a.settings.role × (slice_get u.actors (a.number - length u.queues) ≡ Some a.settings) × ((own : List ℕ) (seconds : ℕ) → IsOwnChange a.settings.role at own seconds)
MayGive u at a acts.Nothing = Unit {0}
MayGive u at a act = IsNoProducer a.settings.role

may_give : (u : Scenario) (at : ℕ) (a : Actor) (x : Act) → slice_get u.actors (a.number - length u.queues) ≡ Some a.settings → Tells u.seed a.settings.role at x a → MayGive u at a x
may_give u at a (acts.Send body delay group id) f h = (
  (
    λ x e w. (a.settings, f, h.0 (let is : x ≡ a.settings = let both : Some x ≡ Some a.settings = sym e ∙ f in cc in subst (λ (z : ActorSettings). IsSender z.role) is w)),
    λ s g (x, e, y).
        let is : x ≡ a.settings = let both : Some x ≡ Some a.settings = sym e ∙ f in cc in
        let i : ℕ = a.number - length u.queues in
        let role : IsSoundRole a.settings.role = at_place (λ z. IsSoundRole z.role) u.actors i a.settings s f in
        h.1 role g (subst (λ (z : ActorSettings). GivesAt (opening_draws u.seed a.number) z.role at g) is y),
  ),
  h.2,
)
may_give u at a (acts.Receive max wait timeout) f h = h
may_give u at a (acts.Delete text) f h = h
may_give u at a (acts.Change text timeout) f h = (h.0, f, h.1)
may_give u at a (acts.Prolong text timeout) f h = (h.0, f, h.1)
may_give u at a (acts.Start task) f h = h
may_give u at a (acts.Cancel task) f h = h
may_give u at a (acts.Serve id receipt failed forward) f h = h
may_give u at a (acts.Scale from to) f h = h
may_give u at a acts.Nothing f h = tt

-- one of them has its turn
module _ (u : Scenario) (actors : List Actor) where
  pub stands : (b : Actor) → Fits u b → AreOfScenario u actors → AreOfScenario u (changed (is_actor b.number) (λ _. b) actors)
  stands b f h =
      record {
        fit = all_changed (is_actor b.number) (Fits u) (λ _. b) (λ _ _. f) actors h.fit;
        climb = ascends_changed (λ x. x.number) (is_actor b.number) (λ _. b) (λ m t. sym (eqb-true m.number b.number t)) 0 actors h.climb;
      }

  pub turned_found : (key : Key) (n : ℕ) (a : Actor) (w : Answer) → find (is_actor n) actors ≡ Some a → find (is_actor (next a key.at w).1.number) (changed (is_actor (next a key.at w).1.number) (λ _. (next a key.at w).1) actors) ≡ Some (next a key.at w).1
  turned_found key n a w e =
      let b : Actor = (next a key.at w).1 in
      let same : b.number ≡ n = (next_decides key.at a w).number ∙ eqb-true a.number n (find_picked (is_actor n) actors a e) in
      find_changed (is_actor b.number) (λ _. b) actors a (subst (λ k. find (is_actor k) actors ≡ Some a) (sym same) e) (eq-eqb b.number b.number refl)

  module _ (key : Key) (n : ℕ) (a : Actor) (w : Answer) (e : find (is_actor n) actors ≡ Some a) (h : AreOfScenario u actors) where
    own : Fits u a
    own = find_all (is_actor n) (Fits u) actors a h.fit e

    pub standing : (w ≡ told_by.Other → HasSent u.seed a.settings.role key.at a) → Fits u (next a key.at w).1
    standing x =
        let d = next_decides key.at a w in
        record {
          inside = ap (is_actor_of u) d.number ∙ own.inside;
          settings = ap (λ i. slice_get u.actors (i - length u.queues)) d.number ∙ own.settings ∙ ap (λ x. Some x) (sym d.settings);
          waits = subst (λ (y : ActorSettings). Waits u.seed y.role (next a key.at w).1) (sym d.settings) (next_waits u.seed a key.at w own.waits x);
        }

    -- what it gives
    pub turn_gives : Fits u (next a key.at w).1 → ((st : Standing) → w ≡ told_by.Wake st → a.wake ≡ Some key.at) → MayGive u key.at (next a key.at w).1 (next a key.at w).0
    turn_gives f x =
        let d = next_decides key.at a w in
        may_give u key.at (next a key.at w).1 (next a key.at w).0 f.settings (subst (λ (y : ActorSettings). Tells u.seed y.role key.at (next a key.at w).0 (next a key.at w).1) (sym d.settings) (next_gives u.seed a key.at w own.waits x))

-- the actor that a key wakes, and one that has acted
abbrev pub IsAwake : Key → Core → ℕ → Type 0
IsAwake key c n = (a : Actor) → actor_numbered n c ≡ Some a → a.wake ≡ Some key.at

abbrev pub HasActed : Scenario → Key → Core → ℕ → Type 0
HasActed u key c n = (a : Actor) → actor_numbered n c ≡ Some a → HasSent u.seed a.settings.role key.at a

-- an act that is no send is none of a producer
pub other_acted : (u : Scenario) (key : Key) (a : Actor) (d : Core) → Fits u a → IsNoProducer a.settings.role → AreOfScenario u d.actors → HasActed u key d a.number
other_acted u key a d f i h b e =
    let own : Fits u b = find_all (is_actor a.number) (Fits u) d.actors b h.fit e in
    let number : b.number ≡ a.number = eqb-true b.number a.number (find_picked (is_actor a.number) d.actors b e) in
    let same : a.settings ≡ b.settings = let both : Some a.settings ≡ Some b.settings = sym f.settings ∙ ap (λ k. slice_get u.actors (k - length u.queues)) (sym number) ∙ own.settings in cc in
    not_sent u.seed b.settings.role key.at b (subst (λ (x : ActorSettings). IsNoProducer x.role) same i)

pub due_awake : (key : Key) (s : Site) → Ascends (λ a. a.number) 0 s.core.actors → In (dues s) key → key.class ≡ Wake → IsAwake key s.core key.agent
due_awake key s k =
    of_site (λ y. y.class ≡ Wake → IsAwake y s.core y.agent) key s (λ o i e. cc)
    (record {
      expiry = λ m i e. cc;
      release = λ m at i r e. cc;
      poll = λ p i e. cc;
      wake = λ a at i w e x f.
          let own : actor_numbered a.number s.core ≡ Some a = found_by_number (λ (y : Actor). y.number) 0 s.core.actors a k i in
          let is : a ≡ x = cc in
          subst (λ (y : Actor). y.wake ≡ Some at) is w;
      sample = λ z e. cc;
      step = λ t i r e. cc;
    })

-- The first transfer that is taken is the one that arrives.
use Rattle.std.specs.Prelude.{Err, IfSome, Ok, Result, List, MatchOption, None, Option, Some, [], cond, false, find, if◌then◌else◌, map, true, ◌∷◌, ◌≡◌, ◌⊎◌, Bool}
use Rattle.std.specs.Ordering.{is_eq, is_lt}
use Rattle.std.proofs.Common.{ap, inl, inr, refl, subst, sym, ◌∙◌}
use Rattle.std.proofs.lemmas.Cmp.{tied_itself}
use Rattle.sim_clock.specs.declared.key.Class.TheVariants.{Arrival}
use Rattle.sim_clock.specs.declared.key.Key.{Key}
use Rattle.sim_clock.specs.declared.refusal.Refusal.{Refusal}
use Rattle.sim_clock.specs.Firsts.{without}
use Rattle.sim_clock.specs.Order.{key_cmp, key_cmp_total, least, lesser}
use Rattle.sqs_redrive.specs.declared.transfers.Outbound.{Outbound}
use Rattle.sqs_redrive.specs.Transfers.{transfer_key}
use Rattle.sqs_model.specs.Dues.{core_dues, least_due}
use Rattle.sqs_model.specs.Limits.{effect_of}
use Rattle.sqs_model.specs.Site.{Core, Effect, Site, has_key}
use Rattle.sqs_model.specs.Step.{Handled, handle_arrival, handled, handled_when, is_arrival, left_with, with_polls}
use Rattle.sqs_model.proofs.WorldMoves.{least_in}
use Rattle.sim_site.specs.Effects.{Did, DidHandle, Does, Effects, HasHandled, Stops}
use Rattle.sim_site.specs.declared.handling.Handling.{Handling}
use Rattle.sim_site.proofs.Due.{no_arrival}
use Rattle.sim_site.proofs.Least.{due_parts}

either_by : (a b key : Key) (t : Bool) → (if t then Some b else Some a) ≡ Some key → (Some a ≡ Some key) ⊎ (Some b ≡ Some key)
either_by a b key true h = inr h
either_by a b key false h = inl h

-- the lesser of two is one of them
lesser_is : (a b : Option Key) (key : Key) → lesser a b ≡ Some key → (a ≡ Some key) ⊎ (b ≡ Some key)
lesser_is None b key h = inr h
lesser_is (Some a) None key h = inl h
lesser_is (Some a) (Some b) key h = either_by a b key (is_lt (key_cmp b a)) h

-- an arrival that is due next is the least on its way
least_arrives : (s : Site) (key : Key) → least_due s ≡ Some key → key.class ≡ Arrival → least (map transfer_key s.arriving) ≡ Some key
least_arrives s key due is =
    elim (lesser_is (least (map transfer_key s.arriving)) (least (core_dues s.core)) key (due_parts s.core s.arriving ∙ due)) as (λ _. least (map transfer_key s.arriving) ≡ Some key) [
      | inl h ↦ h
      | inr h ↦ absurd (no_arrival s.core key is (least_in (core_dues s.core) key h))
    ]

-- what is taken of transfers is the one of a key, and the others are left
pub record Takes (key : Key) (before : List Outbound) (taken : Option Outbound) (after : List Outbound) : Type 0 where
  pub found : taken ≡ find (has_key key) before
  pub rest : after ≡ without (has_key key) before

taken_by : (key : Key) (t : Outbound) (ts : List Outbound) (b : Bool) → has_key key t ≡ b → b ≡ true → Takes key (t ∷ ts) (Some t) ts
taken_by key t ts true e h = record { found = ap (λ c. cond c (Some t) (find (has_key key) ts)) (sym e); rest = ap (λ c. if c then ts else t ∷ without (has_key key) ts) (sym e) }
taken_by key t ts false e h = cc

first_taken : (key : Key) (t : Outbound) (ts : List Outbound) → Some (transfer_key t) ≡ Some key → Takes key (t ∷ ts) (Some t) ts
first_taken key t ts h =
    let same : key ≡ transfer_key t = cc in
    let tied : has_key key t ≡ true = ap (λ k. is_eq (key_cmp k (transfer_key t))) same ∙ ap is_eq (tied_itself key_cmp_total (transfer_key t)) in
    taken_by key t ts true tied refl

-- the first of those on their way, where an arrival is due next
pub first_arrives :
    (s : Site) (key : Key) (taken : Option Outbound) (after : List Outbound) → least_due s ≡ Some key → key.class ≡ Arrival
    → MatchOption taken ((s.arriving ≡ []) × (after ≡ [])) (λ first. s.arriving ≡ first ∷ after)
    → IfSome taken (λ first. least (map transfer_key s.arriving) ≡ Some (transfer_key first)) → Takes key s.arriving taken after
first_arrives s key None after due is h l = rw (h.0, h.1) (record { found = refl; rest = refl })
first_arrives s key (Some t) after due is h l =
    subst (λ ts. Takes key ts (Some t) after) (sym h) (first_taken key t after (sym l ∙ least_arrives s key due is))

-- the handling of an arrival, by what is taken
handled_taken :
    (s : Site) (key : Key) (taken : Option Outbound) (after : List Outbound) → key.class ≡ Arrival → Takes key s.arriving taken after
    → handled key s ≡ left_with after (with_polls key (handle_arrival key taken s.core))
unfolding handled
handled_taken s key taken after is t =
    ap (λ c. handled_when (is_arrival c) key s) is ∙ ap (λ ts. left_with ts (with_polls key (handle_arrival key (find (has_key key) s.arriving) s.core))) (sym t.rest)
    ∙ ap (λ o. left_with after (with_polls key (handle_arrival key o s.core))) (sym t.found)

did_left : (a b : Effects) (c : Core) (ts : List Outbound) (e : Effect) → Did a b c e → DidHandle a b (record { core = c; arriving = ts }) (left_with ts e)
did_left a b c ts e d = record { site = ap (λ (x : Core). record { core = x; arriving = ts }) d.core; rows = d.rows; sent = d.sent }

-- an arrival is handled where its effect is done at the rest of the site, and stops where that stops
pub arrival_done :
    (r : Result (Unit {0}) Refusal) (a b : Handling) (c : Core) (s : Site) (key : Key) (taken : Option Outbound) (after : List Outbound) → key.class ≡ Arrival → Takes key s.arriving taken after
    → Does r a b c (with_polls key (handle_arrival key taken s.core)) → HasHandled r a b (record { core = c; arriving = after }) (handled key s)
arrival_done (Ok u) a b c s key taken after is t (on, d) =
    (on, subst (DidHandle a.effects.now b.effects.now (record { core = c; arriving = after })) (sym (handled_taken s key taken after is t)) (did_left a.effects.now b.effects.now c after (with_polls key (handle_arrival key taken s.core)) d))
arrival_done (Err x) a b c s key taken after is t h = subst (λ (y : Handled). Stops (effect_of y) x) (sym (handled_taken s key taken after is t)) h

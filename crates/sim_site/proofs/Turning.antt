-- The change of one actor of a site.
use Rattle.std.proofs.Common.{◌≡◌, ℕ, ◌+◌, Bool, true, false, List, [], ◌∷◌, Some, None, cond, if◌then◌else◌, get_or, set, map, arith, refl, ap, sym, subst, ◌∙◌}
use Rattle.std.specs.Prelude.{All, Err, IfOk, Ok, Result, find}
use Rattle.std.proofs.lemmas.Bool.Decides.{nat_tests}
use Rattle.std.proofs.lemmas.List.Elements.{All-head, All-tail}
use Rattle.sim_clock.specs.declared.refusal.Refusal.{Refusal}
use Rattle.sim_clock.specs.Firsts.{changed}
use Rattle.sqs_model.specs.declared.acts.Act.{Act}
use Rattle.sqs_model.specs.declared.acts.Answer.{Answer}
use Rattle.sqs_model.specs.declared.agents.ActorSettings.{ActorSettings}
use Rattle.sqs_model.specs.Actor.{Actor, next}
use Rattle.sim_clock.specs.Places.{Stands}
use Rattle.sim_site.proofs.Ordered.{its_number}
use Rattle.sqs_model.specs.Site.{is_actor}
use Rattle.sqs_model.proofs.Counts.{find_changed, find_picked}
use Rattle.sim_actor.specs.Lives.{Decides, FollowsUp, IsFramed, act_following}
use Rattle.sim_actor.specs.declared.replies.FollowUp.{FollowUp}
use Rattle.sim_site.specs.Kept.{HasShortWaits, WaitsShortly}
use Rattle.sim_site.specs.Turns.{Polled, Turned}
use Rattle.sim_site.proofs.Waits.{next_waits}

module _ {A B : Type 0} (p : A → Bool) (f : A → B) where
  -- a change that a reading does not see
  pub map_changed : (y : A) (xs : List A) (x : A) → find p xs ≡ Some x → f y ≡ f x → map f (changed p (λ _. y) xs) ≡ map f xs
  map_changed y [] x e h = refl
  map_changed y (z ∷ zs) x e h =
      elim (p z) as (λ b. cond b (Some z) (find p zs) ≡ Some x → map f (if b then y ∷ zs else z ∷ changed p (λ _. y) zs) ≡ f z ∷ map f zs) [
        | true ↦ λ k. let same : z ≡ x = cc in ap (λ w. w ∷ map f zs) (h ∙ ap f (sym same))
        | false ↦ λ k. ap (λ t. f z ∷ t) (map_changed y zs x k h)
      ] e

  -- what holds of all readings holds of that of one that is found
  pub all_found : (P : B → Type 0) (xs : List A) (x : A) → All P (map f xs) → find p xs ≡ Some x → P (f x)
  all_found P [] x h e = absurd (let k : None ≡ Some x = e in cc)
  all_found P (z ∷ zs) x h e =
      elim (p z) as (λ b. cond b (Some z) (find p zs) ≡ Some x → P (f x)) [
        | true ↦ λ k. let same : z ≡ x = cc in subst (λ w. P (f w)) same (All-head P (f z) (map f zs) h)
        | false ↦ λ k. all_found P zs x (All-tail P (f z) (map f zs) h) k
      ] e

pub is_its_number : (n : ℕ) (a : Actor) → is_actor n a ≡ true → a.number ≡ n
is_its_number n a h = grind (arith, nat_tests)

pub found_number : (n : ℕ) (xs : List Actor) (a : Actor) → find (is_actor n) xs ≡ Some a → a.number ≡ n
found_number n xs a e = is_its_number n a (find_picked (is_actor n) xs a e)

module _ (n : ℕ) (xs : List Actor) (i : ℕ) (s : Stands (is_actor n) xs i) (a : Actor) (e : a ≡ get_or xs i a) where
  pub found_at : find (is_actor n) xs ≡ Some a
  found_at = s.found a ∙ ap (λ x. Some x) (sym e)

  pub set_at : (b : Actor) → set xs i b ≡ changed (is_actor n) (λ _. b) xs
  set_at b = sym (s.change (λ _. b) a)

  pub settings_at : (b : Actor) → b.settings ≡ a.settings → map (λ (x : Actor). x.settings) (set xs i b) ≡ map (λ (x : Actor). x.settings) xs
  settings_at b h = rw (set_at b) (map_changed (is_actor n) (λ (x : Actor). x.settings) b xs a found_at h)

  pub numbers_at : (b : Actor) → b.number ≡ a.number → map (λ (x : Actor). x.number) (set xs i b) ≡ map (λ (x : Actor). x.number) xs
  numbers_at b h = rw (set_at b) (map_changed (is_actor n) (λ (x : Actor). x.number) b xs a found_at h)

  pub turned_at : (now : ℕ) (told : Answer) (act : Act) (b : Actor) → next a now told ≡ (act, b) → IsFramed a b → Turned n now told act xs (set xs i b)
  turned_at now told act b d f =
      let number : b.number ≡ n = f.number ∙ found_number n xs a found_at in
      record {
        before = a;
        after = b;
        found = found_at;
        decides = d;
        number = number;
        list = set_at b;
        there = rw (set_at b) (find_changed (is_actor n) (λ _. b) xs a found_at (its_number n b number));
      }

  pub turned_if : (now : ℕ) (told : Answer) (r : Result Act Refusal) (b : Actor) → Decides r b (next a now told) → IsFramed a b → IfOk r (λ act. Turned n now told act xs (set xs i b))
  turned_if now told (Ok act) b d f = turned_at now told act b d f
  turned_if now told (Err refusal) b d f = tt

  pub followed_if :
      (now : ℕ) (told : Answer) (r : Result FollowUp Refusal) (b : Actor) → FollowsUp r b (next a now told) → IsFramed a b
      → IfOk r (λ f. Turned n now told (act_following f) xs (set xs i b))
  followed_if now told (Ok f) b d framed = turned_at now told (act_following f) b d framed
  followed_if now told (Err refusal) b d framed = tt

  pub waits_if : (now : ℕ) (told : Answer) (r : Result Act Refusal) (b : Actor) → Decides r b (next a now told) → All (λ (x : ActorSettings). HasShortWaits x.role) (map (λ (x : Actor). x.settings) xs) → IfOk r WaitsShortly
  waits_if now told (Ok act) b d h =
      subst (λ (x : Act × Actor). WaitsShortly x.0) d (next_waits a now told (all_found (is_actor n) (λ (x : Actor). x.settings) (λ (x : ActorSettings). HasShortWaits x.role) xs a h found_at))
  waits_if now told (Err refusal) b d h = tt

  pub polled_as : (polls : ℕ) (b : Actor) → a.polls ≡ polls → b ≡ record a { polls = a.polls + 1 } → Polled n polls xs (set xs i b)
  polled_as polls b h k = record { before = a; found = found_at; count = h; list = set_at b ∙ ap (λ x. changed (is_actor n) (λ _. x) xs) k }

-- A handling of a key leaves nothing due that comes before the key, where nothing that was due came before it, and makes
-- nothing due that is not later.
use Rattle.std.specs.Prelude.{All, Bool, List, [], false, true, ℕ, ◌<◌, ◌∷◌, ◌≡◌, ◌≤◌, not, ◌&&◌, nat_le}
use Rattle.std.specs.List.{list_any}
use Rattle.std.specs.Ordering.{is_lt}
use Rattle.std.proofs.Common.{ap, arith, inl, inr, refl, sym, ◌∙◌, subst}
use Rattle.std.proofs.lemmas.Bool.{leb-false, and_parts, leb-true, le-leb, lt-leb}
use Rattle.std.proofs.lemmas.List.Elements.{All-cons, All-head, All-nil, All-tail}
use Rattle.std.proofs.lemmas.Map.Views.{Contains-from_any}
use Rattle.sim_clock.specs.declared.key.Key.{Key}
use Rattle.sim_clock.specs.Order.{key_cmp, same_key}
use Rattle.sim_clock.proofs.Least.{key_tied}
use Rattle.sim_clock.proofs.Orderings.{key_self, key_less}
use Rattle.sqs_redrive.specs.Transfers.{transfer_key}
use Rattle.sqs_model.specs.Dues.{dues}
use Rattle.sqs_model.specs.NoneBefore.{HandlingLeavesNoneBefore, HandlingMakesNothingDueNow, IsLaterOrIn}
use Rattle.sqs_model.specs.Progress.{IsSound}
use Rattle.sqs_model.specs.Site.{Site, has_key, number_of}
use Rattle.sqs_model.specs.Step.{handled, handled_when, is_arrival}
use Rattle.sqs_model.proofs.Branches.{by_cases}
use Rattle.sqs_model.proofs.Counts.{less_without, total}
use Rattle.sqs_model.proofs.Kept.{handled_number}
use Rattle.sqs_model.proofs.Members.{In, all_in, of_all, contains_in, in_contains}
use Rattle.sqs_model.proofs.StepMoves.{handled_keeps}
use Rattle.sqs_model.proofs.Weights.{Weight, site_is, site_weight}
use Rattle.std.proofs.lemmas.List.Folds.{list_any_at}
use Rattle.sqs_model.proofs.Ledger.{bit}

-- a sum of nothing
none_together : {A : Type 0} (f : A → ℕ) (xs : List A) → All (λ x. f x ≡ 0) xs → total f xs ≡ 0
none_together f [] a = refl
none_together f (x ∷ xs) a = omega (arith, All-head (λ y. f y ≡ 0) x xs a, none_together f xs (All-tail (λ y. f y ≡ 0) x xs a))

none_each : {A : Type 0} (f : A → ℕ) (xs : List A) → total f xs ≡ 0 → All (λ x. f x ≡ 0) xs
none_each f [] e = All-nil (λ x. f x ≡ 0)
none_each f (x ∷ xs) e = All-cons (λ y. f y ≡ 0) x xs (omega (arith, e)) (none_each f xs (omega (arith, e)))

module _ (key : Key) (s : Site) (h : IsSound s.core) where
  fewer_arrive : (f : _ → ℕ) (b : Bool) → total f (handled_when b key s).site.arriving ≤ total f s.arriving
  fewer_arrive f true = less_without (has_key key) f s.arriving
  fewer_arrive f false = omega arith

  -- a handling makes nothing heavier
  lighter : (w : Weight key.at) → site_weight w (handled key s).site ≤ site_weight w s
  unfolding handled
  lighter w = omega (arith, (handled_keeps key w s h).fewer, fewer_arrive (λ o. w.of (transfer_key o)) (is_arrival key.class))

  -- where nothing that is due weighs anything, nothing does after a handling
  weightless : (w : Weight key.at) → w.site ≡ number_of s.core → All (λ k. w.of k ≡ 0) (dues s) → All (λ k. w.of k ≡ 0) (dues (handled key s).site)
  weightless w e a =
      let after : Site = (handled key s).site in
      none_each w.of (dues after) (omega (arith, none_together w.of (dues s) a, site_is w s e, site_is w after (e ∙ sym (handled_number key s)), lighter w))

-- a key of an earlier moment comes before one of a later
lt_later : (j k : Key) → k.at < j.at → is_lt (key_cmp j k) ≡ false
lt_later j k l = grind (arith)

lt_sooner : (j k : Key) → k.at < j.at → is_lt (key_cmp k j) ≡ true
lt_sooner j k l = grind (arith)

-- one for each key that has something that no later key has, and that goes with it to earlier ones
abbrev flagged : (now site : ℕ) (has : Key → Bool) → ((k : Key) → now < k.at → has k ≡ false) → ((j k : Key) → k.at < j.at → has j ≡ true → has k ≡ true) → Weight now
flagged now site has past less =
    record {
      of = λ k. bit (has k);
      site = site;
      past = λ k l. ap bit (past k l);
      less = λ j k l. by_cases (has j) (λ t. rw (t, less j k l t) (omega arith)) (λ n. rw n (omega arith));
    }

-- what nothing that is due has, nothing has after a handling
none_has :
    (key : Key) (s : Site) (has : Key → Bool) → IsSound s.core → ((k : Key) → key.at < k.at → has k ≡ false) → ((j k : Key) → k.at < j.at → has j ≡ true → has k ≡ true)
    → ((k : Key) → In (dues s) k → has k ≡ false) → (k : Key) → In (dues (handled key s).site) k → has k ≡ false
none_has key s has h past less none k i =
    let before : All (λ j. bit (has j) ≡ 0) (dues s) = all_in (λ j. bit (has j) ≡ 0) (dues s) (λ j l. ap bit (none j l)) in
    let a = weightless key s h (flagged key.at (number_of s.core) has past less) refl before in
    let nothing : bit (has k) ≡ 0 = of_all (λ j. bit (has j) ≡ 0) (dues (handled key s).site) k a i in
    by_cases (has k) (λ t. absurd (let one : bit (has k) ≡ 1 = ap bit t in omega arith)) (λ n. n)

-- nothing that comes before the handled key, where nothing due does
pub leaves_none_before : HandlingLeavesNoneBefore
leaves_none_before key s h f =
    let first : Key → Bool = λ k. is_lt (key_cmp k key) in
    all_in (λ k. first k ≡ false) (dues (handled key s).site)
    (none_has key s first h (λ k l. lt_later k key l) (λ j k l t. lt_sooner key k (omega (arith, l, key_less j key t))) (λ k i. of_all (λ j. first j ≡ false) (dues s) k f i))

-- nothing new that is not later
pub makes_nothing_due_now : HandlingMakesNothingDueNow
makes_nothing_due_now key s h f =
    all_in (IsLaterOrIn key (dues s)) (dues (handled key s).site)
    (λ k i.
    by_cases (was k) (λ t. inr (Contains-from_any key_tied k (dues s) t))
    (λ n. inl (leb-false k.at key.at (ap (λ b. not b && nat_le k.at key.at) (sym n) ∙ none_has key s is_new h late sooner (λ j l. rw (in_any j l) refl) k i))))
  where
    was : Key → Bool
    was k = list_any (same_key k) (dues s)

    is_new : Key → Bool
    is_new k = not (was k) && nat_le k.at key.at

    in_any : (k : Key) → In (dues s) k → was k ≡ true
    in_any k i = let c = contains_in (dues s) k i in list_any_at (same_key k) (dues s) c.0 k c.1 (subst (λ j. same_key k j ≡ true) (sym c.2) (key_self k))

    late : (k : Key) → key.at < k.at → is_new k ≡ false
    late k l = rw (lt-leb k.at key.at l) (elim (not (was k)) as (λ b. (b && false) ≡ false) [ true ↦ refl | false ↦ refl ])

    sooner : (j k : Key) → k.at < j.at → is_new j ≡ true → is_new k ≡ true
    sooner j k l t =
        let at : j.at ≤ key.at = leb-true j.at key.at (and_parts (not (was j)) (nat_le j.at key.at) t).1 in
        by_cases (was k)
        (λ w. absurd (omega (arith, at, l, of_all (λ (x : Key). key.at ≤ x.at) (dues s) k f (in_contains (dues s) k (Contains-from_any key_tied k (dues s) w)))))
        (λ w. rw (w, le-leb k.at key.at (omega (arith, at, l))) refl)

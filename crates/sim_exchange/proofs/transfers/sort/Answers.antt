use Rattle.std.proofs.Common.{List, Ordering, rules, subst, ◌≡◌}
use Rattle.std.proofs.lemmas.Fn.{always_returns_same}
use Rattle.std.specs.List.Sorted.{IsSortedByKey, IsStableByKey}
use Rattle.sim_clock.specs.declared.key.Key.{Key}
use Rattle.sim_clock.specs.Order.{key_cmp}
use Rattle.sim_exchange.proofs.Sorting.{sorted_is}
use Rattle.sim_exchange.proofs.transfers.sort.Goals as goal

-- what is sorted by one order is sorted by another that answers the same
sorted_as : {X : Type 0} (f : X → Key) (xs : List X) (D R : Key → Key → Ordering) → ((a b : Key) → D a b ≡ R a b) → IsSortedByKey f D xs → IsSortedByKey f R xs
sorted_as f xs D R e h = subst (λ (o : Key → Key → Ordering). IsSortedByKey f o xs) (λ k a b. e a b k) h

stable_as : {X : Type 0} (f : X → Key) (xs ys : List X) (D R : Key → Key → Ordering) → ((a b : Key) → D a b ≡ R a b) → IsStableByKey f D xs ys → IsStableByKey f R xs ys
stable_as f xs ys D R e h = subst (λ (o : Key → Key → Ordering). IsStableByKey f o xs ys) (λ k a b. e a b k) h

pub returns : goal.returns
returns g c =
    sorted_is g.S.Site.engine _ _
    (sorted_as g.S.Site.engine.transfer_key _ _ key_cmp c.key_order_is.ensures (c.in_ok-sort_by_key.ensures.sorted g.S.Site.engine.transfer_key (always_returns_same _ _ _ (λ a r f' k. search rules))))
    (stable_as g.S.Site.engine.transfer_key _ _ _ key_cmp c.key_order_is.ensures (c.in_ok-sort_by_key.ensures.stable g.S.Site.engine.transfer_key (always_returns_same _ _ _ (λ a r f' k. search rules))))

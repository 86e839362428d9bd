-- Delivery of a transfer, beside other deliveries and beside handlings.
use Rattle.std.proofs.Common.{◌≡◌, Some, Bool, true, false, refl, ap}
use Rattle.std.specs.Cmp.{IsTotalOrder}
use Rattle.std.specs.Ordering.{on}
use Rattle.std.proofs.lemmas.Cmp.{on_total}
use Rattle.sim_clock.specs.declared.key.Key.{Key}
use Rattle.sim_clock.specs.Order.{key_cmp, key_cmp_total, same_key, lesser}
use Rattle.sim_clock.proofs.Inserted.{inserted_swap, find_inserted, without_inserted, ordered_inserted, ordered_without}
use Rattle.sim_clock.proofs.Least.{least_inserted, key_tied}
use Rattle.sqs_redrive.specs.declared.transfers.Outbound.{Outbound}
use Rattle.sqs_redrive.specs.Transfers.{transfer_key}
use Rattle.sqs_model.specs.Site.{Site, accepted, has_key}
use Rattle.sqs_model.specs.Dues.{dues, core_dues, least_due}
use Rattle.sqs_model.specs.Step.{handled, handled_when}
use Rattle.sqs_model.specs.Delivery.{IsSorted, with_accepted}

by_key_total : IsTotalOrder (on transfer_key key_cmp)
by_key_total = on_total transfer_key key_cmp_total

pub accepted_sorted : (o : Outbound) (s : Site) → IsSorted s → IsSorted (accepted o s)
accepted_sorted o s w = ordered_inserted by_key_total o s.arriving w

-- two deliveries in either order
pub accepted_swap : (o p : Outbound) (s : Site) → same_key (transfer_key o) (transfer_key p) ≡ false → accepted o (accepted p s) ≡ accepted p (accepted o s)
accepted_swap o p s n = ap (λ w. record s { arriving = w }) (inserted_swap by_key_total o p s.arriving n)

-- a handling and the delivery of a transfer that isn't handled by it, in either order
handled_accepted_when :
    (key : Key) (o : Outbound) (s : Site) (b : Bool) → has_key key o ≡ false → IsSorted s
    → handled_when b key (accepted o s) ≡ with_accepted o (handled_when b key s)
handled_accepted_when key o s true n w =
    rw (find_inserted by_key_total (has_key key) o s.arriving n, without_inserted by_key_total (has_key key) o s.arriving n w) refl
handled_accepted_when key o s false n w = refl

pub handled_accepted :
    (key : Key) (o : Outbound) (s : Site) → has_key key o ≡ false → IsSorted s
    → handled key (accepted o s) ≡ with_accepted o (handled key s)
unfolding handled
handled_accepted key o s n w = handled_accepted_when key o s _ n w

sorted_when : (key : Key) (s : Site) (b : Bool) → IsSorted s → IsSorted (handled_when b key s).site
sorted_when key s true w = ordered_without by_key_total (has_key key) s.arriving w
sorted_when key s false w = w

pub handled_sorted : (key : Key) (s : Site) → IsSorted s → IsSorted (handled key s).site
unfolding handled
handled_sorted key s w = sorted_when key s _ w

-- what a site tells as its least due, with one more transfer on its way
pub least_due_accepted : (o : Outbound) (s : Site) → least_due (accepted o s) ≡ lesser (Some (transfer_key o)) (least_due s)
unfolding dues
least_due_accepted o s = least_inserted key_cmp_total key_tied transfer_key o s.arriving (core_dues s.core)

-- Delivery of transfers: their order, and whether they come before or after a handling, makes no difference.
use Rattle.std.specs.Ordering.{on}
use Rattle.std.specs.Prelude.{false, ◌≡◌}
use Rattle.sim_clock.specs.declared.key.Key.{Key}
use Rattle.sqs_redrive.specs.declared.transfers.Outbound.{Outbound}
use Rattle.sim_clock.specs.Order.{IsInOrder, key_cmp}
use Rattle.sqs_model.specs.Site.{Site, accepted, has_key}
use Rattle.sqs_model.specs.Step.{Handled, handled}
use Rattle.sqs_redrive.specs.Transfers.{transfer_key}

-- whether the transfers on their way to a site are in the order of their keys
abbrev pub IsSorted : Site → Type 0
IsSorted s = IsInOrder (on transfer_key key_cmp) s.arriving

-- a handling at a site that has one more transfer on its way to it afterwards
abbrev pub with_accepted : Outbound → Handled → Handled
with_accepted o h = record h { site = accepted o h.site }

-- a sorted site stays so
pub record StaysSorted (s : Site) : Type 0 where
  -- when a transfer is accepted
  pub accepting : (o : Outbound) → IsSorted (accepted o s)
  -- when a due is handled
  pub handling : (key : Key) → IsSorted (handled key s).site

-- a transfer may be delivered before the handling of another key or after it: site, rows and what is sent are the same
abbrev pub HandlingApartFromDelivery : Type 0
HandlingApartFromDelivery =
    (key : Key) (o : Outbound) (s : Site) → has_key key o ≡ false → IsSorted s
    → handled key (accepted o s) ≡ with_accepted o (handled key s)

-- sorted sites stay sorted
abbrev pub SortedSitesStaySorted : Type 0
SortedSitesStaySorted = (s : Site) → IsSorted s → StaysSorted s

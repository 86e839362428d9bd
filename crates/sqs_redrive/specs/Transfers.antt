-- Transfers from one queue to another.
use Rattle.sim_clock.specs.declared.key.Key.{Key}
use Rattle.sim_clock.specs.declared.key.Class.TheVariants.{Arrival}
use Rattle.sqs_redrive.specs.declared.transfers.Outbound.{Outbound}

-- the key of a transfer's arrival
abbrev pub transfer_key : Outbound → Key
transfer_key o = record { at = o.at; agent = o.sender; class = Arrival; number = o.number }

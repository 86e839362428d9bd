-- The handling of the least due of a world, and the delivery of what it sends, make nothing due by the present.
use Rattle.std.specs.Prelude.{All, List, Some, ℕ, ◌<◌, ◌≡◌, ◌≤◌}
use Rattle.sim_clock.specs.declared.key.Key.{Key}
use Rattle.sim_engine.proofs.WorldMoves as engine
pub use Rattle.sim_engine.proofs.WorldMoves.{is_due_least, least_in, tick_key}
use Rattle.sqs_redrive.specs.declared.transfers.Outbound.{Outbound}
use Rattle.sqs_model.specs.World.{Stepped, delivered, handled_among, world_due}
use Rattle.sqs_model.specs.Site.{Site}
use Rattle.sqs_model.proofs.Instance.{sqs_laws}

-- dues by a moment of a world
abbrev pub world_count : ℕ → List Site → ℕ
world_count = engine.world_count sqs_laws

-- whether the sites of a world are sound
abbrev pub IsSoundWorld : List Site → Type 0
IsSoundWorld = engine.IsSoundWorld sqs_laws

-- whether a key is the least due of one of some sites
abbrev pub DueIn : Key → List Site → Type 0
DueIn = engine.DueIn sqs_laws

-- a world whose least due is handled
abbrev pub FallsAmong : Key → ℕ → List Site → Stepped → Type 0
FallsAmong = engine.FallsAmong sqs_laws

pub world_none : (e : ℕ) (sites : List Site) → tick_key e (world_due sites) ≡ 0 → world_count e sites ≡ 0
world_none = engine.world_none sqs_laws

pub world_in : (key : Key) (sites : List Site) → world_due sites ≡ Some key → DueIn key sites
world_in = engine.world_in sqs_laws

pub among_falls : (key : Key) (e : ℕ) (sites : List Site) → e ≤ key.at → IsSoundWorld sites → DueIn key sites → FallsAmong key e sites (handled_among key sites)
among_falls = engine.among_falls sqs_laws

pub delivered_count : (e : ℕ) (os : List Outbound) (sites : List Site) → All (λ o. e < o.at) os → world_count e (delivered os sites) ≤ world_count e sites
delivered_count = engine.delivered_count sqs_laws

pub delivered_sound : (os : List Outbound) (sites : List Site) → IsSoundWorld sites → IsSoundWorld (delivered os sites)
delivered_sound = engine.delivered_sound sqs_laws

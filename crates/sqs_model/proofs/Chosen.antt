-- What a queue may give stands in it, and nothing is given twice.
use Rattle.std.proofs.Common.{◌≡◌, ℕ, Bool, true, false, List, [], ◌∷◌, Some, filter, take}
use Rattle.std.specs.Prelude.{All, ◌&&◌, ◌%◌}
use Rattle.std.proofs.lemmas.List.Elements.{All-cons, All-filter, All-head, All-nil, All-tail, All-take}
use Rattle.sim_clock.specs.Firsts.{kept_when}
use Rattle.sqs_message.specs.declared.message.Message.{Message}
use Rattle.sqs_redrive.specs.declared.settings.Kind.{Kind}
use Rattle.sqs_redrive.specs.declared.settings.Kind.TheVariants.{Fifo, Standard}
use Rattle.sqs_model.specs.Available.{available, available_at, firsts, has_host, is_open, open_from}
use Rattle.sqs_model.specs.Queue.{Queue, is_visible, numbered}
use Rattle.sqs_model.proofs.Grouped.{all_groups, apart_available}
use Rattle.sqs_model.proofs.Numbered.{Apart, Climbs, apart_take, climbs_apart, climbs_filter, each_is_numbered}

-- each of these stands in a queue under its number
abbrev pub Stand : Queue → List Message → Type 0
Stand q ms = All (λ m. numbered m.number q.records ≡ Some m) ms

kept_all : (P : Message → Type 0) (b : Bool) (m : Message) (ms : List Message) → P m → All P ms → All P (kept_when b m ms)
kept_all P true m ms h k = All-cons P m ms h k
kept_all P false m ms h k = k

pub open_all : (P : Message → Type 0) (all earlier ms : List Message) → All P ms → All P (open_from all earlier ms)
open_all P all earlier [] h = All-nil P
open_all P all earlier (m ∷ ms) h = kept_all P (is_open all earlier m) m (open_from all (m ∷ earlier) ms) (All-head P m ms h) (open_all P all (m ∷ earlier) ms (All-tail P m ms h))

available_all : (P : Message → Type 0) (k : Kind) (set : ℕ) (ms : List Message) → All P ms → All P (available_at k set ms)
available_all P (Standard hosts sampled) set ms h = All-filter (λ m. is_visible m && has_host set (m.number % hosts)) P ms h
available_all P (Fifo content scope) set ms h = let opened : List Message = open_from ms [] ms in all_groups P opened (firsts [] opened) (open_all P ms [] ms h)

available_apart : (k : Kind) (set : ℕ) (ms : List Message) → Climbs 0 ms → Apart (available_at k set ms)
available_apart (Standard hosts sampled) set ms h = let p : Message → Bool = λ m. is_visible m && has_host set (m.number % hosts) in climbs_apart 0 (filter p ms) (climbs_filter p 0 ms h)
available_apart (Fifo content scope) set ms h = apart_available ms h

-- the first of what a queue may give
pub first_stand : (q : Queue) (set most : ℕ) → Climbs 0 q.records → Stand q (take most (available q set))
first_stand q set most h =
    let P : Message → Type 0 = λ m. numbered m.number q.records ≡ Some m in
    All-take P most (available q set) (available_all P q.settings.kind set q.records (each_is_numbered 0 q.records h))

pub first_apart : (q : Queue) (set most : ℕ) → Climbs 0 q.records → Apart (take most (available q set))
first_apart q set most h = apart_take most (available q set) (available_apart q.settings.kind set q.records h)

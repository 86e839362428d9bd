-- How many messages of a queue are in flight, by the rows so far, and that they are never more than its limit.
use Rattle.sqs_laws.proofs.Terms.{All-filter, ascends_filter, bit, changed, Climbs, count_by, eqb-true, has_number, id_of, in_flight, in_flight_until, is_in_flight, Key, length-filter, length-map, Message, MessageId, numbered, Queue, range_with_len, received, Row, Scenario, total_changed, total_push, total_without, visible_again, without}
use Rattle.std.specs.Prelude.{Bool, List, None, Option, Some, [], cond, false, filter, is_some, length, map, nat_lt, true, ℕ, ◌*◌, ◌+◌, ◌<◌, ◌∷◌, ◌≡◌, ◌≤◌, ◌++◌}
use Rattle.std.proofs.Common.{ap, arith, refl, subst, sym, ◌∙◌}
use Rattle.sqs_laws.specs.Words.{comings, flying, in_flight_at}
use Rattle.sqs_laws.proofs.Flights as fly
use Rattle.sqs_laws.proofs.Left.{from_none, stays_from}
use Rattle.sqs_laws.proofs.Moves.{Does, IsStocked, changes, comes, ends, receives, redrives, releases, stays, waits_rest}
use Rattle.sqs_laws.proofs.Numbers.{none_below}
use Rattle.sqs_laws.proofs.Said.{count_total}
use Rattle.sqs_laws.proofs.Slots.{slot_of}
use Rattle.sqs_laws.proofs.Worlds.{RowLaw}

-- those that pass a test, by their numbers
abbrev passes : (Message → Bool) → Option Message → Bool
passes p None = false
passes p (Some m) = p m

passed_by : (p : Message → Bool) (i : ℕ) (m : Message) (ms : List Message) (a b : Bool) → Climbs (m.number + 1) ms → p m ≡ a → has_number i m ≡ b
    → is_some (numbered i (filter p ms)) ≡ passes p (numbered i ms) → is_some (numbered i (filter p (m ∷ ms))) ≡ passes p (numbered i (m ∷ ms))
passed_by p i m ms true b c e f h = rw (e, f) (elim b as (λ x. is_some (cond x (Some m) (numbered i (filter p ms))) ≡ passes p (cond x (Some m) (numbered i ms))) [ true ↦ sym e | false ↦ h ])
passed_by p i m ms false true c e f h =
    let is : m.number ≡ i = eqb-true m.number i f in
    rw (e, f) (none_below i (filter p ms) (subst (λ n. Climbs (n + 1) (filter p ms)) is (ascends_filter (λ (x : Message). x.number) p (m.number + 1) ms c)) ∙ sym e)
passed_by p i m ms false false c e f h = rw (e, f) h

passed : (p : Message → Bool) (low i : ℕ) (ms : List Message) → Climbs low ms → is_some (numbered i (filter p ms)) ≡ passes p (numbered i ms)
passed p low i [] c = refl
passed p low i (m ∷ ms) c = passed_by p i m ms (p m) (has_number i m) c.1 refl refl (passed p (m.number + 1) i ms c.1)

flies_as : (o : Option Message) (b : Bool) → fly.flies (slot_of o b) ≡ passes is_in_flight o
flies_as (Some m) b = refl
flies_as None true = refl
flies_as None false = refl

-- as many messages fly, by the rows, as are in flight
pub flying_count : (s : Scenario) (rows : List Row) (q : Queue) → IsStocked q → fly.Says s rows q → comings q.site rows ≡ q.arrivals → in_flight_at q.site rows ≡ in_flight q
flying_count s rows q k h e =
    let test : MessageId → Bool = λ m. flying m rows in
    let ms : List Message = filter is_in_flight q.records in
    let id : ℕ → MessageId = λ i. record { site = q.site; number = i } in
    let those : map (λ m. id_of q m.number) ms ≡ filter test (map id (range_with_len 0 q.arrivals)) =
    stays_from q test q.arrivals 0 ms (ascends_filter (λ (m : Message). m.number) is_in_flight 0 q.records k.ordered)
    (from_none q.arrivals ms (All-filter is_in_flight (λ (m : Message). m.number < q.arrivals) q.records k.given_out))
    (λ i a b. h.each i ∙ flies_as (numbered i q.records) (nat_lt i q.arrivals) ∙ sym (passed is_in_flight 0 i q.records k.ordered)) in
    ap (λ n. count_by test (map id (range_with_len 0 n))) e ∙ sym (length-filter test (map id (range_with_len 0 q.arrivals))) ∙ ap length (sym those)
    ∙ length-map ms (λ m. id_of q m.number) ∙ length-filter is_in_flight q.records

-- these are never more than the limit
abbrev pub Flies : Message → ℕ
Flies m = bit (is_in_flight m)

module _ (key : Key) (q : Queue) (r : Row) (p : Queue) (h : in_flight q ≤ q.settings.in_flight_limit) where
  abbrev pub Most : Queue → Type 0
  Most x = in_flight x ≤ x.settings.in_flight_limit

  pub does_limit : Does key q r p → Most p
  does_limit (stays d) = subst Most d.same h
  does_limit (comes d) =
      let none : Flies d.one ≡ 0 = ap bit (waits_rest key.at d.delay d.one d.waits) in
      subst Most d.after (omega (arith, h, none, total_push Flies q.records d.one, count_total is_in_flight q.records, count_total is_in_flight (q.records ++ d.one ∷ [])))
  does_limit (receives d) =
      let x : List Message = changed (has_number d.number) (received key.at d.timeout) q.records in
      subst Most d.after (omega (arith, d.room, total_changed (has_number d.number) Flies (received key.at d.timeout) q.records d.one d.names.there, count_total is_in_flight q.records, count_total is_in_flight x))
  does_limit (changes d) =
      let f : Message → Message = in_flight_until (key.at + 1000 * d.timeout) in
      let flies : Flies d.one ≡ 1 = ap bit d.flies in
      subst Most d.after (omega (arith, h, flies, total_changed (has_number d.number) Flies f q.records d.one d.names.there, count_total is_in_flight q.records, count_total is_in_flight (changed (has_number d.number) f q.records)))
  does_limit (releases d) = subst Most d.after (omega (arith, h, total_changed (has_number d.number) Flies visible_again q.records d.one d.names.there, count_total is_in_flight q.records, count_total is_in_flight (changed (has_number d.number) visible_again q.records)))
  does_limit (redrives d) = subst Most d.after (omega (arith, h, total_without (has_number d.number) Flies q.records d.one d.names.there, count_total is_in_flight q.records, count_total is_in_flight (without (has_number d.number) q.records)))
  does_limit (ends d) = subst Most d.after (omega (arith, h, total_without (has_number d.number) Flies q.records d.one d.names.there, count_total is_in_flight q.records, count_total is_in_flight (without (has_number d.number) q.records)))

abbrev pub limits : (s : Scenario) → RowLaw s
limits s =
    record {
      Holds = λ rows q. in_flight q ≤ q.settings.in_flight_limit;
      Meets = λ rows r. Unit {0};
      moves = λ rows key q r p by m g k h. (tt, does_limit key q r p h m.does);
      apart = λ rows r q d own h. h;
      opens = λ n settings e. omega arith;
    }

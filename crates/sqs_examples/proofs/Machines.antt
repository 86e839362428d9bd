-- Machines of small scenarios, computed.
use Rattle.std.specs.Fmt.{digits}
use Rattle.std.specs.Option.{is_some}
use Rattle.std.specs.Prelude.{List, None, Option, Some, [], false, if◌then◌else◌, length, map, suc, zero, ℕ, true, ◌++◌, ◌+◌, ◌==◌, ◌∷◌, ◌≡◌, ◌≤◌, ◌||◌}
use Rattle.std.proofs.Common.{arith, codes, inl, inr, refl, subst}
use Rattle.rand_chacha.specs.Block.{block_word, double_rounds, column_round, diagonal_round, quarter_round}
use Rattle.rand_core.specs.Steps.{u32_at}
use Rattle.sqs_message.specs.declared.calls.Call.TheVariants as calls
use Rattle.sqs_model.specs.declared.agents.ActorSettings.{ActorSettings}
use Rattle.sqs_model.specs.declared.agents.Distribution.TheVariants.{Uniform}
use Rattle.sqs_model.specs.declared.agents.Role.TheVariants.{Consumer, Script}
use Rattle.sqs_model.specs.declared.agents.Serving.TheVariants.{Each}
use Rattle.sqs_redrive.specs.declared.settings.Kind.TheVariants.{Standard}
use Rattle.sqs_redrive.specs.declared.settings.QueueSettings.{QueueSettings}
use Rattle.sqs_model.specs.Actor.{next}
use Rattle.sqs_model.specs.Acts.{act_made}
use Rattle.sqs_model.specs.Draw.{word}
use Rattle.sqs_model.specs.Dues.{core_dues, dues, least_due}
use Rattle.sqs_model.specs.Scenario.{Scenario}
use Rattle.sqs_model.specs.Step.{handle_class, handled}
use Rattle.sim_engine.specs.declared.picks.Pick.{Pick}
use Rattle.sim_engine.specs.declared.picks.Pick.TheVariants.{Barrier, Part}
use Rattle.sim_engine.specs.Machine.{Machine, effective_picks, has_ready, is_finished, ready}
use Rattle.sim_engine.specs.Bounds.{AreDistances, IsWalk, latency_of, least_bound, moment_of, own_bound}
use Rattle.sim_engine.specs.Exchange.{exchanged}
use Rattle.sim_engine.specs.Parts.{handled_in, part_of}
use Rattle.sim_engine.specs.Prefixes.{part_count, rows_between, rows_from, told_after}
use Rattle.sim_engine.specs.Rounds.{part_after}
use Rattle.sim_engine.specs.Theorems.{begun, machine_of, rows_by, whole_of}
use Rattle.sqs_model.specs.Members.{In}
use Rattle.sqs_model.specs.Scenario.{edges, fresh_core, opening}
use Rattle.sqs_model.specs.Site.{Site}
use Rattle.sqs_message.specs.declared.row.Row.{Row}
use Rattle.sim_engine.specs.declared.edge.Edge.{Edge}
use Rattle.sqs_redrive.specs.declared.transfers.Load.TheVariants as loads
use Rattle.sqs_redrive.specs.declared.transfers.Outbound.{Outbound}
use Rattle.sim_clock.specs.declared.key.Class.TheVariants as classes
use Rattle.sqs_message.specs.declared.row.Detail.TheVariants as details
use Rattle.sqs_message.specs.declared.row.RowAnswer.TheVariants as answers
use Rattle.sqs_message.specs.declared.row.RowKind.TheVariants as kinds
use Rattle.sqs_message.specs.declared.row.RowReceipt.TheVariants as receipts
use Rattle.sqs_model.specs.Run.{setting_of}
use Rattle.sqs_model.specs.Sqs.{sqs}

plain : QueueSettings
plain = record { kind = Standard 1 1; visibility = 30000; delay = 0; retention = 345600000; in_flight_limit = 120000; policy = None }

consumer : ℕ → ℕ → ℕ → ActorSettings
consumer home start to =
    record {
      home = home;
      role =
          Consumer
          (record {
            start = start;
            batch = 1;
            gather = 0;
            wait = 0;
            timeout = None;
            service = Uniform 14 14;
            serving = Each;
            fail_service = None;
            fail_permille = 0;
            idle = 86400000;
            forward = Some (record { to = to ∷ []; latency = record { least = 10; greatest = 10 } });
            stop = None;
            scaling = None;
            fails_on = None;
            outages = [];
            whole = false;
            backoff = [];
            jitter = false;
            heartbeat = None;
          });
    }

-- two queues; a message at the first, whose consumer forwards to the second, whose consumer forwards back
there_and_back : Scenario
there_and_back =
    record {
      horizon = 100;
      seed = 0;
      sample = 0;
      queues = plain ∷ plain ∷ [];
      actors = record { home = 0; role = Script (record { at = 0; call = calls.Send (codes "abc") None None None } ∷ []) } ∷ consumer 0 1 1 ∷ consumer 1 50 0 ∷ [];
      tasks = [];
      names = [];
    }

-- each in a partition of its own
own_part : ℕ → ℕ
own_part n = n

-- over the way there, the way back, or both
distance : ℕ → ℕ → Option ℕ
distance q p = if q == p then Some 20 else Some 10

machine : List Pick → Machine sqs
machine picks = machine_of sqs own_part (own_bound sqs own_part distance 2 100) (setting_of there_and_back) picks

first_picks : List Pick
first_picks = Part 0 ∷ Part 0 ∷ Part 0 ∷ Part 0 ∷ Part 0 ∷ Part 1 ∷ Barrier ∷ []

-- at first the bound of the first queue is that of the cycle
opens_0 : (machine []).bounds 0 ≡ 20
unfolding machine own_part distance there_and_back plain consumer next dues core_dues
opens_0 = refl

opens_1 : (machine []).bounds 1 ≡ 10
unfolding machine own_part distance there_and_back plain consumer next dues core_dues
opens_1 = refl

-- the first queue's four entries and the barrier
counts : effective_picks sqs own_part 100 (own_bound sqs own_part distance 2 100) first_picks (begun sqs (own_bound sqs own_part distance 2 100) (opening there_and_back)) ≡ 5
unfolding first_picks own_part distance there_and_back plain consumer digits block_word double_rounds column_round diagonal_round quarter_round u32_at word next dues core_dues act_made handle_class handled
counts = refl

then_0 : (machine first_picks).bounds 0 ≡ 35
unfolding machine first_picks own_part distance there_and_back plain consumer digits block_word double_rounds column_round diagonal_round quarter_round u32_at word next dues core_dues act_made handle_class handled
then_0 = refl

then_1 : (machine first_picks).bounds 1 ≡ 45
unfolding machine first_picks own_part distance there_and_back plain consumer digits block_word double_rounds column_round diagonal_round quarter_round u32_at word next dues core_dues act_made handle_class handled
then_1 = refl

-- a queue whose message goes to its dead-letter queue as it is received
worn_out : Scenario
worn_out =
    record {
      horizon = 2000;
      seed = 0;
      sample = 0;
      queues = record plain { policy = Some (record { dead_letter = 1; max_receives = 1; latency = record { least = 500; greatest = 500 } }) } ∷ plain ∷ [];
      actors = record {
        home = 0;
        role = Script (record { at = 0; call = calls.Send (codes "abc") None None None } ∷ record { at = 500; call = calls.Receive 1 0 (Some 0) } ∷ []);
      } ∷ [];
      tasks = [];
      names = [];
    }

-- the one way
one_way : ℕ → ℕ → Option ℕ
one_way q p = if q == 0 then if p == 1 then Some 500 else None else None

worn_machine : List Pick → Machine sqs
worn_machine picks = machine_of sqs own_part (own_bound sqs own_part one_way 2 2000) (setting_of worn_out) picks

list_1 : List Pick
list_1 = Part 0 ∷ Part 0 ∷ Barrier ∷ []

list_2 : List Pick
list_2 = Part 0 ∷ Part 1 ∷ Barrier ∷ []

list_3 : List Pick
list_3 = Part 1 ∷ Barrier ∷ []

worn_opens_0 : (worn_machine []).bounds 0 ≡ 2001
unfolding worn_machine own_part one_way worn_out plain next dues core_dues
worn_opens_0 = refl

worn_opens_1 : (worn_machine []).bounds 1 ≡ 500
unfolding worn_machine own_part one_way worn_out plain next dues core_dues
worn_opens_1 = refl

worn_counts_1 : effective_picks sqs own_part 2000 (own_bound sqs own_part one_way 2 2000) list_1 (worn_machine []) ≡ 3
unfolding list_1 worn_machine own_part one_way worn_out plain digits block_word double_rounds column_round diagonal_round quarter_round u32_at word next dues core_dues act_made handle_class handled
worn_counts_1 = refl

worn_counts_2 : effective_picks sqs own_part 2000 (own_bound sqs own_part one_way 2 2000) list_2 (worn_machine list_1) ≡ 1
unfolding list_1 list_2 worn_machine own_part one_way worn_out plain digits block_word double_rounds column_round diagonal_round quarter_round u32_at word next dues core_dues act_made handle_class handled
worn_counts_2 = refl

worn_counts_3 : effective_picks sqs own_part 2000 (own_bound sqs own_part one_way 2 2000) list_3 (worn_machine (list_1 ++ list_2)) ≡ 0
unfolding list_1 list_2 list_3 worn_machine own_part one_way worn_out plain digits block_word double_rounds column_round diagonal_round quarter_round u32_at word next dues core_dues act_made handle_class handled
worn_counts_3 = refl

worn_then_1 : (worn_machine list_1).bounds 1 ≡ 2001
unfolding list_1 worn_machine own_part one_way worn_out plain digits block_word double_rounds column_round diagonal_round quarter_round u32_at word next dues core_dues act_made handle_class handled
worn_then_1 = refl

worn_ends : is_finished sqs 2000 (worn_machine (list_1 ++ list_2)) ≡ true
unfolding list_1 list_2 worn_machine own_part one_way worn_out plain digits block_word double_rounds column_round diagonal_round quarter_round u32_at word next dues core_dues act_made handle_class handled
worn_ends = refl

-- a consumer that serves for 100 ms, by its queue, its start, how many seconds it waits, and where it forwards to
relay : ℕ → ℕ → ℕ → ℕ → ActorSettings
relay home start wait to =
    record {
      home = home;
      role =
          Consumer
          (record {
            start = start;
            batch = 1;
            gather = 0;
            wait = wait;
            timeout = None;
            service = Uniform 100 100;
            serving = Each;
            fail_service = None;
            fail_permille = 0;
            idle = 86400000;
            forward = Some (record { to = to ∷ []; latency = record { least = 10; greatest = 10 } });
            stop = None;
            scaling = None;
            fails_on = None;
            outages = [];
            whole = false;
            backoff = [];
            jitter = false;
            heartbeat = None;
          });
    }

-- three queues, the first of them the dead-letter queue of the second; a message at the first goes over the second to the third, where a script receives it
in_a_row : Scenario
in_a_row =
    record {
      horizon = 6000;
      seed = 0;
      sample = 0;
      queues = plain ∷ record plain { policy = Some (record { dead_letter = 0; max_receives = 1000; latency = record { least = 10; greatest = 10 } }) } ∷ plain ∷ [];
      actors =
          record { home = 0; role = Script (record { at = 0; call = calls.Send (codes "abc") None None None } ∷ []) }
          ∷ relay 0 100 0 1
          ∷ relay 1 0 20 2
          ∷ record { home = 2; role = Script (record { at = 5000; call = calls.Receive 1 0 None } ∷ []) }
          ∷ [];
      tasks = [];
      names = [];
    }

-- a way of 10 ms
way : ℕ → ℕ → Edge
way from to = record { from = from; to = to; least = 10 }

-- the dead letters' way back, and the two ways on
row_ways : List Edge
row_ways = way 1 0 ∷ way 0 1 ∷ way 1 2 ∷ []

row_edges : edges in_a_row ≡ row_ways
unfolding in_a_row relay plain row_ways way
row_edges = refl

-- from the first of three
from_first : ℕ → Option ℕ
from_first zero = Some 20
from_first (suc zero) = Some 10
from_first (suc (suc zero)) = Some 20
from_first (suc (suc (suc n))) = None

-- from the second
from_second : ℕ → Option ℕ
from_second zero = Some 10
from_second (suc zero) = Some 20
from_second (suc (suc zero)) = Some 10
from_second (suc (suc (suc n))) = None

-- by walks of any length: from the first two to each, and from the third to none
by_walks : ℕ → ℕ → Option ℕ
by_walks zero p = from_first p
by_walks (suc zero) p = from_second p
by_walks (suc (suc n)) p = None

-- what holds of each of the three ways holds of all
each_way : (P : Edge → Type 0) → P (way 1 0) → P (way 0 1) → P (way 1 2) → (e : Edge) → In row_ways e → P e
unfolding row_ways
each_way P x y z e (inl i) = subst P i x
each_way P x y z e (inr (inl i)) = subst P i y
each_way P x y z e (inr (inr (inl i))) = subst P i z
each_way P x y z e (inr (inr (inr i))) = absurd i

-- a latency that no distance is greater than
IsReached : ℕ → Option ℕ → Type 0
IsReached l None = ⊥
IsReached l (Some d) = d ≤ l

-- one way is no shorter than the distance
one_way_reaches : (e : Edge) → In row_ways e → IsReached (e.least + 0) (by_walks e.from e.to)
unfolding way IsReached by_walks from_first from_second
one_way_reaches e i = each_way (λ f. IsReached (f.least + 0) (by_walks f.from f.to)) (omega arith) (omega arith) (omega arith) e i

-- from the second over the first
back_reaches : (l p : ℕ) → IsReached l (from_first p) → IsReached (10 + l) (from_second p)
unfolding IsReached from_first from_second
back_reaches l zero h = omega arith
back_reaches l (suc zero) h = omega (arith, h)
back_reaches l (suc (suc zero)) h = omega arith
back_reaches l (suc (suc (suc n))) h = h

-- from the first over the second
on_reaches : (l p : ℕ) → IsReached l (from_second p) → IsReached (10 + l) (from_first p)
unfolding IsReached from_first from_second
on_reaches l zero h = omega (arith, h)
on_reaches l (suc zero) h = omega arith
on_reaches l (suc (suc zero)) h = omega (arith, h)
on_reaches l (suc (suc (suc n))) h = h

-- with one way more before it
further_reaches : (l p : ℕ) (e : Edge) → In row_ways e → IsReached l (by_walks e.to p) → IsReached (e.least + l) (by_walks e.from p)
unfolding way IsReached by_walks
further_reaches l p e i = each_way (λ f. IsReached l (by_walks f.to p) → IsReached (f.least + l) (by_walks f.from p)) (back_reaches l p) (on_reaches l p) (λ h. absurd h) e i

-- no walk is shorter than the distance
walk_reaches : (es : List Edge) (q p : ℕ) → IsWalk own_part row_ways q p es → IsReached (latency_of es) (by_walks q p)
unfolding own_part
walk_reaches [] q p h = absurd h
walk_reaches (e ∷ []) q p h =
    subst (λ r. IsReached (e.least + 0) (by_walks r p)) h.1 (subst (λ r. IsReached (e.least + 0) (by_walks e.from r)) h.2 (one_way_reaches e h.0))
walk_reaches (e ∷ (f ∷ fs)) q p h =
    subst (λ r. IsReached (e.least + latency_of (f ∷ fs)) (by_walks r p)) h.1
    (further_reaches (latency_of (f ∷ fs)) p e h.0 (walk_reaches (f ∷ fs) e.to p h.2))

-- there and back
first_cycle : IsWalk own_part row_ways 0 0 (way 0 1 ∷ way 1 0 ∷ [])
unfolding own_part row_ways way
first_cycle = (inr (inl refl), refl, (inl refl, refl, refl))

second_cycle : IsWalk own_part row_ways 1 1 (way 1 0 ∷ way 0 1 ∷ [])
unfolding own_part row_ways way
second_cycle = (inl refl, refl, (inr (inl refl), refl, refl))

-- over the second
over_second : IsWalk own_part row_ways 0 2 (way 0 1 ∷ way 1 2 ∷ [])
unfolding own_part row_ways way
over_second = (inr (inl refl), refl, (inr (inr (inl refl)), refl, refl))

-- those are the distances
row_distances : AreDistances own_part row_ways by_walks
unfolding own_part row_ways way IsReached by_walks from_first from_second
row_distances zero zero = ((way 0 1 ∷ way 1 0 ∷ [], first_cycle, refl), λ es h. walk_reaches es 0 0 h)
row_distances zero (suc zero) = ((way 0 1 ∷ [], (inr (inl refl), refl, refl), refl), λ es h. walk_reaches es 0 1 h)
row_distances zero (suc (suc zero)) = ((way 0 1 ∷ way 1 2 ∷ [], over_second, refl), λ es h. walk_reaches es 0 2 h)
row_distances zero (suc (suc (suc n))) = λ es h. walk_reaches es 0 (suc (suc (suc n))) h
row_distances (suc zero) zero = ((way 1 0 ∷ [], (inl refl, refl, refl), refl), λ es h. walk_reaches es 1 0 h)
row_distances (suc zero) (suc zero) = ((way 1 0 ∷ way 0 1 ∷ [], second_cycle, refl), λ es h. walk_reaches es 1 1 h)
row_distances (suc zero) (suc (suc zero)) = ((way 1 2 ∷ [], (inr (inr (inl refl)), refl, refl), refl), λ es h. walk_reaches es 1 2 h)
row_distances (suc zero) (suc (suc (suc n))) = λ es h. walk_reaches es 1 (suc (suc (suc n))) h
row_distances (suc (suc m)) p = λ es h. walk_reaches es (suc (suc m)) p h

-- by walks of one edge alone, which is not enough
by_one_hop : ℕ → ℕ → Option ℕ
by_one_hop q p = if q == 0 then if p == 1 then Some 10 else None else if q == 1 then if p == 0 || p == 2 then Some 10 else None else None

-- those are no distances: the third is reached over the second
no_distances : AreDistances own_part row_ways by_one_hop → ⊥
unfolding by_one_hop
no_distances h = h 0 2 (way 0 1 ∷ way 1 2 ∷ []) over_second

row_machine : (ℕ → ℕ → Option ℕ) → List Pick → Machine sqs
row_machine far picks = machine_of sqs own_part (own_bound sqs own_part far 3 6000) (setting_of in_a_row) picks

three_bounds : Machine sqs → List ℕ
three_bounds m = m.bounds 0 ∷ m.bounds 1 ∷ m.bounds 2 ∷ []

-- how many of some picks take effect after others
row_effective : List Pick → List Pick → ℕ
row_effective before picks = effective_picks sqs own_part 6000 (own_bound sqs own_part by_walks 3 6000) picks (row_machine by_walks before)

-- the first queue by itself, the others in one partition
first_apart : ℕ → ℕ
first_apart n = if n == 0 then 2 else 0

-- the send, and the second queue's receive, which waits
round_1 : List Pick
round_1 = Part 0 ∷ Part 0 ∷ Part 1 ∷ Part 1 ∷ Part 2 ∷ Barrier ∷ []

-- the first queue's receive
round_2 : List Pick
round_2 = Part 2 ∷ Part 1 ∷ Part 0 ∷ Part 0 ∷ Barrier ∷ []

-- the end of its service, and its next receive
round_3 : List Pick
round_3 = Part 0 ∷ Part 0 ∷ Part 0 ∷ Barrier ∷ []

-- the arrival at the second queue, which answers its receive
round_4 : List Pick
round_4 = Part 0 ∷ Part 1 ∷ Part 1 ∷ Part 2 ∷ Barrier ∷ []

-- the end of its service, and its next receive
round_5 : List Pick
round_5 = Part 1 ∷ Part 1 ∷ Part 1 ∷ Part 2 ∷ Barrier ∷ []

-- the arrival at the third queue, and its receive
round_6 : List Pick
round_6 = Part 2 ∷ Part 2 ∷ Part 2 ∷ Part 1 ∷ Part 0 ∷ []

-- at first each is bound by what the first two have due at 0
row_bounds_0 : three_bounds (row_machine by_walks []) ≡ 10 ∷ 10 ∷ 10 ∷ []
unfolding three_bounds row_machine own_part by_walks in_a_row plain relay from_first from_second next dues core_dues
row_bounds_0 = refl

-- a barrier takes no effect while the second queue has something due before its bound
row_barrier_waits : (row_machine by_walks (Part 0 ∷ Barrier ∷ [])).bounds 1 ≡ 10
unfolding row_machine own_part by_walks in_a_row plain relay from_first from_second digits block_word double_rounds column_round diagonal_round quarter_round u32_at word next dues core_dues act_made handle_class handled
row_barrier_waits = refl

row_barrier_counts : row_effective (Part 0 ∷ []) (Barrier ∷ []) ≡ 0
unfolding row_effective row_machine own_part by_walks in_a_row plain relay from_first from_second digits block_word double_rounds column_round diagonal_round quarter_round u32_at word next dues core_dues act_made handle_class handled
row_barrier_counts = refl

-- a site is ready by the bound of its owner, whatever its own number
row_ready_by_owner : has_ready sqs first_apart (record (row_machine by_walks []) { bounds = λ p. if p == 2 then 1 else 0 }) ≡ true
unfolding first_apart row_machine own_part by_walks in_a_row plain relay from_first from_second next dues core_dues
row_ready_by_owner = refl

-- the one-list run handles first for the first queue's owner, and then for the second's
row_turns : map (λ x. x.0) (told_after sqs first_apart 6000 2 (opening in_a_row)) ≡ 2 ∷ 0 ∷ []
unfolding first_apart in_a_row plain relay digits block_word double_rounds column_round diagonal_round quarter_round u32_at word next dues core_dues act_made handle_class handled
row_turns = refl

-- a partition by itself leaves what is due at its bound
row_runs_to_bound : map (λ r. r.key.at) (part_after sqs 100 3 (part_of sqs own_part 0 (opening in_a_row))).rows ≡ 0 ∷ []
unfolding own_part in_a_row plain relay digits block_word double_rounds column_round diagonal_round quarter_round u32_at word next dues core_dues act_made handle_class handled
row_runs_to_bound = refl

row_counts_1 : row_effective [] round_1 ≡ 3
unfolding round_1 row_effective row_machine own_part by_walks in_a_row plain relay from_first from_second digits block_word double_rounds column_round diagonal_round quarter_round u32_at word next dues core_dues act_made handle_class handled
row_counts_1 = refl

-- the first queue's receive at 100 bounds all, the third over the second
row_bounds_1 : three_bounds (row_machine by_walks round_1) ≡ 120 ∷ 110 ∷ 120 ∷ []
unfolding round_1 three_bounds row_machine own_part by_walks in_a_row plain relay from_first from_second digits block_word double_rounds column_round diagonal_round quarter_round u32_at word next dues core_dues act_made handle_class handled
row_bounds_1 = refl

-- by one hop alone nothing bounds the third queue before what comes to it at 320
row_1_hop : (row_machine by_one_hop round_1).bounds 2 ≡ 6001
unfolding round_1 row_machine own_part by_one_hop in_a_row plain relay digits block_word double_rounds column_round diagonal_round quarter_round u32_at word next dues core_dues act_made handle_class handled
row_1_hop = refl

-- so that its script would receive nothing
row_hop_misses : rows_by sqs (row_machine by_one_hop (round_1 ++ Part 2 ∷ [])).told 2 ≡ record { key = record { at = 5000; agent = 6; class = classes.Wake; number = 0 }; queue = 2; agent = 6; kind = kinds.Receive; answer = answers.Empty; message = None; receipt = receipts.Absent; detail = details.Absent } ∷ []
unfolding round_1 row_machine own_part by_one_hop in_a_row plain relay digits block_word double_rounds column_round diagonal_round quarter_round u32_at word next dues core_dues act_made handle_class handled
row_hop_misses = refl

row_counts_2 : row_effective round_1 round_2 ≡ 2
unfolding round_1 round_2 row_effective row_machine own_part by_walks in_a_row plain relay from_first from_second digits block_word double_rounds column_round diagonal_round quarter_round u32_at word next dues core_dues act_made handle_class handled
row_counts_2 = refl

-- then the end of its service at 200
row_bounds_2 : three_bounds (row_machine by_walks (round_1 ++ round_2)) ≡ 220 ∷ 210 ∷ 220 ∷ []
unfolding round_1 round_2 three_bounds row_machine own_part by_walks in_a_row plain relay from_first from_second digits block_word double_rounds column_round diagonal_round quarter_round u32_at word next dues core_dues act_made handle_class handled
row_bounds_2 = refl

-- the least of those bounds
row_least : least_bound 6000 (row_machine by_walks (round_1 ++ round_2)).bounds 3 ≡ 210
unfolding round_1 round_2 row_machine own_part by_walks in_a_row plain relay from_first from_second digits block_word double_rounds column_round diagonal_round quarter_round u32_at word next dues core_dues act_made handle_class handled
row_least = refl

row_counts_3 : row_effective (round_1 ++ round_2) round_3 ≡ 3
unfolding round_1 round_2 round_3 row_effective row_machine own_part by_walks in_a_row plain relay from_first from_second digits block_word double_rounds column_round diagonal_round quarter_round u32_at word next dues core_dues act_made handle_class handled
row_counts_3 = refl

-- the arrival at 210 bounds the first by the dead letters' way, and the second by its own cycle
row_bounds_3 : three_bounds (row_machine by_walks (round_1 ++ round_2 ++ round_3)) ≡ 220 ∷ 230 ∷ 220 ∷ []
unfolding round_1 round_2 round_3 three_bounds row_machine own_part by_walks in_a_row plain relay from_first from_second digits block_word double_rounds column_round diagonal_round quarter_round u32_at word next dues core_dues act_made handle_class handled
row_bounds_3 = refl

-- what the first queue's consumer forwards waits for the barrier
row_waits : length (row_machine by_walks (round_1 ++ round_2 ++ Part 0 ∷ [])).waiting ≡ 1
unfolding round_1 round_2 row_machine own_part by_walks in_a_row plain relay from_first from_second digits block_word double_rounds column_round diagonal_round quarter_round u32_at word next dues core_dues act_made handle_class handled
row_waits = refl

row_counts_4 : row_effective (round_1 ++ round_2 ++ round_3) round_4 ≡ 2
unfolding round_1 round_2 round_3 round_4 row_effective row_machine own_part by_walks in_a_row plain relay from_first from_second digits block_word double_rounds column_round diagonal_round quarter_round u32_at word next dues core_dues act_made handle_class handled
row_counts_4 = refl

-- then the end of the second's service at 310
row_bounds_4 : three_bounds (row_machine by_walks (round_1 ++ round_2 ++ round_3 ++ round_4)) ≡ 320 ∷ 330 ∷ 320 ∷ []
unfolding round_1 round_2 round_3 round_4 three_bounds row_machine own_part by_walks in_a_row plain relay from_first from_second digits block_word double_rounds column_round diagonal_round quarter_round u32_at word next dues core_dues act_made handle_class handled
row_bounds_4 = refl

row_counts_5 : row_effective (round_1 ++ round_2 ++ round_3 ++ round_4) round_5 ≡ 3
unfolding round_1 round_2 round_3 round_4 round_5 row_effective row_machine own_part by_walks in_a_row plain relay from_first from_second digits block_word double_rounds column_round diagonal_round quarter_round u32_at word next dues core_dues act_made handle_class handled
row_counts_5 = refl

-- in the end nothing sets a bound by the horizon
row_bounds_5 : three_bounds (row_machine by_walks (round_1 ++ round_2 ++ round_3 ++ round_4 ++ round_5)) ≡ 6001 ∷ 6001 ∷ 6001 ∷ []
unfolding round_1 round_2 round_3 round_4 round_5 three_bounds row_machine own_part by_walks in_a_row plain relay from_first from_second digits block_word double_rounds column_round diagonal_round quarter_round u32_at word next dues core_dues act_made handle_class handled
row_bounds_5 = refl

row_counts_6 : row_effective (round_1 ++ round_2 ++ round_3 ++ round_4 ++ round_5) round_6 ≡ 2
unfolding round_1 round_2 round_3 round_4 round_5 round_6 row_effective row_machine own_part by_walks in_a_row plain relay from_first from_second digits block_word double_rounds column_round diagonal_round quarter_round u32_at word next dues core_dues act_made handle_class handled
row_counts_6 = refl

-- the moments and queues of all rows, merged
row_order : map {B = ℕ × ℕ} (λ r. (r.key.at, r.queue)) (whole_of sqs 3 (row_machine by_walks (round_1 ++ round_2 ++ round_3 ++ round_4 ++ round_5 ++ round_6))).rows ≡ (0, 0) ∷ (0, 1) ∷ (100, 0) ∷ (200, 0) ∷ (200, 0) ∷ (201, 0) ∷ (210, 1) ∷ (210, 1) ∷ (310, 1) ∷ (310, 1) ∷ (311, 1) ∷ (320, 2) ∷ (5000, 2) ∷ []
unfolding round_1 round_2 round_3 round_4 round_5 round_6 row_machine own_part by_walks in_a_row plain relay from_first from_second digits block_word double_rounds column_round diagonal_round quarter_round u32_at word next dues core_dues act_made handle_class handled
row_order = refl

-- those from 100 on and before 201
row_between : map (λ r. r.key.at) (rows_between sqs 3 100 201 (row_machine by_walks (round_1 ++ round_2 ++ round_3 ++ round_4 ++ round_5 ++ round_6))) ≡ 100 ∷ 200 ∷ 200 ∷ []
unfolding round_1 round_2 round_3 round_4 round_5 round_6 row_machine own_part by_walks in_a_row plain relay from_first from_second digits block_word double_rounds column_round diagonal_round quarter_round u32_at word next dues core_dues act_made handle_class handled
row_between = refl

-- those from 311 on
row_from : map (λ r. r.key.at) (rows_from sqs 3 311 (row_machine by_walks (round_1 ++ round_2 ++ round_3 ++ round_4 ++ round_5 ++ round_6))) ≡ 311 ∷ 320 ∷ 5000 ∷ []
unfolding round_1 round_2 round_3 round_4 round_5 round_6 row_machine own_part by_walks in_a_row plain relay from_first from_second digits block_word double_rounds column_round diagonal_round quarter_round u32_at word next dues core_dues act_made handle_class handled
row_from = refl

-- the third queue had one arrival, and gave it once
row_count : part_count sqs own_part 2 (row_machine by_walks (round_1 ++ round_2 ++ round_3 ++ round_4 ++ round_5 ++ round_6)) ≡ 1
unfolding round_1 round_2 round_3 round_4 round_5 round_6 row_machine own_part by_walks in_a_row plain relay from_first from_second digits block_word double_rounds column_round diagonal_round quarter_round u32_at word next dues core_dues act_made handle_class handled
row_count = refl

row_ends : is_finished sqs 6000 (row_machine by_walks (round_1 ++ round_2 ++ round_3 ++ round_4 ++ round_5 ++ round_6)) ≡ true
unfolding round_1 round_2 round_3 round_4 round_5 round_6 row_machine own_part by_walks in_a_row plain relay from_first from_second digits block_word double_rounds column_round diagonal_round quarter_round u32_at word next dues core_dues act_made handle_class handled
row_ends = refl

-- an arrival from the second consumer, and the receive of what arrived
last_rows : List Row
last_rows =
    record {
      key = record { at = 320; agent = 5; class = classes.Arrival; number = 0 };
      queue = 2;
      agent = 5;
      kind = kinds.Arrive;
      answer = answers.New;
      message = Some (record { site = 2; number = 0 });
      receipt = receipts.Absent;
      detail = details.From (record { site = 2; number = 0 });
    }
    ∷ record {
      key = record { at = 5000; agent = 6; class = classes.Wake; number = 0 };
      queue = 2;
      agent = 6;
      kind = kinds.Receive;
      answer = answers.Ok;
      message = Some (record { site = 2; number = 0 });
      receipt = receipts.Made (record { site = 2; number = 0; count = 1 });
      detail = details.From (record { site = 2; number = 0 });
    }
    ∷ []

row_tells : rows_by sqs (row_machine by_walks (round_1 ++ round_2 ++ round_3 ++ round_4 ++ round_5 ++ round_6)).told 2 ≡ last_rows
unfolding last_rows round_1 round_2 round_3 round_4 round_5 round_6 row_machine own_part by_walks in_a_row plain relay from_first from_second digits block_word double_rounds column_round diagonal_round quarter_round u32_at word next dues core_dues act_made handle_class handled
row_tells = refl

-- the way there and back with another horizon
there_until : ℕ → List Pick → Machine sqs
there_until horizon picks = machine_of sqs own_part (own_bound sqs own_part distance 2 horizon) (setting_of (record there_and_back { horizon = horizon })) picks

-- the send, the receive, the end of the service, and the next receive
four_picks : List Pick
four_picks = Part 0 ∷ Part 0 ∷ Part 0 ∷ Part 0 ∷ []

-- no bound is past the horizon's end
there_capped : (there_until 5 []).bounds 1 ≡ 6
unfolding there_until own_part distance there_and_back plain consumer next dues core_dues
there_capped = refl

-- what is due at 0 is ready with a bound of 1, and not with a bound of 0
there_before_bound : is_some (ready sqs own_part 0 (record (there_until 100 []) { bounds = λ p. 1 })) ≡ true
unfolding there_until own_part distance there_and_back plain consumer next dues core_dues
there_before_bound = refl

there_at_bound : ready sqs own_part 0 (record (there_until 100 []) { bounds = λ p. 0 }) ≡ None
unfolding there_until own_part distance there_and_back plain consumer next dues core_dues
there_at_bound = refl

-- the forward arrives at 25: by a horizon of 25 it is still to come
there_not_ended : is_finished sqs 25 (there_until 25 four_picks) ≡ false
unfolding four_picks there_until own_part distance there_and_back plain consumer digits block_word double_rounds column_round diagonal_round quarter_round u32_at word next dues core_dues act_made handle_class handled
there_not_ended = refl

-- past a horizon of 24 it waits in the end, whatever is picked, and stands in the last world
there_ended : is_finished sqs 24 (there_until 24 four_picks) ≡ true
unfolding four_picks there_until own_part distance there_and_back plain consumer digits block_word double_rounds column_round diagonal_round quarter_round u32_at word next dues core_dues act_made handle_class handled
there_ended = refl

there_stays : length (there_until 24 (four_picks ++ Barrier ∷ [])).waiting ≡ 1
unfolding four_picks there_until own_part distance there_and_back plain consumer digits block_word double_rounds column_round diagonal_round quarter_round u32_at word next dues core_dues act_made handle_class handled
there_stays = refl

there_stands : map (λ s. length s.arriving) (whole_of sqs 2 (there_until 24 four_picks)).sites ≡ 0 ∷ 1 ∷ []
unfolding four_picks there_until own_part distance there_and_back plain consumer digits block_word double_rounds column_round diagonal_round quarter_round u32_at word next dues core_dues act_made handle_class handled
there_stands = refl

-- two sites with actors of one number, which have one key due
twins : List Site
twins =
    record { core = fresh_core 0 plain ((5, consumer 0 1 1) ∷ []) [] 0 0; arriving = [] }
    ∷ record { core = fresh_core 1 plain ((5, consumer 1 1 0) ∷ []) [] 0 0; arriving = [] }
    ∷ []

-- the second partition handles its own, and the first's is left
twins_apart : map (λ s. moment_of (least_due s)) (handled_in sqs own_part 1 (record { at = 1; agent = 5; class = classes.Wake; number = 0 }) twins).sites ≡ Some 1 ∷ Some 86400001 ∷ []
unfolding own_part twins plain consumer digits block_word double_rounds column_round diagonal_round quarter_round u32_at word next dues core_dues act_made handle_class handled
twins_apart = refl

-- a transfer with its arrival, its sender and where it goes
sent : ℕ → ℕ → ℕ → Outbound
sent at sender to =
    record { at = at; sender = sender; number = 0; from = 0; to = to; load = loads.Forward (record { site = 0; number = 0 }) None [] }

-- each partition gets what goes to it, in the order of keys
gets_sorted :
    exchanged sqs own_part 3 (sent 30 5 1 ∷ sent 20 4 2 ∷ sent 20 5 1 ∷ sent 20 3 1 ∷ [])
    ≡ [] ∷ (sent 20 3 1 ∷ sent 20 5 1 ∷ sent 30 5 1 ∷ []) ∷ (sent 20 4 2 ∷ []) ∷ []
unfolding own_part sent
gets_sorted = refl

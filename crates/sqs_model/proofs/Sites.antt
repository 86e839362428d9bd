-- Sound, sorted sites that send along ways alone meet what the engine asks of the sites of a run.
use Rattle.std.specs.Ordering.{is_lt}
use Rattle.std.specs.List.{enumerate_from}
use Rattle.std.specs.Prelude.{All, List, [], false, map, ℕ, ◌+◌, ◌∷◌, ◌≡◌, ◌≤◌}
use Rattle.std.proofs.Common.{arith, refl}
use Rattle.std.proofs.lemmas.List.Elements.{All-cons, All-head, All-nil, All-tail}
use Rattle.sim_clock.specs.declared.key.Key.{Key}
use Rattle.sim_clock.specs.Order.{key_cmp}
use Rattle.sim_engine.proofs.Simulated.{simulated}
use Rattle.sim_engine.specs.Laws.{IsSoundSetting, RunLaws}
use Rattle.sim_engine.specs.Members.{Each, In}
use Rattle.sim_engine.specs.Setting.{IsNumbered}
use Rattle.sim_engine.specs.declared.edge.Edge.{Edge}
use Rattle.sqs_redrive.specs.declared.settings.QueueSettings.{QueueSettings}
use Rattle.sqs_model.specs.Delivery.{IsSorted}
use Rattle.sqs_model.specs.Dues.{dues}
use Rattle.sqs_model.specs.NoneBefore.{HasNoneBefore}
use Rattle.sqs_model.specs.Progress.{IsSound, IsSoundScenario, WasEnqueuedBy}
use Rattle.sqs_model.specs.Longest.{deduplication_interval}
use Rattle.sqs_model.specs.Queue.{Entry}
use Rattle.sqs_message.specs.declared.message.Message.{Message}
use Rattle.sqs_redrive.specs.declared.transfers.Outbound.{Outbound}
use Rattle.sqs_model.specs.Scenario.{Scenario, edges, opening_site, sources}
use Rattle.sqs_model.specs.Site.{Site, number_of}
use Rattle.sqs_model.specs.Step.{handled}
use Rattle.sqs_model.specs.Ways.{FitsWays, GoesAlongWays, HasWays, IsRowOf, IsSentBy, Leads, LeadsBy, home_of}
use Rattle.sqs_model.proofs.Delivery.{accepted_sorted, handled_sorted}
use Rattle.sqs_model.proofs.Members.{all_in, of_all}
use Rattle.sqs_model.proofs.NoneBefore.{leaves_none_before}
use Rattle.sqs_model.proofs.Opening.{opens_sound}
use Rattle.sqs_model.proofs.SiteMoves.{Falls, site_from}
use Rattle.sqs_model.proofs.WayOpening.{opens_with_ways}
use Rattle.sqs_model.proofs.Ways.{goes_along, ways_accepted}
use Rattle.sqs_model.proofs.Instance.{sqs_laws}
use Rattle.sqs_model.specs.Run.{setting_of}
use Rattle.sqs_model.specs.Conditions.{IsOfPast, sqs_conditions}
use Rattle.sqs_model.specs.Sqs.{sqs}
use Rattle.sim_engine.specs.Simulated.{IsSimulated}

pub each_all : {A : Type 0} (P : A → Type 0) (xs : List A) → All P xs → Each P xs
each_all P [] h = tt
each_all P (x ∷ xs) h = (All-head P x xs h, each_all P xs (All-tail P x xs h))

module _ (edges : List Edge) (home : ℕ → ℕ) (leading : ℕ → List ℕ) where
  -- a site that the machine may hold
  pub record IsFine (s : Site) : Type 0 where
    pub sound : IsSound s.core
    pub sorted : IsSorted s
    pub ways : HasWays edges home (LeadsBy leading) s

  goes : (key : Key) (s : Site) → IsFine s → GoesAlongWays edges home (LeadsBy leading) key s (handled key s)
  goes key s h = goes_along edges home leading key s h.ways

  none_due : (key : Key) (s : Site) → ((j : Key) → In (dues s) j → is_lt (key_cmp j key) ≡ false) → HasNoneBefore key s
  none_due key s f = all_in (λ j. is_lt (key_cmp j key) ≡ false) (dues s) f

  pub run_laws : ((e : Edge) → In edges e → 1 ≤ e.least) → RunLaws sqs sqs_conditions edges home IsFine (FitsWays (LeadsBy leading))
  run_laws least =
      record {
        sorted = λ s h. h.sorted;
        sound = λ s h. h.sound;
        handling = λ key s h i.
            let f : Falls key key.at s (handled key s) = site_from s key h.sound i key.at (omega arith) in
            record { sound = f.sound; sorted = handled_sorted key s h.sorted; ways = (goes key s h).ways };
        accepting = λ o s h f e. record { sound = h.sound; sorted = accepted_sorted o s h.sorted; ways = ways_accepted edges home leading o s h.ways f e };
        sending = λ key s h i. each_all (IsSentBy edges home key (number_of s.core)) (handled key s).sent (goes key s h).sent;
        fitting = λ key s h i. each_all (FitsWays (LeadsBy leading)) (handled key s).sent (goes key s h).fits;
        rows = λ key s h. each_all (IsRowOf key (number_of s.core)) (handled key s).rows (goes key s h).rows;
        remaining = λ key s h f j i.
            of_all (λ k. is_lt (key_cmp k key) ≡ false) (dues (handled key s).site) j (leaves_none_before key s h.sound (none_due key s f)) i;
        takes_time = least;
      }

opens_each :
    (s : Scenario) (xs : List (ℕ × QueueSettings)) → All (λ x. IsSound x.core) (map (opening_site s) xs) → All (HasWays (edges s) (home_of s) (Leads s)) (map (opening_site s) xs)
    → Each (IsFine (edges s) (home_of s) (sources s)) (map (opening_site s) xs)
opens_each s [] a b = tt
opens_each s (x ∷ xs) a b =
    let one : Site = opening_site s x in
    let rest : List Site = map (opening_site s) xs in (
      record { sound = All-head (λ (y : Site). IsSound y.core) one rest a; sorted = tt; ways = All-head (HasWays (edges s) (home_of s) (Leads s)) one rest b },
      opens_each s xs (All-tail (λ (y : Site). IsSound y.core) one rest a) (All-tail (HasWays (edges s) (home_of s) (Leads s)) one rest b),
    )

-- the sites of a scenario have the numbers of its queues
numbered_from : (s : Scenario) (n : ℕ) (xs : List QueueSettings) → IsNumbered sqs n (map (opening_site s) (enumerate_from n xs))
numbered_from s n [] = tt
numbered_from s n (x ∷ xs) = (refl, numbered_from s (n + 1) xs)

-- nothing there is from after the beginning
pub past_from : (s : Scenario) (xs : List (ℕ × QueueSettings)) → All (IsOfPast 0) (map (opening_site s) xs)
past_from s [] = All-nil (IsOfPast 0)
past_from s (x ∷ xs) =
    All-cons (IsOfPast 0) (opening_site s x) (map (opening_site s) xs)
    (record {
      recent = All-nil (λ (e : Entry). e.end ≤ 0 + deduplication_interval);
      filled = All-nil (λ (m : Message). m.enqueued ≤ 0);
      arriving = All-nil (λ (o : Outbound). WasEnqueuedBy o.at o.load);
    })
    (past_from s xs)

-- a sound scenario is a sound setting
pub sound_setting : (s : Scenario) → IsSoundScenario s → IsSoundSetting sqs sqs_conditions (home_of s) (IsFine (edges s) (home_of s) (sources s)) (FitsWays (Leads s)) (setting_of s)
sound_setting s h =
    record {
      laws = run_laws (edges s) (home_of s) (sources s) (λ e i. of_all (λ (x : Edge). 1 ≤ x.least) (edges s) e (opens_with_ways s h).take_time i);
      opens = opens_each s (enumerate_from 0 s.queues) (opens_sound s h) (opens_with_ways s h).sites;
      numbered = numbered_from s 0 s.queues;
      past = past_from s (enumerate_from 0 s.queues);
    }

-- so a run of it in partitions comes to its one-list run
pub sound_simulated : (s : Scenario) → IsSoundScenario s → IsSimulated sqs sqs_conditions (setting_of s)
sound_simulated s h = simulated sqs_laws (setting_of s) (home_of s) (IsFine (edges s) (home_of s) (sources s)) (FitsWays (Leads s)) (sound_setting s h)

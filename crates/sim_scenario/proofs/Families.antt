-- The agents of all actors: how many they are, that no two have one name, and what holds of each.
use Rattle.std.proofs.Common.{◌≡◌, ◌∙◌, ℕ, zero, suc, ◌+◌, ◌-◌, ◌<◌, ◌≤◌, Bool, true, false, nat_lt, codes, List, [], ◌∷◌, ◌++◌, append_assoc, append-nil, length, length-append, get_or, drop, take, map, Ok, refl, sym, subst, ap, arith}
use Rattle.std.specs.Prelude.{All}
use Rattle.std.specs.List.{flat_map, sum, sum_by}
use Rattle.std.specs.Str.{bytes_eq}
use Rattle.std.proofs.lemmas.Bool.Decides.{nat_tests}
use Rattle.std.proofs.lemmas.List.{drop_all, drop_more, length-map}
use Rattle.std.proofs.lemmas.List.Elements.{All-append, All-drop, All-head, All-nil, All-tail, All-take, All-weaker}
use Rattle.std.proofs.lemmas.List.FromFn.{length-map-range_with_len}
use Rattle.std.proofs.lemmas.List.Sums.{sum_by-append, sum_by-cons, sum_by-drop_more, sum_by-take-drop}
use Rattle.toml.specs.Data.{Data}
use Rattle.sqs_model.specs.declared.agents.ActorSettings.{ActorSettings}
use Rattle.sqs_formats.specs.Copies.{copy_name, copy_names, names_taken}
use Rattle.sqs_formats.specs.Keys.{Table, each, item_place, text_in}
use Rattle.sqs_formats.specs.Outline.{Outline, actor_place, is_fresh}
use Rattle.sqs_formats.specs.Actors.{Files, actor}
use Rattle.sqs_formats.specs.Scenario.{by_number}
use Rattle.sqs_formats.proofs.Readings.{parts, same_ok}
use Rattle.sim_scenario.proofs.ActorsRead.{AgentSays, actor_says, agent_names, own_name}
use Rattle.sim_scenario.proofs.Copying.{beside}
use Rattle.sim_scenario.proofs.ItemsRead.{item_text}
use Rattle.sim_scenario.proofs.QueueRanges.{each_holds}
use Rattle.sim_scenario.proofs.Once.{Once, fresh_apart, once_append, taken_once, tick, times, times_append, times_cons}

abbrev pub Agent : Type 0
Agent = List ℕ × ActorSettings

-- sums over the agents by number are those over the agents of each actor
flat_sum : (m : Agent → ℕ) (h : List Agent → List Agent) (fs : List (List Agent)) → sum_by m (flat_map h fs) ≡ sum_by (λ f. sum_by m (h f)) fs
flat_sum m h [] = refl
flat_sum m h (f ∷ fs) = sum_by-append m (h f) (flat_map h fs) ∙ ap (λ n. sum_by m (h f) + n) (flat_sum m h fs) ∙ sym (sum_by-cons (λ f. sum_by m (h f)) f fs)

both_sums : {X : Type 0} (f g h : X → ℕ) → ((x : X) → f x + g x ≡ h x) → (xs : List X) → sum_by f xs + sum_by g xs ≡ sum_by h xs
both_sums f g h e [] = refl
both_sums f g h e (x ∷ xs) = omega (arith, e x, both_sums f g h e xs, sum_by-cons f x xs, sum_by-cons g x xs, sum_by-cons h x xs)

pub number_sum : (m : Agent → ℕ) (fs : List (List Agent)) → sum_by m (by_number fs) ≡ sum_by (λ f. sum_by m f) fs
number_sum m fs =
    sum_by-append m (flat_map (take 1) fs) (flat_map (drop 1) fs)
    ∙ (λ j. flat_sum m (take 1) fs j + flat_sum m (drop 1) fs j)
    ∙ both_sums (λ f. sum_by m (take 1 f)) (λ f. sum_by m (drop 1 f)) (λ f. sum_by m f) (λ f. sum_by-take-drop m f 1) fs

-- what holds of the agents of each actor holds of all by number
flat_all : (P : Agent → Type 0) (h : List Agent → List Agent) → ((f : List Agent) → All P f → All P (h f)) → (fs : List (List Agent)) → All (λ f. All P f) fs → All P (flat_map h fs)
flat_all P h keeps [] all = All-nil P
flat_all P h keeps (f ∷ fs) all = All-append P (h f) (flat_map h fs) (keeps f (All-head (λ f. All P f) f fs all)) (flat_all P h keeps fs (All-tail (λ f. All P f) f fs all))

pub number_all : (P : Agent → Type 0) (fs : List (List Agent)) → All (λ f. All P f) fs → All P (by_number fs)
number_all P fs all =
    All-append P (flat_map (take 1) fs) (flat_map (drop 1) fs) (flat_all P (take 1) (λ f h. All-take P 1 f h) fs all) (flat_all P (drop 1) (λ f h. All-drop P 1 f h) fs all)

-- what holds of each agent of an actor holds of all
pub each_agent : (P : Agent → Type 0) (files : Files) (o : Outline) (ds : List Data) (fs : List (List Agent)) → each (codes "actor") (actor files o) 0 ds ≡ Ok fs → ((t : Table) (a : Agent) → AgentSays o t a.1 → P a) → All P (by_number fs)
each_agent P files o ds fs e h =
    number_all P fs
    (each_holds (λ f. All P f) (codes "actor") (actor files o) 0 ds fs (λ n t f k. All-weaker (λ a. AgentSays o t a.1) P (λ a says. h t a says) f (actor_says files o n t f k).each) e)

-- lengths as sums, and names of agents
pub length_sum : {X : Type 0} (xs : List X) → length xs ≡ sum_by (λ x. 1) xs
length_sum [] = refl
length_sum (x ∷ xs) = omega (arith, length_sum xs, sum_by-cons (λ x. 1) x xs)

abbrev pub named : List ℕ → Agent → ℕ
named s a = tick (bytes_eq a.0 s)

pub named_sum : (s : List ℕ) (xs : List Agent) → times s (map (λ a. a.0) xs) ≡ sum_by (named s) xs
named_sum s [] = refl
named_sum s (x ∷ xs) = times_cons s x.0 (map (λ a. a.0) xs) ∙ ap (λ n. named s x + n) (named_sum s xs) ∙ sym (sum_by-cons (named s) x xs)

-- an actor has its own name or those of its copies
fewer_names : (s name : List ℕ) (copies : ℕ) → times s (agent_names name copies) ≤ times s (name ∷ copy_names name copies)
fewer_names s name zero = omega arith
fewer_names s name (suc copies) = omega (arith, times_cons s name (copy_names name (suc copies)))

count_names : (name : List ℕ) (copies : ℕ) → length (agent_names name copies) ≡ 1 + (copies - 1)
count_names name zero = refl
count_names name (suc copies) = let all : length (copy_names name (suc copies)) ≡ suc copies = length-map-range_with_len (copy_name name) 1 (suc copies) in omega arith

length_named : (xs : List Agent) (names : List (List ℕ)) → map (λ a. a.0) xs ≡ names → length xs ≡ length names
length_named xs names e = sym (length-map xs (λ (a : Agent). a.0)) ∙ ap length e

-- the agents of actors whose names were given behind others
pub record AreFamilies (before taken : List (List ℕ)) (copies : List ℕ) (fs : List (List Agent)) : Type 0 where
  pub once : Once (before ++ taken)
  pub fewer : (s : List ℕ) → sum_by (λ f. sum_by (named s) f) fs ≤ times s taken
  pub count : sum_by (λ f. sum_by (λ x. 1) f) fs ≡ length copies + beside copies

-- the copies of the first of some actors
record IsFront (cs others : List ℕ) (n c : ℕ) : Type 0 where
  first : get_or cs n 0 ≡ c
  rest : drop (n + 1) cs ≡ others
  total : sum (take (n + 1) cs) ≡ sum (take n cs) + c

front_within : (cs others : List ℕ) (n c : ℕ) → n < length cs → drop n cs ≡ c ∷ others → IsFront cs others n c
front_within cs others n c within e =
    let both : get_or cs n 0 ∷ drop (n + 1) cs ≡ c ∷ others = sym (drop_more cs n 0 within) ∙ e in
    let first : get_or cs n 0 ≡ c = ap (λ xs. get_or xs 0 0) both in
    let sums = sum_by-drop_more (λ n. n) cs n 0 within in
    record {
      first = first;
      rest = ap (drop 1) both;
      total = omega (arith, first, sums, sum_by-take-drop (λ n. n) cs n, sum_by-take-drop (λ n. n) cs (n + 1));
    }

front_by : (b : Bool) (cs others : List ℕ) (n c : ℕ) → nat_lt n (length cs) ≡ b → drop n cs ≡ c ∷ others → IsFront cs others n c
front_by true cs others n c w e = let within : n < length cs = grind (arith, nat_tests) in front_within cs others n c within e
front_by false cs others n c w e = let past : length cs ≤ n = grind (arith, nat_tests) in let none : [] ≡ c ∷ others = sym (drop_all n cs past) ∙ e in cc

at_front : (cs others : List ℕ) (n c : ℕ) → drop n cs ≡ c ∷ others → IsFront cs others n c
at_front cs others n c e = front_by (nat_lt n (length cs)) cs others n c refl e

pub families_are : (files : Files) (o : Outline) (n : ℕ) (ds : List Data) (copies : List ℕ) (fs : List (List Agent)) (before rest : List (List ℕ)) → each (codes "actor") (actor files o) n ds ≡ Ok fs
    → drop n o.copies ≡ copies → length copies ≡ length ds → o.names ≡ before ++ (names_taken (map (text_in (codes "name")) ds) copies ++ rest) → actor_place o n ≡ length before → Once before
    → AreFamilies before (names_taken (map (text_in (codes "name")) ds) copies) copies fs
families_are files o n [] [] fs before rest e at size names place h =
    rw (← same_ok _ _ e) (record { once = rw (append-nil before) h; fewer = λ s. omega arith; count = refl })
families_are files o n [] (c ∷ copies) fs before rest e at size names place h = absurd (omega (arith, size))
families_are files o n (d ∷ ds) [] fs before rest e at size names place h = absurd (omega (arith, size))
families_are files o n (d ∷ ds) (c ∷ copies) fs before rest e at size names place h =
    let t = parts _ _ _ e in
    let f = parts _ _ _ t.2 in
    let others = parts _ _ _ f.2 in
    let front = at_front o.copies copies n c at in
    let own : List ℕ = text_in (codes "name") d in
    let given : own_name t.0 ≡ own = item_text (codes "name") (item_place (codes "actor") n) d t.0 t.1 in
    let says = actor_says files o n t.0 f.0 f.1 in
    let taken : List (List ℕ) = own ∷ copy_names own c in
    let more : List (List ℕ) = names_taken (map (text_in (codes "name")) ds) copies in
    let F : List ℕ → Type 0 = λ s. is_fresh o (actor_place o n) s ≡ true in
    let fresh : All F taken = subst (λ own. All F (own ∷ copy_names own c)) given (subst (λ k. All F (own_name t.0 ∷ copy_names (own_name t.0) k)) front.first says.fresh) in
    let behind : o.names ≡ before ++ (taken ++ (more ++ rest)) = names ∙ ap (λ x. before ++ x) (append_assoc taken more rest) in
    let apart : All (λ s. times s before ≡ 0) taken = All-weaker F (λ s. times s before ≡ 0) (λ s k. fresh_apart o before (taken ++ (more ++ rest)) (actor_place o n) s behind place k) taken fresh in
    let few : c ≤ 1000 = subst (λ k. k ≤ 1000) front.first says.few in
    let once : Once (before ++ taken) = once_append before taken h (taken_once own c few) apart in
    let long : length (before ++ taken) ≡ length before + length taken = length-append before taken in
    let wide : length (copy_names own c) ≡ c = length-map-range_with_len (copy_name own) 1 c in
    let next : actor_place o (n + 1) ≡ length (before ++ taken) = omega (arith, front.total, place) in
    let all = families_are files o (n + 1) ds copies others.0 (before ++ taken) rest others.1 front.rest (omega (arith, size)) (behind ∙ sym (append_assoc before taken (more ++ rest))) next once in
    let agents : map (λ a. a.0) f.0 ≡ agent_names own c = says.names ∙ (λ j. agent_names (given j) (front.first j)) in
    let counted : sum_by (λ x. 1) f.0 ≡ 1 + (c - 1) = sym (length_sum f.0) ∙ length_named f.0 (agent_names own c) agents ∙ count_names own c in
    let times_here = λ (s : List ℕ). sym (named_sum s f.0) ∙ ap (times s) agents in
    rw (← same_ok _ _ others.2) (record {
      once = rw (append_assoc before taken more) at all.once;
      fewer = λ s. omega (arith, all.fewer s, times_here s, fewer_names s own c, times_append s taken more, sum_by-cons (λ f. sum_by (named s) f) f.0 others.0);
      count = omega (arith, all.count, counted, sum_by-cons (λ f. sum_by (λ x. 1) f) f.0 others.0, sum_by-cons (λ n. n - 1) c copies);
    })

-- Quantiles of a text are in range and ascend.
use Rattle.std.proofs.Common.{◌≡◌, ◌∙◌, ℕ, ◌+◌, ◌-◌, ◌<◌, ◌≤◌, ◌==◌, Bool, true, false, List, [], ◌∷◌, ◌++◌, length, slice_index_or, Some, Ok, length-append, refl, ap, arith}
use Rattle.std.specs.Prelude.{All}
use Rattle.std.proofs.lemmas.Bool.Decides.{nat_tests}
use Rattle.std.proofs.lemmas.List.Elements.{All-append, All-cons, All-head, All-nil, All-tail}
use Rattle.toml.specs.Data.{Data}
use Rattle.sqs_model.specs.declared.agents.Distribution.{Distribution}
use Rattle.sqs_model.specs.declared.agents.Quantile.{Quantile}
use Rattle.sqs_model.specs.Valid.{AreAscending, AreQuantiles, AscendsAll, Between, Follows, IsDistribution}
use Rattle.sqs_formats.specs.Keys.{KeyType, Table, integer}
use Rattle.sqs_formats.specs.Lists.{items, list_of, sized_list}
use Rattle.sqs_formats.specs.Distributions.{last_from, last_of, least_time, permilles, quantile, quantiles, rises, time}
use Rattle.sqs_formats.proofs.Readings.{parts, picked, same_ok}
use Rattle.sim_scenario.proofs.Admits.{Admits, bounds_within, integer_admits, required_admits}

-- the last of some quantiles has the greatest index
last_is : (q : Quantile) (qs : List Quantile) (d : Quantile) → slice_index_or (q ∷ qs) (length qs) d ≡ last_from q qs
last_is q [] d = refl
last_is q (r ∷ rs) d = last_is r rs d

pub last_at : (qs : List Quantile) (d : Quantile) → 0 < length qs → Some (slice_index_or qs (length qs - 1) d) ≡ last_of qs
last_at [] d h = absurd (omega (arith, h))
last_at (q ∷ qs) d h = let same : length (q ∷ qs) - 1 ≡ length qs = omega arith in rw same (ap (λ q. Some q) (last_is q qs d))

-- a list has a number of items in its range
sized : (least most : ℕ) → Admits (λ ds. Between least most (length ds)) (sized_list least most)
unfolding sized_list
sized least most place d ds e =
    let all = parts _ _ _ e in
    let enough = parts _ _ _ all.2 in
    let low = picked _ _ _ _ enough.1 in
    let high = picked _ _ _ _ enough.2 in
    let within : Between least most (length all.0) = (let l = low.0 in let h = high.0 in grind (arith, nat_tests)) in
    rw (← high.1) within

-- what holds of no items, and goes on to hold with each item that is read, holds of all
pub items_hold : {X : Type 0} (P : List X → Type 0) (type : List X → KeyType X) → ((xs : List X) (place : List ℕ) (d : Data) (x : X) → P xs → type xs place d ≡ Ok x → P (xs ++ (x ∷ [])))
    → (place : List ℕ) (xs : List X) (ds : List Data) (ys : List X) → P xs → items type place xs ds ≡ Ok ys → P ys × (length ys ≡ length xs + length ds)
items_hold P type h place xs [] ys p e = rw (← same_ok _ _ e) (p, omega arith)
items_hold P type h place xs (d ∷ ds) ys p e =
    let x = parts _ _ _ e in
    let rest = items_hold P type h place (xs ++ (x.0 ∷ [])) ds ys (h xs _ d x.0 p x.1) x.2 in
    (rest.0, rest.1 ∙ simp (length-append) (omega arith))

pub list_holds : {X : Type 0} (P : List X → Type 0) (least most : ℕ) (type : ℕ → List X → KeyType X) → P [] → ((n : ℕ) (xs : List X) (place : List ℕ) (d : Data) (x : X) → P xs → type n xs place d ≡ Ok x → P (xs ++ (x ∷ [])))
    → Admits (λ xs. P xs × Between least most (length xs)) (list_of least most type)
unfolding list_of
list_holds P least most type none h place d xs e =
    let ds = parts _ _ _ e in
    let size = sized least most place d ds.0 ds.1 in
    let all = items_hold P (type (length ds.0)) (h (length ds.0)) place [] ds.0 xs none ds.2 in
    let same : length xs ≡ length ds.0 = omega (arith, all.1) in
    (all.0, rw same size)

-- what holds of each item holds of all of them
pub all_hold : {X : Type 0} (P : X → Type 0) (type : KeyType X) → Admits P type → (least most : ℕ) → Admits (All P) (list_of least most (λ count before. type))
all_hold P type h least most place d xs e =
    (list_holds (All P) least most (λ count before. type) (All-nil P) (λ n xs place d x p e. All-append P xs (x ∷ []) p (All-cons P x [] (h place d x e) (All-nil P))) place d xs e).0

-- integers are in their range
pub integers_hold : (P : ℕ → Type 0) (least most low high : ℕ) → ((n : ℕ) → Between low high n → P n) → Admits (All P) (list_of least most (λ count before. integer low high))
integers_hold P least most low high h = all_hold P (integer low high) (λ place d n e. h n (integer_admits low high place d n e)) least most

-- quantiles that were read so far
record AreRising (qs : List Quantile) : Type 0 where
  times : All (λ q. Between 1 86400000 q.time) qs
  permilles : All (λ q. q.permille ≤ 1000) qs
  ascending : AscendsAll qs

-- what holds of all holds of the last one
last_holds : (P : Quantile → Type 0) (q : Quantile) (qs : List Quantile) → All P (q ∷ qs) → P (last_from q qs)
last_holds P q [] h = All-head P q [] h
last_holds P q (r ∷ rs) h = last_holds P r rs (All-tail P q (r ∷ rs) h)

least_time_is : (qs : List Quantile) → All (λ q. Between 1 86400000 q.time) qs → 1 ≤ least_time (last_of qs)
least_time_is [] h = omega arith
least_time_is (q ∷ qs) h = (last_holds (λ q. Between 1 86400000 q.time) q qs h).0

most_permille : (first last : Bool) → (permilles first last).1 ≤ 1000
most_permille true last = omega arith
most_permille false true = omega arith
most_permille false false = omega arith

-- a quantile after the last one
ascending_more : (q : Quantile) (qs : List Quantile) (x : Quantile) → AreAscending q qs → Follows (last_from q qs) x → AreAscending q (qs ++ (x ∷ []))
ascending_more q [] x h f = (f, tt)
ascending_more q (r ∷ rs) x h f = (h.0, ascending_more r rs x h.1 f)

ascends_more : (qs : List Quantile) (x : Quantile) → AscendsAll qs → rises (last_of qs) x.permille ≡ true → least_time (last_of qs) ≤ x.time → AscendsAll (qs ++ (x ∷ []))
ascends_more [] x h r t = tt
ascends_more (q ∷ qs) x h r t = let greater : (last_from q qs).permille < x.permille = grind (arith, nat_tests) in ascending_more q qs x h (greater, t)

rising_more : (n : ℕ) (qs : List Quantile) (place : List ℕ) (d : Data) (x : Quantile) → AreRising qs → quantile n qs place d ≡ Ok x → AreRising (qs ++ (x ∷ []))
unfolding quantile
rising_more n qs place d x h e =
    let both = parts _ _ _ e in
    let permille = parts _ _ _ both.2 in
    let greater = parts _ _ _ permille.2 in
    let time = parts _ _ _ greater.2 in
    let rise : rises (last_of qs) permille.0 ≡ true = (picked _ _ _ _ greater.1).0 in
    let first = length qs == 0 in
    let last = length qs + 1 == n in
    let within = integer_admits (permilles first last).0 (permilles first last).1 place both.0.0 permille.0 permille.1 in
    let most = most_permille first last in
    let low : permille.0 ≤ 1000 = omega (arith, within.1, most) in
    let after = integer_admits (least_time (last_of qs)) 86400000 place both.0.1 time.0 time.1 in
    let least = least_time_is qs h.times in
    let positive : 1 ≤ time.0 = omega (arith, after.0, least) in
    rw (← same_ok _ _ time.2) (record {
      times = All-append (λ (q : Quantile). Between 1 86400000 q.time) qs _ h.times (All-cons (λ (q : Quantile). Between 1 86400000 q.time) _ [] (positive, after.1) (All-nil (λ (q : Quantile). Between 1 86400000 q.time)));
      permilles = All-append (λ (q : Quantile). q.permille ≤ 1000) qs _ h.permilles (All-cons (λ (q : Quantile). q.permille ≤ 1000) _ [] low (All-nil (λ (q : Quantile). q.permille ≤ 1000)));
      ascending = ascends_more qs (record { permille = permille.0; time = time.0 }) h.ascending rise after.0;
    })

quantiles_admit : Admits AreQuantiles quantiles
quantiles_admit place d qs e =
    let none : AreRising [] = record { times = All-nil (λ (q : Quantile). Between 1 86400000 q.time); permilles = All-nil (λ (q : Quantile). q.permille ≤ 1000); ascending = tt } in
    let all = list_holds AreRising 2 32 quantile none rising_more place d qs e in
    record { count = all.1; times = all.0.times; permilles = all.0.permilles; ascending = all.0.ascending }

-- a time is in range
pub time_in_range : (b : Bool) (key low high : List ℕ) (t : Table) (d : Distribution) → time b key low high t ≡ Ok d → IsDistribution d
unfolding time
time_in_range true key low high t d e =
    let read = parts _ _ _ e in
    rw (← same_ok _ _ read.2) (required_admits AreQuantiles quantiles quantiles_admit t key read.0 read.1)
time_in_range false key low high t d e =
    let both = parts _ _ _ e in
    rw (← same_ok _ _ both.2) (bounds_within 86400000 t low high both.0 both.1)

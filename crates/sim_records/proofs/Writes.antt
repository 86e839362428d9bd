-- Writes in turn.
use Rattle.std.proofs.Common.{◌≡◌, ℕ, ◌+◌, ◌<◌, ◌≤◌, List, ◌∷◌, ◌++◌, Option, Result, Ok, Err, length, take, get_or, map, arith, refl, sym, ap, ◌∙◌, subst, append-nil, append_assoc}
use Rattle.std.proofs.lemmas.Grind.{common_steps, flat_map-append}
use Rattle.std.proofs.lemmas.List.{map-append, take_more}
use Rattle.std.proofs.Math.Seq.{take-append-add}
use Rattle.std.specs.Result.{IsErrAnd}
use Rattle.std.specs.Io.KnownBytes.{Appends}
use Rattle.csv.proofs.WriteFacts.{appends-none, appends-more}
use Rattle.sim_clock.specs.declared.refusal.Refusal.{Refusal}
use Rattle.sim_clock.specs.declared.refusal.Refusal.TheVariants as refusal
use Rattle.sqs_formats.specs.Rows.{line, lines}
use Rattle.sim_records.specs.Writes.{AppendsPrefix, WriterState, Wrote, WroteSeveral}

-- nothing is a prefix of anything
pub prefix_none : (a : Option (List ℕ)) (xs : List ℕ) → AppendsPrefix a a xs
prefix_none a xs = (0, omega arith, appends-none a)

-- a prefix of the first of two
pub prefix_of_first : (a b : Option (List ℕ)) (xs ys : List ℕ) → AppendsPrefix a b xs → AppendsPrefix a b (xs ++ ys)
prefix_of_first a b xs ys p =
    let within : p.0 ≤ length xs = p.1 in
    let same : take p.0 (xs ++ ys) ≡ take p.0 xs = grind (arith, common_steps) in
    (p.0, grind (arith, common_steps), rw same p.2)

-- the first of two, and a prefix of the second
pub prefix_of_second : (a b c : Option (List ℕ)) (xs ys : List ℕ) → Appends a b xs → AppendsPrefix b c ys → AppendsPrefix a c (xs ++ ys)
prefix_of_second a b c xs ys p q =
    let within : q.0 ≤ length ys = q.1 in
    (length xs + q.0, grind (arith, common_steps), rw (take-append-add xs ys q.0) (appends-more a b c xs (take q.0 ys) p q.2))

-- one record is several
pub several-one : (a b : WriterState) (xs : List ℕ) (r : Result (Unit {0}) Refusal) → Wrote a b xs r → WroteSeveral a b xs r
several-one a b xs (Ok u) p = p
several-one a b xs (Err refusal.Memory) p = (rw p.0 (prefix_none a.held xs), p.1)
several-one a b xs (Err refusal.Write) p = p
several-one a b xs (Err r) p = absurd p

-- some bytes, and then several records
pub several_after : (a b c : WriterState) (xs ys : List ℕ) (r : Result (Unit {0}) Refusal)
    → Appends a.held b.held xs → WroteSeveral b c ys r → WroteSeveral a c (xs ++ ys) r
several_after a b c xs ys (Ok u) p q = (appends-more a.held b.held c.held xs ys p q.0, q.1)
several_after a b c xs ys (Err refusal.Memory) p q = (prefix_of_second a.held b.held c.held xs ys p q.0, q.1)
several_after a b c xs ys (Err refusal.Write) p q = (prefix_of_second a.held b.held c.held xs ys p q.0, q.1)
several_after a b c xs ys (Err r) p q = absurd q

-- what stopped before the end stopped before the end of more
pub several_stopped : (a b : WriterState) (xs ys : List ℕ) (e : Refusal) → WroteSeveral a b xs (Err e) → WroteSeveral a b (xs ++ ys) (Err e)
several_stopped a b xs ys refusal.Memory p = (prefix_of_first a.held b.held xs ys p.0, p.1)
several_stopped a b xs ys refusal.Write p = (prefix_of_first a.held b.held xs ys p.0, p.1)
several_stopped a b xs ys e p = absurd p

-- the lines of one more
pub lines-take : {X : Type 0} (f : X → List (List ℕ)) (xs : List X) (i : ℕ) (d : X) → i < length xs
    → lines (map f (take (i + 1) xs)) ≡ lines (map f (take i xs)) ++ line (f (get_or xs i d))
lines-take f xs i d h = rw (take_more xs i d h, map-append, flat_map-append line, append-nil) refl

-- the lines of some, and then those of others
pub lines-append : {X : Type 0} (f : X → List (List ℕ)) (xs ys : List X) → lines (map f (xs ++ ys)) ≡ lines (map f xs) ++ lines (map f ys)
lines-append f xs ys = rw (map-append f xs ys) (flat_map-append line (map f xs) (map f ys))

-- the error that a `?` hands on is the one that it met
pub several_handed_on : (a b : WriterState) (xs : List ℕ) (e : Refusal) (r : Result (Unit {0}) Refusal)
    → IsErrAnd r (λ met. met ≡ e) → WroteSeveral a b xs (Err e) → WroteSeveral a b xs r
several_handed_on a b xs e (Ok u) p q = absurd p
several_handed_on a b xs e (Err met) p q = rw p q

-- the next of what is left are not written, so the others are not either
pub next_stopped : {X : Type 0} (f : X → List (List ℕ)) (rest next others : List X) (a b c : WriterState) (written all : List ℕ) (e : Refusal) (r : Result (Unit {0}) Refusal)
    → rest ≡ next ++ others → written ++ lines (map f rest) ≡ all → Appends a.held b.held written → Wrote b c (lines (map f next)) (Err e)
    → IsErrAnd r (λ met. met ≡ e) → WroteSeveral a c all r
next_stopped {X} f rest next others a b c written all e r parts whole prefix q met =
    let both : lines (map f next) ++ lines (map f others) ≡ lines (map f rest) = sym (ap (λ (xs : List X). lines (map f xs)) parts ∙ lines-append f next others) in
    let more = several_stopped b c (lines (map f next)) (lines (map f others)) e (several-one b c (lines (map f next)) (Err e) q) in
    let stopped = several_after a b c written (lines (map f next) ++ lines (map f others)) (Err e) prefix more in
    let is : written ++ (lines (map f next) ++ lines (map f others)) ≡ all = ap (λ (t : List ℕ). written ++ t) both ∙ whole in
    several_handed_on a c all e r met (subst (λ (t : List ℕ). WroteSeveral a c t (Err e)) is stopped)

-- the next of what is left are written
pub next_written : {X : Type 0} (f : X → List (List ℕ)) (rest next others : List X) (a b c : WriterState) (written all : List ℕ) (u : Unit {0})
    → rest ≡ next ++ others → written ++ lines (map f rest) ≡ all → Appends a.held b.held written → Wrote b c (lines (map f next)) (Ok u)
    → (more : List ℕ) × Appends a.held c.held more × (more ++ lines (map f others) ≡ all)
next_written {X} f rest next others a b c written all u parts whole prefix q =
    let both : lines (map f next) ++ lines (map f others) ≡ lines (map f rest) = sym (ap (λ (xs : List X). lines (map f xs)) parts ∙ lines-append f next others) in
    let is : (written ++ lines (map f next)) ++ lines (map f others) ≡ all = append_assoc written (lines (map f next)) (lines (map f others)) ∙ ap (λ (t : List ℕ). written ++ t) both ∙ whole in
    (written ++ lines (map f next), appends-more a.held b.held c.held written (lines (map f next)) prefix q.0, is)

-- a header is not written, so neither is what follows
pub header_stopped : (a b : WriterState) (header : List (List ℕ)) (rows : List (List (List ℕ))) (e : Refusal) (r : Result (Unit {0}) Refusal)
    → IsErrAnd r (λ met. met ≡ e) → Wrote a b (line header) (Err e) → WroteSeveral a b (lines (header ∷ rows)) r
header_stopped a b header rows e r p q =
    let stopped = several_stopped a b (line header) (lines rows) e (several-one a b (line header) (Err e) q) in
    several_handed_on a b (lines (header ∷ rows)) e r p stopped

-- a header, and then what follows
pub header_and_more : (a b c : WriterState) (header : List (List ℕ)) (rows : List (List (List ℕ))) (u : Unit {0}) (r : Result (Unit {0}) Refusal)
    → Wrote a b (line header) (Ok u) → WroteSeveral b c (lines rows) r → WroteSeveral a c (lines (header ∷ rows)) r
header_and_more a b c header rows u r p q = several_after a b c (line header) (lines rows) r p.0 q

-- the first of two parts is not written, so neither is the second
pub part_stopped : (a b : WriterState) (first second : List (List (List ℕ))) (e : Refusal) (r : Result (Unit {0}) Refusal)
    → IsErrAnd r (λ met. met ≡ e) → WroteSeveral a b (lines first) (Err e) → WroteSeveral a b (lines (first ++ second)) r
part_stopped a b first second e r p q =
    let stopped = several_stopped a b (lines first) (lines second) e q in
    subst (λ (t : List ℕ). WroteSeveral a b t r) (sym (flat_map-append line first second)) (several_handed_on a b (lines first ++ lines second) e r p stopped)

-- one part, and then another
pub part_and_more : (a b c : WriterState) (first second : List (List (List ℕ))) (u : Unit {0}) (r : Result (Unit {0}) Refusal)
    → WroteSeveral a b (lines first) (Ok u) → WroteSeveral b c (lines second) r → WroteSeveral a c (lines (first ++ second)) r
part_and_more a b c first second u r p q =
    subst (λ (t : List ℕ). WroteSeveral a c t r) (sym (flat_map-append line first second)) (several_after a b c (lines first) (lines second) r p.0 q)

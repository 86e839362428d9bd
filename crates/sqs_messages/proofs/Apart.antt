-- A message's group alone decides whether it leads; a change in another group leaves that as it was.
use Rattle.std.proofs.Common.{◌≡◌, ℕ, Bool, true, false, List, [], ◌∷◌, ◌++◌, Option, Some, None, cond, filter, if◌then◌else◌, ◌||◌, ◌&&◌, not, refl, ap, sym, ◌∙◌, append-nil}
use Rattle.std.specs.Prelude.{find, ◌==◌}
use Rattle.std.specs.List.{list_any}
use Rattle.std.proofs.lemmas.List.Elements.{filter-append}
use Rattle.sim_clock.specs.Firsts.{changed, without}
use Rattle.sqs_message.specs.declared.message.Message.{Message}
use Rattle.sqs_model.specs.Queue.{same_text, has_number, is_in_flight, is_visible}
use Rattle.sqs_messages.specs.Heads.{begins, in_group, leads, leads_in, of_group}

out_one : (p q : Message → Bool) (m : Message) (ms : List Message) (b : Bool) → p m ≡ b → list_any (λ x. p x && q x) ms ≡ list_any q (filter p ms)
    → ((p m && q m) || list_any (λ x. p x && q x) ms) ≡ list_any q (cond (p m) (m ∷ filter p ms) (filter p ms))
out_one p q m ms true e ih = (λ j. (e j && q m) || ih j) ∙ sym (ap (λ c. list_any q (cond c (m ∷ filter p ms) (filter p ms))) e)
out_one p q m ms false e ih = (λ j. (e j && q m) || ih j) ∙ sym (ap (λ c. list_any q (cond c (m ∷ filter p ms) (filter p ms))) e)

out_of : (p q : Message → Bool) (ms : List Message) → list_any (λ x. p x && q x) ms ≡ list_any q (filter p ms)
out_of p q [] = refl
out_of p q (m ∷ ms) = out_one p q m ms (p m) refl (out_of p q ms)

first_one : (p : Message → Bool) (m x : Message) (ms : List Message) (b : Bool) → p m ≡ b
    → (elim (find p ms) as (λ _. Bool) [ None ↦ false | Some y ↦ y.number == x.number ]) ≡ begins (filter p ms) x
    → (elim (cond (p m) (Some m) (find p ms)) as (λ _. Bool) [ None ↦ false | Some y ↦ y.number == x.number ]) ≡ begins (cond (p m) (m ∷ filter p ms) (filter p ms)) x
first_one p m x ms true e ih =
    ap (λ c. elim (cond c (Some m) (find p ms)) as (λ (_ : Option Message). Bool) [ None ↦ false | Some y ↦ y.number == x.number ]) e
    ∙ sym (ap (λ c. begins (cond c (m ∷ filter p ms) (filter p ms)) x) e)
first_one p m x ms false e ih =
    ap (λ c. elim (cond c (Some m) (find p ms)) as (λ (_ : Option Message). Bool) [ None ↦ false | Some y ↦ y.number == x.number ]) e
    ∙ ih
    ∙ sym (ap (λ c. begins (cond c (m ∷ filter p ms) (filter p ms)) x) e)

first_of : (p : Message → Bool) (x : Message) (ms : List Message) → (elim (find p ms) as (λ _. Bool) [ None ↦ false | Some y ↦ y.number == x.number ]) ≡ begins (filter p ms) x
first_of p x [] = refl
first_of p x (m ∷ ms) = first_one p m x ms (p m) refl (first_of p x ms)

-- whether a message leads is told by the messages of its group
pub leads_of : (all : List Message) (m : Message) → leads all m ≡ leads_in (of_group m.group all) m
leads_of all m = (λ j. is_visible m && not (out_of (in_group m.group) is_in_flight all j) && first_of (in_group m.group) m all j)

-- a test that does not pick what left or changed picks the same
pub filter_without : (p q : Message → Bool) (xs : List Message) (m : Message) → find p xs ≡ Some m → q m ≡ false → filter q (without p xs) ≡ filter q xs
filter_without p q [] m e k = refl
filter_without p q (x ∷ xs) m e k = by (filter_without p q xs m) (p x) refl
  where
    by : (find p xs ≡ Some m → q m ≡ false → filter q (without p xs) ≡ filter q xs) → (b : Bool) → p x ≡ b → filter q (if p x then xs else x ∷ without p xs) ≡ filter q (x ∷ xs)
    by ih true t =
        let found : Some x ≡ Some m = sym (ap (λ b. cond b (Some x) (find p xs)) t) ∙ e in
        let same : x ≡ m = cc in
        ap (λ b. filter q (if b then xs else x ∷ without p xs)) t ∙ sym (ap (λ b. cond b (x ∷ filter q xs) (filter q xs)) (ap q same ∙ k))
    by ih false t =
        let found : find p xs ≡ Some m = sym (ap (λ b. cond b (Some x) (find p xs)) t) ∙ e in
        ap (λ b. filter q (if b then xs else x ∷ without p xs)) t ∙ ap (λ ys. cond (q x) (x ∷ ys) ys) (ih found k)

pub filter_changed : (p q : Message → Bool) (f : Message → Message) (xs : List Message) (m : Message) → find p xs ≡ Some m → q m ≡ false → q (f m) ≡ false → filter q (changed p f xs) ≡ filter q xs
filter_changed p q f [] m e k l = refl
filter_changed p q f (x ∷ xs) m e k l = by (filter_changed p q f xs m) (p x) refl
  where
    by : (find p xs ≡ Some m → q m ≡ false → q (f m) ≡ false → filter q (changed p f xs) ≡ filter q xs) → (b : Bool) → p x ≡ b → filter q (if p x then f x ∷ xs else x ∷ changed p f xs) ≡ filter q (x ∷ xs)
    by ih true t =
        let found : Some x ≡ Some m = sym (ap (λ b. cond b (Some x) (find p xs)) t) ∙ e in
        let same : x ≡ m = cc in
        ap (λ b. filter q (if b then f x ∷ xs else x ∷ changed p f xs)) t
        ∙ ap (λ b. cond b (f x ∷ filter q xs) (filter q xs)) (ap (λ y. q (f y)) same ∙ l)
        ∙ sym (ap (λ b. cond b (x ∷ filter q xs) (filter q xs)) (ap q same ∙ k))
    by ih false t =
        let found : find p xs ≡ Some m = sym (ap (λ b. cond b (Some x) (find p xs)) t) ∙ e in
        ap (λ b. filter q (if b then f x ∷ xs else x ∷ changed p f xs)) t ∙ ap (λ ys. cond (q x) (x ∷ ys) ys) (ih found k l)

filter_pushed : (q : Message → Bool) (xs : List Message) (m : Message) → q m ≡ false → filter q (xs ++ m ∷ []) ≡ filter q xs
filter_pushed q xs m k = filter-append q xs (m ∷ []) ∙ ap (λ b. filter q xs ++ cond b (m ∷ []) []) k ∙ append-nil (filter q xs)

-- messages of other groups lead as before, after one left, changed or came
pub leads_without : (all : List Message) (n : ℕ) (m s : Message) → find (has_number n) all ≡ Some m → in_group s.group m ≡ false → leads (without (has_number n) all) s ≡ leads all s
leads_without all n m s e k =
    leads_of (without (has_number n) all) s ∙ ap (λ ms. leads_in ms s) (filter_without (has_number n) (in_group s.group) all m e k) ∙ sym (leads_of all s)

pub leads_changed : (all : List Message) (n : ℕ) (f : Message → Message) (m s : Message) → find (has_number n) all ≡ Some m → in_group s.group m ≡ false → (f m).group ≡ m.group → leads (changed (has_number n) f all) s ≡ leads all s
leads_changed all n f m s e k g =
    leads_of (changed (has_number n) f all) s
    ∙ ap (λ ms. leads_in ms s) (filter_changed (has_number n) (in_group s.group) f all m e k (ap (λ (x : Option (List ℕ)). same_text s.group x) g ∙ k))
    ∙ sym (leads_of all s)

pub leads_pushed : (all : List Message) (m s : Message) → in_group s.group m ≡ false → leads (all ++ m ∷ []) s ≡ leads all s
leads_pushed all m s k = leads_of (all ++ m ∷ []) s ∙ ap (λ ms. leads_in ms s) (filter_pushed (in_group s.group) all m k) ∙ sym (leads_of all s)

no_and : (a b : Bool) → (a && b && false) ≡ false
no_and true true = refl
no_and true false = refl
no_and false b = refl

-- of a group only the first leads
pub only_first : (all : List Message) (s : Message) → begins (of_group s.group all) s ≡ false → leads all s ≡ false
only_first all s e =
    leads_of all s
    ∙ ap (λ b. is_visible s && not (list_any is_in_flight (of_group s.group all)) && b) e
    ∙ no_and (is_visible s) (not (list_any is_in_flight (of_group s.group all)))

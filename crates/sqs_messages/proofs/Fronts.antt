-- The first of a group, marked where it leads.
use Rattle.std.proofs.Common.{◌≡◌, ℕ, ◌+◌, ◌≤◌, Bool, true, false, List, [], ◌∷◌, Option, Some, None, cond, filter, if◌then◌else◌, map, not, ◌&&◌, arith, refl, ap, sym, subst, ◌∙◌}
use Rattle.std.specs.Prelude.{All, find, ◌==◌}
use Rattle.std.specs.List.{list_any}
use Rattle.std.proofs.lemmas.Bool.Decides.{nat_tests}
use Rattle.std.proofs.lemmas.List.Elements.{All-cons, All-nil}
use Rattle.sim_clock.specs.Firsts.{changed}
use Rattle.sim_index.specs.Marks.{meets}
use Rattle.sqs_message.specs.declared.message.Message.{Message}
use Rattle.sqs_model.specs.Progress.{Ascends}
use Rattle.sqs_model.specs.Queue.{is_visible}
use Rattle.sqs_model.specs.Texts.{same_text_decides}
use Rattle.sqs_messages.specs.Heads.{AreLed, IsLedBut, in_group, is_first, leads, of_group, told}
use Rattle.sqs_messages.specs.Slots.{Shelved, is_numbered, number_of, with_hosts}
use Rattle.sqs_messages.proofs.Led.{led_empty, led_front}
use Rattle.sqs_messages.specs.Groups.{bit, front_of, is_out, out_of}
use Rattle.sqs_messages.specs.Marked.{unhosted}
use Rattle.sqs_messages.proofs.Grouped.{count_none}

front_is : (q : Message → Bool) (ms : List Message) (n : ℕ) (v : Bool) → front_of (filter q ms) ≡ Some (n, v) → (m : Message) × (find q ms ≡ Some m) × (m.number ≡ n) × (is_visible m ≡ v) × (q m ≡ true)
front_is q [] n v e = cc
front_is q (x ∷ ms) n v e = by (front_is q ms n v) (q x) refl
  where
    by : (front_of (filter q ms) ≡ Some (n, v) → (m : Message) × (find q ms ≡ Some m) × (m.number ≡ n) × (is_visible m ≡ v) × (q m ≡ true)) → (b : Bool) → q x ≡ b
        → (m : Message) × (find q (x ∷ ms) ≡ Some m) × (m.number ≡ n) × (is_visible m ≡ v) × (q m ≡ true)
    by ih true k =
        let found : Some (x.number, is_visible x) ≡ Some (n, v) = sym (ap (λ b. front_of (cond b (x ∷ filter q ms) (filter q ms))) k) ∙ e in
        let pair : (x.number, is_visible x) ≡ (n, v) = cc in
        (x, ap (λ b. cond b (Some x) (find q ms)) k, ap (λ (p : ℕ × Bool). p.0) pair, ap (λ (p : ℕ × Bool). p.1) pair, k)
    by ih false k =
        let rest = ih (sym (ap (λ b. front_of (cond b (x ∷ filter q ms) (filter q ms))) k) ∙ e) in
        (rest.0, ap (λ b. cond b (Some x) (find q ms)) k ∙ rest.1, rest.2, rest.3, rest.4)

front_none : (ms : List Message) → front_of ms ≡ None → ms ≡ []
front_none [] e = refl
front_none (m ∷ ms) e = cc

pub none_in : (q : Message → Bool) (items : List Shelved) → filter q (told items) ≡ [] → All (λ x. q x.message ≡ false) items
none_in q [] e = All-nil (λ (x : Shelved). q x.message ≡ false)
none_in q (x ∷ items) e = by (none_in q items) (q x.message) refl
  where
    by : (filter q (told items) ≡ [] → All (λ x. q x.message ≡ false) items) → (b : Bool) → q x.message ≡ b → All (λ x. q x.message ≡ false) (x ∷ items)
    by ih true k = let no : x.message ∷ filter q (told items) ≡ [] = sym (ap (λ b. cond b (x.message ∷ filter q (told items)) (filter q (told items))) k) ∙ e in cc
    by ih false k = All-cons (λ (y : Shelved). q y.message ≡ false) x items k (ih (sym (ap (λ b. cond b (x.message ∷ filter q (told items)) (filter q (told items))) k) ∙ e))

-- a message that a test picks first, with its mark
pub found_here : (q : Message → Bool) (low : ℕ) (items : List Shelved) (m : Message) → Ascends number_of low items → find q (told items) ≡ Some m → (s : Shelved) × (s.message ≡ m) × (find (is_numbered m.number) items ≡ Some s) × (low ≤ m.number)
found_here q low [] m a e = cc
found_here q low (x ∷ items) m a e = by (found_here q (number_of x + 1) items m a.1) (q x.message) refl
  where
    by : (find q (told items) ≡ Some m → (s : Shelved) × (s.message ≡ m) × (find (is_numbered m.number) items ≡ Some s) × (number_of x + 1 ≤ m.number)) → (b : Bool) → q x.message ≡ b
        → (s : Shelved) × (s.message ≡ m) × (find (is_numbered m.number) (x ∷ items) ≡ Some s) × (low ≤ m.number)
    by ih true k =
        let found : Some x.message ≡ Some m = sym (ap (λ b. cond b (Some x.message) (find q (told items))) k) ∙ e in
        let same : x.message ≡ m = cc in
        let number : x.message.number ≡ m.number = ap (λ (y : Message). y.number) same in
        let here : is_numbered m.number x ≡ true = grind (arith, nat_tests, number) in
        (x, same, ap (λ b. cond b (Some x) (find (is_numbered m.number) items)) here, omega (arith, a.0, number))
    by ih false k =
        let rest = ih (sym (ap (λ b. cond b (Some x.message) (find q (told items))) k) ∙ e) in
        let high : number_of x + 1 ≤ m.number = rest.3 in
        let away : is_numbered m.number x ≡ false = grind (arith, nat_tests, high) in
        (rest.0, rest.1, ap (λ b. cond b (Some x) (find (is_numbered m.number) items)) away ∙ rest.2, omega (arith, a.0, high))

meets_bit : (b : Bool) (s : Shelved) → meets 1 (with_hosts (bit b) s).mark ≡ b
meets_bit true s = refl
meets_bit false s = refl

three : (a b c : Bool) → c ≡ true → (a && b) ≡ (a && b && c)
three true true c e = sym e
three true false c e = refl
three false b c e = refl

-- once the first of a group is marked where it leads, all are
pub front_led : (g : Option (List ℕ)) (items : List Shelved) (number : ℕ) (visible : Bool) (out hosts : ℕ) → Ascends number_of 0 items → All (IsLedBut items g) items → front_of (of_group g (told items)) ≡ Some (number, visible)
    → out ≡ out_of g (told items) → hosts ≡ bit (visible && out == 0) → AreLed (changed (is_numbered number) (with_hosts hosts) items)
front_led g items number visible out hosts a led e count is =
    let m = front_is (in_group g) (told items) number visible e in
    let s = found_here (in_group g) 0 items m.0 a m.1 in
    let group : g ≡ m.0.group = (same_text_decides g m.0.group).0 m.4 in
    let first : find (in_group m.0.group) (told items) ≡ Some m.0 = subst (λ (y : Option (List ℕ)). find (in_group y) (told items) ≡ Some m.0) group m.1 in
    let self : (m.0.number == m.0.number) ≡ true = grind (arith, nat_tests) in
    let begins : is_first (told items) m.0 ≡ true = ap (λ (o : Option Message). elim o as (λ _. Bool) [ None ↦ false | Some y ↦ y.number == m.0.number ]) first ∙ self in
    let none : (out == 0) ≡ not (list_any (is_out m.0.group) (told items)) =
    ap (λ j. j == 0) count ∙ count_none (is_out g) (told items) ∙ ap (λ (y : Option (List ℕ)). not (list_any (is_out y) (told items))) group in
    let right : (visible && out == 0) ≡ leads (told items) m.0 =
    (λ j. sym m.3 j && none j) ∙ three (is_visible m.0) (not (list_any (is_out m.0.group) (told items))) (is_first (told items) m.0) begins in
    let number_is : number_of s.0 ≡ number = ap (λ (y : Message). y.number) s.1 ∙ m.2 in
    subst (λ j. AreLed (changed (is_numbered j) (with_hosts hosts) items)) number_is
    (led_front g items s.0 (with_hosts hosts) a led (m.1 ∙ ap Some (sym s.1)) (subst (λ j. find (is_numbered j) items ≡ Some s.0) (ap (λ (y : Message). y.number) (sym s.1)) s.2) (λ x. refl)
    (ap (λ h. meets 1 (with_hosts h s.0).mark) is ∙ meets_bit (visible && out == 0) s.0 ∙ right ∙ ap (leads (told items)) (sym s.1)))

-- a group that has no message leads nowhere
pub none_led : (g : Option (List ℕ)) (items : List Shelved) → All (IsLedBut items g) items → front_of (of_group g (told items)) ≡ None → AreLed items
none_led g items led e = led_empty g items led (none_in (in_group g) items (front_none (of_group g (told items)) e))

pub unhosted_changed : (p : Shelved → Bool) (hosts : ℕ) (items : List Shelved) → map unhosted (changed p (with_hosts hosts) items) ≡ map unhosted items
unhosted_changed p hosts [] = refl
unhosted_changed p hosts (x ∷ items) = by (p x) (unhosted_changed p hosts items)
  where
    by : (b : Bool) → map unhosted (changed p (with_hosts hosts) items) ≡ map unhosted items → map unhosted (if b then with_hosts hosts x ∷ items else x ∷ changed p (with_hosts hosts) items) ≡ unhosted x ∷ map unhosted items
    by true ih = refl
    by false ih = ap (λ ys. unhosted x ∷ ys) ih

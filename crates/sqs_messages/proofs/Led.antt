-- Marks of leaders, as a message leaves, changes or comes, and as the first of its group is marked anew.
use Rattle.std.proofs.Common.{◌≡◌, ℕ, ◌+◌, ◌≤◌, Bool, true, false, List, [], ◌∷◌, ◌++◌, Option, Some, cond, filter, if◌then◌else◌, get_or, arith, refl, ap, sym, subst, ◌∙◌}
use Rattle.std.specs.Prelude.{All, find, ◌==◌, ◌≢◌}
use Rattle.std.proofs.lemmas.Bool.Decides.{nat_tests}
use Rattle.std.proofs.lemmas.List.Elements.{All-cons, All-head, All-nil, All-push, All-tail, All-weaker, filter-append}
use Rattle.std.proofs.lemmas.List.{map-append}
use Rattle.sim_clock.specs.Firsts.{changed, without}
use Rattle.sim_index.specs.Marks.{meets}
use Rattle.sqs_message.specs.declared.message.Message.{Message}
use Rattle.sqs_model.specs.Progress.{Ascends}
use Rattle.sqs_model.specs.Queue.{has_number, same_text}
use Rattle.sqs_model.specs.Texts.{decided_symm, same_text_decides}
use Rattle.sqs_messages.specs.Heads.{AreLed, IsLedBut, begins, in_group, leads, of_group, told}
use Rattle.sqs_messages.specs.Slots.{Shelved, is_numbered, number_of}
use Rattle.sqs_messages.proofs.Apart.{leads_changed, leads_pushed, leads_without, only_first}
use Rattle.sqs_messages.proofs.Wanted.{above}

-- what is left of messages whose numbers go up has another number
others_left : (n low : ℕ) (items : List Shelved) → Ascends number_of low items → All (λ s. number_of s ≢ n) (without (is_numbered n) items)
others_left n low [] h = All-nil (λ (s : Shelved). number_of s ≢ n)
others_left n low (x ∷ xs) h = by (is_numbered n x) refl (others_left n (number_of x + 1) xs h.1)
  where
    by : (b : Bool) → is_numbered n x ≡ b → All (λ s. number_of s ≢ n) (without (is_numbered n) xs) → All (λ s. number_of s ≢ n) (if b then xs else x ∷ without (is_numbered n) xs)
    by true e ih =
        let here : x.message.number ≡ n = grind (arith, nat_tests, e) in
        All-weaker (λ (s : Shelved). number_of x + 1 ≤ number_of s) (λ (s : Shelved). number_of s ≢ n) (λ s l k. absurd (omega (arith, l, k, here))) xs (above (number_of x + 1) xs h.1)
    by false e ih =
        let other : x.message.number ≢ n = grind (arith, nat_tests, e) in
        All-cons (λ (s : Shelved). number_of s ≢ n) x (without (is_numbered n) xs) other ih

pub told_without : (n : ℕ) (items : List Shelved) → told (without (is_numbered n) items) ≡ without (has_number n) (told items)
told_without n [] = refl
told_without n (s ∷ items) = by (is_numbered n s) (told_without n items)
  where
    by : (b : Bool) → told (without (is_numbered n) items) ≡ without (has_number n) (told items) → told (if b then items else s ∷ without (is_numbered n) items) ≡ (if b then told items else s.message ∷ without (has_number n) (told items))
    by true ih = refl
    by false ih = ap (λ ms. s.message ∷ ms) ih

pub told_find : (n : ℕ) (items : List Shelved) (s : Shelved) → find (is_numbered n) items ≡ Some s → find (has_number n) (told items) ≡ Some s.message
told_find n [] s e = cc
told_find n (x ∷ items) s e = by (told_find n items s) (is_numbered n x) refl
  where
    by : (find (is_numbered n) items ≡ Some s → find (has_number n) (told items) ≡ Some s.message) → (b : Bool) → is_numbered n x ≡ b → cond (has_number n x.message) (Some x.message) (find (has_number n) (told items)) ≡ Some s.message
    by ih true k = let found : Some x ≡ Some s = sym (ap (λ b. cond b (Some x) (find (is_numbered n) items)) k) ∙ e in let same : x ≡ s = cc in ap (λ b. cond b (Some x.message) (find (has_number n) (told items))) k ∙ ap (λ (y : Shelved). Some y.message) same
    by ih false k = ap (λ b. cond b (Some x.message) (find (has_number n) (told items))) k ∙ ih (sym (ap (λ b. cond b (Some x) (find (is_numbered n) items)) k) ∙ e)

pub all_without : {A : Type 0} (P : A → Type 0) (p : A → Bool) (xs : List A) → All P xs → All P (without p xs)
all_without P p [] h = h
all_without P p (x ∷ xs) h = by (p x) (all_without P p xs (All-tail P x xs h))
  where
    by : (b : Bool) → All P (without p xs) → All P (if b then xs else x ∷ without p xs)
    by true ih = All-tail P x xs h
    by false ih = All-cons P x (without p xs) (All-head P x xs h) ih

-- who was first, and did not leave, is first
still_first : (q : Message → Bool) (n : ℕ) (m : Message) (ms : List Message) → m.number ≢ n → begins (filter q ms) m ≡ true → begins (filter q (without (has_number n) ms)) m ≡ true
still_first q n m [] other e = e
still_first q n m (x ∷ ms) other e = by (still_first q n m ms other) (q x) refl (has_number n x) refl
  where
    by : (begins (filter q ms) m ≡ true → begins (filter q (without (has_number n) ms)) m ≡ true) → (b : Bool) → q x ≡ b → (c : Bool) → has_number n x ≡ c
        → begins (filter q (if has_number n x then ms else x ∷ without (has_number n) ms)) m ≡ true
    by ih true k true l =
        let here : (x.number == m.number) ≡ true = sym (ap (λ b. begins (cond b (x ∷ filter q ms) (filter q ms)) m) k) ∙ e in
        let same : x.number ≡ m.number = grind (arith, nat_tests, here) in
        let gone : x.number ≡ n = grind (arith, nat_tests, l) in
        absurd (other (sym same ∙ gone))
    by ih true k false l =
        let here : (x.number == m.number) ≡ true = sym (ap (λ b. begins (cond b (x ∷ filter q ms) (filter q ms)) m) k) ∙ e in
        ap (λ b. begins (filter q (if b then ms else x ∷ without (has_number n) ms)) m) l
        ∙ ap (λ b. begins (cond b (x ∷ filter q (without (has_number n) ms)) (filter q (without (has_number n) ms))) m) k
        ∙ here
    by ih false k true l =
        ap (λ b. begins (filter q (if b then ms else x ∷ without (has_number n) ms)) m) l ∙ sym (ap (λ b. begins (cond b (x ∷ filter q ms) (filter q ms)) m) k) ∙ e
    by ih false k false l =
        ap (λ b. begins (filter q (if b then ms else x ∷ without (has_number n) ms)) m) l
        ∙ ap (λ b. begins (cond b (x ∷ filter q (without (has_number n) ms)) (filter q (without (has_number n) ms))) m) k
        ∙ ih (sym (ap (λ b. begins (cond b (x ∷ filter q ms) (filter q ms)) m) k) ∙ e)

not_first : (q : Message → Bool) (n : ℕ) (m : Message) (ms : List Message) → m.number ≢ n → begins (filter q (without (has_number n) ms)) m ≡ false → (b : Bool) → begins (filter q ms) m ≡ b → b ≡ false
not_first q n m ms other e true k = let t : begins (filter q (without (has_number n) ms)) m ≡ true = still_first q n m ms other k in cc
not_first q n m ms other e false k = refl

-- after a message left, only the first of its group may be marked wrongly
pub led_without : (n : ℕ) (items : List Shelved) (s : Shelved) → Ascends number_of 0 items → AreLed items → find (is_numbered n) items ≡ Some s
    → All (IsLedBut (without (is_numbered n) items) s.message.group) (without (is_numbered n) items)
led_without n items s a h e k d l =
    let left : List Shelved = without (is_numbered n) items in
    let x : Shelved = get_or left k d in
    let was : meets 1 x.mark ≡ leads (told items) x.message = all_without (λ (y : Shelved). meets 1 y.mark ≡ leads (told items) y.message) (is_numbered n) items h k d l in
    let away : number_of x ≢ n = others_left n 0 items a k d l in
    record {
      other = λ o.
          was
          ∙ sym (leads_without (told items) n s.message x.message (told_find n items s e) (decided_symm same_text same_text_decides x.message.group s.message.group ∙ o))
          ∙ ap (λ (ms : List Message). leads ms x.message) (sym (told_without n items));
      later = λ o.
          let later : begins (filter (in_group x.message.group) (without (has_number n) (told items))) x.message ≡ false =
          ap (λ (ms : List Message). begins (of_group x.message.group ms) x.message) (sym (told_without n items)) ∙ o in
          was ∙ only_first (told items) x.message (not_first (in_group x.message.group) n x.message (told items) away later (begins (of_group x.message.group (told items)) x.message) refl);
    }

pub told_changed : (n : ℕ) (h : Shelved → Shelved) (f : Message → Message) → ((s : Shelved) → (h s).message ≡ f s.message) → (items : List Shelved) → told (changed (is_numbered n) h items) ≡ changed (has_number n) f (told items)
told_changed n h f e [] = refl
told_changed n h f e (s ∷ items) = by (is_numbered n s) (told_changed n h f e items)
  where
    by : (b : Bool) → told (changed (is_numbered n) h items) ≡ changed (has_number n) f (told items)
        → told (if b then h s ∷ items else s ∷ changed (is_numbered n) h items) ≡ (if b then f s.message ∷ told items else s.message ∷ changed (has_number n) f (told items))
    by true ih = ap (λ m. m ∷ told items) (e s)
    by false ih = ap (λ ms. s.message ∷ ms) ih

-- a change that keeps number and group keeps who is first
begins_changed : (q p : Message → Bool) (f : Message → Message) → ((m : Message) → (f m).number ≡ m.number) → ((m : Message) → q (f m) ≡ q m) → (ms : List Message) (m : Message) → begins (filter q (changed p f ms)) m ≡ begins (filter q ms) m
begins_changed q p f number same [] m = refl
begins_changed q p f number same (x ∷ ms) m = by (p x) (begins_changed q p f number same ms m)
  where
    cons : (b : Bool) (x y : Message) (xs ys : List Message) → x.number ≡ y.number → begins xs m ≡ begins ys m → begins (cond b (x ∷ xs) xs) m ≡ begins (cond b (y ∷ ys) ys) m
    cons true x y xs ys e ih = ap (λ k. k == m.number) e
    cons false x y xs ys e ih = ih

    by : (b : Bool) → begins (filter q (changed p f ms)) m ≡ begins (filter q ms) m → begins (filter q (if b then f x ∷ ms else x ∷ changed p f ms)) m ≡ begins (filter q (x ∷ ms)) m
    by true ih = ap (λ b. begins (cond b (f x ∷ filter q ms) (filter q ms)) m) (same x) ∙ cons (q x) (f x) x (filter q ms) (filter q ms) (number x) refl
    by false ih = cons (q x) x x (filter q (changed p f ms)) (filter q ms) refl ih

pub all_changed : {A : Type 0} (P : A → Type 0) (p : A → Bool) (f : A → A) (xs : List A) (x : A) → find p xs ≡ Some x → P (f x) → All P xs → All P (changed p f xs)
all_changed P p f [] x e k h = h
all_changed P p f (y ∷ ys) x e k h = by (all_changed P p f ys x) (p y) refl
  where
    by : (find p ys ≡ Some x → P (f x) → All P ys → All P (changed p f ys)) → (b : Bool) → p y ≡ b → All P (if p y then f y ∷ ys else y ∷ changed p f ys)
    by ih true t =
        let found : Some y ≡ Some x = sym (ap (λ b. cond b (Some y) (find p ys)) t) ∙ e in
        let same : y ≡ x = cc in
        rw t (All-cons P (f y) ys (subst (λ z. P (f z)) (sym same) k) (All-tail P y ys h))
    by ih false t =
        let found : find p ys ≡ Some x = sym (ap (λ b. cond b (Some y) (find p ys)) t) ∙ e in
        rw t (All-cons P y (changed p f ys) (All-head P y ys h) (ih found k (All-tail P y ys h)))

-- after a message changed that is marked as no leader, only the first of its group may be marked wrongly
pub led_changed : (n : ℕ) (h : Shelved → Shelved) (f : Message → Message) (items : List Shelved) (s : Shelved) → ((x : Shelved) → (h x).message ≡ f x.message) → ((m : Message) → (f m).number ≡ m.number) → ((m : Message) → (f m).group ≡ m.group)
    → AreLed items → find (is_numbered n) items ≡ Some s → meets 1 (h s).mark ≡ false → All (IsLedBut (changed (is_numbered n) h items) s.message.group) (changed (is_numbered n) h items)
led_changed n h f items s same number group led e off =
    all_changed (IsLedBut (changed (is_numbered n) h items) s.message.group) (is_numbered n) h items s e here
    (λ k d l. each (get_or items k d) (led k d l))
  where
    is : told (changed (is_numbered n) h items) ≡ changed (has_number n) f (told items)
    is = told_changed n h f same items

    itself : in_group s.message.group (h s).message ≡ true
    itself = (same_text_decides s.message.group (h s).message.group).1 (sym (ap (λ (m : Message). m.group) (same s) ∙ group s.message))

    here : IsLedBut (changed (is_numbered n) h items) s.message.group (h s)
    here = record { other = λ o. let no : true ≡ false = sym itself ∙ o in cc; later = λ _. off }

    each : (x : Shelved) → meets 1 x.mark ≡ leads (told items) x.message → IsLedBut (changed (is_numbered n) h items) s.message.group x
    each x was =
        record {
          other = λ o.
              was
              ∙ sym (leads_changed (told items) n f s.message x.message (told_find n items s e) (decided_symm same_text same_text_decides x.message.group s.message.group ∙ o) (group s.message))
              ∙ ap (λ (ms : List Message). leads ms x.message) (sym is);
          later = λ o.
              was
              ∙ only_first (told items) x.message
              (sym (begins_changed (in_group x.message.group) (has_number n) f number (λ m. ap (same_text x.message.group) (group m)) (told items) x.message)
              ∙ ap (λ (ms : List Message). begins (of_group x.message.group ms) x.message) (sym is)
              ∙ o);
        }

all_changed_but : {A : Type 0} (P : A → Type 0) (p : A → Bool) (f : A → A) (xs : List A) (x : A) → find p xs ≡ Some x → P (f x) → All (λ y. p y ≡ false → P y) xs → All (λ y. p y ≡ false) (without p xs) → All P (changed p f xs)
all_changed_but P p f [] x e k h o = All-nil P
all_changed_but P p f (y ∷ ys) x e k h o = by (all_changed_but P p f ys x) (p y) refl
  where
    by : (find p ys ≡ Some x → P (f x) → All (λ z. p z ≡ false → P z) ys → All (λ z. p z ≡ false) (without p ys) → All P (changed p f ys)) → (b : Bool) → p y ≡ b → All P (if p y then f y ∷ ys else y ∷ changed p f ys)
    by ih true t =
        let found : Some y ≡ Some x = sym (ap (λ b. cond b (Some y) (find p ys)) t) ∙ e in
        let same : y ≡ x = cc in
        let rest : All (λ z. p z ≡ false) ys = subst (λ zs. All (λ z. p z ≡ false) zs) (ap (λ b. if b then ys else y ∷ without p ys) t) o in
        rw t (All-cons P (f y) ys (subst (λ z. P (f z)) (sym same) k) (λ i d l. All-tail (λ z. p z ≡ false → P z) y ys h i d l (rest i d l)))
    by ih false t =
        let found : find p ys ≡ Some x = sym (ap (λ b. cond b (Some y) (find p ys)) t) ∙ e in
        let rest : All (λ z. p z ≡ false) (y ∷ without p ys) = subst (λ zs. All (λ z. p z ≡ false) zs) (ap (λ b. if b then ys else y ∷ without p ys) t) o in
        rw t (All-cons P y (changed p f ys) (All-head (λ z. p z ≡ false → P z) y ys h t) (ih found k (All-tail (λ z. p z ≡ false → P z) y ys h) (All-tail (λ z. p z ≡ false) y (without p ys) rest)))

pub told_same : (p : Shelved → Bool) (h : Shelved → Shelved) → ((x : Shelved) → (h x).message ≡ x.message) → (items : List Shelved) → told (changed p h items) ≡ told items
told_same p h e [] = refl
told_same p h e (x ∷ items) = by (p x) (told_same p h e items)
  where
    by : (b : Bool) → told (changed p h items) ≡ told items → told (if b then h x ∷ items else x ∷ changed p h items) ≡ x.message ∷ told items
    by true ih = ap (λ m. m ∷ told items) (e x)
    by false ih = ap (λ ms. x.message ∷ ms) ih

pub begins_found : (q : Message → Bool) (ms : List Message) (y m : Message) → find q ms ≡ Some y → begins (filter q ms) m ≡ (y.number == m.number)
begins_found q [] y m e = cc
begins_found q (x ∷ ms) y m e = by (begins_found q ms y m) (q x) refl
  where
    by : (find q ms ≡ Some y → begins (filter q ms) m ≡ (y.number == m.number)) → (b : Bool) → q x ≡ b → begins (filter q (x ∷ ms)) m ≡ (y.number == m.number)
    by ih true k =
        let found : Some x ≡ Some y = sym (ap (λ b. cond b (Some x) (find q ms)) k) ∙ e in
        let same : x ≡ y = cc in
        ap (λ b. begins (cond b (x ∷ filter q ms) (filter q ms)) m) k ∙ ap (λ (z : Message). z.number == m.number) same
    by ih false k = ap (λ b. begins (cond b (x ∷ filter q ms) (filter q ms)) m) k ∙ ih (sym (ap (λ b. cond b (Some x) (find q ms)) k) ∙ e)

pub not_numbered : (n : ℕ) (items : List Shelved) → Ascends number_of 0 items → All (λ z. is_numbered n z ≡ false) (without (is_numbered n) items)
not_numbered n items a k d l = let x : Shelved = get_or (without (is_numbered n) items) k d in let other : number_of x ≢ n = others_left n 0 items a k d l in grind (arith, nat_tests, other)

-- once the first of the group is marked anew, all are marked where they lead
pub led_front : (g : Option (List ℕ)) (items : List Shelved) (s : Shelved) (h : Shelved → Shelved) → Ascends number_of 0 items → All (IsLedBut items g) items → find (in_group g) (told items) ≡ Some s.message → find (is_numbered (number_of s)) items ≡ Some s
    → ((x : Shelved) → (h x).message ≡ x.message) → meets 1 (h s).mark ≡ leads (told items) s.message → AreLed (changed (is_numbered (number_of s)) h items)
led_front g items s h a led first found same right =
    subst (λ (ms : List Message). All (λ x. meets 1 x.mark ≡ leads ms x.message) (changed (is_numbered (number_of s)) h items)) (sym (told_same (is_numbered (number_of s)) h same items))
    (all_changed_but (λ (x : Shelved). meets 1 x.mark ≡ leads (told items) x.message) (is_numbered (number_of s)) h items s found
    (right ∙ ap (leads (told items)) (sym (same s)))
    (λ k d l away. each (get_or items k d) (led k d l) away (in_group g (get_or items k d).message) refl)
    (not_numbered (number_of s) items a))
  where
    each : (x : Shelved) → IsLedBut items g x → is_numbered (number_of s) x ≡ false → (b : Bool) → in_group g x.message ≡ b → meets 1 x.mark ≡ leads (told items) x.message
    each x k away false e = k.other e
    each x k away true e =
        let group : g ≡ x.message.group = (same_text_decides g x.message.group).0 e in
        let leader : find (in_group x.message.group) (told items) ≡ Some s.message = subst (λ (y : Option (List ℕ)). find (in_group y) (told items) ≡ Some s.message) group first in
        let other : (s.message.number == x.message.number) ≡ false = grind (arith, nat_tests, away) in
        let behind : begins (of_group x.message.group (told items)) x.message ≡ false = begins_found (in_group x.message.group) (told items) s.message x.message leader ∙ other in
        k.later behind ∙ sym (only_first (told items) x.message behind)

-- a group of which none is left marks nobody wrongly
pub led_empty : (g : Option (List ℕ)) (items : List Shelved) → All (IsLedBut items g) items → All (λ x. in_group g x.message ≡ false) items → AreLed items
led_empty g items led none k d l = (led k d l).other (none k d l)

begins_append : (xs zs : List Message) (m : Message) → begins (xs ++ zs) m ≡ false → begins xs m ≡ false
begins_append [] zs m e = refl
begins_append (x ∷ xs) zs m e = e

-- after a message came that is marked as no leader or is the first of its group, only the first of its group may be marked wrongly
pub led_pushed : (items : List Shelved) (s : Shelved) → AreLed items → (begins (of_group s.message.group (told (items ++ s ∷ []))) s.message ≡ false → meets 1 s.mark ≡ false) → All (IsLedBut (items ++ s ∷ []) s.message.group) (items ++ s ∷ [])
led_pushed items s led off =
    All-push (IsLedBut (items ++ s ∷ []) s.message.group) items s (λ k d l. each (get_or items k d) (led k d l)) here
  where
    is : told (items ++ s ∷ []) ≡ told items ++ s.message ∷ []
    is = map-append (λ (x : Shelved). x.message) items (s ∷ [])

    itself : in_group s.message.group s.message ≡ true
    itself = (same_text_decides s.message.group s.message.group).1 refl

    here : IsLedBut (items ++ s ∷ []) s.message.group s
    here = record { other = λ o. let no : true ≡ false = sym itself ∙ o in cc; later = off }

    each : (x : Shelved) → meets 1 x.mark ≡ leads (told items) x.message → IsLedBut (items ++ s ∷ []) s.message.group x
    each x was =
        record {
          other = λ o.
              was
              ∙ sym (leads_pushed (told items) s.message x.message (decided_symm same_text same_text_decides x.message.group s.message.group ∙ o))
              ∙ ap (λ (ms : List Message). leads ms x.message) (sym is);
          later = λ o.
              was
              ∙ only_first (told items) x.message
              (begins_append (of_group x.message.group (told items)) (of_group x.message.group (s.message ∷ [])) x.message
              (ap (λ (ms : List Message). begins ms x.message) (sym (filter-append (in_group x.message.group) (told items) (s.message ∷ [])))
              ∙ ap (λ (ms : List Message). begins (of_group x.message.group ms) x.message) (sym is)
              ∙ o));
        }

-- The first open messages of groups are the heads, and what a head's group may give is what stands before its first delayed message.
use Rattle.std.proofs.Common.{◌≡◌, ℕ, Bool, true, false, List, [], ◌∷◌, Option, cond, filter, ◌||◌, ◌&&◌, not, refl, ap, sym, subst, ◌∙◌}
use Rattle.std.specs.Prelude.{All}
use Rattle.std.proofs.lemmas.List.Elements.{All-head, All-tail}
use Rattle.sim_clock.specs.Firsts.{kept_when}
use Rattle.std.proofs.lemmas.Bool.{or_right}
use Rattle.sim_clock.proofs.Booleans.{or_first, or_second}
use Rattle.sqs_message.specs.declared.message.Message.{Message}
use Rattle.sqs_message.specs.declared.message.Place.{Place}
use Rattle.sqs_message.specs.declared.message.Place.TheVariants as places
use Rattle.sqs_model.specs.Available.{firsts, is_open, open_from}
use Rattle.sqs_model.specs.Queue.{is_delayed, is_in_flight, is_visible}
use Rattle.sqs_model.specs.Texts.{same_text_decides}
use Rattle.sqs_messages.specs.Heads.{any_delayed, any_in, any_out, heads_from, in_group, is_head, kept_until, until_delayed}

Group : Type 0
Group = Option (List ℕ)

or_rest : (a b : Bool) → a ≡ false → (a || b) ≡ b
or_rest a b e = ap (λ c. c || b) e

or_left : (a b : Bool) → a ≡ true → (a || b) ≡ true
or_left a b e = ap (λ c. c || b) e

-- what each message in flight has: its group has one in flight
abbrev pub Told : List Message → List Message → Type 0
Told all ms = All (λ m. is_in_flight m ≡ true → any_out m.group all ≡ true) ms

-- which groups were seen among open messages
pub record IsSeen (all earlier seen : List Message) : Type 0 where
  pub was : (g : Option (List ℕ)) → any_in g seen ≡ true → any_in g earlier ≡ true
  pub shows : (g : Option (List ℕ)) → any_in g earlier ≡ true → any_out g all ≡ false → any_delayed g earlier ≡ false → any_in g seen ≡ true

-- a delayed message of a group is one of the group
delayed_in : (g : Option (List ℕ)) (ms : List Message) → any_delayed g ms ≡ true → any_in g ms ≡ true
delayed_in g [] e = e
delayed_in g (m ∷ ms) e = by (delayed_in g ms) (in_group g m) refl
  where
    by : (any_delayed g ms ≡ true → any_in g ms ≡ true) → (b : Bool) → in_group g m ≡ b → (in_group g m || any_in g ms) ≡ true
    by ih true k = or_left (in_group g m) (any_in g ms) k
    by ih false k =
        let rest : any_delayed g ms ≡ true = sym (ap (λ c. (c && is_delayed m) || any_delayed g ms) k) ∙ e in
        or_right (in_group g m) (any_in g ms) (ih rest)

seen_open : (all earlier seen : List Message) (m : Message) → IsSeen all earlier seen → IsSeen all (m ∷ earlier) (m ∷ seen)
seen_open all earlier seen m h =
    record {
      was = λ g e. by_was g (in_group g m) refl e;
      shows = λ g e o d. by_shows g (in_group g m) refl e o d;
    }
  where
    by_was : (g : Option (List ℕ)) (b : Bool) → in_group g m ≡ b → (in_group g m || any_in g seen) ≡ true → (in_group g m || any_in g earlier) ≡ true
    by_was g true k e = or_left (in_group g m) (any_in g earlier) k
    by_was g false k e = or_right (in_group g m) (any_in g earlier) (h.was g (sym (or_rest (in_group g m) (any_in g seen) k) ∙ e))

    by_shows : (g : Option (List ℕ)) (b : Bool) → in_group g m ≡ b → (in_group g m || any_in g earlier) ≡ true → any_out g all ≡ false → ((in_group g m && is_delayed m) || any_delayed g earlier) ≡ false → (in_group g m || any_in g seen) ≡ true
    by_shows g true k e o d = or_left (in_group g m) (any_in g seen) k
    by_shows g false k e o d =
        or_right (in_group g m) (any_in g seen)
        (h.shows g (sym (or_rest (in_group g m) (any_in g earlier) k) ∙ e) o (or_second (in_group g m && is_delayed m) (any_delayed g earlier) d))

-- a message that is neither in flight nor delayed is visible
visible_by : (m : Message) → is_in_flight m ≡ false → is_delayed m ≡ false → is_visible m ≡ true
visible_by m = by m.place
  where
    by : (p : Place)
        → (elim p as (λ _. Bool) [ places.Delayed ↦ false | places.Visible ↦ false | places.InFlight ↦ true ]) ≡ false
        → (elim p as (λ _. Bool) [ places.Delayed ↦ true | places.Visible ↦ false | places.InFlight ↦ false ]) ≡ false
        → (elim p as (λ _. Bool) [ places.Delayed ↦ false | places.Visible ↦ true | places.InFlight ↦ false ]) ≡ true
    by places.Delayed f d = sym d
    by places.Visible f d = refl
    by places.InFlight f d = sym f

delayed_shut : (m : Message) → is_delayed m ≡ true → is_visible m ≡ false
delayed_shut m = by m.place
  where
    by : (p : Place)
        → (elim p as (λ _. Bool) [ places.Delayed ↦ true | places.Visible ↦ false | places.InFlight ↦ false ]) ≡ true
        → (elim p as (λ _. Bool) [ places.Delayed ↦ false | places.Visible ↦ true | places.InFlight ↦ false ]) ≡ false
    by places.Delayed d = refl
    by places.Visible d = cc
    by places.InFlight d = cc

and_three : (a b c : Bool) → a ≡ true → b ≡ false → c ≡ false → (a && not b && not c) ≡ true
and_three a b c p q r = λ j. p j && not (q j) && not (r j)

seen_closed : (all earlier seen : List Message) (m : Message) → (is_in_flight m ≡ true → any_out m.group all ≡ true) → is_open all earlier m ≡ false → IsSeen all earlier seen → IsSeen all (m ∷ earlier) seen
seen_closed all earlier seen m told closed h =
    record {
      was = λ g e. or_right (in_group g m) (any_in g earlier) (h.was g e);
      shows = λ g e o d. by g (in_group g m) refl e o d;
    }
  where
    flight : (b : Bool) → is_in_flight m ≡ b → any_out m.group all ≡ false → is_in_flight m ≡ false
    flight true k o = let t : any_out m.group all ≡ true = told k in cc
    flight false k o = k

    by : (g : Option (List ℕ)) (b : Bool) → in_group g m ≡ b → (in_group g m || any_in g earlier) ≡ true → any_out g all ≡ false → ((in_group g m && is_delayed m) || any_delayed g earlier) ≡ false → any_in g seen ≡ true
    by g false k e o d = h.shows g (sym (or_rest (in_group g m) (any_in g earlier) k) ∙ e) o (or_second (in_group g m && is_delayed m) (any_delayed g earlier) d)
    by g true k e o d =
        let same : g ≡ m.group = (same_text_decides g m.group).0 k in
        let out : any_out m.group all ≡ false = subst (λ (x : Option (List ℕ)). any_out x all ≡ false) same o in
        let late : any_delayed m.group earlier ≡ false = subst (λ (x : Option (List ℕ)). any_delayed x earlier ≡ false) same (or_second (in_group g m && is_delayed m) (any_delayed g earlier) d) in
        let here : is_delayed m ≡ false = sym (ap (λ c. c && is_delayed m) k) ∙ or_first (in_group g m && is_delayed m) (any_delayed g earlier) d in
        let opens : is_open all earlier m ≡ true = and_three (is_visible m) (any_out m.group all) (any_delayed m.group earlier) (visible_by m (flight (is_in_flight m) refl out) here) out late in
        cc

-- whether a message that is open leads its group
same_lead : (v o d e s : Bool) → (v && not o && not d) ≡ true → (s ≡ true → e ≡ true) → (e ≡ true → o ≡ false → d ≡ false → s ≡ true) → not s ≡ (v && not o && not e)
same_lead false o d e s h k l = cc
same_lead true true d e s h k l = cc
same_lead true false true e s h k l = cc
same_lead true false false true s h k l = ap not (l refl refl refl)
same_lead true false false false true h k l = let f : false ≡ true = k refl in cc
same_lead true false false false false h k l = refl

-- and one that is not open leads none
no_lead : (v o d e : Bool) → (v && not o && not d) ≡ false → (d ≡ true → e ≡ true) → (v && not o && not e) ≡ false
no_lead false o d e h k = refl
no_lead true true d e h k = refl
no_lead true false true e h k = ap not (k refl)
no_lead true false false e h k = cc

pub heads : (all earlier seen ms : List Message) → Told all ms → IsSeen all earlier seen → firsts seen (open_from all earlier ms) ≡ heads_from all earlier ms
heads all earlier seen [] told h = refl
heads all earlier seen (m ∷ ms) told h = by (λ next. heads all (m ∷ earlier) next ms (All-tail (λ x. is_in_flight x ≡ true → any_out x.group all ≡ true) m ms told)) (is_open all earlier m) refl
  where
    here : is_in_flight m ≡ true → any_out m.group all ≡ true
    here = All-head (λ x. is_in_flight x ≡ true → any_out x.group all ≡ true) m ms told

    by : ((next : List Message) → IsSeen all (m ∷ earlier) next → firsts next (open_from all (m ∷ earlier) ms) ≡ heads_from all (m ∷ earlier) ms) → (b : Bool) → is_open all earlier m ≡ b → firsts seen (kept_when (is_open all earlier m) m (open_from all (m ∷ earlier) ms)) ≡ kept_when (is_head all earlier m) m (heads_from all (m ∷ earlier) ms)
    by ih true e =
        let lead : not (any_in m.group seen) ≡ is_head all earlier m =
        same_lead (is_visible m) (any_out m.group all) (any_delayed m.group earlier) (any_in m.group earlier) (any_in m.group seen) e (h.was m.group) (h.shows m.group) in
        ap (λ b. firsts seen (kept_when b m (open_from all (m ∷ earlier) ms))) e
        ∙ (λ j. kept_when (lead j) m (ih (m ∷ seen) (seen_open all earlier seen m h) j))
    by ih false e =
        let none : is_head all earlier m ≡ false = no_lead (is_visible m) (any_out m.group all) (any_delayed m.group earlier) (any_in m.group earlier) e (delayed_in m.group earlier) in
        ap (λ b. firsts seen (kept_when b m (open_from all (m ∷ earlier) ms))) e
        ∙ ih seen (seen_closed all earlier seen m here e h)
        ∙ sym (ap (λ b. kept_when b m (heads_from all (m ∷ earlier) ms)) none)

-- a message of a group that is shut, or of another one, is not given
shut : (all earlier : List Message) (g : Option (List ℕ)) (m : Message) → any_delayed g earlier ≡ true → in_group g m ≡ true → is_open all earlier m ≡ false
shut all earlier g m late k =
    let same : g ≡ m.group = (same_text_decides g m.group).0 k in
    let here : any_delayed m.group earlier ≡ true = subst (λ (x : Option (List ℕ)). any_delayed x earlier ≡ true) same late in
    ap (λ c. (is_visible m && not (any_out m.group all)) && not c) here ∙ and_no (is_visible m && not (any_out m.group all))
  where
    and_no : (a : Bool) → (a && false) ≡ false
    and_no true = refl
    and_no false = refl

kept_other : (p : Message → Bool) (b : Bool) (m : Message) (ms : List Message) → p m ≡ false → filter p (kept_when b m ms) ≡ filter p ms
kept_other p true m ms e = ap (λ c. cond c (m ∷ filter p ms) (filter p ms)) e
kept_other p false m ms e = refl

given_none : (all earlier ms : List Message) (g : Option (List ℕ)) → any_delayed g earlier ≡ true → filter (in_group g) (open_from all earlier ms) ≡ []
given_none all earlier [] g late = refl
given_none all earlier (m ∷ ms) g late =
    by (given_none all (m ∷ earlier) ms g (or_right (in_group g m && is_delayed m) (any_delayed g earlier) late)) (in_group g m) refl
  where
    by : filter (in_group g) (open_from all (m ∷ earlier) ms) ≡ [] → (b : Bool) → in_group g m ≡ b → filter (in_group g) (kept_when (is_open all earlier m) m (open_from all (m ∷ earlier) ms)) ≡ []
    by ih true k = ap (λ b. filter (in_group g) (kept_when b m (open_from all (m ∷ earlier) ms))) (shut all earlier g m late k) ∙ ih
    by ih false k = kept_other (in_group g) (is_open all earlier m) m (open_from all (m ∷ earlier) ms) k ∙ ih

pub given : (all earlier ms : List Message) (g : Option (List ℕ)) → Told all ms → any_out g all ≡ false → any_delayed g earlier ≡ false
    → filter (in_group g) (open_from all earlier ms) ≡ until_delayed (filter (in_group g) ms)
given all earlier [] g told out late = refl
given all earlier (m ∷ ms) g told out late =
    by (λ l. given all (m ∷ earlier) ms g (All-tail (λ x. is_in_flight x ≡ true → any_out x.group all ≡ true) m ms told) out l) (in_group g m) refl (is_delayed m) refl
  where
    rest : List Message
    rest = open_from all (m ∷ earlier) ms

    flight : (b : Bool) → is_in_flight m ≡ b → any_out m.group all ≡ false → is_in_flight m ≡ false
    flight true k o = let t : any_out m.group all ≡ true = All-head (λ x. is_in_flight x ≡ true → any_out x.group all ≡ true) m ms told k in cc
    flight false k o = k

    by : (((in_group g m && is_delayed m) || any_delayed g earlier) ≡ false → filter (in_group g) (open_from all (m ∷ earlier) ms) ≡ until_delayed (filter (in_group g) ms))
        → (b : Bool) → in_group g m ≡ b → (d : Bool) → is_delayed m ≡ d
        → filter (in_group g) (kept_when (is_open all earlier m) m (open_from all (m ∷ earlier) ms)) ≡ until_delayed (cond (in_group g m) (m ∷ filter (in_group g) ms) (filter (in_group g) ms))
    by ih false k d e =
        kept_other (in_group g) (is_open all earlier m) m (open_from all (m ∷ earlier) ms) k
        ∙ ih (ap (λ c. (c && is_delayed m) || any_delayed g earlier) k ∙ late)
        ∙ sym (ap (λ c. until_delayed (cond c (m ∷ filter (in_group g) ms) (filter (in_group g) ms))) k)
    by ih true k true e =
        let none : is_visible m ≡ false = delayed_shut m e in
        ap (λ b. filter (in_group g) (kept_when ((b && not (any_out m.group all)) && not (any_delayed m.group earlier)) m (open_from all (m ∷ earlier) ms))) none
        ∙ given_none all (m ∷ earlier) ms g (λ j. (k j && e j) || any_delayed g earlier)
        ∙ sym (ap (λ c. until_delayed (cond c (m ∷ filter (in_group g) ms) (filter (in_group g) ms))) k ∙ ap (λ c. kept_until c m (until_delayed (filter (in_group g) ms))) e)
    by ih true k false e =
        let same : g ≡ m.group = (same_text_decides g m.group).0 k in
        let o : any_out m.group all ≡ false = subst (λ (x : Option (List ℕ)). any_out x all ≡ false) same out in
        let l : any_delayed m.group earlier ≡ false = subst (λ (x : Option (List ℕ)). any_delayed x earlier ≡ false) same late in
        let opens : is_open all earlier m ≡ true = and_three (is_visible m) (any_out m.group all) (any_delayed m.group earlier) (visible_by m (flight (is_in_flight m) refl o) e) o l in
        let next : ((in_group g m && is_delayed m) || any_delayed g earlier) ≡ false = ap (λ c. (c && is_delayed m) || any_delayed g earlier) k ∙ ap (λ c. c || any_delayed g earlier) e ∙ late in
        ap (λ b. filter (in_group g) (kept_when b m (open_from all (m ∷ earlier) ms))) opens
        ∙ ap (λ c. cond c (m ∷ filter (in_group g) (open_from all (m ∷ earlier) ms)) (filter (in_group g) (open_from all (m ∷ earlier) ms))) k
        ∙ ap (λ ys. m ∷ ys) (ih next)
        ∙ sym (ap (λ c. until_delayed (cond c (m ∷ filter (in_group g) ms) (filter (in_group g) ms))) k ∙ ap (λ c. kept_until c m (until_delayed (filter (in_group g) ms))) e)

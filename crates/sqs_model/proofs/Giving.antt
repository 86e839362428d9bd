-- Messages that are given one by one are given as if all were received first and then all came back.
use Rattle.std.proofs.Common.{ap, arith, refl, sym, ◌∙◌}
use Rattle.std.specs.Prelude.{All, Bool, List, None, Option, Some, [], cond, false, find, min, true, ℕ, ◌<◌, ◌==◌, ◌∷◌, ◌≡◌, ◌≢◌}
use Rattle.std.proofs.lemmas.Bool.Decides.{nat_tests}
use Rattle.std.proofs.lemmas.List.Elements.{All-head, All-tail}
use Rattle.sim_clock.specs.Firsts.{changed, without}
use Rattle.sqs_message.specs.declared.message.Message.{Message}
use Rattle.sqs_redrive.specs.declared.transfers.Load.{Load}
use Rattle.sqs_model.specs.Giving.{GivesThenReturns, all_got, all_left, all_received, all_released, given_and_kept, given_then_returned}
use Rattle.sqs_model.specs.Progress.{Differ}
use Rattle.sqs_model.specs.Queue.{Queue, has_number, numbered, room, with_change, with_records}
use Rattle.sqs_model.specs.Receive.{give, give_after, given_one, got_first, got_of, received}
use Rattle.sqs_model.specs.Return.{leaves, redrive_of, released, released_found, released_when, visible_again}
use Rattle.sqs_model.proofs.Numbered.{one_number}
use Rattle.sqs_model.proofs.Chosen.{first_apart}

-- a change of the first that p picks, and what another test r picks
module _ {A : Type 0} (p r : A → Bool) (g : A → A) (apart : (x : A) → p x ≡ true → r x ≡ false) (same : (x : A) → r (g x) ≡ r x) where
  pub find_apart : (xs : List A) → find r (changed p g xs) ≡ find r xs
  find_apart [] = refl
  find_apart (x ∷ xs) =
      elim (p x) as (λ b. p x ≡ b → find r (cond b (g x ∷ xs) (x ∷ changed p g xs)) ≡ cond (r x) (Some x) (find r xs)) [
        | true ↦ λ e. rw (same x, apart x e) refl
        | false ↦ λ e. ap (λ o. cond (r x) (Some x) o) (find_apart xs)
      ] refl

  without_when :
      (x : A) (xs : List A) (b c : Bool) → p x ≡ b → r x ≡ c → without r (changed p g xs) ≡ changed p g (without r xs)
      → without r (cond b (g x ∷ xs) (x ∷ changed p g xs)) ≡ changed p g (cond c xs (x ∷ without r xs))
  without_when x xs true c e d h = let z : c ≡ false = sym d ∙ apart x e in rw (z, same x, apart x e, e) refl
  without_when x xs false true e d h = rw d refl
  without_when x xs false false e d h = rw (d, e) (ap (λ t. x ∷ t) h)

  without_apart : (xs : List A) → without r (changed p g xs) ≡ changed p g (without r xs)
  without_apart [] = refl
  without_apart (x ∷ xs) = without_when x xs (p x) (r x) refl refl (without_apart xs)

  module _ (h : A → A) (also : (x : A) → p (h x) ≡ p x) where
    changed_when :
        (x : A) (xs : List A) (b c : Bool) → p x ≡ b → r x ≡ c → changed r h (changed p g xs) ≡ changed p g (changed r h xs)
        → changed r h (cond b (g x ∷ xs) (x ∷ changed p g xs)) ≡ changed p g (cond c (h x ∷ xs) (x ∷ changed r h xs))
    changed_when x xs true c e d k = let z : c ≡ false = sym d ∙ apart x e in rw (z, same x, apart x e, e) refl
    changed_when x xs false true e d k = rw (d, also x, e) refl
    changed_when x xs false false e d k = rw (d, e) (ap (λ t. x ∷ t) k)

    changed_apart : (xs : List A) → changed r h (changed p g xs) ≡ changed p g (changed r h xs)
    changed_apart [] = refl
    changed_apart (x ∷ xs) = changed_when x xs (p x) (r x) refl refl (changed_apart xs)

-- message n comes back before message k is received, or after it
module _ (now timeout n k : ℕ) (other : n ≢ k) where
  abbrev taken : Queue → Queue
  taken q = with_change q k (received now timeout)

  abbrev taken_after : Queue × Option Load → Queue × Option Load
  taken_after (q, left) = (taken q, left)

  elsewhere : (x : Message) → has_number k x ≡ true → has_number n x ≡ false
  elsewhere x e = one_number k n x other e

  when_apart : (q : Queue) (m : Message) (b : Bool) → released_when b (taken q) n m ≡ taken_after (released_when b q n m)
  when_apart q m true =
      ap (λ records. (with_records q records, Some (redrive_of q m)))
      (without_apart (has_number k) (has_number n) (received now timeout) elsewhere (λ x. refl) q.records)
  when_apart q m false =
      ap (λ records. (with_records q records, None))
      (changed_apart (has_number k) (has_number n) (received now timeout) elsewhere (λ x. refl) visible_again (λ x. refl) q.records)

  found_apart : (q : Queue) (o : Option Message) → released_found (taken q) n o ≡ taken_after (released_found q n o)
  found_apart q None = refl
  found_apart q (Some m) = when_apart q m (leaves q.settings.policy m)

  released_apart : (q : Queue) → released (taken q) n ≡ taken_after (released q n)
  released_apart q =
      ap (released_found (taken q) n) (find_apart (has_number k) (has_number n) (received now timeout) elsewhere (λ x. refl) q.records)
      ∙ found_apart q (numbered n q.records)

module _ (now timeout : ℕ) where
  -- or before several others are received
  abbrev received_after : List Message → Queue × Option Load → Queue × Option Load
  received_after ms (q, left) = (all_received now timeout ms q, left)

  released_past :
      (n : ℕ) (ms : List Message) (q : Queue) → All (λ m. m.number ≢ n) ms
      → released (all_received now timeout ms q) n ≡ received_after ms (released q n)
  released_past n [] q h = refl
  released_past n (m ∷ ms) q h =
      let other : n ≢ m.number = λ e. All-head (λ x. x.number ≢ n) m ms h (sym e) in
      released_past n ms (with_change q m.number (received now timeout)) (All-tail (λ x. x.number ≢ n) m ms h)
      ∙ ap (received_after ms) (released_apart now timeout n m.number other q)

-- a queue keeps its site, which is all of it that a report names
site_kept_when : (q : Queue) (n : ℕ) (m : Message) (b : Bool) → (released_when b q n m).0.site ≡ q.site
site_kept_when q n m true = refl
site_kept_when q n m false = refl

site_kept_found : (q : Queue) (n : ℕ) (o : Option Message) → (released_found q n o).0.site ≡ q.site
site_kept_found q n None = refl
site_kept_found q n (Some m) = site_kept_when q n m (leaves q.settings.policy m)

module _ (now : ℕ) where
  given_later : (q : Queue) (timeout : ℕ) (m : Message) → 0 < timeout → given_one q now timeout m ≡ (with_change q m.number (received now timeout), None)
  given_later q timeout m h = let z : (timeout == 0) ≡ false = grind (arith, nat_tests) in rw z refl

  later : (timeout : ℕ) (ms : List Message) (q : Queue) → 0 < timeout → give now timeout ms q ≡ given_and_kept now timeout ms q
  later timeout [] q h = refl
  later timeout (m ∷ ms) q h =
      ap (give_after (give now timeout ms) m) (given_later q timeout m h)
      ∙ ap (got_first (got_of q m None)) (later timeout ms (with_change q m.number (received now timeout)) h)

  told_alike : (q r : Queue) (ms : List Message) (lefts : List (Option Load)) → r.site ≡ q.site → all_got r ms lefts ≡ all_got q ms lefts
  told_alike q r ms lefts s = ap (λ site. all_got (record q { site = site }) ms lefts) s

  -- one message is received and comes back, and then the others
  first_back :
      (ms : List Message) (m : Message) (q : Queue) (x : Queue × Option Load)
      → x.0.site ≡ q.site → released (all_received now 0 (m ∷ ms) q) m.number ≡ received_after now 0 ms x
      → got_first (got_of x.0 m x.1) (given_then_returned now ms x.0) ≡ given_then_returned now (m ∷ ms) q
  first_back ms m q (r, left) s e =
      let others : Queue = all_received now 0 ms r in
      ap (λ gots. (all_released ms others, gots)) (told_alike q r (m ∷ ms) (left ∷ all_left ms others) s)
      ∙ ap (λ y. (all_released ms y.0, all_got q (m ∷ ms) (y.1 ∷ all_left ms y.0))) (sym e)

  at_once : (ms : List Message) (q : Queue) → Differ (λ m. m.number) ms → give now 0 ms q ≡ given_then_returned now ms q
  at_once [] q h = refl
  at_once (m ∷ ms) q h =
      let taken : Queue = with_change q m.number (received now 0) in
      ap (got_first (got_of (released taken m.number).0 m (released taken m.number).1)) (at_once ms (released taken m.number).0 h.1)
      ∙ first_back ms m q (released taken m.number) (site_kept_found taken m.number (numbered m.number taken.records))
      (released_past now 0 m.number ms taken h.0)

pub gives : (now : ℕ) (q : Queue) → GivesThenReturns now q
gives now q =
    record {
      at_once = λ ms h. at_once now ms q h;
      later = λ timeout ms h. later now timeout ms q h;
      differ = λ s max set. first_apart q set (min max (room q)) s.ordered;
    }

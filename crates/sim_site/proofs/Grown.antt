-- What an actor does at its site adds polls after those that wait, and takes none away.
use Rattle.std.specs.Prelude.{List, [], drop, get_or, length, ℕ, ◌++◌, ◌+◌, ◌<◌, ◌∷◌, ◌≡◌}
use Rattle.std.proofs.Common.{add-one, ap, append-nil, append_assoc, arith, drop-cons, length-append, length-drop, subst, sym, ◌∙◌}
use Rattle.sim_clock.specs.declared.key.Key.{Key}
use Rattle.sqs_redrive.specs.declared.answers.Got.{Got}
use Rattle.sqs_model.specs.Polls.{poll_answered}
use Rattle.sqs_model.specs.Queue.{Queue}
use Rattle.sqs_model.specs.Site.{Core, Poll}
use Rattle.sqs_model.proofs.CoreLaws.{CoreTurnLaw, given_at, turns}
use Rattle.sqs_model.proofs.Walk.{poll_goes}

module _ (P : List Poll → Type 0) (grows : (ps : List Poll) (p : Poll) → P ps → P (ps ++ p ∷ [])) (key : Key) where
  -- what holds of the polls of a site
  abbrev polls : CoreTurnLaw key
  polls =
      record {
        At = λ c. P c.polls;
        redrives = λ c l h. h;
        gives = λ c max timeout set h. h;
        changes = λ c r timeout h. h;
        deletes = λ c r h. h;
        sends = λ c body delay group id h. h;
        draws = λ c hosts h. h;
        starts = λ c n t e h. h;
        cancels = λ c n t e h. h;
        Stands = λ _ _. Unit {0};
        turns = λ n c a w e h. (h, tt);
        polls = λ a c max wait timeout e s h. grows c.polls _ h;
      }

  -- a poll that is answered leaves, and others may come after those that wait
  pub poll_stays : (p : Poll) (c : Core) (x : Queue × List Got) → P (drop 1 c.polls) → P (poll_answered key p c x).core.polls
  poll_stays p c x h = poll_goes key (turns key polls) tt p c x h (given_at key polls (record c { polls = drop 1 c.polls }) p.timeout x h)

-- polls of which these are the first
pub record BeginWith (first polls : List Poll) : Type 0 where
  pub more : List Poll
  pub is : polls ≡ first ++ more

begins_grow : (first ps : List Poll) (p : Poll) → BeginWith first ps → BeginWith first (ps ++ p ∷ [])
begins_grow first ps p b = record { more = b.more ++ p ∷ []; is = ap (λ l. l ++ p ∷ []) b.is ∙ append_assoc first b.more (p ∷ []) }

pub begins_all : (ps : List Poll) → BeginWith ps ps
begins_all ps = record { more = []; is = sym (append-nil ps) }

module _ (ps xs : List Poll) (i : ℕ) (p : Poll) (l : i < length ps) (b : BeginWith (drop i ps) xs) where
  parts : xs ≡ get_or ps i p ∷ drop (i + 1) ps ++ b.more
  parts =
      let list : drop i ps ≡ get_or ps i p ∷ drop (i + 1) ps = rw add-one (drop-cons ps i p l) in
      b.is ∙ ap (λ ys. ys ++ b.more) list

  left : BeginWith (drop (i + 1) ps) (drop 1 xs)
  left = record { more = b.more; is = ap (drop 1) parts }

  -- the first of them is the first
  pub begins_first : xs ≡ p ∷ drop 1 xs → p ≡ get_or ps i p
  begins_first e = sym (ap (λ l. get_or l 0 p) e) ∙ ap (λ l. get_or l 0 p) parts

pub begins_some : (ps xs : List Poll) (i : ℕ) → i < length ps → BeginWith (drop i ps) xs → xs ≡ [] → ⊥
begins_some ps xs i l b e = omega (arith, l, length-drop i ps, length-append (drop i ps) b.more, ap length b.is, ap length e)

-- after the first of them is answered, the others are the first
pub answered_begins :
    (key : Key) (p : Poll) (c d : Core) (x : Queue × List Got) (ps : List Poll) (i : ℕ) → i < length ps → BeginWith (drop i ps) c.polls → d ≡ (poll_answered key p c x).core
    → BeginWith (drop (i + 1) ps) d.polls
answered_begins key p c d x ps i l b e =
    subst (λ (y : Core). BeginWith (drop (i + 1) ps) y.polls) (sym e)
    (poll_stays (BeginWith (drop (i + 1) ps)) (begins_grow (drop (i + 1) ps)) key p c x (left ps c.polls i p l b))

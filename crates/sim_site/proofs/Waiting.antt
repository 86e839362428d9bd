-- A receive that finds nothing, by what its actor and its site become.
use Rattle.std.proofs.Common.{◌≡◌, ℕ, ◌+◌, ◌*◌, ◌==◌, true, false, List, [], ◌∷◌, ◌++◌, Option, Some, refl, ap, ap₂, sym, ◌∙◌, arith}
use Rattle.std.proofs.lemmas.Bool.Decides.{nat_tests}
use Rattle.sim_clock.specs.declared.key.Key.{Key}
use Rattle.sqs_message.specs.declared.row.Row.{Row}
use Rattle.sqs_message.specs.declared.row.RowAnswer.TheVariants as answers
use Rattle.sqs_redrive.specs.declared.answers.Got.{Got}
use Rattle.sqs_model.specs.declared.acts.Answer.TheVariants as told_by
use Rattle.sim_clock.specs.Firsts.{changed}
use Rattle.sqs_model.specs.Actor.{Actor}
use Rattle.sqs_model.specs.Acts.{receive_none, receive_row, with_poll}
use Rattle.sqs_model.specs.Site.{Core, Poll, actor_numbered, is_actor}
use Rattle.sim_site.specs.Effects.{DidMake, Effects}
use Rattle.sim_site.specs.Turns.{Polled}
use Rattle.sim_site.proofs.Carried.{did_say}

module _ (key : Key) (a : Actor) (c : Core) (before after : Effects) (n max wait : ℕ) (timeout : Option ℕ) (x : Row) (e : a.number ≡ n) (rows : after.rows.items ≡ before.rows.items ++ x ∷ []) (sent : after.sent ≡ before.sent) where
  -- the actors, after one of a number has one more poll
  abbrev pub waiting_as : ℕ → Actor → List Actor
  waiting_as m y = changed (is_actor m) (λ _. record y { polls = y.polls + 1 }) c.actors

  -- the poll of an actor, by its number and that of its poll
  abbrev pub poll_of : ℕ → ℕ → Poll
  poll_of m k = record { actor = m; number = k; max = max; timeout = timeout; end = key.at + 1000 * wait }

  pub finds_nothing :
      (gots : List Got) → gots ≡ [] → wait ≡ 0 → x ≡ receive_row key c n answers.Empty
      → DidMake before after c (told_by.Got gots) (receive_none key a c max wait timeout)
  finds_nothing gots empty zero row =
      let z : (wait == 0) ≡ true = grind (arith, nat_tests) in
      rw z
      (record {
        effect = did_say before after c c x (receive_row key c a.number answers.Empty) rows sent refl (row ∙ ap (λ m. receive_row key c m answers.Empty) (sym e));
        answer = ap (λ g. told_by.Got g) empty;
      })

  pub waits_on :
      (actors : List Actor) (polls : List Poll) (p : Poll) (count : ℕ) → actor_numbered n c ≡ Some a → Polled n count c.actors actors
      → ¬ (wait ≡ 0) → polls ≡ c.polls ++ p ∷ [] → p ≡ poll_of n count
      → x ≡ receive_row key c n answers.Wait
      → DidMake before after (record c { actors = actors; polls = polls }) told_by.Waiting (receive_none key a c max wait timeout)
  waits_on actors polls p count found polled long grown poll row =
      let z : (wait == 0) ≡ false = grind (arith, nat_tests) in
      let some : Some polled.before ≡ Some a = sym polled.found ∙ found in
      let one : polled.before ≡ a = cc in
      let number : count ≡ a.polls = sym polled.count ∙ ap (λ (y : Actor). y.polls) one in
      let list : actors ≡ waiting_as a.number a = polled.list ∙ ap₂ waiting_as (sym e) one in
      let same : p ≡ poll_of a.number a.polls = poll ∙ ap₂ poll_of (sym e) number in
      let waiting : polls ≡ (with_poll key a c max wait timeout).polls = grown ∙ ap (λ y. c.polls ++ y ∷ []) same in
      rw z
      (record {
        effect =
            did_say before after (record c { actors = actors; polls = polls }) (with_poll key a c max wait timeout) x (receive_row key c a.number answers.Wait) rows sent
            (ap₂ (λ xs ps. record c { actors = xs; polls = ps }) list waiting)
            (row ∙ ap (λ m. receive_row key c m answers.Wait) (sym e));
        answer = refl;
      })

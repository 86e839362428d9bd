-- Polls: their ends, and the answers that they get.
use Rattle.std.proofs.Common.{Bool, true, false, suc, ◌+◌, ◌<◌, Option, add-one, drop, drop-cons, get_or, length, if◌then◌else◌, ◌≡◌, ℕ, List, [], ◌∷◌, ◌++◌, refl, ap, subst, sym, ◌∙◌}
use Rattle.std.specs.Prelude.{Err, Ok, Result}
use Rattle.sim_clock.specs.declared.refusal.Refusal.TheVariants as refusals
use Rattle.sqs_model.specs.Available.{all_hosts}
use Rattle.sqs_model.specs.Queue.{Queue}
use Rattle.sqs_model.specs.Receive.{answered, give_most, is_bad_timeout, receive}
use Rattle.sim_site.proofs.Receiving.{given_same}
use Rattle.sim_clock.specs.declared.key.Key.{Key}
use Rattle.sim_clock.specs.declared.refusal.Refusal.{Refusal}
use Rattle.sqs_message.specs.declared.row.Row.{Row}
use Rattle.sqs_message.specs.declared.row.RowAnswer.TheVariants as answers
use Rattle.sqs_redrive.specs.declared.answers.Got.{Got}
use Rattle.sqs_model.specs.declared.acts.Answer.TheVariants as told_by
use Rattle.sim_clock.specs.Firsts.{without}
use Rattle.sqs_model.specs.Acts.{given, receive_row}
use Rattle.sqs_model.specs.Polls.{answer_polls, can_give, poll_answered, poll_given, told, without_poll}
use Rattle.sqs_model.specs.Site.{Core, Effect, Poll, and_then, no_effect, says}
use Rattle.sqs_model.specs.Step.{ends_at, handle_poll_end}
use Rattle.sqs_model.proofs.Growth.{same, told_to}
use Rattle.sqs_model.specs.Limits.{PassesCount}
use Rattle.sim_site.specs.Effects.{Did, Does, GoesOn}
use Rattle.sim_site.specs.declared.handling.Handling.{Handling}
use Rattle.sim_site.proofs.Carried.{did_say}
use Rattle.sim_site.proofs.Going.{does_then}
use Rattle.sim_site.proofs.Passing.{passes_after, passes_before}

-- a poll that ends, whose row was added
pub poll_end_does :
    {A : Type 0} (r : Result A Refusal) (a b end : Handling) (c d : Core) (polls : List Poll) (gots : List Got) (x : Row)
    → polls ≡ without (ends_at a.key) c.polls → gots ≡ [] → GoesOn a b → a.agent ≡ a.key.agent
    → b.effects.now.rows.items ≡ a.effects.now.rows.items ++ x ∷ [] → b.effects.now.sent ≡ a.effects.now.sent → x ≡ receive_row a.key c a.agent answers.Empty
    → Does r b end d (told b.key b.agent (told_by.Got gots) (record c { polls = polls })) → Does r a end d (handle_poll_end a.key c)
poll_end_does r a b end c d polls gots x left none on agent rows sent row more =
    let ended : Core = record c { polls = without (ends_at a.key) c.polls } in
    let first : Effect = says ended (receive_row a.key c a.agent answers.Empty) in
    let did : Did a.effects.now b.effects.now ended first = did_say a.effects.now b.effects.now ended ended x (receive_row a.key c a.agent answers.Empty) rows sent refl row in
    let there : told b.key b.agent (told_by.Got gots) (record c { polls = polls }) ≡ told b.key b.agent (told_by.Got []) ended =
    ap (λ g. told b.key b.agent (told_by.Got g) (record c { polls = polls })) none ∙ ap (λ p. told b.key b.agent (told_by.Got []) (record c { polls = p })) left in
    subst (λ n. Does r a end d (and_then (says ended (receive_row a.key c n answers.Empty)) (told a.key n (told_by.Got [])))) agent
    (does_then r a b end ended d first (λ k n e. told k n (told_by.Got []) e) (on, did) (subst (λ f. Does r b end d f) there more))

-- a receive that is not refused gives what the definition gives
gives_by :
    (b : Bool) (q new : Queue) (x : Queue × List Got) (gots : List Got) → (if b then (Err refusals.BadTimeout, q) else answered x) ≡ (Ok gots, new) → x ≡ (new, gots)
gives_by true q new x gots h = absurd (let k : Err refusals.BadTimeout ≡ Ok gots = ap (λ (y : Result (List Got) Refusal × Queue). y.0) h in cc)
gives_by false q new x gots h =
    let a : Ok x.1 ≡ Ok gots = ap (λ (y : Result (List Got) Refusal × Queue). y.0) h in
    let b : x.0 ≡ new = ap (λ (y : Result (List Got) Refusal × Queue). y.1) h in
    let d : x.1 ≡ gots = cc in
    ap (λ y. (y, x.1)) b ∙ ap (λ g. (new, g)) d

pub receive_gives :
    (q new : Queue) (now max : ℕ) (timeout : Option ℕ) (set : ℕ) (gots : List Got) → receive q now max timeout set false ≡ (Ok gots, new) → give_most q now max timeout set ≡ (new, gots)
receive_gives q new now max timeout set gots h = gives_by (is_bad_timeout timeout) q new (give_most q now max timeout set) gots h

-- the answer to a poll of the actor that acts: what it is given, and what its actor does then
module _ (a : Handling) (p : Poll) (c : Core) (set : ℕ) (q : Queue) (polls : List Poll) (gots slice : List Got) (agent : a.agent ≡ p.actor) (all : all_hosts c.queue.settings.kind ≡ set)
    (h : receive c.queue a.key.at p.max p.timeout set false ≡ (Ok gots, q)) (site : q.site ≡ c.queue.site) (left : polls ≡ drop 1 c.polls) (alike : slice ≡ gots) where
  abbrev giving : Effect
  giving = given a.key (record c { queue = q; polls = polls }) a.agent p.timeout (q, slice)

  answer_is : and_then giving (told a.key a.agent (told_by.Got gots)) ≡ poll_answered a.key p c (poll_given a.key p c.queue)
  answer_is =
      let gives : poll_given a.key p c.queue ≡ (q, gots) = ap (give_most c.queue a.key.at p.max p.timeout) all ∙ receive_gives c.queue q a.key.at p.max p.timeout set gots h in
      let same : giving ≡ given a.key (without_poll c) a.agent p.timeout (q, gots) =
      ap (λ ps. given a.key (record c { queue = q; polls = ps }) a.agent p.timeout (q, slice)) left
      ∙ ap (λ l. given a.key (record c { queue = q; polls = drop 1 c.polls }) a.agent p.timeout (q, l)) alike
      ∙ given_same a.key (without_poll c) q a.agent p.timeout gots site in
      ap (λ e. and_then e (told a.key a.agent (told_by.Got gots))) same
      ∙ ap (λ n. and_then (given a.key (without_poll c) n p.timeout (q, gots)) (told a.key n (told_by.Got gots))) agent
      ∙ ap (poll_answered a.key p c) (sym gives)

  pub poll_does :
      {A : Type 0} (r : Result A Refusal) (b end : Handling) (e d : Core) (batch : List Got) → batch ≡ gots → GoesOn a b × Did a.effects.now b.effects.now e giving
      → Does r b end d (told b.key b.agent (told_by.Got batch) e) → Does r a end d (poll_answered a.key p c (poll_given a.key p c.queue))
  poll_does r b end e d batch own first more =
      subst (Does r a end d) answer_is
      (does_then r a b end e d giving (λ k n x. told k n (told_by.Got gots) x) first (subst (λ g. Does r b end d (told b.key b.agent (told_by.Got g) e)) own more))

  -- one whose giving stops
  pub giving_limited : PassesCount giving → PassesCount (poll_answered a.key p c (poll_given a.key p c.queue))
  giving_limited k = subst PassesCount answer_is (passes_before giving (told a.key a.agent (told_by.Got gots)) (told_to giving.core a.key a.agent (told_by.Got gots) giving.core (same giving.core)) k)

  -- one whose actor stops
  pub telling_limited :
      (b : Handling) (e : Core) (batch : List Got) → batch ≡ gots → GoesOn a b × Did a.effects.now b.effects.now e giving
      → PassesCount (told b.key b.agent (told_by.Got batch) e) → PassesCount (poll_answered a.key p c (poll_given a.key p c.queue))
  telling_limited b e batch own (on, did) k =
      let own_is = subst (λ g. PassesCount (told b.key b.agent (told_by.Got g) e)) own k in
      let key_is = subst (λ i. PassesCount (told i b.agent (told_by.Got gots) e)) on.key own_is in
      let agent_is = subst (λ n. PassesCount (told a.key n (told_by.Got gots) e)) on.agent key_is in
      subst PassesCount answer_is (passes_after giving (told a.key a.agent (told_by.Got gots)) (subst (λ x. PassesCount (told a.key a.agent (told_by.Got gots) x)) did.core agent_is))

-- the answers to polls, of which the first is answered or none is
pub polls_go :
    (key : Key) (c : Core) (ps : List Poll) (i : ℕ) (p : Poll) → i < length ps → p ≡ get_or ps i p → can_give c.queue ≡ true
    → answer_polls key (drop i ps) c ≡ and_then (poll_answered key p c (poll_given key p c.queue)) (answer_polls key (drop (i + 1) ps))
polls_go key c ps i p l e g =
    let list : drop i ps ≡ p ∷ drop (i + 1) ps = rw add-one (drop-cons ps i p l ∙ ap (λ x. x ∷ drop (suc i) ps) (sym e)) in
    rw (list, g) refl

pub polls_stop : (key : Key) (c : Core) (ps : List Poll) → can_give c.queue ≡ false → answer_polls key ps c ≡ no_effect c
polls_stop key c [] g = refl
polls_stop key c (p ∷ ps) g = rw g refl

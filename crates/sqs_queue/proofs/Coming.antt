-- What a queue does as a message comes back or is given.
use Rattle.std.proofs.Common.{◌≡◌, ℕ, ◌==◌, Bool, true, false, List, [], ◌∷◌, None, Some, cond, if◌then◌else◌, ap, refl, sym, ◌∙◌}
use Rattle.std.specs.Prelude.{find}
use Rattle.sim_clock.specs.Firsts.{changed}
use Rattle.sim_clock.proofs.Lists.{absent_without}
use Rattle.sqs_message.specs.declared.message.Message.{Message}
use Rattle.sqs_model.specs.Queue.{Queue, has_number, numbered, taken_out, with_change, with_records}
use Rattle.sqs_model.specs.Receive.{received}
use Rattle.sqs_model.specs.Return.{leaves, released, released_found, released_when, visible_again}
use Rattle.sqs_queue.specs.Giving.{gives}

-- a message that stays is visible again
pub released_visible : (q : Queue) (n : ℕ) (m : Message) → numbered n q.records ≡ Some m → leaves q.settings.policy m ≡ false → released q n ≡ (with_change q n visible_again, None)
released_visible q n m e l = ap (released_found q n) e ∙ ap (λ b. released_when b q n m) l

-- a message that is given for no time comes back
pub gives_back : (q : Queue) (now timeout n : ℕ) → (timeout == 0) ≡ true → gives q now timeout n ≡ released (with_change q n (received now timeout)) n
gives_back q now timeout n e =
    let taken : Queue = with_change q n (received now timeout) in
    ap (λ b. if b then released taken n else (taken, None)) e

-- and else it does not
pub gives_out : (q : Queue) (now timeout n : ℕ) → (timeout == 0) ≡ false → gives q now timeout n ≡ (with_change q n (received now timeout), None)
gives_out q now timeout n e =
    let taken : Queue = with_change q n (received now timeout) in
    ap (λ b. if b then released taken n else (taken, None)) e

pub taken_none : (q : Queue) (n : ℕ) → numbered n q.records ≡ None → taken_out q n ≡ q
taken_none q n e = ap (with_records q) (absent_without (has_number n) q.records e)

-- a change speaks of the message that is there alone
changed_as : (p : Message → Bool) (f g : Message → Message) (m : Message) (xs : List Message) → find p xs ≡ Some m → f m ≡ g m → changed p f xs ≡ changed p g xs
changed_as p f g m [] e h = refl
changed_as p f g m (x ∷ xs) e h =
    elim (p x) as (λ b. cond b (Some x) (find p xs) ≡ Some m → (if b then f x ∷ xs else x ∷ changed p f xs) ≡ (if b then g x ∷ xs else x ∷ changed p g xs)) [
      | true ↦ λ k. let same : x ≡ m = cc in ap (λ y. y ∷ xs) (ap f same ∙ h ∙ ap g (sym same))
      | false ↦ λ k. ap (λ ys. x ∷ ys) (changed_as p f g m xs k h)
    ] e

pub change_as : (q : Queue) (n : ℕ) (f g : Message → Message) (m : Message) → numbered n q.records ≡ Some m → f m ≡ g m → with_change q n f ≡ with_change q n g
change_as q n f g m e h = ap (with_records q) (changed_as (has_number n) f g m q.records e h)

-- No message is given twice: groups have no message in common, and numbers go up.
use Rattle.std.proofs.Common.{◌≡◌, ℕ, ◌+◌, ◌≤◌, Bool, true, false, List, [], ◌∷◌, Some, filter, flat_map, get_or, arith, refl, sym, ap, ◌∙◌}
use Rattle.std.specs.List.{list_any}
use Rattle.std.specs.Prelude.{All, ◌≢◌, not}
use Rattle.std.proofs.lemmas.Bool.{false≢true}
use Rattle.std.proofs.lemmas.List.Elements.{All-append, All-cons, All-filter, All-head, All-nil, All-tail, All-weaker, filter_passes}
use Rattle.sim_clock.specs.Firsts.{kept_when}
use Rattle.sim_clock.proofs.Booleans.{or_first, or_second}
use Rattle.sqs_message.specs.declared.message.Message.{Message}
use Rattle.sqs_model.specs.Available.{by_group, firsts, is_open, open_from}
use Rattle.sqs_model.specs.Queue.{numbered, same_group, same_text}
use Rattle.sqs_model.specs.Texts.{same_text_decides}
use Rattle.sqs_model.proofs.Numbered.{Apart, Climbs, apart_append, climbs_apart, climbs_filter, climbs_from, each_is_numbered}

climbs_kept : (b : Bool) (a : ℕ) (m : Message) (ms : List Message) → a ≤ m.number → Climbs (m.number + 1) ms → Climbs a (kept_when b m ms)
climbs_kept true a m ms l h = (l, h)
climbs_kept false a m ms l h = climbs_from a (m.number + 1) ms (omega (arith, l)) h

pub climbs_open : (all earlier : List Message) (a : ℕ) (ms : List Message) → Climbs a ms → Climbs a (open_from all earlier ms)
climbs_open all earlier a [] h = tt
climbs_open all earlier a (m ∷ ms) h = climbs_kept (is_open all earlier m) a m (open_from all (m ∷ earlier) ms) h.0 (climbs_open all (m ∷ earlier) (m.number + 1) ms h.1)

-- of two leaders of different groups no message is of both
not_both : (l k y : Message) → same_group k l ≡ false → same_group k y ≡ true → same_group l y ≡ false
not_both l k y apart of =
    elim (same_group l y) as (λ b. same_group l y ≡ b → b ≡ false) [
      | true ↦ λ e.
          let one : k.group ≡ l.group = (same_text_decides k.group y.group).0 of ∙ sym ((same_text_decides l.group y.group).0 e) in
          let same : same_group k l ≡ true = ap (λ g. same_text g l.group) one ∙ (same_text_decides l.group l.group).1 refl in
          absurd (false≢true (sym apart ∙ same))
      | false ↦ λ e. refl
    ] refl

-- leaders of different groups
abbrev pub Leaders : List Message → Type 0
Leaders [] = Unit {0}
Leaders (l ∷ ls) = All (λ k. same_group k l ≡ false) ls × Leaders ls

-- whether none of these is of a message's group
abbrev pub IsNew : List Message → Message → Type 0
IsNew earlier k = list_any (same_group k) earlier ≡ false

pub record IsLed (earlier ls : List Message) : Type 0 where
  pub fresh : All (IsNew earlier) ls
  pub leaders : Leaders ls

led_kept : (b : Bool) (earlier : List Message) (m : Message) (ls : List Message) → list_any (same_group m) earlier ≡ b → IsLed (m ∷ earlier) ls → IsLed earlier (kept_when (not b) m ls)
led_kept true earlier m ls e h =
    record {
      fresh = All-weaker (IsNew (m ∷ earlier)) (IsNew earlier) (λ k n. or_second (same_group k m) (list_any (same_group k) earlier) n) ls h.fresh;
      leaders = h.leaders;
    }
led_kept false earlier m ls e h =
    record {
      fresh = All-cons (IsNew earlier) m ls e (All-weaker (IsNew (m ∷ earlier)) (IsNew earlier) (λ k n. or_second (same_group k m) (list_any (same_group k) earlier) n) ls h.fresh);
      leaders = (All-weaker (IsNew (m ∷ earlier)) (λ k. same_group k m ≡ false) (λ k n. or_first (same_group k m) (list_any (same_group k) earlier) n) ls h.fresh, h.leaders);
    }

pub firsts_led : (earlier ms : List Message) → IsLed earlier (firsts earlier ms)
firsts_led earlier [] = record { fresh = All-nil (IsNew earlier); leaders = tt }
firsts_led earlier (m ∷ ms) = led_kept (list_any (same_group m) earlier) earlier m (firsts (m ∷ earlier) ms) refl (firsts_led (m ∷ earlier) ms)

-- the messages of these leaders' groups
abbrev pub groups : List Message → List Message → List Message
groups ms ls = flat_map (λ l. filter (same_group l) ms) ls

pub all_groups : (P : Message → Type 0) (ms ls : List Message) → All P ms → All P (groups ms ls)
all_groups P ms [] h = All-nil P
all_groups P ms (l ∷ ls) h = All-append P (filter (same_group l) ms) (groups ms ls) (All-filter (same_group l) P ms h) (all_groups P ms ls h)

others_groups : (l : Message) (ms ls : List Message) → All (λ k. same_group k l ≡ false) ls → All (λ y. same_group l y ≡ false) (groups ms ls)
others_groups l ms [] h = All-nil (λ y. same_group l y ≡ false)
others_groups l ms (k ∷ ks) h =
    let P : Message → Type 0 = λ y. same_group l y ≡ false in
    let first : same_group k l ≡ false = All-head (λ j. same_group j l ≡ false) k ks h in
    All-append P (filter (same_group k) ms) (groups ms ks)
    (All-weaker (λ y. same_group k y ≡ true) P (λ y e. not_both l k y first e) (filter (same_group k) ms) (filter_passes (same_group k) ms))
    (others_groups l ms ks (All-tail (λ j. same_group j l ≡ false) k ks h))

-- two messages of different groups have different numbers
different : (l x y : Message) (ms : List Message) → numbered x.number ms ≡ Some x → numbered y.number ms ≡ Some y → same_group l x ≡ true → same_group l y ≡ false → y.number ≢ x.number
different l x y ms fx fy ex ey same =
    let one : Some y ≡ Some x = sym fy ∙ ap (λ n. numbered n ms) same ∙ fx in
    let equal : y ≡ x = cc in
    false≢true (sym ey ∙ ap (same_group l) equal ∙ ex)

pub apart_groups : (ms ls : List Message) → Climbs 0 ms → Leaders ls → Apart (groups ms ls)
apart_groups ms [] o h = tt
apart_groups ms (l ∷ ls) o h =
    let xs : List Message = filter (same_group l) ms in
    let ys : List Message = groups ms ls in
    let N : Message → Type 0 = λ m. numbered m.number ms ≡ Some m in
    let found : All N ms = each_is_numbered 0 ms o in
    let fx : All N xs = All-filter (same_group l) N ms found in
    let fy : All N ys = all_groups N ms ls found in
    let gx : All (λ x. same_group l x ≡ true) xs = filter_passes (same_group l) ms in
    let gy : All (λ y. same_group l y ≡ false) ys = others_groups l ms ls h.0 in
    apart_append xs ys (climbs_apart 0 xs (climbs_filter (same_group l) 0 ms o)) (apart_groups ms ls o h.1)
    (λ i d k. λ j e m. different l (get_or xs i d) (get_or ys j e) ms (fx i d k) (fy j e m) (gx i d k) (gy j e m))

-- what a FIFO queue may give, it gives once
pub apart_available : (records : List Message) → Climbs 0 records → Apart (by_group (open_from records [] records))
apart_available records o =
    let ms : List Message = open_from records [] records in
    apart_groups ms (firsts [] ms) (climbs_open records [] 0 records o) (firsts_led [] ms).leaders

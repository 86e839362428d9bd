-- The wakes of a site's actors, as their marks tell them.
use Rattle.std.specs.Prelude.{List, None, Option, Some, flat_map, get_or, length, map, set, ℕ, ◌<◌, ◌≡◌}
use Rattle.std.proofs.Common.{ap, arith, refl, sym, ◌∙◌}
use Rattle.std.proofs.lemmas.List.{get_or-set_same, length-map, map-set, set-set}
use Rattle.sim_clock.specs.Order.{least}
use Rattle.sim_index.specs.declared.mark.Mark.{Mark}
use Rattle.sim_index.specs.Marked.{AreMarked, Marked, with_value}
use Rattle.sim_index.specs.Marks.{least_of, no_mark}
use Rattle.sqs_model.specs.Actor.{Actor}
use Rattle.sqs_model.specs.Dues.{actor_dues}
use Rattle.sim_site.specs.Marked.{brought_up, wake_mark}
use Rattle.sim_index.proofs.Kept.{least_kept}

-- the least of the marks of actors is their least wake
pub marked_wakes : (list : Marked Actor) → AreMarked wake_mark list → least_of list.marks ≡ least (flat_map actor_dues list.values)
marked_wakes list h = ap least_of h ∙ least_kept wake_mark actor_dues (λ _. refl) list.values

-- what is brought up has the same actors
pub brought_values : (told : Option ℕ) (list : Marked Actor) → (brought_up told list).values ≡ list.values
brought_values None list = refl
brought_values (Some place) list = refl

-- actors with the same marks and wakes
pub marked_alike : (told : Option ℕ) (list news : Marked Actor) → news.marks ≡ list.marks → map wake_mark news.values ≡ map wake_mark list.values → AreMarked wake_mark (brought_up told list) → AreMarked wake_mark (brought_up told news)
marked_alike None list news m w h = m ∙ h ∙ sym w
marked_alike (Some place) list news m w h = rw (m, w) h

-- the actor that is told something may change, as long as its mark is not brought up
pub told_marked : (list : Marked Actor) (place : ℕ) (a : Actor) → place < length list.values → AreMarked wake_mark (brought_up (Some place) list) → AreMarked wake_mark (brought_up (Some place) (with_value list place a))
told_marked list place a l h =
    let old : Mark = get_or (map wake_mark list.values) place no_mark in
    let anew : map wake_mark (set list.values place a) ≡ set list.marks place (wake_mark a) =
    map-set wake_mark list.values place a ∙ ap (λ (ms : List Mark). set ms place (wake_mark a)) (sym h) ∙ set-set list.marks place old (wake_mark a) in
    let long : place < length (map wake_mark list.values) = omega (arith, l, length-map list.values wake_mark) in
    let own : get_or (map wake_mark (set list.values place a)) place no_mark ≡ wake_mark a =
    ap (λ (ms : List Mark). get_or ms place no_mark) (map-set wake_mark list.values place a) ∙ get_or-set_same (map wake_mark list.values) place (wake_mark a) no_mark long in
    ap (set list.marks place) own ∙ sym anew

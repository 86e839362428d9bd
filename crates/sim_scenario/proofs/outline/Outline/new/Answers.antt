use Rattle.std.proofs.Common.{◌≡◌, ◌++◌, ◌∙◌, ◌+◌, ◌-◌, ℕ, List, [], ap, arith, codes, if◌then◌else◌, length, map, nat_le, sym}
use Rattle.std.proofs.lemmas.List.{length-map}
use Rattle.toml.specs.Data.{Data}
use Rattle.toml.specs.View.{view}
use Rattle.sqs_formats.specs.Copies.{copies_asked, copies_within, names_taken}
use Rattle.sqs_formats.specs.Keys.{text_in}
use Rattle.sqs_formats.specs.Outline.{room_beside, scalers_from}
use Rattle.sqs_formats.specs.declared.scaler_text.ScalerText.{ScalerText}
use Rattle.sim_scenario.specs.Counted.{copies_before}
use Rattle.sim_scenario.proofs.Copying.{are_laid, within_few}
use Rattle.sim_scenario.proofs.outline.Outline.new.Goals as goal

pub all_names-requires-clause-same : goal.all_names-requires-clause-same
all_names-requires-clause-same c =
    let few = within_few c.args.version _ c.args.actors.now c.in_ok-copies.copies.items c.in_ok-copies.ensures (omega (arith, c.saturating_sub-room.ensures)) (omega (arith, c.requires)) in
    ap length c.as_slice-2.ensures.value ∙ few.each

pub all_names-requires-clause-few : goal.all_names-requires-clause-few
all_names-requires-clause-few c =
    let few = within_few c.args.version _ c.args.actors.now c.in_ok-copies.copies.items c.in_ok-copies.ensures (omega (arith, c.saturating_sub-room.ensures)) (omega (arith, c.requires)) in
    rw c.as_slice-2.ensures.value (omega (arith, few.few))

pub copies_before-requires : goal.copies_before-requires
copies_before-requires c =
    let few = within_few c.args.version _ c.args.actors.now c.in_ok-copies.copies.items c.in_ok-copies.ensures (omega (arith, c.saturating_sub-room.ensures)) (omega (arith, c.requires)) in
    rw c.as_slice.ensures.value (omega (arith, few.few))

pub invariant_of-result : goal.invariant_of-result
invariant_of-result c =
    let named : List Data → List (List ℕ) = map (text_in (codes "name")) in
    let queues : List Data = map view c.args.queues.now in
    let actors : List Data = map view c.args.actors.now in
    let tasks : List Data = map view c.args.tasks.now in
    let copies : List ℕ = c.in_ok-copies.copies.items in
    let few = within_few c.args.version _ c.args.actors.now copies c.in_ok-copies.ensures (omega (arith, c.saturating_sub-room.ensures)) (omega (arith, c.requires)) in
    let made : c.in_ok-names-2.names ≡ (named queues ++ names_taken (named actors) copies) ++ named tasks =
    c.in_ok-names-2.ensures ∙ rw c.as_slice-2.ensures.value at c.in_ok-names.ensures.names in
    let laid = are_laid (length c.args.queues.now) (length c.args.actors.now) c.in_ok-names.first_task_place copies c.in_ok-names-2.names (named queues) (named actors) (named tasks) few made
    (rw c.as_slice-2.ensures.value at c.in_ok-names.ensures.place)
    (length-map queues (text_in (codes "name")) ∙ length-map c.args.queues.now view) (length-map actors (text_in (codes "name")) ∙ length-map c.args.actors.now view)
    (rw (length-map tasks (text_in (codes "name")), length-map c.args.tasks.now view) (omega (arith, c.requires))) in
    record { counted = laid.counted; before = c.in_ok-earlier_copies.ensures ∙ ap copies_before c.as_slice.ensures.value }

pub returns : goal.returns
returns c =
    let named : List Data → List (List ℕ) = map (text_in (codes "name")) in
    let queues : List Data = map view c.args.queues.now in
    let actors : List Data = map view c.args.actors.now in
    let tasks : List Data = map view c.args.tasks.now in
    let copies : List ℕ = c.in_ok-copies.copies.items in
    let few = within_few c.args.version _ c.args.actors.now copies c.in_ok-copies.ensures (omega (arith, c.saturating_sub-room.ensures)) (omega (arith, c.requires)) in
    let made : c.in_ok-names-2.names ≡ (named queues ++ names_taken (named actors) copies) ++ named tasks =
    c.in_ok-names-2.ensures ∙ rw c.as_slice-2.ensures.value at c.in_ok-names.ensures.names in
    let laid = are_laid (length c.args.queues.now) (length c.args.actors.now) c.in_ok-names.first_task_place copies c.in_ok-names-2.names (named queues) (named actors) (named tasks) few made
    (rw c.as_slice-2.ensures.value at c.in_ok-names.ensures.place)
    (length-map queues (text_in (codes "name")) ∙ length-map c.args.queues.now view) (length-map actors (text_in (codes "name")) ∙ length-map c.args.actors.now view)
    (rw (length-map tasks (text_in (codes "name")), length-map c.args.tasks.now view) (omega (arith, c.requires))) in
    let room : c.saturating_sub-room.result ≡ room_beside actors tasks =
    c.saturating_sub-room.ensures ∙ (λ j. 10000 - (sym (length-map c.args.actors.now view) j + sym (length-map c.args.tasks.now view) j)) in
    let counted : copies ≡ copies_within (room_beside actors tasks) (map (copies_asked c.args.version) actors) =
    c.in_ok-copies.ensures ∙ ap (λ r. copies_within r (map (copies_asked c.args.version) actors)) room in
    let scalers : ℕ → List ScalerText = λ n. if nat_le 3 c.args.version then scalers_from n actors else [] in
    let scalers_at : scalers (length c.args.queues.now) ≡ scalers (length queues) = ap scalers (sym (length-map c.args.queues.now view)) in
    λ j. record {
      version = c.args.version;
      names = (laid.whole ∙ ap (λ cs. named queues ++ (names_taken (named actors) cs ++ named tasks)) counted) j;
      queues = laid.front j;
      copies = counted j;
      tasks = laid.back j;
      task_homes = c.in_ok-task_homes.ensures j;
      dead_letters = (c.in_ok-dead_letters-2.ensures ∙ c.in_ok-dead_letters.ensures) j;
      scalers = (c.in_ok-scalers.ensures ∙ scalers_at) j;
    }

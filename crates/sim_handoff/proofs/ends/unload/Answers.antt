use Rattle.std.proofs.Common.{◌≡◌, ℕ, ◌+◌, ◌<◌, ◌≤◌, false, [], ◌∷◌, ◌++◌, get_or, set, length, sym, ap, subst, ◌∙◌, arith, get_or-set_same, get_or-set_other, length-append}
use mathlib.Core.Logic.{dite}
use native.Mathlib.Decide.{ℕ_discrete}
use Rattle.std.proofs.lemmas.List.{get_or_append_left}
use Rattle.std.proofs.Math.Seq.{get_or-append_seam}
use Rattle.std.specs.Slots.{slots_items, slots_filled, slots_len}
use Rattle.sim_handoff.specs.declared.records.Slot.{Slot}
use Rattle.sim_handoff.specs.declared.records.Slot.TheVariants.{Nothing}
use Rattle.sim_handoff.specs.declared.ends.Left.{Left}
use Rattle.sim_handoff.specs.declared.ends.Left.TheVariants.{Empty}
use Rattle.sim_handoff.specs.Ends.{Says}
use Rattle.sim_handoff.proofs.Lists.{read}
use Rattle.sim_handoff.proofs.ends.unload.Goals as goal

pub loop-i-preserved : goal.loop-i-preserved
loop-i-preserved g c =
    let I = c.loop-i.invariant in let o = c.take.ensures.others in let i : ℕ = c.loop-i.i in let t : i < c.args.places = c.loop-i-test.true in
    let fs = slots_filled c.loop-i.closed.slots in
    let counted : slots_len c.loop-i.closed.slots ≡ length fs = c.loop-i.closed.slots.ok.1 in
    let in_range : i < length fs = omega (arith, I.3) in
    let made : length c.loop-i.all.items ≡ i = I.6 in
    let was_word : get_or (slots_items c.args.closed.words) i 0 ≡ c.word-word.result = sym (ap (λ w. get_or (slots_items w) i 0) I.1) ∙ read (slots_items c.loop-i.closed.words) i c.word-word.result 0 c.word-word.ensures in
    let was_slot : get_or (slots_items c.args.closed.slots) i Nothing ≡ c.take.result = sym (ap (λ w. get_or w i Nothing) I.2) ∙ read (slots_items c.loop-i.closed.slots) i c.take.result Nothing c.take.ensures.value in (
      omega arith,
      o.3 ∙ I.1,
      o.0 ∙ I.2,
      o.2 ∙ I.3,
      λ k low high. let up : i ≤ k = omega arith in let below : k < slots_len c.loop-i.closed.slots = omega (arith, o.2) in
          ap (λ w. get_or w k false) o.1 ∙ get_or-set_other fs i k false false (λ e. omega arith) ∙ I.4 k up below,
      λ k low. ap (λ w. get_or w k false) o.1 ∙ dite (ℕ_discrete k i)
          (λ e. subst (λ j. get_or (set fs i false) j false ≡ false) (sym e) (get_or-set_same fs i false false in_range))
          (λ ne. get_or-set_other fs i k false false ne ∙ I.5 k (omega arith)),
      ap length c.push_reserved.ensures.items ∙ length-append c.loop-i.all.items (c.left_at.result ∷ []) ∙ ap (λ k. k + 1) made,
      omega (arith, c.push_reserved.ensures.capacity, I.7),
      λ p low. subst (λ l. Says (get_or (slots_items c.args.closed.words) p 0) (get_or (slots_items c.args.closed.slots) p Nothing) (get_or l p Empty)) (sym c.push_reserved.ensures.items)
          (dite (ℕ_discrete p i)
          (λ e. subst (λ j. Says (get_or (slots_items c.args.closed.words) j 0) (get_or (slots_items c.args.closed.slots) j Nothing) (get_or (c.loop-i.all.items ++ c.left_at.result ∷ []) j Empty)) (sym e)
          (subst (λ (y : ℕ × Slot g.row.P.Denot g.row.D.Denot × Left g.row.P.Denot g.row.D.Denot). Says y.0 y.1 y.2)
          (λ k. (sym was_word k, sym was_slot k, sym (ap (λ j. get_or (c.loop-i.all.items ++ c.left_at.result ∷ []) j Empty) (sym made) ∙ get_or-append_seam c.loop-i.all.items c.left_at.result [] Empty) k)) c.left_at.ensures))
          (λ ne. let before : p < i = omega arith in let within : p < length c.loop-i.all.items = omega arith in
          subst (λ l. Says (get_or (slots_items c.args.closed.words) p 0) (get_or (slots_items c.args.closed.slots) p Nothing) l) (sym (get_or_append_left c.loop-i.all.items (c.left_at.result ∷ []) Empty p within)) (I.8 p before))),
    )

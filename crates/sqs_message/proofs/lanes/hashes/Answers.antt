use Rattle.std.proofs.Common.{rules, ◌≡◌, [], refl, inl, inr, ◌∙◌, arith, ap}
use Rattle.std.proofs.lemmas.List.{get_or-set_same, get_or-set_other}
use Rattle.std.proofs.lemmas.Bool.{cases_lt}
use Rattle.md5.specs.Md5.{add_state, initial_hash, rounds}
use Rattle.sqs_message.proofs.lanes.hashes.Goals as goal

pub each-preserved : goal.each-preserved
unfolding rounds
each-preserved c = (
  search rules,
  λ i lt. elim (cases_lt i c.each.l) [
    | inl before ↦ get_or-set_other c.each.hashes c.each.l i _ [] (omega arith) ∙ c.each.invariant.1 i before
    | inr here ↦
        let e : c.each.l ≡ i = omega arith in
        let h = initial_hash in
        let s1 = c.four_steps-v.ensures h refl in
        let s2 = c.four_steps-v-in-each.ensures h s1 in
        let s3 = c.four_steps-v-in-each-2.ensures h s2 in
        let s4 = c.four_steps-v-in-each-3.ensures h s3 in
        let s5 = c.four_steps-v-in-each-4.ensures h s4 in
        let s6 = c.four_steps-v-in-each-5.ensures h s5 in
        let s7 = c.four_steps-v-in-each-6.ensures h s6 in
        let s8 = c.four_steps-v-in-each-7.ensures h s7 in
        let s9 = c.four_steps-v-in-each-8.ensures h s8 in
        let s10 = c.four_steps-v-in-each-9.ensures h s9 in
        let s11 = c.four_steps-v-in-each-10.ensures h s10 in
        let s12 = c.four_steps-v-in-each-11.ensures h s11 in
        let s13 = c.four_steps-v-in-each-12.ensures h s12 in
        let s14 = c.four_steps-v-in-each-13.ensures h s13 in
        let s15 = c.four_steps-v-in-each-14.ensures h s14 in
        let s16 = c.four_steps-v-in-each-15.ensures h s15 in
        rw (← e) (get_or-set_same c.each.hashes c.each.l _ [] (omega arith) ∙ ap (add_state h) s16)
  ],
)

pub returns : goal.returns
returns c = λ l low. c.each.invariant.1 l (omega arith)

use Rattle.std.proofs.Common.{◌+◌, ◌≤◌, arith, refl}
use Rattle.sqs_dedup.specs.declared.held.Held.{Held}
use Rattle.sqs_dedup.proofs.Windows.{IsEntered, entered_anew, entered_recent, last_by, recent_lacks}
use Rattle.sqs_dedup.proofs.dedup.Dedup.enter.Goals.{then-saturating_sub-lt-DEDUPLICATION_INTERVAL+in_ok-add, else-saturating_sub-lt-DEDUPLICATION_INTERVAL+in_ok-fresh}
use Rattle.sqs_dedup.proofs.dedup.Dedup.enter.Goals as goal

pub add-requires : goal.add-requires
add-requires c =
    let f = c.self.inside in
    let l : f.last ≤ c.args.now = last_by c.args.now f.last f.began f.earlier.entries f.recent.entries c.args.self.now c.self.invariant c.self.view_is c.requires.no_earlier in
    recent_lacks c.args.now f.last f.began c.args.key f.earlier.entries f.recent.entries c.args.self.now c.self.invariant c.self.view_is l (omega arith) c.requires.none_living

-- the fields after the entry
entered : (c : goal.After-self-2-1)
    → IsEntered c.args.self.now c.args.now (record { scope = c.args.key.scope; id = c.args.key.id; end = c.args.now + 300000; number = c.args.number }) c.if-saturating_sub-lt-DEDUPLICATION_INTERVAL.self-inside.earlier.entries c.if-saturating_sub-lt-DEDUPLICATION_INTERVAL.self-inside.recent.entries c.if-saturating_sub-lt-DEDUPLICATION_INTERVAL.self-inside.began
entered c =
    let f = c.self.inside in
    let l : f.last ≤ c.args.now = last_by c.args.now f.last f.began f.earlier.entries f.recent.entries c.args.self.now c.self.invariant c.self.view_is c.requires.no_earlier in
    let held : Held = record { end = c.args.now + 300000; number = c.args.number } in
    elim c.if-saturating_sub-lt-DEDUPLICATION_INTERVAL.branch [
      | then-saturating_sub-lt-DEDUPLICATION_INTERVAL+in_ok-add w ↦
          rw w.self-inside-is
          (entered_recent c.args.now f.last f.began f.earlier.entries f.recent.entries _ c.args.self.now (c.args.key, held) c.self.invariant c.self.view_is l refl
          w.in_ok-add.ensures.added w.in_ok-add.ensures.distinct)
      | else-saturating_sub-lt-DEDUPLICATION_INTERVAL+in_ok-fresh w ↦
          rw (w.self-inside-is, w.replace.ensures.value, w.replace.ensures.after)
          (entered_anew c.args.now f.last f.began f.earlier.entries f.recent.entries _ c.args.self.now (c.args.key, held) c.self.invariant c.self.view_is l refl (omega arith)
          w.in_ok-fresh.ensures.added w.in_ok-fresh.ensures.distinct)
    ]

pub invariant_of-self-2 : goal.invariant_of-self-2
invariant_of-self-2 c = (entered c).kept

pub returns-clause-entered : goal.returns-clause-entered
returns-clause-entered c = (entered c).shows

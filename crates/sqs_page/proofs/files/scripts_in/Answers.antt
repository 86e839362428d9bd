use Rattle.std.proofs.Common.{rules}
use Rattle.sqs_page.specs.declared.files.FileLengths.{FileLengths}
use Rattle.sqs_page.proofs.Taken.{all_taken, next_short, taken_next}
use Rattle.sqs_page.proofs.files.scripts_in.Goals as goal

-- the element that is nowhere in the list
abbrev no_lengths : FileLengths
no_lengths = record { name = 0; file = 0 }

pub returns-in_default : goal.returns-in_default
returns-in_default c =
    next_short c.args.bytes.now c.args.lengths.now c.loop-one.files.items c.loop-one.left.now c.loop-one.one-index no_lengths c.loop-one.invariant (search rules) (search rules)

pub loop-one-preserved : goal.loop-one-preserved
loop-one-preserved c =
    rw (c.in_ok-push.ensures.items, c.in_ok-named.ensures) (taken_next _ _ c.loop-one.files.items _ c.loop-one.one-index _ c.loop-one.invariant c.in-Some.name.now c.in-Some.file.now c.in-Some.rest.now
    (search rules) c.in-Some.ensures.parts c.in-Some.ensures.name c.in-Some.ensures.file)

pub returns-then-is_empty : goal.returns-then-is_empty
returns-then-is_empty c =
    rw c.new.ensures (all_taken _ _ c.loop-one.files.items _ c.loop-one.one-index no_lengths c.loop-one.invariant (search rules) (search rules))

-- Origins: a receive tells the origin with which its message came.
use Rattle.std.specs.Prelude.{Some, ◌≡◌}
use Rattle.std.proofs.Common.{subst, sym, ◌∙◌}
use Rattle.sqs_laws.proofs.Terms.{id_of, IsRunOf, Run, Scenario}
use Rattle.sqs_laws.specs.Laws.{Origins}
use Rattle.sqs_laws.specs.Words.{origin_of}
use Rattle.sqs_laws.proofs.Moves.{as_told}
use Rattle.sqs_laws.proofs.Worlds.{every_row_by, traces}
use Rattle.sqs_laws.proofs.Traces.{traced_of}

-- the law
pub origins_are_told : (s : Scenario) (x : Run) → IsRunOf s x → Origins x.rows
origins_are_told s x is =
    record {
      told =
          every_row_by s (traces s) _
          (λ rows key q r p now d g k h j m e t.
          let x = (as_told key q r p d.does).receives t in
          let i : id_of q x.number ≡ m = let named : Some (id_of q x.number) ≡ Some m = sym x.names.message ∙ e in cc in
          (x.one.origin, subst (λ y. origin_of y rows ≡ Some x.one.origin) i (traced_of s rows q h.1 x.number x.one x.names.there).origin, x.origin)) x is;
    }

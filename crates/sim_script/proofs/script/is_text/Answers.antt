use Rattle.std.proofs.Common.{◌≡◌, ℕ, Bool, true, false, List, refl, sym}
use Rattle.std.specs.Str.{is_utf8, IsUtf8}
use Rattle.std.proofs.lemmas.Str.{is_utf8-from_IsUtf8, IsUtf8-from_is_utf8}
use Rattle.sim_script.proofs.script.is_text.Goals as goal

no_text : (bs : List ℕ) (b : Bool) → is_utf8 bs ≡ b → ¬ (IsUtf8 bs) → false ≡ b
no_text bs true e h = absurd (h (IsUtf8-from_is_utf8 bs e))
no_text bs false e h = refl

pub returns-in-Ok : goal.returns-in-Ok
returns-in-Ok c = sym (is_utf8-from_IsUtf8 c.args.bytes.now c.in-Ok.ensures.cases.1)

pub returns-in-Err : goal.returns-in-Err
returns-in-Err c = no_text c.args.bytes.now (is_utf8 c.args.bytes.now) refl c.in-Err.ensures.cases.0

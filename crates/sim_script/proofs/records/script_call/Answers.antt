use Rattle.std.proofs.Common.{◌≡◌, ◌∙◌, ap, refl, sym}
use Rattle.csv.specs.Records.{fields_of}
use Rattle.sqs_formats.specs.Script.{call_in, number}
use Rattle.sim_script.specs.ScriptGives.{fields_at}
use Rattle.sim_script.proofs.RecordFields.{states, states_none}
use Rattle.sim_script.proofs.records.script_call.Goals as goal

pub returns-then-len-ne11 : goal.returns-then-len-ne11
returns-then-len-ne11 c = states_none c.args.home.now (fields_of c.args.row.now) (λ e. c.if-len-ne11.true (c.len.ensures ∙ e))

pub returns-in-None : goal.returns-in-None
returns-in-None c =
    let fields = fields_of c.args.row.now in
    let whole = states c.args.home.now fields (sym c.len.ensures ∙ c.if-len-ne11.false) in
    let at : number (fields_at fields).at ≡ c.in_ok-number.field-0 = sym (c.in_ok-number.ensures ∙ ap (λ f. number f.at) c.record_of-fields.ensures) in
    rw (whole, at, c.in-None.is) refl

pub returns-in-None-2 : goal.returns-in-None-2
returns-in-None-2 c =
    let fields = fields_of c.args.row.now in
    let whole = states c.args.home.now fields (sym c.len.ensures ∙ c.if-len-ne11.false) in
    let at : number (fields_at fields).at ≡ c.in_ok-number.field-0 = sym (c.in_ok-number.ensures ∙ ap (λ f. number f.at) c.record_of-fields.ensures) in
    let call : call_in c.args.home.now (fields_at fields) ≡ c.in_ok-call.field-0 = sym (c.in_ok-call.ensures ∙ ap (λ f. call_in c.args.home.now f) c.record_of-fields.ensures) in
    rw (whole, at, c.in-Some.is, call, c.in-None-2.is) refl

pub returns-in-Some-2 : goal.returns-in-Some-2
returns-in-Some-2 c =
    let fields = fields_of c.args.row.now in
    let whole = states c.args.home.now fields (sym c.len.ensures ∙ c.if-len-ne11.false) in
    let at : number (fields_at fields).at ≡ c.in_ok-number.field-0 = sym (c.in_ok-number.ensures ∙ ap (λ f. number f.at) c.record_of-fields.ensures) in
    let call : call_in c.args.home.now (fields_at fields) ≡ c.in_ok-call.field-0 = sym (c.in_ok-call.ensures ∙ ap (λ f. call_in c.args.home.now f) c.record_of-fields.ensures) in
    rw (whole, at, c.in-Some.is, call, c.in-Some-2.is) refl

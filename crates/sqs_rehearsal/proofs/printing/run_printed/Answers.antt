use Rattle.std.specs.Prelude.{[]}
use Rattle.std.proofs.Common.{ap, inl, refl, ◌∙◌, ◌≡◌}
use Rattle.sim_clock.specs.declared.refusal.Refusal.TheVariants as refusals
use Rattle.sim_engine.specs.Mapping.{mapped_setting}
use Rattle.sqs_model.specs.Run.{setting_of}
use Rattle.sqs_rehearsal.proofs.PrintedRuns.{never_over, printed_setting, recorded, stops_plain, taken_plain, wants_plain}
use Rattle.sqs_rehearsal.proofs.Stopped.{handed_on}
use Rattle.sqs_rehearsal.specs.SinkLaws.{recorded_none}
use Rattle.sqs_rehearsal.proofs.printing.run_printed.Goals as goal

pub returns-in_err-world-clause-stops : goal.returns-in_err-world-clause-stops
returns-in_err-world-clause-stops g c =
    handed_on _ c.from_residual.result refusals.Memory c.from_residual.ensures.1
    (inl (record { rows = []; prefix = λ r is. (r.rows, refl); at_rows = inl (recorded_none g.L.Out.state c.args.sink.now, tt) }))

pub returns-in_err-made-clause-stops : goal.returns-in_err-made-clause-stops
returns-in_err-made-clause-stops g c =
    let s = c.args.scenario in
    let is : c.in_ok-world.world ≡ printed_setting g.L.Out.state s c.args.sink.now c.run_workers.new.sink = c.in_ok-world.ensures.setting ∙ ap (λ n. mapped_setting n (setting_of s)) c.requires.names in
    let e = c.in_err-made.field-0.0 in
    handed_on _ c.from_residual-in_err-made.result e c.from_residual-in_err-made.ensures.1
    (stops_plain g.L.Out.state s c.args.sink.now c.run_workers.new.sink c.in_ok-world.world is c.in_ok-world.ensures.simulated e c.in_err-made.ensures.stops)

pub returns-in_err-sites-clause-stops : goal.returns-in_err-sites-clause-stops
returns-in_err-sites-clause-stops g c =
    let s = c.args.scenario in
    let is : c.in_ok-world.world ≡ printed_setting g.L.Out.state s c.args.sink.now c.run_workers.new.sink = c.in_ok-world.ensures.setting ∙ ap (λ n. mapped_setting n (setting_of s)) c.requires.names in
    handed_on _ c.from_residual-in_err-sites.result refusals.Memory c.from_residual-in_err-sites.ensures.1
    (wants_plain g.L.Out.state s c.args.sink.now c.run_workers.new.sink c.in_ok-world.world is c.in_ok-world.ensures.simulated c.in_ok-made.made.items c.in_ok-made.ensures.whole)

pub returns-clause-whole : goal.returns-clause-whole
returns-clause-whole g c =
    let s = c.args.scenario in
    let is : c.in_ok-world.world ≡ printed_setting g.L.Out.state s c.args.sink.now c.run_workers.new.sink = c.in_ok-world.ensures.setting ∙ ap (λ n. mapped_setting n (setting_of s)) c.requires.names in
    rw c.counted.ensures.same
    (recorded g.L.Out.state s c.args.sink.now c.run_workers.new.sink c.in_ok-sites.sites.items
    (taken_plain g.L.Out.state s c.args.sink.now c.run_workers.new.sink c.in_ok-world.world is c.in_ok-made.made.items c.in_ok-sites.sites.items c.in_ok-sites.ensures c.in_ok-made.ensures.whole))

pub returns-clause-counted : goal.returns-clause-counted
returns-clause-counted g c =
    let s = c.args.scenario in
    let is : c.in_ok-world.world ≡ printed_setting g.L.Out.state s c.args.sink.now c.run_workers.new.sink = c.in_ok-world.ensures.setting ∙ ap (λ n. mapped_setting n (setting_of s)) c.requires.names in
    let within = rw c.counted.ensures.same at c.counted.ensures.within in
    rw c.counted.ensures.same
    (never_over g.L.Out.state s c.args.sink.now c.run_workers.new.sink c.in_ok-sites.sites.items
    (taken_plain g.L.Out.state s c.args.sink.now c.run_workers.new.sink c.in_ok-world.world is c.in_ok-made.made.items c.in_ok-sites.sites.items c.in_ok-sites.ensures c.in_ok-made.ensures.whole) within)

use Rattle.std.proofs.Common.{◌≡◌, ◌+◌, ◌%◌, ◌<◌, ◌≤◌, ◌^◌, ap, arith, ◌∙◌}
use Rattle.sim_site.proofs.Hosts.{host_fits, hosts_fit, hosts_more}
use Rattle.sqs_model.specs.Acts.{hosts_from}
use Rattle.sim_site.proofs.state.receives.hosts_from.Goals as goal

pub loop-i-preserved : goal.loop-i-preserved
loop-i-preserved c =
    let host : (c.args.start + c.loop-i.i) % c.args.hosts < 16 = omega (arith, c.requires.hosts.few, c.requires.hosts.some) in
    let bit : 2 ^ ((c.args.start + c.loop-i.i) % c.args.hosts) ≤ 32768 = host_fits _ host in
    let more : hosts_from c.args.hosts (c.loop-i.i + 1) c.args.start ≡ hosts_from c.args.hosts c.loop-i.i c.args.start + 2 ^ ((c.args.start + c.loop-i.i) % c.args.hosts) = hosts_more c.args.hosts c.loop-i.i c.args.start in
    record { set = omega (arith, c.loop-i.invariant.set); bound = omega (arith, c.loop-i.invariant.bound) }

pub overflow_cast-result : goal.overflow_cast-result
overflow_cast-result c =
    let same : c.loop-i.i ≡ c.args.sampled = omega arith in
    let fits : hosts_from c.args.hosts c.args.sampled c.args.start < 65536 = hosts_fit c.args.hosts c.args.sampled c.args.start c.requires.hosts.few c.requires.hosts.within c.requires.start in
    let set : c.loop-i.set ≡ hosts_from c.args.hosts c.args.sampled c.args.start = c.loop-i.invariant.set ∙ ap (λ i. hosts_from c.args.hosts i c.args.start) same in
    omega arith

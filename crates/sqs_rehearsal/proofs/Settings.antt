-- Settings that `==` finds equal are the same.
use Rattle.std.proofs.Common.{Bool, Bor, List, None, Option, Some, [], ap, arith, false, map, nat_eq, refl, subst, true, ℕ, ◌&&◌, ◌∷◌, ◌≡◌}
use Rattle.std.specs.Bool.{Decides, beq}
use Rattle.std.specs.Option.{option_eq}
use Rattle.std.specs.Cmp.{first_so, second_so}
use Rattle.std.specs.Cmp.Lexicographic.{bytes_decides, pointwise}
use Rattle.std.proofs.lemmas.Bool.Decides.{nat_tests}
use Rattle.sqs_rehearsal.specs.Reaching.{with_number}
use Rattle.sqs_model.specs.contracts.agents.ActorSettingsEq.TheImpl.Laws as actor_laws
use Rattle.sqs_redrive.specs.contracts.settings.QueueSettingsEq.TheImpl.Laws as queue_laws
use Rattle.sqs_redrive.specs.contracts.settings.TaskSettingsEq.TheImpl.Laws as task_laws
use Rattle.sqs_redrive.specs.declared.settings.Scope.{Scope}
use Rattle.sqs_redrive.specs.contracts.settings.ScopePartialEq.TheImpl as scope
use Rattle.sqs_redrive.specs.declared.settings.Scope.TheVariants as scope_of
use Rattle.sqs_redrive.specs.declared.settings.Kind.{Kind}
use Rattle.sqs_redrive.specs.contracts.settings.KindPartialEq.TheImpl as kind
use Rattle.sqs_redrive.specs.declared.settings.Kind.TheVariants as kind_of
use Rattle.sqs_redrive.specs.declared.settings.Latency.{Latency}
use Rattle.sqs_redrive.specs.contracts.settings.LatencyPartialEq.TheImpl as latency
use Rattle.sqs_redrive.specs.declared.settings.Policy.{Policy}
use Rattle.sqs_redrive.specs.contracts.settings.PolicyPartialEq.TheImpl as policy
use Rattle.sqs_redrive.specs.declared.settings.QueueSettings.{QueueSettings}
use Rattle.sqs_redrive.specs.contracts.settings.QueueSettingsPartialEq.TheImpl as queue
use Rattle.sqs_redrive.specs.declared.settings.TaskSettings.{TaskSettings}
use Rattle.sqs_redrive.specs.contracts.settings.TaskSettingsPartialEq.TheImpl as task
use Rattle.sqs_message.specs.declared.calls.Call.{Call}
use Rattle.sqs_message.specs.contracts.calls.CallPartialEq.TheImpl as call
use Rattle.sqs_message.specs.declared.calls.Call.TheVariants as call_of
use Rattle.sqs_message.specs.declared.calls.ScriptCall.{ScriptCall}
use Rattle.sqs_message.specs.contracts.calls.ScriptCallPartialEq.TheImpl as scripted
use Rattle.sqs_model.specs.declared.agents.Quantile.{Quantile}
use Rattle.sqs_model.specs.contracts.agents.QuantilePartialEq.TheImpl as quantile
use Rattle.sqs_model.specs.declared.agents.Distribution.{Distribution}
use Rattle.sqs_model.specs.contracts.agents.DistributionPartialEq.TheImpl as distribution
use Rattle.sqs_model.specs.declared.agents.Distribution.TheVariants as distribution_of
use Rattle.sqs_model.specs.declared.agents.WeightedGroup.{WeightedGroup}
use Rattle.sqs_model.specs.contracts.agents.WeightedGroupPartialEq.TheImpl as weighted
use Rattle.sqs_model.specs.declared.agents.Groups.{Groups}
use Rattle.sqs_model.specs.contracts.agents.GroupsPartialEq.TheImpl as groups
use Rattle.sqs_model.specs.declared.agents.Groups.TheVariants as groups_of
use Rattle.sqs_model.specs.declared.agents.Stretch.{Stretch}
use Rattle.sqs_model.specs.contracts.agents.StretchPartialEq.TheImpl as stretch
use Rattle.sqs_model.specs.declared.agents.ProducerSettings.{ProducerSettings}
use Rattle.sqs_model.specs.contracts.agents.ProducerSettingsPartialEq.TheImpl as producer
use Rattle.sqs_model.specs.declared.agents.Outage.{Outage}
use Rattle.sqs_model.specs.contracts.agents.OutagePartialEq.TheImpl as outage
use Rattle.sqs_model.specs.declared.agents.Serving.{Serving}
use Rattle.sqs_model.specs.contracts.agents.ServingPartialEq.TheImpl as serving
use Rattle.sqs_model.specs.declared.agents.Serving.TheVariants as serving_of
use Rattle.sqs_model.specs.declared.agents.Forwarding.{Forwarding}
use Rattle.sqs_model.specs.contracts.agents.ForwardingPartialEq.TheImpl as forwarding
use Rattle.sqs_model.specs.declared.agents.Scaling.{Scaling}
use Rattle.sqs_model.specs.contracts.agents.ScalingPartialEq.TheImpl as scaling
use Rattle.sqs_model.specs.declared.agents.ConsumerSettings.{ConsumerSettings}
use Rattle.sqs_model.specs.contracts.agents.ConsumerSettingsPartialEq.TheImpl as consumer
use Rattle.sqs_model.specs.declared.agents.ScalingStep.{ScalingStep}
use Rattle.sqs_model.specs.contracts.agents.ScalingStepPartialEq.TheImpl as step
use Rattle.sqs_model.specs.declared.agents.Target.{Target}
use Rattle.sqs_model.specs.contracts.agents.TargetPartialEq.TheImpl as target
use Rattle.sqs_model.specs.declared.agents.Target.TheVariants as target_of
use Rattle.sqs_model.specs.declared.agents.ScalerSettings.{ScalerSettings}
use Rattle.sqs_model.specs.contracts.agents.ScalerSettingsPartialEq.TheImpl as scaler
use Rattle.sqs_model.specs.declared.agents.Role.{Role}
use Rattle.sqs_model.specs.contracts.agents.RolePartialEq.TheImpl as role
use Rattle.sqs_model.specs.declared.agents.Role.TheVariants as role_of
use Rattle.sqs_model.specs.declared.agents.ActorSettings.{ActorSettings}
use Rattle.sqs_model.specs.contracts.agents.ActorSettingsPartialEq.TheImpl as actor

nat_same : (x y : ℕ) → nat_eq x y ≡ true → x ≡ y
nat_same x y h = grind (arith, nat_tests)

nat_own : (x : ℕ) → nat_eq x x ≡ true
nat_own x = grind (arith, nat_tests)

bool_same : (x y : Bool) → beq x y ≡ true → x ≡ y
bool_same true true h = refl
bool_same false false h = refl
bool_same true false h = cc
bool_same false true h = cc

module _ {K : Type 0} {E : K → K → Bool} (same : (x y : K) → E x y ≡ true → x ≡ y) where
  option_same : (a b : Option K) → option_eq E a b ≡ true → a ≡ b
  option_same None None h = refl
  option_same (Some x) (Some y) h = ap Some (same x y h)
  option_same None (Some y) h = cc
  option_same (Some x) None h = cc

  pub list_same : (a b : List K) → pointwise E a b ≡ true → a ≡ b
  list_same [] [] h = refl
  list_same [] (y ∷ ys) h = cc
  list_same (x ∷ xs) [] h = cc
  list_same (x ∷ xs) (y ∷ ys) h = λ i. same x y (first_so _ _ h) i ∷ list_same xs ys (second_so _ _ h) i

scope_same : (a b : Scope) → (scope.ghosts).eq a b ≡ true → a ≡ b
scope_same scope_of.Queue scope_of.Queue h = refl
scope_same scope_of.Queue scope_of.Group h = cc
scope_same scope_of.Group scope_of.Queue h = cc
scope_same scope_of.Group scope_of.Group h = refl

kind_same : (a b : Kind) → (kind.ghosts).eq a b ≡ true → a ≡ b
kind_same (kind_of.Standard x0 x1) (kind_of.Standard y0 y1) h = let p0 = nat_same x0 y0 (first_so _ _ h) in let p1 = nat_same x1 y1 (second_so _ _ h) in λ i. kind_of.Standard (p0 i) (p1 i)
kind_same (kind_of.Standard x0 x1) (kind_of.Fifo y0 y1) h = cc
kind_same (kind_of.Fifo x0 x1) (kind_of.Standard y0 y1) h = cc
kind_same (kind_of.Fifo x0 x1) (kind_of.Fifo y0 y1) h = let p0 = bool_same x0 y0 (first_so _ _ h) in let p1 = scope_same x1 y1 (second_so _ _ h) in λ i. kind_of.Fifo (p0 i) (p1 i)

latency_same : (a b : Latency) → (latency.ghosts).eq a b ≡ true → a ≡ b
latency_same a b h = λ i. record { least = nat_same a.least b.least (first_so _ _ h) i; greatest = nat_same a.greatest b.greatest (second_so _ _ h) i }

policy_same : (a b : Policy) → (policy.ghosts).eq a b ≡ true → a ≡ b
policy_same a b h =
    let dead_letter_is = nat_same a.dead_letter b.dead_letter (first_so _ _ h) in
    let h1 = second_so _ _ h in
    let max_receives_is = nat_same a.max_receives b.max_receives (first_so _ _ h1) in
    let latency_is = latency_same a.latency b.latency (second_so _ _ h1) in
    λ i. record { dead_letter = dead_letter_is i; max_receives = max_receives_is i; latency = latency_is i }

pub queue_same : (a b : QueueSettings) → (queue.ghosts).eq a b ≡ true → a ≡ b
queue_same a b h =
    let kind_is = kind_same a.kind b.kind (first_so _ _ h) in
    let h1 = second_so _ _ h in
    let visibility_is = nat_same a.visibility b.visibility (first_so _ _ h1) in
    let h2 = second_so _ _ h1 in
    let delay_is = nat_same a.delay b.delay (first_so _ _ h2) in
    let h3 = second_so _ _ h2 in
    let retention_is = nat_same a.retention b.retention (first_so _ _ h3) in
    let h4 = second_so _ _ h3 in
    let in_flight_limit_is = nat_same a.in_flight_limit b.in_flight_limit (first_so _ _ h4) in
    let policy_is = option_same policy_same a.policy b.policy (second_so _ _ h4) in
    λ i. record { kind = kind_is i; visibility = visibility_is i; delay = delay_is i; retention = retention_is i; in_flight_limit = in_flight_limit_is i; policy = policy_is i }

pub task_same : (a b : TaskSettings) → (task.ghosts).eq a b ≡ true → a ≡ b
task_same a b h =
    let home_is = nat_same a.home b.home (first_so _ _ h) in
    let h1 = second_so _ _ h in
    let to_is = option_same nat_same a.to b.to (first_so _ _ h1) in
    let h2 = second_so _ _ h1 in
    let per_second_is = nat_same a.per_second b.per_second (first_so _ _ h2) in
    let latency_is = latency_same a.latency b.latency (second_so _ _ h2) in
    λ i. record { home = home_is i; to = to_is i; per_second = per_second_is i; latency = latency_is i }

call_same : (a b : Call) → (call.ghosts).eq a b ≡ true → a ≡ b
call_same (call_of.Send x0 x1 x2 x3) (call_of.Send y0 y1 y2 y3) h = let p0 = (bytes_decides x0 y0).0 (first_so _ _ h) in let h1 = second_so _ _ h in let p1 = option_same nat_same x1 y1 (first_so _ _ h1) in let h2 = second_so _ _ h1 in let p2 = option_same (λ x y. (bytes_decides x y).0) x2 y2 (first_so _ _ h2) in let p3 = option_same (λ x y. (bytes_decides x y).0) x3 y3 (second_so _ _ h2) in λ i. call_of.Send (p0 i) (p1 i) (p2 i) (p3 i)
call_same (call_of.Send x0 x1 x2 x3) (call_of.Receive y0 y1 y2) h = cc
call_same (call_of.Send x0 x1 x2 x3) (call_of.Delete y0) h = cc
call_same (call_of.Send x0 x1 x2 x3) (call_of.Change y0 y1) h = cc
call_same (call_of.Send x0 x1 x2 x3) (call_of.Start y0) h = cc
call_same (call_of.Send x0 x1 x2 x3) (call_of.Cancel y0) h = cc
call_same (call_of.Receive x0 x1 x2) (call_of.Send y0 y1 y2 y3) h = cc
call_same (call_of.Receive x0 x1 x2) (call_of.Receive y0 y1 y2) h = let p0 = nat_same x0 y0 (first_so _ _ h) in let h1 = second_so _ _ h in let p1 = nat_same x1 y1 (first_so _ _ h1) in let p2 = option_same nat_same x2 y2 (second_so _ _ h1) in λ i. call_of.Receive (p0 i) (p1 i) (p2 i)
call_same (call_of.Receive x0 x1 x2) (call_of.Delete y0) h = cc
call_same (call_of.Receive x0 x1 x2) (call_of.Change y0 y1) h = cc
call_same (call_of.Receive x0 x1 x2) (call_of.Start y0) h = cc
call_same (call_of.Receive x0 x1 x2) (call_of.Cancel y0) h = cc
call_same (call_of.Delete x0) (call_of.Send y0 y1 y2 y3) h = cc
call_same (call_of.Delete x0) (call_of.Receive y0 y1 y2) h = cc
call_same (call_of.Delete x0) (call_of.Delete y0) h = ap call_of.Delete ((bytes_decides x0 y0).0 h)
call_same (call_of.Delete x0) (call_of.Change y0 y1) h = cc
call_same (call_of.Delete x0) (call_of.Start y0) h = cc
call_same (call_of.Delete x0) (call_of.Cancel y0) h = cc
call_same (call_of.Change x0 x1) (call_of.Send y0 y1 y2 y3) h = cc
call_same (call_of.Change x0 x1) (call_of.Receive y0 y1 y2) h = cc
call_same (call_of.Change x0 x1) (call_of.Delete y0) h = cc
call_same (call_of.Change x0 x1) (call_of.Change y0 y1) h = let p0 = (bytes_decides x0 y0).0 (first_so _ _ h) in let p1 = nat_same x1 y1 (second_so _ _ h) in λ i. call_of.Change (p0 i) (p1 i)
call_same (call_of.Change x0 x1) (call_of.Start y0) h = cc
call_same (call_of.Change x0 x1) (call_of.Cancel y0) h = cc
call_same (call_of.Start x0) (call_of.Send y0 y1 y2 y3) h = cc
call_same (call_of.Start x0) (call_of.Receive y0 y1 y2) h = cc
call_same (call_of.Start x0) (call_of.Delete y0) h = cc
call_same (call_of.Start x0) (call_of.Change y0 y1) h = cc
call_same (call_of.Start x0) (call_of.Start y0) h = ap call_of.Start (nat_same x0 y0 h)
call_same (call_of.Start x0) (call_of.Cancel y0) h = cc
call_same (call_of.Cancel x0) (call_of.Send y0 y1 y2 y3) h = cc
call_same (call_of.Cancel x0) (call_of.Receive y0 y1 y2) h = cc
call_same (call_of.Cancel x0) (call_of.Delete y0) h = cc
call_same (call_of.Cancel x0) (call_of.Change y0 y1) h = cc
call_same (call_of.Cancel x0) (call_of.Start y0) h = cc
call_same (call_of.Cancel x0) (call_of.Cancel y0) h = ap call_of.Cancel (nat_same x0 y0 h)

scripted_same : (a b : ScriptCall) → (scripted.ghosts).eq a b ≡ true → a ≡ b
scripted_same a b h = λ i. record { at = nat_same a.at b.at (first_so _ _ h) i; call = call_same a.call b.call (second_so _ _ h) i }

quantile_same : (a b : Quantile) → (quantile.ghosts).eq a b ≡ true → a ≡ b
quantile_same a b h = λ i. record { permille = nat_same a.permille b.permille (first_so _ _ h) i; time = nat_same a.time b.time (second_so _ _ h) i }

distribution_same : (a b : Distribution) → (distribution.ghosts).eq a b ≡ true → a ≡ b
distribution_same (distribution_of.Uniform x0 x1) (distribution_of.Uniform y0 y1) h = let p0 = nat_same x0 y0 (first_so _ _ h) in let p1 = nat_same x1 y1 (second_so _ _ h) in λ i. distribution_of.Uniform (p0 i) (p1 i)
distribution_same (distribution_of.Uniform x0 x1) (distribution_of.Quantiles y0) h = cc
distribution_same (distribution_of.Quantiles x0) (distribution_of.Uniform y0 y1) h = cc
distribution_same (distribution_of.Quantiles x0) (distribution_of.Quantiles y0) h = ap distribution_of.Quantiles (list_same quantile_same x0 y0 h)

weighted_same : (a b : WeightedGroup) → (weighted.ghosts).eq a b ≡ true → a ≡ b
weighted_same a b h = λ i. record { group = (bytes_decides a.group b.group).0 (first_so _ _ h) i; weight = nat_same a.weight b.weight (second_so _ _ h) i }

groups_same : (a b : Groups) → (groups.ghosts).eq a b ≡ true → a ≡ b
groups_same (groups_of.InTurn x0) (groups_of.InTurn y0) h = ap groups_of.InTurn (nat_same x0 y0 h)
groups_same (groups_of.InTurn x0) (groups_of.ByWeight y0) h = cc
groups_same (groups_of.ByWeight x0) (groups_of.InTurn y0) h = cc
groups_same (groups_of.ByWeight x0) (groups_of.ByWeight y0) h = ap groups_of.ByWeight (list_same weighted_same x0 y0 h)

stretch_same : (a b : Stretch) → (stretch.ghosts).eq a b ≡ true → a ≡ b
stretch_same a b h = λ i. record { from = nat_same a.from b.from (first_so _ _ h) i; to = nat_same a.to b.to (second_so _ _ h) i }

producer_same : (a b : ProducerSettings) → (producer.ghosts).eq a b ≡ true → a ≡ b
producer_same a b h =
    let count_is = nat_same a.count b.count (first_so _ _ h) in
    let h1 = second_so _ _ h in
    let start_is = nat_same a.start b.start (first_so _ _ h1) in
    let h2 = second_so _ _ h1 in
    let gap_is = distribution_same a.gap b.gap (first_so _ _ h2) in
    let h3 = second_so _ _ h2 in
    let body_is = (bytes_decides a.body b.body).0 (first_so _ _ h3) in
    let h4 = second_so _ _ h3 in
    let groups_is = option_same groups_same a.groups b.groups (first_so _ _ h4) in
    let h5 = second_so _ _ h4 in
    let ids_is = bool_same a.ids b.ids (first_so _ _ h5) in
    let h6 = second_so _ _ h5 in
    let delay_is = option_same nat_same a.delay b.delay (first_so _ _ h6) in
    let stop_is = option_same nat_same a.stop b.stop (second_so _ _ h6) in
    λ i. record { count = count_is i; start = start_is i; gap = gap_is i; body = body_is i; groups = groups_is i; ids = ids_is i; delay = delay_is i; stop = stop_is i }

outage_same : (a b : Outage) → (outage.ghosts).eq a b ≡ true → a ≡ b
outage_same a b h = λ i. record { stretch = stretch_same a.stretch b.stretch (first_so _ _ h) i; permille = nat_same a.permille b.permille (second_so _ _ h) i }

serving_same : (a b : Serving) → (serving.ghosts).eq a b ≡ true → a ≡ b
serving_same serving_of.Each serving_of.Each h = refl
serving_same serving_of.Each (serving_of.Once y0) h = cc
serving_same (serving_of.Once x0) serving_of.Each h = cc
serving_same (serving_of.Once x0) (serving_of.Once y0) h = ap serving_of.Once (nat_same x0 y0 h)

forwarding_same : (a b : Forwarding) → (forwarding.ghosts).eq a b ≡ true → a ≡ b
forwarding_same a b h = λ i. record { to = list_same nat_same a.to b.to (first_so _ _ h) i; latency = latency_same a.latency b.latency (second_so _ _ h) i }

scaling_same : (a b : Scaling) → (scaling.ghosts).eq a b ≡ true → a ≡ b
scaling_same a b h =
    let scaler_is = nat_same a.scaler b.scaler (first_so _ _ h) in
    let h1 = second_so _ _ h in
    let second_is = nat_same a.second b.second (first_so _ _ h1) in
    let start_is = nat_same a.start b.start (second_so _ _ h1) in
    λ i. record { scaler = scaler_is i; second = second_is i; start = start_is i }

consumer_same : (a b : ConsumerSettings) → (consumer.ghosts).eq a b ≡ true → a ≡ b
consumer_same a b h =
    let start_is = nat_same a.start b.start (first_so _ _ h) in
    let h1 = second_so _ _ h in
    let batch_is = nat_same a.batch b.batch (first_so _ _ h1) in
    let h2 = second_so _ _ h1 in
    let gather_is = nat_same a.gather b.gather (first_so _ _ h2) in
    let h3 = second_so _ _ h2 in
    let wait_is = nat_same a.wait b.wait (first_so _ _ h3) in
    let h4 = second_so _ _ h3 in
    let timeout_is = option_same nat_same a.timeout b.timeout (first_so _ _ h4) in
    let h5 = second_so _ _ h4 in
    let service_is = distribution_same a.service b.service (first_so _ _ h5) in
    let h6 = second_so _ _ h5 in
    let serving_is = serving_same a.serving b.serving (first_so _ _ h6) in
    let h7 = second_so _ _ h6 in
    let fail_service_is = option_same nat_same a.fail_service b.fail_service (first_so _ _ h7) in
    let h8 = second_so _ _ h7 in
    let fail_permille_is = nat_same a.fail_permille b.fail_permille (first_so _ _ h8) in
    let h9 = second_so _ _ h8 in
    let idle_is = nat_same a.idle b.idle (first_so _ _ h9) in
    let h10 = second_so _ _ h9 in
    let forward_is = option_same forwarding_same a.forward b.forward (first_so _ _ h10) in
    let h11 = second_so _ _ h10 in
    let stop_is = option_same nat_same a.stop b.stop (first_so _ _ h11) in
    let h12 = second_so _ _ h11 in
    let scaling_is = option_same scaling_same a.scaling b.scaling (first_so _ _ h12) in
    let h13 = second_so _ _ h12 in
    let fails_on_is = option_same (λ x y. (bytes_decides x y).0) a.fails_on b.fails_on (first_so _ _ h13) in
    let h14 = second_so _ _ h13 in
    let outages_is = list_same outage_same a.outages b.outages (first_so _ _ h14) in
    let h15 = second_so _ _ h14 in
    let whole_is = bool_same a.whole b.whole (first_so _ _ h15) in
    let h16 = second_so _ _ h15 in
    let backoff_is = list_same nat_same a.backoff b.backoff (first_so _ _ h16) in
    let h17 = second_so _ _ h16 in
    let jitter_is = bool_same a.jitter b.jitter (first_so _ _ h17) in
    let heartbeat_is = option_same nat_same a.heartbeat b.heartbeat (second_so _ _ h17) in
    λ i. record { start = start_is i; batch = batch_is i; gather = gather_is i; wait = wait_is i; timeout = timeout_is i; service = service_is i; serving = serving_is i; fail_service = fail_service_is i; fail_permille = fail_permille_is i; idle = idle_is i; forward = forward_is i; stop = stop_is i; scaling = scaling_is i; fails_on = fails_on_is i; outages = outages_is i; whole = whole_is i; backoff = backoff_is i; jitter = jitter_is i; heartbeat = heartbeat_is i }

step_same : (a b : ScalingStep) → (step.ghosts).eq a b ≡ true → a ≡ b
step_same a b h = λ i. record { visible = nat_same a.visible b.visible (first_so _ _ h) i; copies = nat_same a.copies b.copies (second_so _ _ h) i }

target_same : (a b : Target) → (target.ghosts).eq a b ≡ true → a ≡ b
target_same (target_of.PerCopy x0) (target_of.PerCopy y0) h = ap target_of.PerCopy (nat_same x0 y0 h)
target_same (target_of.PerCopy x0) (target_of.Steps y0) h = cc
target_same (target_of.Steps x0) (target_of.PerCopy y0) h = cc
target_same (target_of.Steps x0) (target_of.Steps y0) h = ap target_of.Steps (list_same step_same x0 y0 h)

scaler_same : (a b : ScalerSettings) → (scaler.ghosts).eq a b ≡ true → a ≡ b
scaler_same a b h =
    let start_is = nat_same a.start b.start (first_so _ _ h) in
    let h1 = second_so _ _ h in
    let every_is = nat_same a.every b.every (first_so _ _ h1) in
    let h2 = second_so _ _ h1 in
    let reading_is = nat_same a.reading b.reading (first_so _ _ h2) in
    let h3 = second_so _ _ h2 in
    let target_is = target_same a.target b.target (first_so _ _ h3) in
    let h4 = second_so _ _ h3 in
    let least_is = nat_same a.least b.least (first_so _ _ h4) in
    let h5 = second_so _ _ h4 in
    let most_is = nat_same a.most b.most (first_so _ _ h5) in
    let h6 = second_so _ _ h5 in
    let most_added_is = nat_same a.most_added b.most_added (first_so _ _ h6) in
    let h7 = second_so _ _ h6 in
    let most_taken_is = nat_same a.most_taken b.most_taken (first_so _ _ h7) in
    let h8 = second_so _ _ h7 in
    let cooldown_out_is = nat_same a.cooldown_out b.cooldown_out (first_so _ _ h8) in
    let cooldown_in_is = nat_same a.cooldown_in b.cooldown_in (second_so _ _ h8) in
    λ i. record { start = start_is i; every = every_is i; reading = reading_is i; target = target_is i; least = least_is i; most = most_is i; most_added = most_added_is i; most_taken = most_taken_is i; cooldown_out = cooldown_out_is i; cooldown_in = cooldown_in_is i }

role_same : (a b : Role) → (role.ghosts).eq a b ≡ true → a ≡ b
role_same (role_of.Script x0) (role_of.Script y0) h = ap role_of.Script (list_same scripted_same x0 y0 h)
role_same (role_of.Script x0) (role_of.Producer y0) h = cc
role_same (role_of.Script x0) (role_of.Consumer y0) h = cc
role_same (role_of.Script x0) (role_of.Scaler y0) h = cc
role_same (role_of.Producer x0) (role_of.Script y0) h = cc
role_same (role_of.Producer x0) (role_of.Producer y0) h = ap role_of.Producer (producer_same x0 y0 h)
role_same (role_of.Producer x0) (role_of.Consumer y0) h = cc
role_same (role_of.Producer x0) (role_of.Scaler y0) h = cc
role_same (role_of.Consumer x0) (role_of.Script y0) h = cc
role_same (role_of.Consumer x0) (role_of.Producer y0) h = cc
role_same (role_of.Consumer x0) (role_of.Consumer y0) h = ap role_of.Consumer (consumer_same x0 y0 h)
role_same (role_of.Consumer x0) (role_of.Scaler y0) h = cc
role_same (role_of.Scaler x0) (role_of.Script y0) h = cc
role_same (role_of.Scaler x0) (role_of.Producer y0) h = cc
role_same (role_of.Scaler x0) (role_of.Consumer y0) h = cc
role_same (role_of.Scaler x0) (role_of.Scaler y0) h = ap role_of.Scaler (scaler_same x0 y0 h)

pub actor_same : (a b : ActorSettings) → (actor.ghosts).eq a b ≡ true → a ≡ b
actor_same a b h = λ i. record { home = nat_same a.home b.home (first_so _ _ h) i; role = role_same a.role b.role (second_so _ _ h) i }

both_true : {s t : Bool} → s ≡ true → t ≡ true → (s && t) ≡ true
both_true p q = λ i. p i && q i

-- a test of some values decides whether what is read of them is the same
module _ {X Y : Type 0} {E : X → X → Bool} (f : X → Y) (decides : (x y : X) → Decides (E x y) (f x ≡ f y)) where
  pub mapped_decide : (xs ys : List X) → Decides (pointwise E xs ys) (map f xs ≡ map f ys)
  mapped_decide [] [] = (λ _. refl, λ _. refl)
  mapped_decide [] (y ∷ ys) = (λ h. cc, λ h. cc)
  mapped_decide (x ∷ xs) [] = (λ h. cc, λ h. cc)
  mapped_decide (x ∷ xs) (y ∷ ys) = (
    λ h. λ i. (decides x y).0 (first_so _ _ h) i ∷ (mapped_decide xs ys).0 (second_so _ _ h) i,
    λ h. both_true ((decides x y).1 cc) ((mapped_decide xs ys).1 cc),
  )

-- so does a test of numbered values, if a value is equal to itself
numbered_decide : {K : Type 0} {E : K → K → Bool} → ((x y : K) → E x y ≡ true → x ≡ y) → ((x : K) → E x x ≡ true)
    → (x y : ℕ × Bor K) → Decides (nat_eq x.0 y.0 && E x.1.now y.1.now) (with_number x ≡ with_number y)
numbered_decide {K} {E} same own x y = (
  λ h. λ i. (nat_same x.0 y.0 (first_so _ _ h) i, same x.1.now y.1.now (second_so _ _ h) i),
  λ h. both_true (subst (λ n. nat_eq x.0 n ≡ true) (ap (λ p. p.0) h) (nat_own x.0)) (subst (λ z. E x.1.now z ≡ true) (ap (λ p. p.1) h) (own x.1.now)),
)

-- so do the tests of the program: of settings of a queue, of actors, and of tasks
pub settings_decide : (a b : Option QueueSettings) → Decides (option_eq (queue.ghosts).eq a b) (a ≡ b)
settings_decide a b = (option_same queue_same a b, λ h. subst (λ z. option_eq (queue.ghosts).eq a z ≡ true) h (own a))
  where
    own : (a : Option QueueSettings) → option_eq (queue.ghosts).eq a a ≡ true
    own None = refl
    own (Some q) = (queue_laws.laws-law).refl q

pub actors_decide : (xs ys : List (ℕ × Bor ActorSettings)) → Decides (pointwise (λ x y. nat_eq x.0 y.0 && (actor.ghosts).eq x.1.now y.1.now) xs ys) (map with_number xs ≡ map with_number ys)
actors_decide = mapped_decide with_number (numbered_decide actor_same (actor_laws.laws-law).refl)

pub tasks_decide : (xs ys : List (ℕ × Bor TaskSettings)) → Decides (pointwise (λ x y. nat_eq x.0 y.0 && (task.ghosts).eq x.1.now y.1.now) xs ys) (map with_number xs ≡ map with_number ys)
tasks_decide = mapped_decide with_number (numbered_decide task_same (task_laws.laws-law).refl)

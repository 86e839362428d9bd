-- The numbered random words of an agent, and what is drawn by a word.
use Rattle.std.specs.Int.{to_le_bytes, w64}
use Rattle.std.specs.List.{sum_by}
use Rattle.std.specs.Prelude.{Bool, List, [], if◌then◌else◌, nat_lt, replicate, ℕ, ◌*◌, ◌++◌, ◌+◌, ◌-◌, ◌/◌, ◌^◌, ◌∷◌}
use Rattle.sqs_model.specs.declared.agents.Quantile.{Quantile}
use Rattle.sqs_model.specs.declared.agents.WeightedGroup.{WeightedGroup}
use Rattle.sqs_model.specs.declared.agents.Distribution.{Distribution}
use Rattle.sqs_model.specs.declared.agents.Distribution.TheVariants.{Quantiles, Uniform}
use Rattle.sqs_redrive.specs.declared.settings.Latency.{Latency}
use Rattle.rand_chacha.specs.ChaCha.{key_of, word_at}

-- the key of a seed: its 8 little-endian bytes, and 24 zeros
abbrev pub seed_bytes : ℕ → List ℕ
seed_bytes seed = to_le_bytes w64 seed ++ replicate 24 0

-- word n of an agent under a seed: ChaCha20 (RFC 8439) with the seed's key, the agent's number as stream
unfoldable pub word : ℕ → ℕ → ℕ → ℕ
word seed agent n = word_at 10 (key_of (seed_bytes seed)) agent n

-- the number from low to high that a word gives
abbrev pub uniform : ℕ → ℕ → ℕ → ℕ
uniform low high w = low + w * (high - low + 1) / 2 ^ 32

-- whether an event with a chance of `permille` in a thousand occurs, by a word
abbrev pub chance : ℕ → ℕ → Bool
chance permille w = nat_lt (w * 1000 / 2 ^ 32) permille

-- the words of an agent under a seed, of which some are taken
pub record Draws : Type 0 where
  pub seed : ℕ
  pub agent : ℕ
  pub taken : ℕ

-- the word that comes next
abbrev pub next_word : Draws → ℕ
next_word d = word d.seed d.agent d.taken

-- the draws with one more word taken
abbrev pub moved_on : Draws → Draws
moved_on d = record d { taken = d.taken + 1 }

-- a number drawn from low to high, and the draws after it; it takes a word always
abbrev pub drawn_uniform : ℕ → ℕ → Draws → ℕ × Draws
drawn_uniform low high d = (uniform low high (next_word d), moved_on d)

-- whether an event comes, and the draws after it; it takes a word always
abbrev pub drawn_chance : ℕ → Draws → Bool × Draws
drawn_chance permille d = (chance permille (next_word d), moved_on d)

-- a number drawn between two bounds; equal bounds take no word
abbrev pub drawn_between : ℕ → ℕ → Draws → ℕ × Draws
drawn_between low high d = if nat_lt low high then drawn_uniform low high d else (low, d)

-- the time at a word between a quantile and the next one
abbrev pub time_between : Quantile → Quantile → ℕ → ℕ
time_between p q w = p.time + (w * 1000 - p.permille * 2 ^ 32) * (q.time - p.time) / ((q.permille - p.permille) * 2 ^ 32)

-- the time at a word by quantiles: between the last one that it has reached and the next
abbrev pub time_at : List Quantile → ℕ → ℕ
time_at [] w = 1
time_at (p ∷ []) w = p.time
time_at (p ∷ (q ∷ rest)) w = if nat_lt (w * 1000) (q.permille * 2 ^ 32) then time_between p q w else time_at (q ∷ rest) w

-- how long something takes, which takes a word always
abbrev pub drawn_time : Distribution → Draws → ℕ × Draws
drawn_time (Uniform low high) d = drawn_uniform low high d
drawn_time (Quantiles quantiles) d = (time_at quantiles (next_word d), moved_on d)

-- the latency of a transfer
abbrev pub drawn_latency : Latency → Draws → ℕ × Draws
drawn_latency l d = drawn_between l.least l.greatest d

-- the sum of the weights of groups
abbrev pub total_weight : List WeightedGroup → ℕ
total_weight groups = sum_by (λ g. g.weight) groups

-- the first of some groups whose weight, added to those before it, is more than a number
abbrev pub first_past : ℕ → ℕ → List WeightedGroup → List ℕ
first_past n before [] = []
first_past n before (g ∷ gs) = if nat_lt n (before + g.weight) then g.group else first_past n (before + g.weight) gs

-- the group that a word gives
abbrev pub group_at : List WeightedGroup → ℕ → List ℕ
group_at groups w = first_past (w * total_weight groups / 2 ^ 32) 0 groups

-- a group drawn by weight, which takes a word always
abbrev pub drawn_group : List WeightedGroup → Draws → List ℕ × Draws
drawn_group groups d = (group_at groups (next_word d), moved_on d)

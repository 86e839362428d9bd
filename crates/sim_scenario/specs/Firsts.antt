-- What a map keeps of texts in order.
use Rattle.std.specs.Prelude.{ℕ, ◌≡◌, List, Vec}
use Rattle.std.specs.Global.{Global}
use Rattle.std.specs.Map.{lookup}
use Rattle.std.specs.Str.{bytes_eq}
use Rattle.sqs_formats.specs.Outline.{place_among}

-- each text is kept with its first place, and no other
abbrev pub AreFirsts : List (Vec ℕ Global × ℕ) → List (List ℕ) → Type 0
AreFirsts entries texts = (s : List ℕ) → lookup (λ k. bytes_eq s k.items) entries ≡ place_among texts s

-- Whether a key is one of those that are due.
use Rattle.std.specs.Prelude.{List, [], ◌∷◌, ◌≡◌, ◌⊎◌}
use Rattle.sim_clock.specs.declared.key.Key.{Key}

-- whether a key is one of some keys
abbrev pub IsAmong : List Key → Key → Type 0
IsAmong [] key = ⊥
IsAmong (k ∷ ks) key = (k ≡ key) ⊎ IsAmong ks key

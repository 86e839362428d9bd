-- Names of queues, agents and script files.
use Rattle.std.specs.Prelude.{ℕ, ◌&&◌, ◌||◌, not, nat_le, nat_eq, Bool, false, codes, if◌then◌else◌, List, [], ◌∷◌, length}
use Rattle.std.specs.List.{list_all}
use Rattle.std.specs.Str.{bytes_eq}

-- whether a byte is an ASCII letter or digit
abbrev pub is_letter_or_digit : ℕ → Bool
is_letter_or_digit b = (nat_le 48 b && nat_le b 57) || (nat_le 65 b && nat_le b 90) || (nat_le 97 b && nat_le b 122)

-- letters, digits, '-' and '_'
abbrev pub is_name_byte : ℕ → Bool
is_name_byte b = is_letter_or_digit b || nat_eq b 45 || nat_eq b 95

-- whether the length of a text is in a range
abbrev pub has_length : ℕ → ℕ → List ℕ → Bool
has_length low high s = nat_le low (length s) && nat_le (length s) high

-- the names of actors and tasks
abbrev pub is_agent_name : List ℕ → Bool
is_agent_name s = has_length 1 80 s && list_all is_name_byte s

-- a queue is FIFO if its name ends so; the stem is what comes before that
abbrev pub is_fifo : List ℕ → Bool
is_fifo [] = false
is_fifo (b ∷ bs) = bytes_eq (b ∷ bs) (codes ".fifo") || is_fifo bs

-- the part of a queue's name before its suffix
abbrev pub stem : List ℕ → List ℕ
stem [] = []
stem (b ∷ bs) = if bytes_eq (b ∷ bs) (codes ".fifo") then [] else b ∷ stem bs

-- the names of queues
abbrev pub is_queue_name : List ℕ → Bool
is_queue_name s = is_agent_name (stem s) && nat_le (length s) 80

-- letters, digits, '-', '_' and '.', which isn't the first
abbrev pub is_script_byte : ℕ → Bool
is_script_byte b = is_name_byte b || nat_eq b 46

-- whether a text begins with a dot
abbrev pub begins_with_dot : List ℕ → Bool
begins_with_dot [] = false
begins_with_dot (b ∷ bs) = nat_eq b 46

-- the names of script files
abbrev pub is_script_name : List ℕ → Bool
is_script_name s = has_length 1 80 s && list_all is_script_byte s && not (begins_with_dot s)

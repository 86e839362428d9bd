-- The texts of ids, origins and receipts, and the receipt that a text is.
use Rattle.std.specs.Prelude.{ℕ, ◌<◌, ◌≤◌, ◌^◌, codes, List, [], ◌∷◌, ◌++◌, ◌≢◌, Bool, ◌&&◌, ◌||◌, nat_lt, nat_eq, nat_le, length, slice_index, drop, ◌==◌, Option, Some, None, if◌then◌else◌}
use Rattle.std.specs.List.{before_first, after_first}
use Rattle.std.specs.Fmt.{decimal}
use Rattle.std.specs.Str.{bytes_eq}
use Rattle.std.specs.Str.Parse.{digits_value}
use Rattle.sqs_message.specs.declared.ids.MessageId.{MessageId}
use Rattle.sqs_message.specs.declared.ids.Origin.{Origin}
use Rattle.sqs_message.specs.declared.ids.Receipt.{Receipt}

-- the text of a message's id, as m-0-12
abbrev pub id_text : MessageId → List ℕ
id_text m = codes "m-" ++ (decimal m.site ++ (codes "-" ++ decimal m.number))

-- the text of an origin, as o-0-12
abbrev pub origin_text : Origin → List ℕ
origin_text o = codes "o-" ++ (decimal o.site ++ (codes "-" ++ decimal o.number))

-- the text of a receipt, as r-0-12-1
abbrev pub receipt_text : Receipt → List ℕ
receipt_text r = codes "r-" ++ (decimal r.site ++ (codes "-" ++ (decimal r.number ++ (codes "-" ++ decimal r.count))))

-- the receipts that a text can be
pub record Fits (r : Receipt) : Type 0 where
  pub site : r.site < 2 ^ 32
  pub number : r.number < 2 ^ 62
  pub count : r.count < 2 ^ 62
  pub first : 1 ≤ r.count

-- whether a receipt is one of those
abbrev pub fits : Receipt → Bool
fits r = nat_lt r.site (2 ^ 32) && nat_lt r.number (2 ^ 62) && nat_lt r.count (2 ^ 62) && nat_le 1 r.count

-- whether a byte is the dash between numbers
abbrev pub is_dash : ℕ → Bool
is_dash b = b == 45

-- the number in a text, and those in what follows its first dash
abbrev pub numbers_between : List ℕ → List ℕ → Receipt
numbers_between text rest =
    record {
      site = digits_value 10 (before_first is_dash text);
      number = digits_value 10 (before_first is_dash rest);
      count = digits_value 10 (after_first is_dash rest);
    }

-- the three numbers in a text between its dashes
abbrev pub numbers_in : List ℕ → Receipt
numbers_in text = numbers_between text (after_first is_dash text)

-- the receipt with these numbers, if its text is this one
abbrev pub receipt_if : Receipt → List ℕ → Option Receipt
receipt_if r text = if fits r && bytes_eq (receipt_text r) text then Some r else None

-- the receipt that a text is
abbrev pub read_receipt : List ℕ → Option Receipt
read_receipt text = receipt_if (numbers_in (drop 2 text)) text

-- a text that begins as a decimal number does
abbrev pub is_plain : List ℕ → Bool
is_plain bs = nat_lt 0 (length bs) && (nat_lt 48 (slice_index bs 0) || (nat_eq (slice_index bs 0) 48 && nat_eq (length bs) 1))

-- a text without a dash
abbrev pub HasNoDash : List ℕ → Type 0
HasNoDash [] = Unit {0}
HasNoDash (b ∷ bs) = (b ≢ 45) × HasNoDash bs

-- Numbers in the log: decimal digits that are read, and counts that stand still at the greatest u64.
use Rattle.std.specs.Prelude.{ℕ, ◌^◌, ◌-◌, ◌+◌, ◌&&◌, Bool, List, length, min, nat_lt, Option, Some, None, if◌then◌else◌}
use Rattle.std.specs.List.{list_all}
use Rattle.std.specs.Str.Parse.{digits_value}
use Rattle.std.specs.Char.{digit_value}

-- one decimal digit or more, of a number that fits 32 bits
abbrev pub is_number : List ℕ → Bool
is_number text = nat_lt 0 (length text) && (list_all (λ c. nat_lt (digit_value c) 10) text && nat_lt (digits_value 10 text) (2 ^ 32))

abbrev pub number_of : List ℕ → Option ℕ
number_of text = if is_number text then Some (digits_value 10 text) else None

-- a count, as it is kept and written
abbrev pub limited : ℕ → ℕ
limited n = min n (2 ^ 64 - 1)

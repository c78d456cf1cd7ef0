-- Numbers as commands have them.
use Rattle.std.specs.Prelude.{ℕ, ◌^◌, ◌&&◌, Bool, List, length, nat_lt, Option, Some, None, if◌then◌else◌}
use Rattle.std.specs.List.{list_all}
use Rattle.std.specs.Str.Parse.{digits_value}
use Rattle.std.specs.Char.{digit_value}

-- one decimal digit or more, of a number of so many bits
abbrev pub is_number : (bits : ℕ) → List ℕ → Bool
is_number bits text = nat_lt 0 (length text) && (list_all (λ c. nat_lt (digit_value c) 10) text && nat_lt (digits_value 10 text) (2 ^ bits))

abbrev pub number_of : (bits : ℕ) → List ℕ → Option ℕ
number_of bits text = if is_number bits text then Some (digits_value 10 text) else None

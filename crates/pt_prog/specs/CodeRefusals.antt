-- Refusals of code files as one list: their numbers, and the place that each tells.
use Rattle.std.specs.Prelude.{ℕ, Option, Some, None}
use Rattle.pt_code.specs.declared.refusing.CodeErr.{CodeErr}
use Rattle.pt_code.specs.declared.refusing.CodeErr.TheVariants as format
use Rattle.pt_verify.specs.Verdict.{number_and_place}
use Rattle.pt_prog.specs.declared.end.CodeRefusal.{CodeRefusal}
use Rattle.pt_prog.specs.declared.end.CodeRefusal.TheVariants.{Format, Misfit}

-- want of memory is no refusal
abbrev pub format_number : CodeErr → ℕ
format_number format.Magic = 18
format_number (format.Version got) = 19
format_number (format.Truncated at) = 20
format_number (format.Field at) = 21
format_number (format.Trailing at) = 22
format_number format.Memory = 0

abbrev pub format_place : CodeErr → ℕ
format_place format.Magic = 0
format_place (format.Version got) = got
format_place (format.Truncated at) = at
format_place (format.Field at) = at
format_place (format.Trailing at) = at
format_place format.Memory = 0

abbrev first_or : Option (ℕ × ℕ) → ℕ
first_or (Some p) = p.0
first_or None = 0

abbrev second_or : Option (ℕ × ℕ) → ℕ
second_or (Some p) = p.1
second_or None = 0

abbrev pub number_of : CodeRefusal → ℕ
number_of (Format error) = format_number error
number_of (Misfit error) = first_or (number_and_place error)

abbrev pub place_of : CodeRefusal → ℕ
place_of (Format error) = format_place error
place_of (Misfit error) = second_or (number_and_place error)

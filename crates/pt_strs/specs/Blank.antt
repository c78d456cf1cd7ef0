-- Which characters `split` and `strip` take for blanks where none are named (Library Reference, `str.isspace`).
use Rattle.std.specs.Prelude.{ℕ, Bool, ◌||◌}
use Rattle.std.specs.Char.{is_whitespace}
use Rattle.std.specs.Int.{is_in_range}

-- the white space of Unicode, and the four separators from 0x1c on
abbrev pub is_blank : ℕ → Bool
is_blank c = is_whitespace c || is_in_range 28 31 c

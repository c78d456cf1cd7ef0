-- A file of commands.
use Rattle.std.specs.Prelude.{ℕ, List}
use Rattle.std.specs.Str.Lines.{lines}

-- it is cut at each line feed; an empty last piece is no line, and one carriage return before a line feed goes with it
abbrev pub command_lines : (file : List ℕ) → List (List ℕ)
command_lines file = lines file

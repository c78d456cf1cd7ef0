-- The lines of commands, as they are written.
use Rattle.std.specs.Prelude.{ℕ, ◌==◌, List, [], ◌∷◌, codes, length, if◌then◌else◌}
use Rattle.std.specs.List.{concat}
use Rattle.std.specs.Str.Lossy.{utf8_valid_len}

-- a line that isn't UTF-8 is written as a question mark, which is no command
abbrev pub shown_line : List ℕ → List ℕ
shown_line line = if utf8_valid_len line == length line then line else codes "?"

abbrev pub prompt_text : List ℕ → List ℕ
prompt_text line = concat (codes "(Pdb) " ∷ line ∷ codes "\n" ∷ [])

-- The limits of the program.
use Rattle.std.specs.Prelude.{ℕ, Bool, true, false, if◌then◌else◌}
use Rattle.pt_words.specs.declared.line.Command.{Command}
use Rattle.pt_words.specs.declared.line.Command.TheVariants as command

-- the bytes that a script may have
abbrev pub script_limit : ℕ
script_limit = 1048576

-- the bytes that a code file may have
abbrev pub code_limit : ℕ
code_limit = 16777216

-- its file is one of code
abbrev pub reads_code : Command → Bool
reads_code command.Run = false
reads_code command.Trace = false
reads_code command.Dis = false
reads_code command.Build = false
reads_code command.Exec = true
reads_code command.Cover = false
reads_code command.Profile = false
reads_code (command.Gen count) = false

-- the bytes that the command's file may have
abbrev pub limit_of : Command → ℕ
limit_of c = if reads_code c then code_limit else script_limit

-- Which command a line is: a word and what stands behind it.
--   break  break LINE[, CONDITION]  tbreak LINE[, CONDITION]  clear [NUMBER]  condition NUMBER [CONDITION]
--   ignore NUMBER [COUNT]  enable NUMBER  disable NUMBER  until [LINE]  jump LINE  p EXPRESSION
-- and the others alone.
use Rattle.std.specs.Prelude.{ℕ, Bool, true, false, List, [], ◌∷◌, Option, Some, None}
use Rattle.pt_base.specs.declared.numbers.Line.{Line}
use Rattle.pt_literals.specs.Source.{is_blank}
use Rattle.pt_strs.specs.Strip.{without_front}
use Rattle.pt_commands.specs.declared.verb.Verb.{Verb}
use Rattle.pt_commands.specs.declared.verb.Verb.TheVariants as verb
use Rattle.pt_commands.specs.declared.command.Command.{Command}
use Rattle.pt_commands.specs.declared.command.Command.TheVariants as command
use Rattle.pt_commands.specs.Verbs.{verb_named}
use Rattle.pt_commands.specs.Numbers.{number_of}
use Rattle.pt_commands.specs.Parts.{behind_word, first_word, from_comma, item, trimmed}

abbrev pub line_of : ℕ → Line
line_of n = record { 0 = n }

-- a command that stands alone
abbrev pub alone : Command → (rest : List ℕ) → Command
alone c [] = c
alone c rest = command.Bad

-- behind a comma a condition has to stand
abbrev pub break_if : (temporary : Bool) → Option ℕ → (condition : List ℕ) → Command
break_if t (Some n) (c ∷ cs) = command.Break (line_of n) t (Some (c ∷ cs))
break_if t n condition = command.Bad

abbrev pub break_always : (temporary : Bool) → Option ℕ → Command
break_always t (Some n) = command.Break (line_of n) t None
break_always t None = command.Bad

abbrev pub break_by : (temporary : Bool) → Option ℕ → (comma_on : List ℕ) → Command
break_by t n [] = break_always t n
break_by t n (comma ∷ condition) = break_if t n (without_front is_blank condition)

abbrev pub break_on : (temporary : Bool) → (rest : List ℕ) → Command
break_on t rest = break_by t (number_of 32 (item rest)) (from_comma rest)

-- without a line the breakpoints are listed
abbrev pub break_or_list : (rest : List ℕ) → Command
break_or_list [] = command.List
break_or_list rest = break_on false rest

abbrev pub clear_by : Option ℕ → Command
clear_by (Some n) = command.Clear n
clear_by None = command.Bad

abbrev pub clear_on : (rest : List ℕ) → Command
clear_on [] = command.ClearAll
clear_on rest = clear_by (number_of 32 rest)

-- without a condition the breakpoint loses its own
abbrev pub condition_by : Option ℕ → (condition : List ℕ) → Command
condition_by (Some n) [] = command.Condition n None
condition_by (Some n) (c ∷ cs) = command.Condition n (Some (c ∷ cs))
condition_by None condition = command.Bad

abbrev pub condition_on : (rest : List ℕ) → Command
condition_on rest = condition_by (number_of 32 (first_word rest)) (behind_word rest)

-- without a count no crossing is ignored
abbrev pub count_of : List ℕ → Option ℕ
count_of [] = Some 0
count_of text = number_of 64 text

abbrev pub ignore_by : Option ℕ → (count : Option ℕ) → Command
ignore_by (Some n) (Some k) = command.Ignore n k
ignore_by n k = command.Bad

abbrev pub ignore_on : (rest : List ℕ) → Command
ignore_on rest = ignore_by (number_of 32 (first_word rest)) (count_of (behind_word rest))

abbrev pub enable_by : (on : Bool) → Option ℕ → Command
enable_by on (Some n) = command.Enable n on
enable_by on None = command.Bad

abbrev pub enable_on : (on : Bool) → (rest : List ℕ) → Command
enable_on on rest = enable_by on (number_of 32 rest)

abbrev pub until_by : Option ℕ → Command
until_by (Some n) = command.Until (Some (line_of n))
until_by None = command.Bad

abbrev pub until_on : (rest : List ℕ) → Command
until_on [] = command.Until None
until_on rest = until_by (number_of 32 rest)

abbrev pub jump_by : Option ℕ → Command
jump_by (Some n) = command.Jump (line_of n)
jump_by None = command.Bad

abbrev pub jump_on : (rest : List ℕ) → Command
jump_on rest = jump_by (number_of 32 rest)

abbrev pub print_on : (rest : List ℕ) → Command
print_on [] = command.Bad
print_on rest = command.Print rest

abbrev pub command_of : Verb → (rest : List ℕ) → Command
command_of verb.Break rest = break_or_list rest
command_of verb.TemporaryBreak rest = break_on true rest
command_of verb.Clear rest = clear_on rest
command_of verb.Condition rest = condition_on rest
command_of verb.Ignore rest = ignore_on rest
command_of verb.Enable rest = enable_on true rest
command_of verb.Disable rest = enable_on false rest
command_of verb.Step rest = alone command.Step rest
command_of verb.Next rest = alone command.Next rest
command_of verb.Until rest = until_on rest
command_of verb.Return rest = alone command.Return rest
command_of verb.Continue rest = alone command.Continue rest
command_of verb.Jump rest = jump_on rest
command_of verb.Up rest = alone command.Up rest
command_of verb.Down rest = alone command.Down rest
command_of verb.Where rest = alone command.Where rest
command_of verb.Args rest = alone command.Args rest
command_of verb.Print rest = print_on rest
command_of verb.Quit rest = alone command.Quit rest

abbrev pub command_by : Option Verb → (rest : List ℕ) → Command
command_by (Some v) rest = command_of v rest
command_by None rest = command.Bad

-- blanks before and behind it don't count
abbrev pub command_in : (text : List ℕ) → Command
command_in text = command_by (verb_named (first_word text)) (behind_word text)

-- only an empty line repeats the last command: one of blanks alone is none
abbrev pub command_on : (line : List ℕ) → Command
command_on [] = command.Repeat
command_on line = command_in (trimmed line)

-- all commands but those by which a run goes on elsewhere, or ends
abbrev pub is_passive : Command → Bool
is_passive (command.Jump line) = false
is_passive command.Quit = false
is_passive c = true

-- What words are a command line, and what they ask for: COMMAND FIRST [SECOND] [--steps N] [--events] [--stats], with the options in any place.
use Rattle.std.specs.Prelude.{ℕ, ◌≤◌, ◌+◌, ◌^◌, ◌==◌, ◌&&◌, Bool, true, false, not, List, [], ◌∷◌, ◌++◌, codes, length, nat_lt, nat_le, Option, Some, None}
use Rattle.std.specs.Prelude.{option_and_then, option_map, if◌then◌else◌}
use Rattle.std.specs.List.{list_all, list_any, before_first, after_first}
use Rattle.std.specs.Str.{bytes_eq}
use Rattle.std.specs.Str.Parse.{digits_value}
use Rattle.std.specs.Char.{digit_value}
use Rattle.pt_words.specs.declared.line.Command.{Command}
use Rattle.pt_words.specs.declared.line.Command.TheVariants as command

abbrev pub Text : Type 0
Text = List ℕ

-- a file word isn't empty and doesn't begin with `-`
abbrev pub is_file_word : Text → Bool
is_file_word [] = false
is_file_word (x ∷ xs) = not (x == 45)

-- the words by their kinds: those that aren't options, the first of which is the command; the values of `--steps`; how often `--events` and `--stats` stand;
-- and whether the last word is a `--steps` that takes the next one as its value
pub record Sorted : Type 0 where
  pub files : List Text
  pub steps : List Text
  pub events : ℕ
  pub stats : ℕ
  pub awaits : Bool

abbrev pub no_words : Sorted
no_words = record { files = []; steps = []; events = 0; stats = 0; awaits = false }

abbrev pub with_steps : Text → Sorted → Sorted
with_steps value s = record s { steps = s.steps ++ value ∷ []; awaits = false }

-- a word that isn't an option
abbrev pub put_plain : Text → Sorted → Sorted
put_plain word s = if s.awaits then with_steps word s else record s { files = s.files ++ word ∷ [] }

-- `--NAME`, where nothing awaits a value, and `--NAME=VALUE`
abbrev pub put_name : Text → Sorted → Option Sorted
put_name name s =
    if bytes_eq (codes "steps") name then Some (record s { awaits = true })
    else (if bytes_eq (codes "events") name then Some (record s { events = s.events + 1 })
    else (if bytes_eq (codes "stats") name then Some (record s { stats = s.stats + 1 }) else None))

abbrev pub put_name_with : Text → (value : Text) → Sorted → Option Sorted
put_name_with name value s = if bytes_eq (codes "steps") name then Some (with_steps value s) else None

abbrev pub is_equals : ℕ → Bool
is_equals x = x == 61

abbrev pub put_option : (behind_hyphens : Text) → Sorted → Option Sorted
put_option rest s =
    if list_any is_equals rest
    then put_name_with (before_first is_equals rest) (after_first is_equals rest) s
    else put_name (before_first is_equals rest) s

abbrev pub put_long : Text → Sorted → Option Sorted
put_long (a ∷ b ∷ rest) s = if a == 45 && (b == 45 && not s.awaits) then put_option rest s else None
put_long word s = None

abbrev pub put_word : Text → Sorted → Option Sorted
put_word word s = if is_file_word word then Some (put_plain word s) else put_long word s

abbrev pub sort_words : List Text → Sorted → Option Sorted
sort_words [] s = Some s
sort_words (word ∷ words) s = option_and_then (sort_words words) (put_word word s)

-- the command, its file or number, how many acts its run may take, and what the log is to have
pub record Asked : Type 0 where
  pub command : Command
  pub script : Text
  pub steps : ℕ
  pub events : Bool
  pub stats : Bool

-- one decimal digit or more, at most the greatest u64
abbrev pub is_number : Text → Bool
is_number text = nat_lt 0 (length text) && (list_all (λ c. nat_lt (digit_value c) 10) text && nat_lt (digits_value 10 text) (2 ^ 64))

abbrev pub number_of : Text → Option ℕ
number_of text = if is_number text then Some (digits_value 10 text) else None

abbrev pub default_steps : ℕ
default_steps = 10000000

-- an option stands at most once
abbrev pub steps_of : List Text → Option ℕ
steps_of [] = Some default_steps
steps_of (value ∷ []) = number_of value
steps_of values = None

-- the functions that a script which is made may have
abbrev pub most_functions : ℕ
most_functions = 2000

-- as many, or fewer
abbrev pub within_functions : ℕ → Option ℕ
within_functions n = if nat_le n most_functions then Some n else None

abbrev pub count_of : Text → Option ℕ
count_of text = option_and_then within_functions (number_of text)

abbrev pub CountFits : Command → Type 0
CountFits (command.Gen count) = count ≤ most_functions
CountFits c = Unit {0}

-- the commands with a file: `exec` takes one of code and the others a script
abbrev pub command_named : Text → Option Command
command_named word =
    if bytes_eq word (codes "run") then Some command.Run
    else (if bytes_eq word (codes "trace") then Some command.Trace
    else (if bytes_eq word (codes "dis") then Some command.Dis
    else (if bytes_eq word (codes "build") then Some command.Build
    else (if bytes_eq word (codes "exec") then Some command.Exec
    else (if bytes_eq word (codes "cover") then Some command.Cover
    else (if bytes_eq word (codes "profile") then Some command.Profile else None))))))

-- the command of a word and the one behind it, which names a file or, for `gen`, is a number
unfoldable pub command_of : (word first : Text) → Option Command
command_of word first = if bytes_eq word (codes "gen") then option_map command.Gen (count_of first) else command_named word

abbrev pub asked_by : Sorted → Option Command → (script : Text) → Option ℕ → Option Asked
asked_by s (Some c) script (Some n) =
    if nat_le s.events 1 && nat_le s.stats 1 && not s.awaits
    then Some (record { command = c; script = script; steps = n; events = s.events == 1; stats = s.stats == 1 })
    else None
asked_by s c script n = None

abbrev pub asked_of : List Text → Sorted → Option Asked
asked_of (word ∷ script ∷ []) s = asked_by s (command_of word script) script (steps_of s.steps)
asked_of words s = None

-- what the words of a command line ask for, where they are one
abbrev pub command_line : List Text → Option Asked
command_line words = option_and_then (λ s. asked_of s.files s) (sort_words words no_words)

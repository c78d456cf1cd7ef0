-- What is so of commands.
use Rattle.std.specs.Prelude.{◌≡◌, ◌<◌, ℕ, true, List, length}
use Rattle.std.specs.List.{list_all}
use Rattle.pt_literals.specs.Source.{is_blank}
use Rattle.pt_tables.specs.Names.{command_names}
use Rattle.pt_tables.specs.Rows.{names_of}
use Rattle.pt_commands.specs.declared.command.Command.TheVariants as command
use Rattle.pt_commands.specs.Commands.{command_on}
use Rattle.pt_commands.specs.Verbs.{verb_rows}

-- the words of commands are those of the tables
abbrev pub NamesAreListed : Type 0
NamesAreListed = names_of verb_rows ≡ command_names

-- blanks alone are no command, and repeat none
abbrev pub BlanksAreBad : Type 0
BlanksAreBad = (line : List ℕ) → list_all is_blank line ≡ true → 0 < length line → command_on line ≡ command.Bad

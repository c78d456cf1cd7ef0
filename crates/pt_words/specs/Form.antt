-- The form of a command line as clap has it, and what its matches are for words.
use Rattle.std.specs.Prelude.{◌≡◌, ◌==◌, ◌&&◌, Bool, true, false, List, [], ◌∷◌, codes, min, Option, Some, None, if◌then◌else◌}
use Rattle.clap.specs.Walk.{Rule, all_of, count_of, rows_of}
use Rattle.clap.specs.Matches.{found_of}
use Rattle.clap.specs.Simple.{App, new_app, new_rule, on_top, with_rule}
use Rattle.clap.specs.declared.builder.action.ArgAction.TheVariants.{Append, Count}
use Rattle.clap.specs.declared.parser.matches.ArgMatches.{ArgMatches}
use Rattle.pt_words.specs.Words.{Text, Sorted, no_words, sort_words, is_file_word}

-- words that clap reads as the rule does: file words, and two hyphens with something behind them
abbrev pub is_long : Text → Bool
is_long (a ∷ b ∷ c ∷ rest) = a == 45 && b == 45
is_long word = false

abbrev pub is_regular : Text → Bool
is_regular word = if is_file_word word then true else is_long word

abbrev pub files_arg : Rule
files_arg = record (new_rule (codes "files")) { action = Some Append }

abbrev pub steps_arg : Rule
steps_arg = record (new_rule (codes "steps")) { long = Some (codes "steps"); action = Some Append }

abbrev pub events_arg : Rule
events_arg = record (new_rule (codes "events")) { long = Some (codes "events"); action = Some Count }

abbrev pub stats_arg : Rule
stats_arg = record (new_rule (codes "stats")) { long = Some (codes "stats"); action = Some Count }

abbrev pub form : App
form =
    let plain = on_top (λ s. record s { no_binary_name = true; disable_help_flag = true }) (new_app (codes "pt")) in
    with_rule (with_rule (with_rule (with_rule plain files_arg) steps_arg) events_arg) stats_arg

-- the values of an argument that is used
abbrev pub listed : List Text → Option (List Text)
listed [] = None
listed (v ∷ vs) = Some (v ∷ vs)

-- the matches are the sorted words. clap's counts end at 255
pub record AreUses (s : Sorted) (m : ArgMatches) : Type 0 where
  pub files : all_of (codes "files") (rows_of (found_of m)) ≡ listed s.files
  pub steps : all_of (codes "steps") (rows_of (found_of m)) ≡ listed s.steps
  pub events : count_of (codes "events") (rows_of (found_of m)) ≡ min s.events 255
  pub stats : count_of (codes "stats") (rows_of (found_of m)) ≡ min s.stats 255

pub record HasUses (words : List Text) (m : ArgMatches) : Type 0 where
  pub sorted : Sorted
  pub are_sorted : sort_words words no_words ≡ Some sorted
  pub no_value_lacks : sorted.awaits ≡ false
  pub are_uses : AreUses sorted m

-- the words can't be sorted, or the last one lacks its value
abbrev pub EndsSo : Option Sorted → Type 0
EndsSo None = Unit {0}
EndsSo (Some s) = s.awaits ≡ true

abbrev pub HaveNoUses : List Text → Type 0
HaveNoUses words = EndsSo (sort_words words no_words)

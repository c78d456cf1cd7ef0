-- The number of a command line fits.
use Rattle.std.proofs.Common.{◌≡◌, ◌&&◌, ◌==◌, not, ℕ, Bool, true, false, if◌then◌else◌, List, [], ◌∷◌, Option, Some, None, codes, refl, sym, ap, subst}
use Rattle.std.specs.Prelude.{nat_le, option_and_then, option_map}
use Rattle.std.specs.Str.{bytes_eq}
use Rattle.std.proofs.lemmas.Bool.{leb-true}
use Rattle.pt_words.specs.Words.{Asked, CountFits, Sorted, Text, asked_by, asked_of, command_line, command_named, command_of, count_of, most_functions, no_words, number_of, sort_words, steps_of, within_functions}
use Rattle.pt_words.specs.declared.line.Command.{Command}
use Rattle.pt_words.specs.declared.line.Command.TheVariants as command

none_some : {A X : Type 0} {x : X} → None ≡ Some x → A
none_some {x = x} e = absurd (let no : None ≡ Some x = e in cc)

-- if there is a command
abbrev Fits : Option Command → Type 0
Fits None = Unit {0}
Fits (Some c) = CountFits c

by_case : (b : Bool) (x y : Option Command) → Fits x → Fits y → Fits (if b then x else y)
by_case true x y p q = p
by_case false x y p q = q

named_fits : (word : Text) → Fits (command_named word)
named_fits word =
    by_case (bytes_eq word (codes "run")) _ _ tt
    (by_case (bytes_eq word (codes "trace")) _ _ tt
    (by_case (bytes_eq word (codes "dis")) _ _ tt
    (by_case (bytes_eq word (codes "build")) _ _ tt
    (by_case (bytes_eq word (codes "exec")) _ _ tt
    (by_case (bytes_eq word (codes "cover")) _ _ tt
    (by_case (bytes_eq word (codes "profile")) _ _ tt tt))))))

number_fits : (o : Option ℕ) → Fits (option_map command.Gen (option_and_then within_functions o))
number_fits None = tt
number_fits (Some n) = go (nat_le n most_functions) refl
  where
    go : (b : Bool) → nat_le n most_functions ≡ b → Fits (option_map command.Gen (if b then Some n else None))
    go true e = leb-true n most_functions e
    go false e = tt

command_fits : (word first : Text) → Fits (command_of word first)
unfolding command_of
command_fits word first = by_case (bytes_eq word (codes "gen")) _ _ (number_fits (number_of first)) (named_fits word)

asked_fits : (s : Sorted) (c : Option Command) (script : Text) (n : Option ℕ) (a : Asked) → Fits c → asked_by s c script n ≡ Some a → CountFits a.command
asked_fits s None script n a fits e = none_some e
asked_fits s (Some c) script None a fits e = none_some e
asked_fits s (Some c) script (Some n) a fits e = go (nat_le s.events 1 && nat_le s.stats 1 && not s.awaits) e
  where
    go : (b : Bool)
        → (if b then Some (record { command = c; script = script; steps = n; events = s.events == 1; stats = s.stats == 1 }) else None) ≡ Some a
        → CountFits a.command
    go true f = let same : c ≡ a.command = ap (λ o. command_in o) f in subst CountFits same fits
      where
        command_in : Option Asked → Command
        command_in None = c
        command_in (Some x) = x.command
    go false f = none_some f

sorted_fits : (files : List Text) (s : Sorted) (a : Asked) → asked_of files s ≡ Some a → CountFits a.command
sorted_fits [] s a e = none_some e
sorted_fits (word ∷ []) s a e = none_some e
sorted_fits (word ∷ script ∷ []) s a e = asked_fits s (command_of word script) script (steps_of s.steps) a (command_fits word script) e
sorted_fits (word ∷ script ∷ other ∷ files) s a e = none_some e

pub count_fits : (words : List Text) (a : Asked) → command_line words ≡ Some a → CountFits a.command
count_fits words a e = go (sort_words words no_words) e
  where
    go : (o : Option Sorted) → option_and_then (λ s. asked_of s.files s) o ≡ Some a → CountFits a.command
    go None f = none_some f
    go (Some s) f = sorted_fits s.files s a f

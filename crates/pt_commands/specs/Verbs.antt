-- The words of commands, with their short names (Library Reference, "pdb", "Debugger Commands").
use Rattle.std.specs.Prelude.{ℕ, List, [], ◌∷◌, codes, Option}
use Rattle.pt_tables.specs.Rows.{value_of}
use Rattle.pt_commands.specs.declared.verb.Verb.{Verb}
use Rattle.pt_commands.specs.declared.verb.Verb.TheVariants as verb

abbrev pub verb_rows : List (List ℕ × Verb)
verb_rows =
    (codes "break", verb.Break) ∷ (codes "tbreak", verb.TemporaryBreak) ∷ (codes "b", verb.Break) ∷
    (codes "clear", verb.Clear) ∷ (codes "cl", verb.Clear) ∷ (codes "condition", verb.Condition) ∷
    (codes "ignore", verb.Ignore) ∷ (codes "enable", verb.Enable) ∷ (codes "disable", verb.Disable) ∷
    (codes "step", verb.Step) ∷ (codes "next", verb.Next) ∷ (codes "until", verb.Until) ∷
    (codes "return", verb.Return) ∷ (codes "continue", verb.Continue) ∷ (codes "s", verb.Step) ∷
    (codes "n", verb.Next) ∷ (codes "unt", verb.Until) ∷ (codes "r", verb.Return) ∷
    (codes "c", verb.Continue) ∷ (codes "cont", verb.Continue) ∷ (codes "jump", verb.Jump) ∷
    (codes "j", verb.Jump) ∷ (codes "up", verb.Up) ∷ (codes "down", verb.Down) ∷ (codes "u", verb.Up) ∷
    (codes "d", verb.Down) ∷ (codes "where", verb.Where) ∷ (codes "w", verb.Where) ∷
    (codes "bt", verb.Where) ∷ (codes "args", verb.Args) ∷ (codes "a", verb.Args) ∷ (codes "p", verb.Print) ∷
    (codes "quit", verb.Quit) ∷ (codes "q", verb.Quit) ∷ []

abbrev pub verb_named : (word : List ℕ) → Option Verb
verb_named word = value_of verb_rows word

-- What a run has to write, as a run writes it: texts that are printed and, where events have lines in the log, these lines.
use Rattle.std.specs.Prelude.{◌≡◌, ℕ, pos, List, [], ◌∷◌, ◌++◌, map, Bool, true, false, codes}
use Rattle.std.specs.Fmt.{signed_decimal}
use Rattle.pt_content.specs.TypeErrors.{sentence}
use Rattle.sem_run.specs.run.Run as run
use Rattle.sem_run.specs.run.Run.{to_out, to_log}
use Rattle.pt_machine_state.specs.declared.writes.Write.{Write}
use Rattle.pt_machine_state.specs.declared.writes.Write.TheVariants as write
use Rattle.pt_machine_state.specs.declared.writes.Writes.{Writes}

abbrev pub piece_of : Write → run.Write
piece_of (write.Print t) = run.write to_out t
piece_of (write.Log t) = run.write to_log t

abbrev pub pieces_of : Writes → List run.Write
pieces_of w = map piece_of w.items.items

-- where events have no lines in the log, what is printed is left
abbrev pub put_if_printed : run.Sink → run.Write → List run.Write → List run.Write
put_if_printed to_out w ws = w ∷ ws
put_if_printed to_log w ws = ws

abbrev pub prints_among : List run.Write → List run.Write
prints_among [] = []
prints_among (w ∷ ws) = put_if_printed w.sink w (prints_among ws)

abbrev pub kept : (events : Bool) → List run.Write → List run.Write
kept true ws = ws
kept false ws = prints_among ws

-- these are put behind the others
pub record Adds (old new : Writes) (ws : List run.Write) : Type 0 where
  pub pieces : pieces_of new ≡ pieces_of old ++ kept old.events ws
  pub events : new.events ≡ old.events

abbrev pub print_piece : List ℕ → run.Write
print_piece t = run.write to_out t

-- the log's line of an event: what happened, the line, the name of the block, and what is told behind it
abbrev pub event_text : (word : List ℕ) (line : ℕ) (name behind : List ℕ) → List ℕ
event_text word line name behind = sentence (word ∷ codes " " ∷ signed_decimal (pos line) ∷ codes " " ∷ name ∷ behind ∷ (10 ∷ []) ∷ [])

abbrev pub event_line : (word : List ℕ) (line : ℕ) (name behind : List ℕ) → run.Write
event_line word line name behind = run.write to_log (event_text word line name behind)

-- The session of a debugger, as far as it needs no run (Library Reference, "pdb", "Debugger Commands"; "bdb").
use Rattle.std.specs.Prelude.{ℕ, ◌&&◌, ◌||◌, Bool, true, false, not, List, [], ◌∷◌, ◌++◌, Option, Some, None, is_some, if◌then◌else◌}
use Rattle.pt_base.specs.declared.numbers.Line.{Line}
use Rattle.pt_heap.specs.declared.view.ViewFrame.{ViewFrame}
use Rattle.pt_bdb.specs.declared.event.Event.{Event}
use Rattle.pt_bdb.specs.declared.event.EventKind.{EventKind}
use Rattle.pt_bdb.specs.declared.event.EventKind.TheVariants as kind
use Rattle.pt_bdb.specs.declared.row.Hit.{Hit}
use Rattle.pt_bdb.specs.declared.stops.StopData.{StopData}
use Rattle.pt_bdb.specs.Breakpoints.{Table, no_breakpoints, with_rows}
use Rattle.pt_bdb.specs.Effective.{Judgment, hit_in, rows_behind}
use Rattle.pt_bdb.specs.Stops.{step_data, stops_at, until_line}
use Rattle.pt_commands.specs.Commands.{command_on}
use Rattle.pt_commands.specs.declared.command.Command.{Command}
use Rattle.pt_commands.specs.declared.command.Command.TheVariants as command
use Rattle.pt_pdb.specs.declared.answer.BreakAnswer.TheVariants as break
use Rattle.pt_pdb.specs.Answers.{break_answer_text, not_after_text, unknown_text}
use Rattle.pt_pdb.specs.CommandLines.{prompt_text, shown_line}
use Rattle.pt_sessions.specs.declared.session.Outcome.{Outcome}
use Rattle.pt_sessions.specs.declared.session.Outcome.TheVariants.{Answered, Goes, Asks}
use Rattle.pt_sessions.specs.OnBreakpoints.{break_text, table_behind}
use Rattle.pt_sessions.specs.Going.{data_behind, data_by}

-- the name of the file, the breakpoints, where the run stops, and the last line of commands that wasn't empty
pub record Session : Type 0 where
  pub file : List ℕ
  pub breaks : Table
  pub stops : StopData
  pub last : List ℕ

-- a session starts as behind `step`
abbrev pub new_session : (file : List ℕ) → List Line → Session
new_session file lines = record { file = file; breaks = no_breakpoints lines; stops = step_data; last = [] }

-- an empty line asks for the last one again
abbrev pub last_line : (line last : List ℕ) → List ℕ
last_line [] last = last
last_line (c ∷ cs) last = c ∷ cs

abbrev pub with_line : (line : List ℕ) → Session → Session
with_line line s = record s { last = last_line line s.last }

-- `until` stays where the line that it's asked for isn't behind the current one
abbrev pub until_text : (asked goes_to : Option Line) → List ℕ
until_text (Some line) None = not_after_text line
until_text asked goes_to = []

-- what is told of a command that the run doesn't go on with, and that is on no breakpoint
abbrev pub told_text : (last : List ℕ) → ViewFrame → Command → List ℕ
told_text last f (command.Until asked) = until_text asked (until_line f.line asked)
told_text last f command.Repeat = unknown_text last
told_text last f command.Bad = unknown_text last
told_text last f c = []

-- what a command answers at a frame, as far as no run is asked
abbrev pub command_text : Session → ViewFrame → Command → List ℕ
command_text s f c = told_text s.last f c ++ break_text s.file s.breaks c

abbrev pub behind_command : ViewFrame → Event → Command → Session → Session
behind_command f e c s = record s { breaks = table_behind c s.breaks; stops = data_behind e (data_by f c) s.stops }

-- what is asked of the run
abbrev pub is_asked : Command → Bool
is_asked (command.Jump line) = true
is_asked command.Up = true
is_asked command.Down = true
is_asked command.Where = true
is_asked command.Args = true
is_asked (command.Print expression) = true
is_asked command.Quit = true
is_asked c = false

abbrev pub outcome_of : ViewFrame → Command → Outcome
outcome_of f c = if is_asked c then Asks c else if is_some (data_by f c) then Goes else Answered

-- a line of commands at an event, with a frame chosen: the command that it asks for is read from the last line
module _ (frame : ViewFrame) (line : List ℕ) where
  abbrev pub line_text : Session → List ℕ
  line_text s = let read = with_line (shown_line line) s in
      prompt_text (shown_line line) ++ command_text read frame (command_on read.last)

  abbrev pub behind_line : Event → Session → Session
  behind_line e s = let read = with_line (shown_line line) s in behind_command frame e (command_on read.last) read

  abbrev pub line_outcome : Session → Outcome
  line_outcome s = outcome_of frame (command_on (with_line (shown_line line) s).last)

-- the breakpoints are tried at a line at which the run doesn't stop by the last command
abbrev pub is_line : EventKind → Bool
is_line kind.Line = true
is_line k = false

abbrev pub are_tried : Event → Session → Bool
are_tried e s = is_line e.kind && not (stops_at s.stops e)

abbrev pub hit_at : Judgment → Event → Session → Option Hit
hit_at judge e s = if are_tried e s then hit_in judge e.line s.breaks.rows else None

abbrev pub session_stops : Judgment → Event → Session → Bool
session_stops judge e s = stops_at s.stops e || is_some (hit_at judge e s)

abbrev pub behind_event : Judgment → Event → Session → Session
behind_event judge e s =
    if are_tried e s then record s { breaks = with_rows (rows_behind judge e.line s.breaks.rows) s.breaks } else s

-- a temporary breakpoint that stops is deleted, and that is told
abbrev pub hit_text : (file : List ℕ) → Line → Option Hit → List ℕ
hit_text file line (Some hit) = if hit.removed then break_answer_text file (break.Deleted hit.number line) else []
hit_text file line None = []

abbrev pub event_text : Judgment → Event → Session → List ℕ
event_text judge e s = hit_text s.file e.line (hit_at judge e s)

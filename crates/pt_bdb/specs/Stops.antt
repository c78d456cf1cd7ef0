-- Where a run stops by the last command (Library Reference, "bdb": stop_here, set_step, set_next, set_until, set_return, set_continue;
-- "pdb": step, next, until, return, continue).
use Rattle.std.specs.Prelude.{◌==◌, ◌+◌, ◌-◌, ◌^◌, ◌&&◌, ◌||◌, ℕ, Bool, true, false, not, min, nat_le, nat_lt, is_some, Option, None, Some, if◌then◌else◌}
use Rattle.pt_base.specs.declared.numbers.Line.{Line}
use Rattle.pt_base.specs.declared.numbers.FrameNo.{FrameNo}
use Rattle.pt_bdb.specs.declared.event.Event.{Event}
use Rattle.pt_bdb.specs.declared.event.EventKind.{EventKind}
use Rattle.pt_bdb.specs.declared.event.EventKind.TheVariants as kind
use Rattle.pt_bdb.specs.declared.stops.StopData.{StopData}
use Rattle.pt_bdb.specs.declared.stops.StopFrame.{StopFrame}
use Rattle.pt_bdb.specs.declared.stops.StopFrame.TheVariants.{Any, One, Never}

abbrev pub is_any : StopFrame → Bool
is_any Any = true
is_any frame = false

abbrev pub is_one : FrameNo → StopFrame → Bool
is_one f (One g) = g.0 == f.0
is_one f frame = false

-- the line is at least the stop line, where there is one
abbrev pub reaches : Line → (stop : Option Line) → Bool
reaches line (Some stop) = nat_le stop.0 line.0
reaches line None = false

abbrev pub is_at : FrameNo → Option FrameNo → Bool
is_at f (Some g) = g.0 == f.0
is_at f None = false

-- the rule of stops, at a frame on a line
abbrev pub rule : StopData → FrameNo → Line → Bool
rule d frame line = is_any d.frame || is_one frame d.frame && reaches line d.line

-- a call or return of a generator's frame counts where any frame stops, and the call of the module, which is block 0, never
abbrev pub counts : StopData → Event → Bool
counts d e = not e.generator || is_any d.frame

abbrev pub is_module : Event → Bool
is_module e = e.block.0 == 0

abbrev pub stops_at_kind : EventKind → StopData → Event → Bool
stops_at_kind kind.Call d e = counts d e && (not (is_module e) && rule d e.frame e.line)
stops_at_kind kind.Line d e = rule d e.frame e.line
stops_at_kind kind.Return d e = counts d e && (rule d e.frame e.line || is_at e.frame d.return_frame)
stops_at_kind kind.Exception d e = rule d e.frame e.line

abbrev pub stops_at : StopData → Event → Bool
stops_at d e = stops_at_kind e.kind d e

-- the stop data behind each command, at a frame
abbrev pub step_data : StopData
step_data = record { frame = Any; line = None; return_frame = None }

abbrev pub next_data : FrameNo → StopData
next_data f = record { frame = One f; line = Some (record { 0 = 0 }); return_frame = None }

abbrev pub until_data : FrameNo → Line → StopData
until_data f line = record { frame = One f; line = Some line; return_frame = Some f }

-- to the caller, or to the end of the run, which the module has for a caller; a generator's frame isn't stopped at
abbrev pub caller_frame : Option FrameNo → StopFrame
caller_frame (Some caller) = One caller
caller_frame None = Never

abbrev pub return_data : FrameNo → (caller : Option FrameNo) → (generator : Bool) → StopData
return_data f caller generator =
    if generator then record { frame = One f; line = None; return_frame = None }
    else record { frame = caller_frame caller; line = Some (record { 0 = 0 }); return_frame = Some f }

abbrev pub continue_data : StopData
continue_data = record { frame = Never; line = None; return_frame = None }

-- behind a stop at the return of the frame that is waited for, each event is one to stop at
abbrev pub returned : FrameNo → StopData → StopData
returned f d = if is_one f d.frame && is_some d.line then step_data else d

-- the line that `until` without a number goes to: the one behind, where there is one
abbrev pub line_behind : Line → Line
line_behind line = record { 0 = min (line.0 + 1) (2 ^ 32 - 1) }

-- the line that `until` goes to: one that is asked has to stand behind the current one
abbrev pub until_line : (current : Line) → (asked : Option Line) → Option Line
until_line current (Some line) = if nat_lt current.0 line.0 then Some line else None
until_line current None = Some (line_behind current)

-- How the machine changes: it goes to a place, a completion lands, an exception gets an entry of its traceback (Language Reference 8.4, 7.6, 7.8).
use Rattle.std.specs.Prelude.{ℕ, suc, ◌-◌, List, [], ◌∷◌, length, drop, Bool, true, false, Option, Some, None, slice_get, slice_set, codes, if◌then◌else◌}
use Rattle.std.specs.Option.{option_map}
use Rattle.pt_base.specs.declared.numbers.Pc.{Pc}
use Rattle.pt_heap.specs.declared.value.Value.{Value}
use Rattle.pt_heap.specs.declared.value.Value.TheVariants as value
use Rattle.pt_heap.specs.declared.object.Object.{Object}
use Rattle.pt_heap.specs.declared.completion.Completion.{Completion}
use Rattle.pt_heap.specs.declared.completion.Completion.TheVariants.{Normal, Raise, Return, Leave}
use Rattle.pt_base.specs.declared.numbers.BlockId.{BlockId}
use Rattle.pt_bind.specs.declared.arguments.Locals.{Locals}
use Rattle.pt_frames.specs.declared.activation.Activation.{Activation}
use Rattle.pt_frames.specs.declared.activations.OpenActivation.{OpenActivation}
use Rattle.pt_frames.specs.declared.purpose.Purpose.{Purpose}
use Rattle.pt_frames.specs.declared.purpose.Purpose.TheVariants as purpose
use Rattle.pt_frames.specs.Activations.{next_activation, with_activation, with_next_number}
use Rattle.pt_frames.specs.declared.slot.Slot.{Slot}
use Rattle.pt_frames.specs.declared.slot.Slot.TheVariants as slot
use Rattle.pt_content.specs.Classes.{class_name}
use Rattle.pt_unwind.specs.declared.Landing.{Landing}
use Rattle.pt_unwind.specs.declared.Landing.TheVariants.{Enter, Jump, Out}
use Rattle.pt_unwind.specs.Landings.{landing_of}
use Rattle.pt_ranges.specs.declared.lines.ActMark.{ActMark}
use Rattle.pt_names.specs.Names.{Named}
use Rattle.sem_control.specs.control.LineEvents.{is_told}
use Rattle.sem_code.specs.slots.Steps.{mark_of}
use Rattle.sem_run.specs.run.Host.{Entry}
use Rattle.sem_run.specs.run.Run as run
use Rattle.sem_run.specs.run.Views.{line_or}
use Rattle.pt_code_facts.specs.sem_rows.pt_host.Errors.{with_entry}
use Rattle.pt_code_facts.specs.sem_rows.pt_host.Leaving.{is_stop_in}
use Rattle.pt_machine_state.specs.declared.blocks.BlockCode.{BlockCode}
use Rattle.pt_machine_state.specs.declared.machine.Machine.{Machine}
use Rattle.pt_machine_state.specs.declared.machine.Standing.{Standing}
use Rattle.pt_machine_state.specs.declared.machine.Standing.TheVariants as standing
use Rattle.pt_machine_state.specs.Writing.{event_line}
use Rattle.pt_machine_state.specs.declared.blocks.Blocks.{Blocks}
use Rattle.pt_machine_state.specs.Blocks.{block_at, depth_of}
use Rattle.pt_machine_state.specs.Views.{block_of}

abbrev pub gone_to : Pc → Machine → Machine
gone_to pc m = record m { here = record m.here { pc = pc } }

-- what a handler holds of what it takes (8.4): an `except` the exception, all else the completion
abbrev pub held : (holds_completion : Bool) → Completion → Slot
held false (Raise v) = slot.Exc v
held b how = slot.Pending how

abbrev pub at_depth : (depth : ℕ) → List Slot → List Slot
at_depth d slots = drop (length slots - d) slots

-- it goes to a place with the slots that lie there
abbrev pub jumped : BlockCode → Pc → Machine → Machine
jumped block pc m = record m { here = record m.here { pc = pc; slots = at_depth (depth_of block pc.0) m.here.slots } }

-- past all handlers a raise and a return end the block
abbrev pub out_by : BlockCode → Completion → Machine → Machine
out_by block Normal m = m
out_by block (Raise v) m = record m { standing = standing.Raises v }
out_by block (Return v) m = record m { standing = standing.Returns v }
out_by block (Leave target) m = jumped block target m

abbrev pub landed_at : BlockCode → Completion → Landing → Machine → Machine
landed_at block how (Enter pc depth holds) m = record m { here = record m.here { pc = pc; slots = held holds how ∷ at_depth depth m.here.slots } }
landed_at block how (Jump pc) m = jumped block pc m
landed_at block how Out m = out_by block how m

-- a completion leaves the place
abbrev pub landed : BlockCode → Completion → Machine → Machine
landed block how m = landed_at block how (landing_of block.handlers m.here.pc how) m

-- what leaves a place, if anything does
abbrev pub left_place : BlockCode → (next : Pc) → Completion → Machine → Machine
left_place block next Normal m = gone_to next m
left_place block next how m = landed block how m

-- the line that stands for the newest frame
abbrev pub line_of : BlockCode → Machine → ℕ
line_of block m = line_or block.first_line.0 (option_map (λ l. l.0) m.here.line)

-- an exception that comes to the newest frame gets an entry of its traceback there, where the frame is visible
abbrev pub entry_at : Activation → (line : ℕ) → Entry
entry_at a line = record { frame = a.frame.0; block = block_of a; line = line }

abbrev pub entry_of : BlockCode → Machine → Entry
entry_of block m = entry_at m.here (line_of block m)

abbrev pub heap_with_entry : Value → Entry → List Object → List Object
heap_with_entry (value.Obj id) e h = with_entry e id (slice_get h id.0) h
heap_with_entry v e h = h

abbrev pub entered : BlockCode → Value → Machine → Machine
entered block v m = record m { heap = if m.here.hidden then m.heap else heap_with_entry v (entry_of block m) m.heap }

-- what an exception does that comes to the newest frame
abbrev pub raised_at : BlockCode → Value → Machine → Machine
raised_at block v m = landed block (Raise v) (entered block v m)

-- the log's line for an event of the newest activation
abbrev pub events_of : (word behind : List ℕ) → BlockCode → Machine → List run.Write
events_of word behind block m = if m.here.hidden then [] else event_line word (line_of block m) block.name behind ∷ []

abbrev pub exception_events : Value → BlockCode → Machine → List run.Write
exception_events v block m = events_of (codes "exception") (32 ∷ class_name m.heap v) block m

abbrev pub raise_events : Value → BlockCode → Machine → List run.Write
raise_events v block m = exception_events v block (entered block v m)

-- a StopIteration that left a block which was to give the next item is the end: there the run goes on (8.3)
abbrev pub end_in : Purpose → Value → List Object → Option Pc
end_in (purpose.Item iterator end) v heap = if is_stop_in heap v then Some end else None
end_in why v heap = None

-- the slots of an exit stay on while its block runs (8.5)
abbrev pub left_slots : Purpose → List Slot → List Slot
left_slots (purpose.Exit completion) slots = drop 2 slots
left_slots why slots = slots

abbrev pub behind_block : Purpose → Machine → Machine
behind_block why m = record m { here = record m.here { slots = left_slots why m.here.slots } }

-- an exception that left a block comes to the newest frame, unless it is the end
abbrev pub left_at : BlockCode → Value → Option Pc → Machine → Machine
left_at block v (Some end) m = gone_to end m
left_at block v None m = raised_at block v m

abbrev pub left_events : Value → BlockCode → Option Pc → Machine → List run.Write
left_events v block (Some end) m = []
left_events v block None m = raise_events v block m

-- the line of the innermost visible frame, which is the newest one where none is
abbrev pub line_in : Blocks → Activation → ℕ
line_in blocks a = line_or (block_at blocks (block_of a)).first_line.0 (option_map (λ l. l.0) a.line)

abbrev pub first_visible : Blocks → (otherwise : ℕ) → List OpenActivation → ℕ
first_visible blocks l [] = l
first_visible blocks l (o ∷ os) = if o.activation.hidden then first_visible blocks l os else line_in blocks o.activation

abbrev pub visible_line : Blocks → Machine → ℕ
visible_line blocks m =
    if m.here.hidden then first_visible blocks (line_in blocks m.here) m.frames.activations else line_in blocks m.here

-- a block opens above the newest activation, which waits (4.1, 6.3.4)
abbrev pub slots_at_start : (iterates : Bool) → List Slot
slots_at_start true = slot.Iter value.None ∷ []
slots_at_start false = []

abbrev pub with_slots : List Slot → Activation → Activation
with_slots slots a = record a { slots = slots }

abbrev pub opened : (iterates : Bool) → BlockId → (hidden : Bool) → Locals → Purpose → Machine → Machine
opened iterates b hidden ls why m = record m {
  here = with_slots (slots_at_start iterates) (next_activation m.frames b hidden ls);
  frames = with_activation m.here why (with_next_number m.frames);
}

-- the activation that waits above this one, before it closed
abbrev pub suspended : Activation → Standing → Purpose → Machine → Machine
suspended a s why m = record m { here = a; standing = s; frames = with_activation m.here why m.frames }

-- a class stands in its cell, if it has one
abbrev pub with_class : (cell : Option ℕ) → Value → Machine → Machine
with_class None v m = m
with_class (Some c) v m = record m { frames = record m.frames { cells = slice_set m.frames.cells c (Some v) } }

-- the newest activation goes on behind its call with the value
abbrev pub given_back : (next : Pc) → Value → Machine → Machine
given_back next v m = record m { here = record m.here { pc = next; slots = slot.Value v ∷ m.here.slots } }

-- what instructions change: slots, names and cells of the newest activation, names of the module, the values of cells, and the heap
abbrev pub changed : List Slot → (locals : List (Option Value)) → (cells : List ℕ) → (names globals : Named) → (frame_cells : List (Option Value)) → List Object → Machine → Machine
changed slots locals cells names globals frame_cells heap m = record m {
  here = record m.here { slots = slots; locals = locals; cells = cells; names = names };
  frames = record m.frames { globals = globals; cells = frame_cells };
  heap = heap;
}

-- an act takes its unit, and its frame has its line
abbrev pub at_act : ActMark → Machine → Machine
at_act k m = record m { here = record m.here { line = Some k.line }; units = suc m.units }

-- its line is told where it is another than the frame's, where a test begins again, and before the first act (PEP 626)
abbrev pub line_events : ActMark → BlockCode → Machine → List run.Write
line_events k block m = if is_told (option_map (λ l. l.0) m.here.line) (mark_of k) then events_of (codes "line") [] block (at_act k m) else []

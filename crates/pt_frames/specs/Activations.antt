-- The open activations of a run, the newest first (Language Reference 4.1 "Structure of a program"; 3.2.13.2 "Frame objects").
use Rattle.std.specs.Prelude.{ℕ, ◌+◌, ◌-◌, Bool, List, [], ◌∷◌, ◌++◌, Option, None, Some, drop, length, slice_get, slice_set}
use Rattle.std.specs.Str.{bytes_eq}
use Rattle.indexmap.specs.IndexMap.{insert_entry}
use Rattle.pt_base.specs.declared.numbers.FrameNo.{FrameNo}
use Rattle.pt_base.specs.declared.numbers.BlockId.{BlockId}
use Rattle.pt_heap.specs.declared.value.Value.{Value}
use Rattle.pt_frames.specs.declared.activation.Activation.{Activation}
use Rattle.pt_frames.specs.declared.activation.Place.{Place}
use Rattle.pt_frames.specs.declared.activation.Place.TheVariants.{Local, Cell}
use Rattle.pt_frames.specs.declared.activations.OpenActivation.{OpenActivation}
use Rattle.pt_bind.specs.declared.arguments.Locals.{Locals}
use Rattle.pt_frames.specs.declared.frames.Frames.{Frames}
use Rattle.pt_frames.specs.declared.purpose.Purpose.{Purpose}
use Rattle.pt_frames.specs.declared.slot.Slot.{Slot}
use Rattle.pt_frames.specs.Slots.{active_in, first_given}
use Rattle.std.specs.Option.{option_flatten}

-- a run of a block before its first act
abbrev pub new_activation : FrameNo → BlockId → (hidden : Bool) → Locals → Activation
new_activation frame block hidden locals = record {
  frame = frame;
  block = block;
  hidden = hidden;
  pc = record { 0 = 0 };
  line = None;
  locals = locals.values;
  cells = locals.cells;
  slots = [];
  names = [];
}

-- one more activation is open
abbrev pub with_activation : Activation → Purpose → Frames → Frames
with_activation a why frames = record frames { activations = record { activation = a; why = why } ∷ frames.activations }

-- this holds of the newest activation
abbrev pub OnNewest : (Activation → Type 0) → List OpenActivation → Type 0
OnNewest P [] = ⊥
OnNewest P (o ∷ os) = P o.activation

abbrev pub map_first : (Activation → Activation) → List OpenActivation → List OpenActivation
map_first f [] = []
map_first f (o ∷ os) = record { activation = f o.activation; why = o.why } ∷ os

-- the newest activation changes, and nothing else
abbrev pub on_newest : (Activation → Activation) → Frames → Frames
on_newest f frames = record frames { activations = map_first f frames.activations }

-- a new run of a block, which takes the next frame number
abbrev pub next_activation : Frames → BlockId → (hidden : Bool) → Locals → Activation
next_activation frames block hidden locals = new_activation (record { 0 = frames.frame_count }) block hidden locals

abbrev pub with_next_number : Frames → Frames
with_next_number frames = record frames { frame_count = frames.frame_count + 1 }

-- one more slot is on top
abbrev pub with_slot : Slot → Frames → Frames
with_slot slot frames = on_newest (λ a. record a { slots = slot ∷ a.slots }) frames

-- so many slots are left, the lowest
abbrev pub with_depth : (depth : ℕ) → Frames → Frames
with_depth depth frames = on_newest (λ a. record a { slots = drop (length a.slots - depth) a.slots }) frames

-- the exception of the newest activation that is busy with one
abbrev pub active_exception : List OpenActivation → Option Value
active_exception os = first_given (λ o. active_in o.activation.slots) os

-- another cell for a cell or free name of the newest activation
abbrev pub with_cell_at : (i : ℕ) → (cell : ℕ) → Frames → Frames
with_cell_at i cell frames = on_newest (λ a. record a { cells = slice_set a.cells i cell }) frames

-- one more cell, without a value
abbrev pub with_new_cell : Frames → Frames
with_new_cell frames = record frames { cells = frames.cells ++ None ∷ [] }

-- a name of a class block or of the module with its value; a new name goes last
abbrev pub with_name : List ℕ → Option Value → Frames → Frames
with_name name value frames = on_newest (λ a. record a { names = insert_entry bytes_eq a.names name value }) frames

abbrev pub with_global : List ℕ → Option Value → Frames → Frames
with_global name value frames = record frames { globals = insert_entry bytes_eq frames.globals name value }

-- the value of a cell
abbrev pub value_in : (cells : List (Option Value)) → Option ℕ → Option Value
value_in cells None = None
value_in cells (Some n) = option_flatten (slice_get cells n)

-- the value at a place of an activation, in its local name or in the cell of the name
abbrev pub value_at : (cells : List (Option Value)) → Activation → Place → Option Value
value_at cells a (Local i) = option_flatten (slice_get a.locals i)
value_at cells a (Cell i) = value_in cells (slice_get a.cells i)

-- another value in a cell
abbrev pub with_cell : List (Option Value) → Option ℕ → Option Value → List (Option Value)
with_cell cells None value = cells
with_cell cells (Some n) value = slice_set cells n value

-- the newest activation's cell of a name
abbrev pub newest_cell : List OpenActivation → ℕ → Option ℕ
newest_cell [] i = None
newest_cell (o ∷ os) i = slice_get o.activation.cells i

-- another value at a place of the newest activation
abbrev pub put_at : Place → Option Value → Frames → Frames
put_at (Local i) value frames = on_newest (λ a. record a { locals = slice_set a.locals i value }) frames
put_at (Cell i) value frames = record frames { cells = with_cell frames.cells (newest_cell frames.activations i) value }

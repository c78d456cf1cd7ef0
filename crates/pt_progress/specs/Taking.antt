-- Where the machine goes on with what a block gave, by what that is for (Language Reference 6.10.2, 6.11, 7.2, 8.1 to 8.5).
use Rattle.std.specs.Prelude.{◌≡◌, ◌++◌, ℕ, List, [], ◌∷◌, length, map, nat_eq, Bool, true, false, Option, Some, None, Result, Ok, Err, if◌then◌else◌}
use Rattle.pt_base.specs.declared.numbers.Line.{Line}
use Rattle.pt_base.specs.declared.numbers.Pc.{Pc}
use Rattle.pt_base.specs.declared.what.What.{What}
use Rattle.pt_base.specs.declared.what.What.TheVariants.{Feature, Helper}
use Rattle.pt_heap.specs.declared.completion.Completion.{Completion}
use Rattle.pt_heap.specs.declared.completion.Completion.TheVariants.{Normal, Raise}
use Rattle.pt_heap.specs.declared.value.Value.{Value}
use Rattle.pt_heap.specs.declared.value.Value.TheVariants as value
use Rattle.pt_content.specs.declared.answer.PrimAns.{PrimAns}
use Rattle.pt_content.specs.declared.answer.PrimAns.TheVariants as prim
use Rattle.pt_frames.specs.declared.purpose.Purpose.{Purpose}
use Rattle.pt_frames.specs.declared.purpose.Purpose.TheVariants as purpose
use Rattle.pt_frames.specs.declared.slot.Slot.{Slot}
use Rattle.pt_frames.specs.declared.slot.Slot.TheVariants as slot
use Rattle.sem_rows.specs.pt_host.Calls.{arguments_of, opposite}
use Rattle.sem_rows.specs.pt_host.Errors.{error}
use Rattle.sem_rows.specs.pt_host.Primitives.{Awaited}
use Rattle.sem_rows.specs.pt_host.World.{allot}
use Rattle.pt_transfers.specs.pt_machine_state.Changes.{given_back, gone_to, visible_line}
use Rattle.pt_transfers.specs.pt_machine_state.Views.{active_of}
use Rattle.pt_transfers.specs.pt_machine_state.Writing.{Adds, print_piece}
use Rattle.pt_transfers.specs.pt_machine_state.declared.blocks.BlockCode.{BlockCode}
use Rattle.pt_transfers.specs.pt_machine_state.declared.blocks.Blocks.{Blocks}
use Rattle.pt_transfers.specs.pt_machine_state.declared.machine.Machine.{Machine}
use Rattle.pt_transfers.specs.pt_machine_state.declared.machine.MachineEnd.TheVariants.{Outside}
use Rattle.pt_transfers.specs.pt_machine_state.declared.machine.Stride.{Stride}
use Rattle.pt_transfers.specs.pt_machine_state.declared.machine.Stride.TheVariants.{Ends}
use Rattle.pt_transfers.specs.pt_machine_state.declared.writes.Writes.{Writes}
use Rattle.pt_progress.specs.Arising.{LeavesBy}

-- the newest activation goes on at a place with these slots
abbrev pub moved : Pc → List Slot → Machine → Machine
moved pc slots m = record m { here = record m.here { pc = pc; slots = slots } }

-- what no operation takes
abbrev pub IsKept : Purpose → Type 0
IsKept (purpose.Class base cell) = ⊥
IsKept (purpose.Truth wanted target kept) = ⊥
IsKept (purpose.Unpack before after) = ⊥
IsKept (purpose.Exit completion) = ⊥
IsKept (purpose.Format spec) = ⊥
IsKept why = Unit {0}

abbrev pub kept_by : Purpose → (next : Pc) → (given : Value) → Machine → Machine
kept_by (purpose.Init new) next v m = given_back next new m
kept_by purpose.Opposite next v m = given_back next (opposite v) m
kept_by purpose.Discard next v m = gone_to next m
kept_by purpose.Iterate next v m = moved next (slot.Iter v ∷ m.here.slots) m
kept_by (purpose.Item it at_end) next v m = moved next (slot.Value v ∷ slot.Iter it ∷ m.here.slots) m
kept_by (purpose.Enter exit) next v m = moved next (slot.Value v ∷ slot.With exit ∷ m.here.slots) m
kept_by why next v m = given_back next v m

-- a truth decides
abbrev pub kept_on : Option Value → List Slot → List Slot
kept_on (Some v) slots = slot.Value v ∷ slots
kept_on None slots = slots

abbrev pub branched_to : (wanted : Bool) → (target : Pc) → (kept : Option Value) → (next : Pc) → Bool → Machine → Machine
branched_to true target k next true m = moved target (kept_on k m.here.slots) m
branched_to true target k next false m = gone_to next m
branched_to false target k next true m = gone_to next m
branched_to false target k next false m = moved target (kept_on k m.here.slots) m

-- so many values that an operation answers, or its answer
abbrev pub row_or : (count : ℕ) → PrimAns → Result (List Value) PrimAns
row_or n (prim.Values vs) = if nat_eq (length vs) n then Ok vs else Err (prim.Values vs)
row_or n p = Err p

abbrev pub over : List Value → List Slot → List Slot
over vs slots = map slot.Value vs ++ slots

-- a truth, or the answer
abbrev pub truth_or : PrimAns → Result Bool PrimAns
truth_or (prim.Value (value.Bool b)) = Ok b
truth_or p = Err p

-- the raise that an exit holds, and what it holds once it has swallowed that or not
abbrev pub raise_in : Completion → Option Value
raise_in (Raise v) = Some v
raise_in how = None

abbrev pub left_of : (is_swallowed : Bool) → Completion → Completion
left_of true (Raise v) = Normal
left_of b how = how

-- what isn't awaited of an operation
abbrev pub IsRefused : {A : Type 0} → Awaited A → PrimAns → Type 0
IsRefused w (prim.Value v) = w.value v ≡ None
IsRefused w (prim.Values vs) = w.values vs ≡ None
IsRefused w prim.End = w.end ≡ None
IsRefused w (prim.Print t) = w.value value.None ≡ None
IsRefused w p = Unit {0}

-- the run leaves the profile there
abbrev pub IsOutside : What → Blocks → Stride → (old : Machine) (written : Writes) → (new : Machine) (writes : Writes) → Type 0
IsOutside what blocks r old written new writes =
    (line : Line) × ((r ≡ Ends (Outside what line)) × ((line.0 ≡ visible_line blocks old) × ((new ≡ old) × (writes ≡ written))))

-- what comes of an answer that gives nothing, where a block was run for this
abbrev pub Refuses : Blocks → BlockCode → Purpose → PrimAns → Stride → (old : Machine) (written : Writes) → (new : Machine) (writes : Writes) → Type 0
Refuses blocks block why (prim.Raise class arg) r old written new writes =
    LeavesBy (allot (error class (arguments_of arg) None (active_of old)) old.heap) blocks block why r old written new writes
Refuses blocks block why (prim.Print t) r old written new writes =
    (w : Writes) × (Adds written w (print_piece t ∷ []) × IsOutside Feature blocks r old w new writes)
Refuses blocks block why (prim.Help helper vs inverted) r old written new writes = IsOutside Helper blocks r old written new writes
Refuses blocks block why (prim.Outside what) r old written new writes = IsOutside what blocks r old written new writes
Refuses blocks block why p r old written new writes = IsOutside Feature blocks r old written new writes

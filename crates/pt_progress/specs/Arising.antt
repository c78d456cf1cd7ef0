-- When an exception arose in the newest activation that was to be made, or by which a block was left, or there was no room for it.
use Rattle.std.specs.Prelude.{◌≡◌, List, Option, Some, None}
use Rattle.pt_base.specs.declared.numbers.Line.{Line}
use Rattle.pt_base.specs.declared.numbers.ObjId.{ObjId}
use Rattle.pt_base.specs.declared.what.What.TheVariants.{Heap}
use Rattle.pt_heap.specs.declared.value.Value.{Value}
use Rattle.pt_heap.specs.declared.object.Object.{Object}
use Rattle.pt_frames.specs.declared.purpose.Purpose.{Purpose}
use Rattle.sem_rows.specs.pt_host.Errors.{arise_while, object_place}
use Rattle.sem_rows.specs.pt_host.World.{Allotted, IsAllotted}
use Rattle.pt_transfers.specs.pt_machine_state.Views.{active_of}
use Rattle.pt_transfers.specs.pt_machine_state.declared.blocks.BlockCode.{BlockCode}
use Rattle.pt_transfers.specs.pt_machine_state.declared.blocks.Blocks.{Blocks}
use Rattle.pt_transfers.specs.pt_machine_state.declared.machine.Machine.{Machine}
use Rattle.pt_transfers.specs.pt_machine_state.declared.machine.MachineEnd.TheVariants.{Outside}
use Rattle.pt_transfers.specs.pt_machine_state.declared.machine.Stride.{Stride}
use Rattle.pt_transfers.specs.pt_machine_state.declared.machine.Stride.TheVariants.{Goes, Ends}
use Rattle.pt_transfers.specs.pt_machine_state.declared.writes.Writes.{Writes}
use Rattle.pt_transfers.specs.pt_machine_state.Changes.{behind_block, end_in, left_at, left_events, raise_events, raised_at, visible_line}
use Rattle.pt_transfers.specs.pt_machine_state.Writing.{Adds}

-- one that was made arises; where none was, the run leaves the profile
abbrev pub Arises : Blocks → BlockCode → Option Value → Stride → (old : Machine) (written : Writes) → (new : Machine) (writes : Writes) → Type 0
Arises blocks block (Some v) r old written new writes = (r ≡ Goes) × ((new ≡ raised_at block v old) × Adds written writes (raise_events v block old))
Arises blocks block None r old written new writes =
    (line : Line) × ((r ≡ Ends (Outside Heap line)) × ((line.0 ≡ visible_line blocks old) × ((new ≡ old) × (writes ≡ written))))

-- of this, put into the heap if there is room
pub record ArisesOf (made : Allotted) (blocks : Blocks) (block : BlockCode) (r : Stride) (old : Machine) (written : Writes) (new : Machine) (writes : Writes) : Type 0 where
  pub exception : Option Value
  pub heap : List Object
  pub allotted : IsAllotted made exception heap
  pub arises : Arises blocks block exception r (record old { heap = heap }) written new writes

-- by one that was made a block was left
abbrev pub Leaves : Blocks → BlockCode → Purpose → Option Value → Stride → (old : Machine) (written : Writes) → (new : Machine) (writes : Writes) → Type 0
Leaves blocks block why (Some v) r old written new writes =
    (r ≡ Goes) × ((new ≡ left_at block v (end_in why v old.heap) (behind_block why old)) × Adds written writes (left_events v block (end_in why v old.heap) (behind_block why old)))
Leaves blocks block why None r old written new writes = Arises blocks block None r old written new writes

pub record LeavesBy (made : Allotted) (blocks : Blocks) (block : BlockCode) (why : Purpose) (r : Stride) (old : Machine) (written : Writes) (new : Machine) (writes : Writes) : Type 0 where
  pub exception : Option Value
  pub heap : List Object
  pub allotted : IsAllotted made exception heap
  pub leaves : Leaves blocks block why exception r (record old { heap = heap }) written new writes

-- an exception that is there already has the one that is active as its context
abbrev pub arisen : ObjId → Machine → Machine
arisen id m = record m { heap = arise_while (object_place (active_of m)) id m.heap }

-- When the machine made a class of a body that came to its end (Language Reference 8.8).
use Rattle.std.specs.Prelude.{◌≡◌, ℕ, Option}
use Rattle.pt_base.specs.declared.numbers.ObjId.{ObjId}
use Rattle.pt_base.specs.declared.numbers.Pc.{Pc}
use Rattle.pt_heap.specs.declared.value.Value.{Value}
use Rattle.pt_frames.specs.declared.activation.Activation.{Activation}
use Rattle.pt_frames.specs.declared.purpose.Purpose.TheVariants.{Class}
use Rattle.sem_rows.specs.pt_host.Classes.{base_of}
use Rattle.sem_rows.specs.pt_host.declared.classes.Base.TheVariants.{On}
use Rattle.pt_transfers.specs.pt_machine_state.Applies.{Takes}
use Rattle.pt_transfers.specs.pt_machine_state.declared.blocks.BlockCode.{BlockCode}
use Rattle.pt_transfers.specs.pt_machine_state.declared.blocks.Blocks.{Blocks}
use Rattle.pt_transfers.specs.pt_machine_state.declared.machine.Machine.{Machine}
use Rattle.pt_transfers.specs.pt_machine_state.declared.machine.Stride.{Stride}
use Rattle.pt_transfers.specs.pt_machine_state.declared.writes.Writes.{Writes}

-- whatever value the body gave
abbrev pub EndsClass : Blocks → BlockCode → (next : Pc) → (closed : Activation) → (base : Value) → (cell : Option ℕ) → Stride → (old : Machine) (written : Writes)
    → (new : Machine) (writes : Writes) → Type 0
EndsClass blocks caller next a base cell r old written new writes = (v : Value) → Takes blocks caller next a (Class base cell) v r old written new writes

-- on this base, with nothing written
abbrev pub IsMade : Blocks → (next : Pc) → (closed : Activation) → (base : ObjId) → (cell : Option ℕ) → Stride → (old new : Machine) → Type 0
IsMade blocks next a base cell r old new =
    (class : Value) → base_of old.heap class ≡ On base → (caller : BlockCode) (w : Writes) → EndsClass blocks caller next a class cell r old w new w

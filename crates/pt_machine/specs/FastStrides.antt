-- When the machine does a stride of which nothing is written.
use Rattle.std.specs.Prelude.{◌≡◌, ℕ, true, nat_lt, Option, Some, None}
use Rattle.pt_ranges.specs.declared.lines.ActMark.{ActMark}
use Rattle.pt_code_tables.specs.pt_machine_state.declared.blocks.BlockCode.{BlockCode}
use Rattle.pt_code_tables.specs.pt_machine_state.declared.machine.Machine.{Machine}
use Rattle.pt_code_tables.specs.pt_machine_state.declared.writes.Writes.{Writes}
use Rattle.pt_code_tables.specs.pt_machine_state.Writing.{Adds}
use Rattle.pt_code_tables.specs.pt_machine_state.Changes.{at_act, line_events}
use Rattle.pt_code_tables.specs.pt_machine_state.declared.machine.Stride.TheVariants as stride
use Rattle.pt_places.specs.declared.places.Place.{Place}
use Rattle.pt_code_tables.specs.declared.tables.CodeTables.{CodeTables}
use Rattle.pt_machine.specs.Performing.{GoesOn}

-- with this mark, if there is one, an act begins: of n units some are left for it
abbrev pub HasUnit : Option ActMark → (n : ℕ) → (units : ℕ) → Type 0
HasUnit None n units = Unit {0}
HasUnit (Some k) n units = nat_lt units n ≡ true

-- and what is told of its line isn't written
abbrev pub IsSilent : Option ActMark → BlockCode → Writes → Machine → Type 0
IsSilent None block w m = Unit {0}
IsSilent (Some k) block w m = Adds w w (line_events k block m)

-- it has begun
abbrev pub begun : Option ActMark → Machine → Machine
begun None m = m
begun (Some k) m = at_act k m

-- the machine did what stands at a place, behind the act that begins there, and wrote nothing
abbrev pub GoesSilently : CodeTables → BlockCode → Place → (old new : Machine) → Type 0
GoesSilently tables block place old new =
    (w : Writes) → GoesOn tables block place stride.Goes (begun place.mark old) w new w

-- What a turn of the machine does, whatever is going on (Library Reference, `sys.settrace`, `bdb`).
use Rattle.std.specs.Prelude.{◌≡◌, Bool, Option, Some, None}
use Rattle.pt_base.specs.declared.what.What.TheVariants.{Feature}
use Rattle.pt_heap.specs.declared.value.Value.{Value}
use Rattle.pt_pendings.specs.declared.telling.Telling.{Telling}
use Rattle.pt_closing.specs.pt_beginning.pt_machine_state.declared.blocks.BlockCode.{BlockCode}
use Rattle.pt_closing.specs.pt_beginning.pt_machine_state.declared.blocks.Blocks.{Blocks}
use Rattle.pt_closing.specs.pt_beginning.pt_machine_state.declared.writes.Writes.{Writes}
use Rattle.pt_closing.specs.pt_beginning.pt_machine_state.Blocks.{block_at}
use Rattle.pt_closing.specs.pt_purposes.declared.standing.Standing.{Standing}
use Rattle.pt_closing.specs.pt_purposes.Seen.{block_of}
use Rattle.pt_closing.specs.pt_beginning.pt_run_state.declared.machine.Machine.{Machine}
use Rattle.pt_closing.specs.pt_beginning.pt_run_state.declared.machine.Phase.{Phase}
use Rattle.pt_closing.specs.pt_beginning.pt_run_state.declared.machine.Phase.TheVariants.{Turning, Telling as Tells}
use Rattle.pt_closing.specs.pt_beginning.pt_run_state.declared.machine.Turn.TheVariants.{Asks, Ends}
use Rattle.pt_closing.specs.pt_turning.pt_telling.declared.asking.Found.{Found}
use Rattle.pt_closing.specs.pt_turning.pt_telling.declared.asking.Found.TheVariants as found
use Rattle.pt_closing.specs.pt_turning.pt_telling.Asks.{Finds}
use Rattle.pt_advancing.specs.declared.onward.Advanced.{Advanced}
use Rattle.pt_advancing.specs.declared.onward.Advanced.TheVariants.{Turned}
use Rattle.pt_advancing.specs.Lines.{left_at}
use Rattle.pt_advancing.specs.Proceeding.{AdvancedSo, goes, proceeded, turned}

-- where an activation stands whose code turns next
abbrev pub turning_in : Phase → Option Standing
turning_in (Turning z) = Some z
turning_in (Tells z active t) = None

-- what goes on behind what was found at an event
abbrev pub found_on : Blocks → BlockCode → Found → Machine → AdvancedSo
found_on blocks block found.Event m = goes m
found_on blocks block (found.Onward w) m = proceeded block w m
found_on blocks block (found.Asks q) m = record { advanced = Turned (Asks q); machine = m }
found_on blocks block (found.Calls h f) m = record {
  advanced = Turned (Ends (left_at blocks Feature m));
  machine = m;
}

-- this was found at the event that is told, with the machine so, and then that goes on
pub record TellsOn (blocks : Blocks) (block : BlockCode) (minds : Bool) (standing : Standing)
    (active : Option Value) (t : Telling) (a : AdvancedSo) (old : Machine)
    (written writes : Writes) : Type 0 where
  pub finding : Found
  pub reached : Machine
  pub finds : Finds block minds standing active t finding old written reached writes
  pub advances : a ≡ found_on blocks block finding reached

abbrev pub AdvancesIn : Blocks → BlockCode → (minds : Bool) → Phase → Advanced → (old : Machine)
    → (written : Writes) → (new : Machine) → (writes : Writes) → Type 0
AdvancesIn blocks block minds (Turning z) a old written new writes =
    (record { advanced = a; machine = new } ≡ turned block z old) × (writes ≡ written)
AdvancesIn blocks block minds (Tells z active t) a old written new writes =
    TellsOn blocks block minds z active t (record { advanced = a; machine = new }) old written
    writes

-- a turn came to this
abbrev pub AdvancesSo : Blocks → (minds : Bool) → (old : Machine) → Advanced
    → (written : Writes) → (new : Machine) → (writes : Writes) → Type 0
AdvancesSo blocks minds old a written new writes =
    AdvancesIn blocks (block_at blocks (block_of old.code.here)) minds old.phase a old written
    new writes

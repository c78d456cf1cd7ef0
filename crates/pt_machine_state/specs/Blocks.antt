-- What the machine knows of a block is what its code object says.
use Rattle.std.specs.Prelude.{◌≡◌, ℕ, Bool, filter, Some, slice_index_or, if◌then◌else◌}
use Rattle.pt_heap.specs.declared.value.Value.{Value}
use Rattle.pt_ranges.specs.Rows.{covers}
use Rattle.pt_code.specs.View.{Ins}
use Rattle.pt_places.specs.PlaceTable.{HasPlaces}
use Rattle.sem_run.specs.run.Machine.{BlockId}
use Rattle.pt_code_facts.specs.sem_rows.pt_host.World.{Program}
use Rattle.sem_code_machine.specs.code_machine.CodeBlocks.{CodeBlocks}
use Rattle.pt_code_facts.specs.sem_rows.heap_rows.Leads.{HasHeapTruths}
use Rattle.pt_code_facts.specs.Numbered.{by_number}
use Rattle.pt_machine_state.specs.declared.blocks.BlockCode.{BlockCode}
use Rattle.pt_machine_state.specs.declared.blocks.Blocks.{Blocks}
use Rattle.pt_machine_state.specs.declared.blocks.SideBlocks.{SideBlocks}

abbrev pub depth_of : BlockCode → (pc : ℕ) → ℕ
depth_of block pc = slice_index_or block.depths pc 0

pub record IsBlockOf (program : Program) (code : CodeBlocks Value) (b : BlockId) (block : BlockCode) : Type 0 where
  pub name : block.name ≡ (program.facts b).name
  pub first_line : block.first_line.0 ≡ (program.facts b).first_line
  pub places : HasPlaces (code.object b).at block.places
  pub rows : (pc : ℕ) (i : Ins) → (code.object b).at pc ≡ Some i → i.rows ≡ filter (λ row. covers row (record { 0 = pc })) block.handlers
  pub depths : (pc : ℕ) → (code.object b).depth_at pc ≡ depth_of block pc
  pub truths : HasHeapTruths (code.object b)
  pub iterates : code.iterates b ≡ block.iterates

-- those of a code by their numbers; hidden ones are the prelude's
abbrev pub block_in : SideBlocks → (number : ℕ) → BlockCode
block_in s n = by_number s.of_module s.others n

abbrev pub side_blocks : Blocks → (hidden : Bool) → SideBlocks
side_blocks blocks hidden = if hidden then blocks.prelude else blocks.script

abbrev pub block_at : Blocks → BlockId → BlockCode
block_at blocks b = block_in (side_blocks blocks b.hidden) b.number

abbrev pub AreBlocksOf : Program → CodeBlocks Value → Blocks → Type 0
AreBlocksOf program code blocks = (b : BlockId) → IsBlockOf program code b (block_at blocks b)

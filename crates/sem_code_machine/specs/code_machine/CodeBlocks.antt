-- Code on slots as a machine of runs in which no jump is asked for and no destination is told: its states are places of code with what lies in the
-- slots there.
use Rattle.std.specs.Prelude.{Bool, Option, if◌then◌else◌}
use Rattle.sem_code.specs.slots.Slots.{State}
use Rattle.sem_code.specs.slots.CodeObject.{CodeObject}
use Rattle.sem_code.specs.slots.Machine as slots
use Rattle.sem_code.specs.comp_expr.Law.{active_at}
use Rattle.sem_run.specs.run.Machine.{BlockId, refuses, not_at_line, Machine}
use Rattle.sem_run.specs.run.Source.{or_null}

-- the code object of each block, and whether the block is that of a generator expression, which begins with its first iterator (6.2.8)
pub record CodeBlocks (V : Type 0) : Type 0 where
  pub object : BlockId → CodeObject V
  pub iterates : BlockId → Bool

module _ {V : Type 0} (code : CodeBlocks V) where
  abbrev pub start_of : BlockId → Option V → State V
  start_of b i = if code.iterates b then slots.start_generator (or_null (code.object b).null i) else slots.start

  abbrev pub machine : Machine (State V) V
  machine = record {
    start = start_of;
    turn = λ b t. slots.turn (code.object b) t;
    jump = λ b t l. refuses not_at_line;
    active = active_at;
    destination = λ b t. 0;
  }

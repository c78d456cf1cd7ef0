-- When the activations of a run have the names of their blocks, and functions a cell for each free name of theirs (Language Reference 4.2.2, 8.7, 8.8).
use Rattle.std.specs.Prelude.{◌≡◌, false, List, ◌++◌, length}
use Rattle.std.specs.List.{AllByRecursion}
use Rattle.std.specs.Map.{keys_of}
use Rattle.pt_tree.specs.Syntax.{Name}
use Rattle.pt_heap.specs.declared.value.Value.{Value}
use Rattle.pt_heap.specs.declared.object.Object.{Object}
use Rattle.pt_heap.specs.declared.object.Object.TheVariants as object
use Rattle.pt_bind.specs.NameSets.{is_among}
use Rattle.sem_run.specs.run.Machine.{BlockId}
use Rattle.sem_rows.specs.pt_host.World.{Names, World, Stores, CodeFacts, Program}
use Rattle.sem_rows.specs.pt_host.Calls.{block_of}
use Rattle.pt_bare_runs.specs.Strides as bare
use Rattle.pt_bare_runs.specs.Strides.{Waiting}

-- an activation has a value, or none, for each local name of its block, and a cell for each name in a cell and each free one; names that the body of a class
-- binds by their texts are no local ones, and stand behind them
pub record HasItsNames (facts : CodeFacts) (ns : Names) : Type 0 where
  pub of_class : List Name
  pub values : keys_of ns.values ≡ facts.locals ++ of_class
  pub apart : AllByRecursion (λ x. is_among facts.locals x ≡ false) of_class
  pub cells : keys_of ns.cells ≡ facts.cells ++ facts.frees

-- a function takes along a cell for each free name of its block
abbrev pub TakesCells : Program → Object → Type 0
TakesCells program (object.Function f) = length f.cells ≡ length (program.facts (block_of f)).frees
TakesCells program o = Unit {0}

abbrev pub AllTakeCells : Program → List Object → Type 0
AllTakeCells program h = AllByRecursion (TakesCells program) h

-- so of all that an activation of a block reads and changes
pub record StoresHaveNames (program : Program) (b : BlockId) (st : Stores) : Type 0 where
  pub names : HasItsNames (program.facts b) st.names
  pub functions : AllTakeCells program st.world.heap

-- and of all activations of a run
abbrev pub WaitingHasNames : {S : Type 0} → Program → Waiting S Names Value World → Type 0
WaitingHasNames program o = HasItsNames (program.facts o.activation.frame.block) o.activation.frame.names

pub record RunHasNames {S : Type 0} (program : Program) (s : bare.State S Names Value World) : Type 0 where
  pub here : HasItsNames (program.facts s.here.frame.block) s.here.frame.names
  pub waiting : AllByRecursion (WaitingHasNames program) s.waiting
  pub functions : AllTakeCells program s.world.heap

-- When tables are those of a program and its code (Library Reference, "inspect": code objects).
use Rattle.std.specs.Prelude.{◌≡◌, ℕ, List, [], Bool, false, if◌then◌else◌, slice_index_or}
use Rattle.std.specs.List.{IsDistinct}
use Rattle.std.specs.Str.{bytes_eq}
use Rattle.pt_tree.specs.Syntax.{Name}
use Rattle.pt_heap.specs.declared.value.Value.{Value}
use Rattle.pt_heap.specs.declared.value.Value.TheVariants as value
use Rattle.sem_control.specs.control.Turn as T
use Rattle.sem_control.specs.control.Turn.{Scope}
use Rattle.sem_code.specs.slots.CodeObject.{Pool}
use Rattle.sem_run.specs.run.Machine.{BlockId}
use Rattle.pt_builtins.specs.pt_host.World.{CodeFacts, Program}
use Rattle.pt_builtins.specs.pt_host.Answers.{constant_value}
use Rattle.pt_builtins.specs.pt_host.Builtins.{meaning}
use Rattle.sem_code_machine.specs.code_machine.CodeBlocks.{CodeBlocks}
use Rattle.pt_machine_state.specs.pt_code_facts.sem_rows.heap_rows.Leads.{HasHeapExtras}
use Rattle.pt_machine_state.specs.pt_code_facts.sem_rows.variables.Numbers.{KnowsNames, HasDifferentCells}
use Rattle.pt_machine_state.specs.pt_code_facts.Facts.{KnowsBlocks}
use Rattle.pt_builtins.specs.declared.BuiltinLookup.{BuiltinLookup}
use Rattle.pt_builtins.specs.declared.BuiltinLookup.TheVariants as lookup
use Rattle.pt_builtins.specs.Lookups.{builtin_view}
use Rattle.pt_machine_state.specs.Blocks.{AreBlocksOf}
use Rattle.pt_code_tables.specs.declared.tables.CodeTables.{CodeTables}
use Rattle.pt_code_tables.specs.declared.tables.PoolTables.{PoolTables}

-- what tables have for a number; past the end None, the empty text, nothing that a name means, no texts, no cells, no class

abbrev pub constant_in : PoolTables → ℕ → Value
constant_in tables k = slice_index_or tables.constants k value.None

abbrev pub text_in : PoolTables → ℕ → Name
text_in tables t = slice_index_or tables.texts t []

abbrev pub builtin_in : PoolTables → ℕ → BuiltinLookup
builtin_in tables t = slice_index_or tables.builtins t lookup.Unbound

abbrev pub list_in : PoolTables → ℕ → List Name
list_in tables l = slice_index_or tables.lists l []

abbrev pub capture_in : PoolTables → ℕ → ℕ
capture_in tables b = slice_index_or tables.captures b 0

abbrev pub is_class_in : PoolTables → ℕ → Bool
is_class_in tables b = slice_index_or tables.classes b false

-- those of the script's blocks, and of hidden ones
abbrev pub pool_in : CodeTables → (hidden : Bool) → PoolTables
pool_in tables hidden = if hidden then tables.prelude else tables.script

-- how a block finds its names (4.2.2)
abbrev pub scope_by : (in_class : Bool) → Scope
scope_by b = if b then T.of_class else T.global

-- they say what the numbers in operands of a block's code name
pub record IsPoolIn (program : Program) (tables : PoolTables) (pool : Pool) : Type 0 where
  pub constants : (k : ℕ) → constant_value program (pool.constant k) ≡ constant_in tables k
  pub texts : (t : ℕ) → pool.text t ≡ text_in tables t
  pub lists : (l : ℕ) → pool.texts l ≡ list_in tables l
  pub captures : (b : ℕ) → pool.captures b ≡ capture_in tables b

-- the local names of a block are different, and so are its cell names, and its free ones (4.2.2)
pub record HasDifferentNames (facts : CodeFacts) : Type 0 where
  pub locals : IsDistinct bytes_eq facts.locals
  pub cells : HasDifferentCells facts

pub record AreTablesOf (program : Program) (code : CodeBlocks Value) (tables : CodeTables) : Type 0 where
  pub blocks : AreBlocksOf program code tables.blocks
  pub facts : KnowsBlocks program tables.facts
  pub pools : (b : BlockId) → IsPoolIn program (pool_in tables b.hidden) (code.object b).pool
  pub names : (b : BlockId) → KnowsNames (code.object b) (program.facts b)
  pub are_different : (b : BlockId) → HasDifferentNames (program.facts b)
  pub extras : (b : BlockId) → HasHeapExtras (code.object b)
  pub scopes : (b : BlockId) → (code.object b).pool.name_scope ≡ scope_by (is_class_in (pool_in tables b.hidden) b.number)
  pub builtins : (hidden : Bool) (t : ℕ) → builtin_view (builtin_in (pool_in tables hidden) t) ≡ meaning hidden (text_in (pool_in tables hidden) t)

-- Names of an activation by their numbers: the value of a local name, and the cell of a name that has one, stand at the place of the name in the
-- block's list (Language Reference 4.2.2; Library Reference, "dis").
use Rattle.std.specs.Prelude.{◌≡◌, ℕ, ◌<◌, ◌≤◌, List, [], ◌++◌, length, nat_lt, slice_get, slice_set, slice_index_or, Option, if◌then◌else◌}
use Rattle.std.specs.List.{IsDistinct}
use Rattle.std.specs.Map.{lookup}
use Rattle.std.specs.Str.{bytes_eq}
use Rattle.indexmap.specs.IndexMap.{insert_entry}
use Rattle.pt_tree.specs.Syntax.{Name}
use Rattle.sem_control.specs.control.Turn as T
use Rattle.sem_control.specs.control.Turn.{Variable}
use Rattle.pt_heap.specs.declared.value.Value.{Value}
use Rattle.pt_names.specs.Names.{Named}
use Rattle.sem_code.specs.slots.CodeObject.{CodeObject, named}
use Rattle.pt_host.specs.World.{CodeFacts}
use Rattle.pt_host.specs.Variables.{number_in}
use Rattle.sem_rows.specs.heap_rows.Views.{names_in}

abbrev pub local_name : CodeFacts → ℕ → Name
local_name facts n = slice_index_or facts.locals n []

-- the cell names are counted first, and then the free ones
abbrev pub cell_name : CodeFacts → ℕ → Name
cell_name facts n = slice_index_or (facts.cells ++ facts.frees) n []

abbrev pub cell_variable : CodeFacts → ℕ → Variable
cell_variable facts n = named (if nat_lt n (length facts.cells) then T.cell else T.free) (cell_name facts n)

-- the numbers in operands of code name what stands at them in the lists of the block
pub record KnowsNames (code : CodeObject Value) (facts : CodeFacts) : Type 0 where
  pub local : (n : ℕ) → code.pool.local n ≡ local_name facts n
  pub cell : (n : ℕ) → code.pool.cell n ≡ cell_variable facts n

-- the cell names of a block are different, and so are its free names
abbrev pub HasDifferentCells : CodeFacts → Type 0
HasDifferentCells facts = IsDistinct bytes_eq facts.cells × IsDistinct bytes_eq facts.frees

-- the local names of the block are different, and an activation has a place for each; so has it for cell and free names
pub record HasLocals (facts : CodeFacts) (locals : List (Option Value)) : Type 0 where
  pub are_different : IsDistinct bytes_eq facts.locals
  pub count : length facts.locals ≤ length locals

pub record HasCells (facts : CodeFacts) (cells : List ℕ) : Type 0 where
  pub are_different : HasDifferentCells facts
  pub count : length (facts.cells ++ facts.frees) ≤ length cells

-- what is read and written by a name is what is read and written at its number; a free name is given no other cell
pub record LocalStands (facts : CodeFacts) (locals : List (Option Value)) (cells : List ℕ) (of_class : Named) (n : ℕ) : Type 0 where
  pub read : lookup (bytes_eq (local_name facts n)) (names_in facts locals cells of_class).values ≡ slice_get locals n
  pub written : (v : Option Value)
      → insert_entry bytes_eq (names_in facts locals cells of_class).values (local_name facts n) v ≡ (names_in facts (slice_set locals n v) cells of_class).values

pub record CellStands (facts : CodeFacts) (locals : List (Option Value)) (cells : List ℕ) (of_class : Named) (n : ℕ) : Type 0 where
  pub read : number_in (cell_variable facts n).scope (cell_name facts n) (names_in facts locals cells of_class) ≡ slice_get cells n
  pub written : n < length facts.cells → (c : ℕ)
      → insert_entry bytes_eq (names_in facts locals cells of_class).cells (cell_name facts n) c ≡ (names_in facts locals (slice_set cells n c) of_class).cells

abbrev pub LocalsStand : Type 0
LocalsStand = (facts : CodeFacts) (locals : List (Option Value)) (cells : List ℕ) (of_class : Named) (n : ℕ)
    → HasLocals facts locals → n < length facts.locals → LocalStands facts locals cells of_class n

abbrev pub CellsStand : Type 0
CellsStand = (facts : CodeFacts) (locals : List (Option Value)) (cells : List ℕ) (of_class : Named) (n : ℕ)
    → HasCells facts cells → n < length (facts.cells ++ facts.frees) → CellStands facts locals cells of_class n

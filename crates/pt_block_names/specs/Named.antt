-- How a block names its variables, as control knows it, and the names that it has in code.
use Rattle.std.specs.Prelude.{ℕ, List, [], map, slice_get, Option, Some, None}
use Rattle.pt_base.specs.declared.numbers.ActNo.{ActNo}
use Rattle.pt_scopes.specs.declared.scope.Scope.{Scope}
use Rattle.pt_tree.specs.Blocks.{no_params}
use Rattle.pt_tree.specs.declared.expression.Parameters.{Parameters}
use Rattle.pt_tree.specs.Fold.{parameters_of}
use Rattle.pt_tree.specs.Syntax.{Params}
use Rattle.sem_control.specs.control.Turn as T
use Rattle.sem_control.specs.control.Turn.{Around}
use Rattle.pt_symbols.specs.sem_names.Around.{Names, around_by}
use Rattle.pt_symbols.specs.sem_names.BlockNames.{cell_names, free_names, local_names}
use Rattle.pt_symbols.specs.sem_names.Naming.{as_control}
use Rattle.pt_symbols.specs.sem_names.Script.{Naming, functions_of}
use Rattle.pt_block_names.specs.declared.block_names.BlockNames.{BlockNames}
use Rattle.pt_block_names.specs.declared.lists.NameLists.{NameLists}
use Rattle.pt_block_names.specs.declared.variable.Variable.{Variable}

abbrev pub scope_of : Scope → T.Scope
scope_of s = as_control s

abbrev pub variable_of : Variable → T.Variable
variable_of v = record { scope = scope_of v.scope; name = v.name }

abbrev pub numbers : List ActNo → List ℕ
numbers within = map (λ a. a.0) within

-- what control knows of the block; the value None is given
abbrev pub around : {V : Type 0} → (null : V) → BlockNames → Around V
around v b = around_by v b.names b.block.0

-- a block that takes no arguments has none
abbrev pub params_of : Option Parameters → Params
params_of None = no_params
params_of (Some p) = parameters_of p

abbrev pub lists_of : NameLists → Names
lists_of n = record { locals = n.locals; cells = n.cells; frees = n.frees }

abbrev pub names_in_region : Naming → (block : ℕ) → Params → (region : Option ℕ) → Names
names_in_region g b ps None = record { locals = []; cells = []; frees = [] }
names_in_region g b ps (Some h) = record {
  locals = local_names g ps b h;
  cells = cell_names g.places (functions_of g) b h;
  frees = free_names g.places (functions_of g) h;
}

-- the names of a block with such parameters
abbrev pub names_with : Naming → (block : ℕ) → Params → Names
names_with g b ps = names_in_region g b ps (slice_get g.places.blocks b)

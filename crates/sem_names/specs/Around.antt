-- What the control of each block of a script depends on: which variable each name is, and what the blocks in it take along.
use Rattle.std.specs.Prelude.{ℕ, List, [], slice_get, Option, Some, None}
use Rattle.pt_tree.specs.Blocks.{Block, blocks_script}
use Rattle.pt_tree.specs.Syntax.{Name, Stms}
use Rattle.sem_control.specs.control.Turn.{Around, Variable}
use Rattle.sem_names.specs.BlockNames.{captured_at, cell_names, free_names, local_names}
use Rattle.sem_names.specs.Naming.{variable_in}
use Rattle.sem_names.specs.Script.{Naming, functions_of, naming_script, spelled_in}

abbrev pub captured_in : Naming → (block : ℕ) → List Variable
captured_in g c = captured_at g.places (functions_of g) (slice_get g.places.blocks c)

-- that of the block with a number
abbrev pub around_by : {V : Type 0} → (null : V) → Naming → (block : ℕ) → Around V
around_by v g b = record {
  null = v;
  variable = λ within x. variable_in g b within (spelled_in g b x);
  spelled = spelled_in g b;
  captured = captured_in g;
}

abbrev pub around_of : {V : Type 0} → (null : V) → Stms → (block : ℕ) → Around V
around_of v ss b = around_by v (naming_script ss) b

-- the names of a block in code
pub record Names : Type 0 where
  pub locals : List Name
  pub cells : List Name
  pub frees : List Name

abbrev pub names_at : Naming → (block : ℕ) → Option Block → (region : Option ℕ) → Names
names_at g b (Some k) (Some h) = record {
  locals = local_names g k.params b h;
  cells = cell_names g.places (functions_of g) b h;
  frees = free_names g.places (functions_of g) h;
}
names_at g b k h = record { locals = []; cells = []; frees = [] }

abbrev pub names_of : Stms → (block : ℕ) → Names
names_of ss b =
    let g = naming_script ss in
    names_at g b (slice_get (blocks_script ss) b) (slice_get g.places.blocks b)

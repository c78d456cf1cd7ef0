-- What the names of the blocks of a script depend on.
use Rattle.std.specs.Prelude.{ℕ, Bool, true, false, List, [], ◌∷◌, map, slice_get, Option, Some, None, if◌then◌else◌}
use Rattle.std.specs.Option.{unwrap_or}
use Rattle.pt_scopes.specs.Mentions.{places_script}
use Rattle.pt_scopes.specs.Names.{mangled}
use Rattle.pt_scopes.specs.Places.{Places}
use Rattle.pt_tree.specs.Blocks.{Block, Code, of_module, of_function, of_class, of_lambda, of_generator, blocks_script}
use Rattle.pt_tree.specs.Syntax.{Name, Stms}
use Rattle.sem_names.specs.declared.block_shape.BlockShape.{BlockShape}
use Rattle.sem_names.specs.Nexts.{nexts_script}

-- the places at which names are mentioned; the blocks; and for each region the number of its first Next, if it is a comprehension
pub record Naming : Type 0 where
  pub places : Places
  pub blocks : List BlockShape
  pub nexts : List (Option ℕ)

abbrev pub is_function : Code → Bool
is_function (of_module ss) = false
is_function (of_function ss) = true
is_function (of_class ss) = false
is_function (of_lambda l e) = true
is_function (of_generator l e fl t cs) = false

-- a block in the body of a class, whose name is empty outside of classes
abbrev pub shape_in : (class : Name) → Block → BlockShape
shape_in c b = record { class = unwrap_or b.class c; is_function = is_function b.code }

abbrev pub naming_script : Stms → Naming
naming_script ss = record { places = places_script ss; blocks = map (shape_in []) (blocks_script ss); nexts = nexts_script ss }

abbrev pub class_name_of : Option BlockShape → Name
class_name_of None = []
class_name_of (Some b) = b.class

-- a private name has the name of the innermost class around its block
abbrev pub spelled_in : Naming → (block : ℕ) → Name → Name
spelled_in g b x = mangled (class_name_of (slice_get g.blocks b)) x

-- the regions of the functions among blocks
abbrev pub functions_among : List BlockShape → (regions : List ℕ) → List ℕ
functions_among (b ∷ bs) (r ∷ rs) = if b.is_function then r ∷ functions_among bs rs else functions_among bs rs
functions_among bs rs = []

abbrev pub functions_of : Naming → List ℕ
functions_of g = functions_among g.blocks g.places.blocks

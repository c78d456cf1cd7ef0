-- The blocks of a script are numbered as in its tree: what the regions that are blocks are, in their order.
use Rattle.std.specs.Prelude.{List, [], ◌∷◌}
use Rattle.pt_scopes.specs.declared.region.Kind.{Kind}
use Rattle.pt_scopes.specs.declared.region.Kind.TheVariants.{Module, Function, Class, Comprehension}
use Rattle.pt_scopes.specs.declared.region.Region.{Region}
use Rattle.pt_tree.specs.Blocks.{Block, Code, of_module, of_function, of_class, of_lambda, of_generator}

abbrev pub with_kind : Kind → List Kind → List Kind
with_kind Module ks = Module ∷ ks
with_kind Function ks = Function ∷ ks
with_kind Class ks = Class ∷ ks
with_kind Comprehension ks = ks

abbrev pub block_kinds : List Region → List Kind
block_kinds [] = []
block_kinds (r ∷ rs) = with_kind r.kind (block_kinds rs)

abbrev pub code_kind : Code → Kind
code_kind (of_module ss) = Module
code_kind (of_function ss) = Function
code_kind (of_class ss) = Class
code_kind (of_lambda l e) = Function
code_kind (of_generator l e fl t cs) = Function

abbrev pub kind_of : Block → Kind
kind_of b = code_kind b.code

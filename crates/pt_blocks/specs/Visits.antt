-- The blocks of a script as they are visited.
use Rattle.std.specs.Prelude.{ℕ, List, [], ◌∷◌, ◌++◌, map, None, codes}
use Rattle.pt_tree.specs.declared.expression.Clause.{Clause}
use Rattle.pt_tree.specs.Syntax.{Name, Exp, Params, Stms}
use Rattle.pt_tree.specs.Fold.{ClauseOf, all_of, behind, clause_of}
use Rattle.pt_tree.specs.Blocks.{Block, Code, of_module, of_function, of_class, of_lambda, of_generator, no_params, blocks_all, blocks_exp, blocks_target}

-- a block without the class around it, which isn't told
abbrev pub without_class : Block → Block
without_class b = record b { class = None }

-- what a visitor is behind blocks, each of which makes something of it
abbrev pub behind_blocks : {S : Type 0} → (behind : Block → S → S) → List Block → S → S
behind_blocks f [] s = s
behind_blocks f (b ∷ bs) s = behind_blocks f bs (f (without_class b) s)

abbrev a_block : Name → (first_line : ℕ) → Params → Code → Block
a_block x l ps c = record { name = x; first_line = l; class = None; params = ps; code = c }

abbrev pub module_block : Stms → Block
module_block ss = a_block (codes "<module>") 1 no_params (of_module ss)

abbrev pub function_block : Name → (first_line : ℕ) → Params → Stms → Block
function_block x l ps ss = a_block x l ps (of_function ss)

abbrev pub class_block : Name → (first_line : ℕ) → Stms → Block
class_block x l ss = a_block x l no_params (of_class ss)

abbrev pub lambda_block : (line : ℕ) → Params → Exp → Block
lambda_block l ps e = a_block (codes "<lambda>") l ps (of_lambda l e)

abbrev pub generator_block : (line : ℕ) → Exp → ClauseOf → List Clause → Block
generator_block l e c cs =
    a_block (codes "<genexpr>") l no_params (of_generator l e c.line c.target (behind c (map clause_of cs)))

-- the blocks of a clause
abbrev pub blocks_clause : ClauseOf → List Block
blocks_clause c = blocks_target c.target ++ blocks_exp c.iterable ++ blocks_all (all_of c.conditions)

-- The lines and the names of a script that a report is on.
use Rattle.std.specs.Prelude.{List, [], ◌∷◌, ◌++◌, map, flat_map, Option, Some, None}
use Rattle.pt_base.specs.declared.numbers.Line.{Line}
use Rattle.pt_tree.specs.declared.act.ActRow.{ActRow}
use Rattle.pt_tree.specs.Syntax.{Name, Stms}
use Rattle.pt_tree.specs.Blocks.{Block, acts_of, blocks_script}

abbrev pub act_line : ActRow → Line
act_line act = act.line

abbrev pub if_any : Option ActRow → List ActRow
if_any (Some act) = act ∷ []
if_any None = []

-- the line of each act of each block, also of acts that never run
abbrev pub block_lines : Block → List Line
block_lines b = map act_line (acts_of b)

abbrev pub lines_of : Stms → List Line
lines_of ss = flat_map block_lines (blocks_script ss)

-- the name of each block
abbrev pub block_name : Block → Name
block_name b = b.name

abbrev pub names_of : Stms → List Name
names_of ss = map block_name (blocks_script ss)

-- both, of the blocks so far
pub record Parts : Type 0 where
  pub lines : List Line
  pub names : List Name

abbrev pub with_block : Block → Parts → Parts
with_block b r = record { lines = r.lines ++ block_lines b; names = r.names ++ block_name b ∷ [] }

-- What is said of scripts as the grammar forms them.
use Rattle.std.specs.Prelude.{◌≡◌, Some}
use Rattle.pt_tree.specs.Syntax as language
use Rattle.pt_wide.specs.Syntax as wide
use Rattle.pt_refine_expr.specs.StatementNarrow.{narrow_script}
use Rattle.law_compile.specs.formed.Formed as narrow
use Rattle.law_compile.specs.formed_scripts.Wide.{StmsFormed}

abbrev pub ScriptsAreFormed : Type 0
ScriptsAreFormed = (script : wide.Stms) (tree : language.Stms) → StmsFormed script → narrow_script script ≡ Some tree → narrow.StmsFormed tree

-- Which statement is a documentation string, where it stands first in a function.
use Rattle.std.specs.Prelude.{Bool, false}
use Rattle.pt_tree.specs.Blocks.{is_string}
use Rattle.pt_tree.specs.Syntax as S
use Rattle.pt_tree.specs.Syntax.{Stm}

abbrev pub is_docstring : Stm → Bool
is_docstring (S.expr l e) = is_string e
is_docstring s = false

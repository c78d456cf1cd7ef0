use Rattle.std.proofs.Common.{sym, ◌∙◌}
use Rattle.pt_block_shapes.proofs.outline.Docstrings.{is_docstring-expression, is_docstring-other}
use Rattle.pt_block_shapes.proofs.outline.statements.is_docstring.Goals as goal

pub returns-in_default : goal.returns-in_default
returns-in_default c = sym (is_docstring-other c.args.s.now c.in_default.not-Expr)

pub returns : goal.returns
returns c = c.is_text.ensures ∙ sym (is_docstring-expression c.args.s.now _ c.in-Expr.is)

use Rattle.std.proofs.Common.{ap, sym, ◌∙◌}
use Rattle.pt_tree.specs.Blocks.{is_text}
use Rattle.pt_block_shapes.proofs.outline.Docstrings.{is_string-constant, is_string-other, is_text-other}
use Rattle.pt_block_shapes.proofs.outline.statements.is_text.Goals as goal

pub returns-in_default : goal.returns-in_default
returns-in_default c = sym (is_string-other c.args.e.now c.in_default.not-Constant)

pub returns-in-Str : goal.returns-in-Str
returns-in-Str c = sym (is_string-constant c.args.e.now _ c.in-Constant.is ∙ ap is_text c.in-Str.is)

pub returns-in_default-matches : goal.returns-in_default-matches
returns-in_default-matches c = sym (is_string-constant c.args.e.now _ c.in-Constant.is ∙ is_text-other _ c.in_default-matches.not-Str)

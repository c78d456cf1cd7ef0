use Rattle.std.proofs.Common.{◌∙◌, arith}
use Rattle.std.proofs.lemmas.Grind.{common_steps}
use Rattle.pt_tree.specs.StatementFold.{script_of}
use Rattle.pt_compile.proofs.Blocks.{code_from_nothing}
use Rattle.pt_compile.proofs.compiler.compile.Goals as goal

pub returns : goal.returns
returns c = (
  c.into_code-code.ensures ∙ code_from_nothing (script_of c.args.script.now) c.new-compiler.result _ (grind (arith, common_steps)) c.in_ok-visit.ensures,
  c.in_ok-check_numbers.ensures,
)

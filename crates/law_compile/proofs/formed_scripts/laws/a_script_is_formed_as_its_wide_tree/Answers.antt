use Rattle.law_compile.proofs.formed_scripts.Statements.{scripts_are_formed}
use Rattle.law_compile.proofs.formed_scripts.laws.a_script_is_formed_as_its_wide_tree.Goals as goal

pub returns : goal.returns
returns c = scripts_are_formed

use Rattle.law_loading.proofs.code_program.Operands.{built_code_names_its_blocks, run_begins_with_names}
use Rattle.law_loading.proofs.code_program.laws.built_code_names_its_blocks.Goals as goal

pub returns-clause-operands : goal.returns-clause-operands
returns-clause-operands c = built_code_names_its_blocks

pub returns-clause-begins : goal.returns-clause-begins
returns-clause-begins c = run_begins_with_names

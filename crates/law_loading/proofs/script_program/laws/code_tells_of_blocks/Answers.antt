use Rattle.law_loading.proofs.script_program.Facts.{code_tells, locals_are_different}
use Rattle.law_loading.proofs.script_program.laws.code_tells_of_blocks.Goals as goal

pub returns-clause-facts : goal.returns-clause-facts
returns-clause-facts c = code_tells

pub returns-clause-locals : goal.returns-clause-locals
returns-clause-locals c = locals_are_different

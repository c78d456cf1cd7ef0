use Rattle.law_loading.proofs.code_program.Runs.{built_code_is_never_stuck}
use Rattle.law_loading.proofs.code_program.laws.built_code_is_never_stuck.Goals as goal

pub returns : goal.returns
returns c = built_code_is_never_stuck

use Rattle.law_loading.proofs.code_names.Blocks.{runs_with_names}
use Rattle.law_loading.proofs.code_names.laws.supported_code_runs_with_its_names.Goals as goal

pub returns : goal.returns
returns c = runs_with_names

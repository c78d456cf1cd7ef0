use Rattle.law_loading.proofs.code_names.Blocks.{code_names_blocks}
use Rattle.law_loading.proofs.code_names.laws.supported_code_names_its_blocks.Goals as goal

pub returns : goal.returns
returns c = code_names_blocks

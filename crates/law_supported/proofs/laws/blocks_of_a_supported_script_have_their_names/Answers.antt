use Rattle.law_supported.proofs.Written.{blocks_have_names}
use Rattle.law_supported.proofs.laws.blocks_of_a_supported_script_have_their_names.Goals as goal

pub returns : goal.returns
returns c = blocks_have_names

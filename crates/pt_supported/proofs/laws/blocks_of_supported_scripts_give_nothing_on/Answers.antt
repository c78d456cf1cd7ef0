use Rattle.pt_supported.proofs.Silent.{built_blocks_give_nothing_on}
use Rattle.pt_supported.proofs.laws.blocks_of_supported_scripts_give_nothing_on.Goals as goal

pub returns : goal.returns
returns c = λ ss built n block at. built_blocks_give_nothing_on ss built n block at

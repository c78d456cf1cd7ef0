use Rattle.pt_transfers.proofs.blocks.block_of.Goals as goal

pub returns : goal.returns
returns c = c.at.ensures

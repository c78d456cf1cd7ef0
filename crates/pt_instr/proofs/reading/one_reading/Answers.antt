use Rattle.pt_instr.proofs.Codec.{one_front}
use Rattle.pt_instr.proofs.reading.one_reading.Goals as goal

pub returns : goal.returns
returns c = one_front

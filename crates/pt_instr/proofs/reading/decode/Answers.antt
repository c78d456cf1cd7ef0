use Rattle.std.proofs.Common.{Some, None, ◌∙◌, ap}
use Rattle.pt_instr.specs.Decoding.{front_of}
use Rattle.pt_instr.proofs.Codec.{decode_only}
use Rattle.pt_instr.proofs.reading.decode.Goals as goal

pub returns-in-Some-clause-only : goal.returns-in-Some-clause-only
returns-in-Some-clause-only c = λ i end fit stands. decode_only c.args.bytes.now c.args.at i end (Some (c.in-Some.instr, c.in-Some.width)) (c.in-Some.ensures.exact ∙ ap front_of c.behind.ensures) fit stands

pub returns-in-None-clause-only : goal.returns-in-None-clause-only
returns-in-None-clause-only c = λ i end fit stands. decode_only c.args.bytes.now c.args.at i end None (c.in-None.ensures.exact ∙ ap front_of c.behind.ensures) fit stands

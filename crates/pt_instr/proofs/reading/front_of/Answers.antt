use Rattle.std.proofs.Common.{◌∙◌, ap, arith, length}
use Rattle.pt_instr.specs.Encoding.{Code}
use Rattle.pt_instr.proofs.Codec.{front_read}
use Rattle.pt_instr.proofs.reading.front_of.Goals as goal

pub returns-else-rest-width-clause-found : goal.returns-else-rest-width-clause-found
returns-else-rest-width-clause-found c =
    front_read c.args.bytes.now c.in-Some.number.now c.in-Some.rest.now c.behind-second.result.now c.behind-third.result.now c.word_of.result c.word_of-2.result c.word_of-3.result c.len-width.result c.in-Some-instr_of.instr
    (λ i. omega (arith, c.type_inv.bytes i)) c.in-Some.ensures.cases.0 c.behind-second.ensures c.behind-third.ensures c.word_of.ensures c.word_of-2.ensures c.word_of-3.ensures
    c.in-Some-instr_of.ensures.number c.in-Some-instr_of.ensures.operands
    (c.len-width.ensures ∙ ap (λ (k : Code). length k.operands) c.coded.ensures) (omega arith)

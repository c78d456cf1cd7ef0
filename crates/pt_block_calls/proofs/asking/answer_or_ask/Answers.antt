use Rattle.std.proofs.lemmas.Result.{IfOk-weaker}
use Rattle.pt_block_calls.proofs.AskLemmas.{helper_answered}
use Rattle.pt_block_calls.proofs.asking.answer_or_ask.Goals as goal

pub returns-in-Help-clause-row : goal.returns-in-Help-clause-row
returns-in-Help-clause-row c = IfOk-weaker c.ask_with.result _ _
    (λ p done. helper_answered c.args.op c.args.answer c.args.blocks.now c.args.slots.now c.args.cells.now c.args.heap.now c.in-Help.helper c.in-Help.operands
    c.in-Help.inverted c.as_slice-operands.result.now c.given_for-given.result p c.ask_with.new.cells c.ask_with.new.heap c.in-Help.is c.as_slice-operands.ensures
    c.given_for-given.ensures (done c.args.slots.now))
    c.ask_with.ensures

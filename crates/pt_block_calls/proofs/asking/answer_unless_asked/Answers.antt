use Rattle.pt_block_calls.proofs.AskLemmas.{asked_for}
use Rattle.pt_block_calls.proofs.asking.answer_unless_asked.Goals as goal

pub returns-in_ok-ask_with-in-Help : goal.returns-in_ok-ask_with-in-Help
returns-in_ok-ask_with-in-Help c =
    asked_for c.args.op c.args.operands.now c.args.given c.args.blocks.now c.args.cells.now c.args.heap.now c.in_ok-answer.answer c.in-Help.helper
    c.in-Help.operands c.as_slice-operands.result.now c.in-Help.inverted c.in_ok-ask_with-in-Help.field-0 c.ask_with.new.cells c.prim.new.heap
    c.ask_with.new.heap c.in-Help.is c.in_ok-answer.ensures.answer c.as_slice-operands.ensures c.in_ok-answer.ensures.heap c.in_ok-ask_with-in-Help.ensures

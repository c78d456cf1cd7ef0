use Rattle.std.proofs.lemmas.Result.{IfOk-weaker}
use Rattle.pt_block_calls.proofs.AskLemmas.{asked_so}
use Rattle.pt_block_calls.proofs.asking.ask_with.Goals as goal

pub returns-in-Some : goal.returns-in-Some
returns-in-Some c = IfOk-weaker c.ask.result _ _
    (λ p done slots. asked_so c.args.asked c.args.operands.now c.args.given c.args.blocks.now slots c.args.cells.now c.args.heap.now c.in_ok-args.field-0
    c.in-Some.args c.helper_arguments.new.heap c.function_of.result p c.ask.new.cells c.ask.new.heap c.in_ok-args.ensures c.in-Some.is c.function_of.ensures
    (done slots))
    c.ask.ensures

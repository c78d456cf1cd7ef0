use Rattle.std.proofs.Common.{◌∙◌, ap, sym}
use Rattle.std.specs.Option.{option_copied}
use Rattle.std.proofs.lemmas.Result.{IfOk-weaker}
use Rattle.pt_block_calls.proofs.BlockLemmas.{bound_called, function_called_at}
use Rattle.pt_block_calls.proofs.blocks.call_function.Goals as goal

pub returns-in_ok-bare-in-Some : goal.returns-in_ok-bare-in-Some
returns-in_ok-bare-in-Some c = IfOk-weaker c.call_block.result _ _
    (λ p h slots. function_called_at c.args.blocks.now c.args.args.now c.args.given slots c.args.cells.now c.args.heap.now c.args.callee c.in-Some.function.now
    p c.call_block.new.cells c.call_block.new.heap (sym c.function_of.ensures ∙ ap option_copied c.in-Some.is)
    (bound_called c.args.blocks.now c.args.args.now c.args.given slots c.args.cells.now c.args.heap.now c.in-Some.function.now c.in_ok-bare-in-Some.bare
    c.get-facts.result.now c.bind-bound.result p c.call_block.new.cells c.call_block.new.heap c.in_ok-bare-in-Some.ensures c.get-facts.ensures
    c.bind-bound.ensures.ok c.bind-bound.ensures.err (h slots)))
    c.call_block.ensures

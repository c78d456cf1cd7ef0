use Rattle.std.proofs.Common.{◌≤◌, length, subst}
use Rattle.pt_supported_code.proofs.BlockLemmas.{is_read, read_at, built_so_far, built_to_the_end}
use Rattle.pt_supported_code.proofs.built.unbuilt.Goals as goal

pub is_built-requires-clause-read : goal.is_built-requires-clause-read
is_built-requires-clause-read c =
    is_read c.args.code.now c.requires c.loop-block.block-index c.block-item.result
    (read_at c.as_slice-block-items.result.now c.args.code.now.blocks c.loop-block.block-index c.block-item.result c.as_slice-block-items.ensures c.loop-block-test.true c.block-item.is)

pub loop-block-preserved : goal.loop-block-preserved
loop-block-preserved c =
    built_so_far c.args.code.now c.loop-block.block-index c.block-item.result
    (read_at c.as_slice-block-items.result.now c.args.code.now.blocks c.loop-block.block-index c.block-item.result c.as_slice-block-items.ensures c.loop-block-test.true c.block-item.is)
    c.loop-block.invariant (let h = c.in_ok-is_built.ensures in h.0 c.if-not-branch.false)

pub returns : goal.returns
returns c = built_to_the_end c.args.code.now c.loop-block.block-index (subst (λ bs. length bs ≤ c.loop-block.block-index) c.as_slice-block-items.ensures c.loop-block-test.false) c.loop-block.invariant

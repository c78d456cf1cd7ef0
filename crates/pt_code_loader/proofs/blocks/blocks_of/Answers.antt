use Rattle.pt_code_loader.proofs.BlockLemmas.{one_more_taken}
use Rattle.pt_code_loader.proofs.blocks.blocks_of.Goals as goal

pub loop-block-preserved : goal.loop-block-preserved
loop-block-preserved c =
    one_more_taken c.args.code.now c.args.blocks.now c.loop-block.block-index c.block-item.result c.loop-block.loaded c.in_ok-one.one c.push.new.self
    c.loop-block-test.true c.block-item.is c.loop-block.invariant c.in_ok-one.ensures c.in_ok-push.ensures.ok

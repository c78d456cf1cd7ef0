use Rattle.pt_takers.proofs.ChainLemmas.{chain_more}
use Rattle.pt_takers.proofs.chains.chain.Goals as goal

pub loop-at-preserved : goal.loop-at-preserved
loop-at-preserved c = chain_more c.args.side c.args.rows.now c.loop-at.at _ c.loop-at-test.true c.loop-at.chain.items c.add_lower.new.chain.items
    c.loop-at.invariant c.in_ok-add_lower.ensures

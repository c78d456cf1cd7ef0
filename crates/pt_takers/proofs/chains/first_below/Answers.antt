use Rattle.std.proofs.Common.{◌∙◌}
use Rattle.pt_takers.proofs.ChainLemmas.{halving_ends}
use Rattle.pt_takers.proofs.Lists.{lent}
use Rattle.pt_takers.proofs.chains.first_below.Goals as goal

pub returns : goal.returns
returns c falls = c.copied.ensures ∙ (lent c.args.chain.now c.loop-low.low c.get.result c.get.ensures.lookup.0 c.get.ensures.lookup.1
    ∙ halving_ends c.args.side c.args.bound c.args.chain.now c.loop-low.low c.loop-low.high c.loop-low.invariant c.loop-low-test.false falls)

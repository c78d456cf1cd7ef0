use Rattle.std.proofs.Common.{arith}
use Rattle.pt_row_joins.proofs.Loops.{chain_more, chain_ends}
use Rattle.pt_row_joins.proofs.rows.chain_joins.Goals as goal

pub loop-number-preserved : goal.loop-number-preserved
loop-number-preserved c = record {
  lists = chain_more c.args.places.now c.args.deepest.now c.loop-number.number c.loop-number.joins.items c.push.new.self.items c.loop-number.auto.number
      c.loop-number.invariant.lists c.in_ok-push.ensures.items;
  few = λ z. absurd (omega (arith, z, c.loop-number-test.true));
}

pub returns : goal.returns
returns c = chain_ends c.args.places.now c.args.deepest.now c.loop-number.number c.loop-number.joins.items c.loop-number-test.false c.loop-number.auto.number-end
    c.loop-number.invariant.few c.loop-number.invariant.lists

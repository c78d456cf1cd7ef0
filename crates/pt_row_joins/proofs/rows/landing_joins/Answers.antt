use Rattle.std.proofs.Common.{subst}
use Rattle.std.proofs.lemmas.List.{take_all}
use Rattle.pt_row_joins.specs.Rows.{IsLanding, Lists}
use Rattle.pt_row_joins.proofs.Loops.{landing_more}
use Rattle.pt_row_joins.proofs.rows.landing_joins.Goals as goal

pub loop-row-preserved : goal.loop-row-preserved
loop-row-preserved c = landing_more c.args.places.now c.args.rows.now c.loop-row.row-index _ c.loop-row-test.true c.loop-row.joins.items c.add.new.joins.items
    c.landing_join.result c.loop-row.invariant c.landing_join.ensures c.in_ok-add.ensures

pub returns : goal.returns
returns c = subst (λ rows. Lists (IsLanding c.args.places.now rows) c.loop-row.joins.items)
    (take_all c.loop-row.row-index c.args.rows.now c.loop-row-test.false) c.loop-row.invariant
